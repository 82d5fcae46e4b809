use Rattle.std.proofs.Common.{ℕ, ◌≡◌, ◌<◌, ◌-◌, ◌^◌, ◌∙◌, List, length, slice_set, sym, ap, rules, arith}
use Rattle.nm_hold.specs.NumberTables.{among_zeros}
use Rattle.nm_hold.proofs.Zeros.{number_set, placed_begun, long_table}
use Rattle.nm_hold.proofs.number_table.NumberTable.set.Goals as goal

pub returns-then-place-len : goal.returns-then-place-len
returns-then-place-len c =
    let t = c.self.inside in
    let place = c.place_of-place.result in
    let there : place < length t.numbers.items = omega (arith, c.if-place-len.true, c.len.ensures) in
    let fits : t.count < 2 ^ 64 = search rules in
    let begun = placed_begun t.first t.count c.args.idx place t.numbers.items c.self.invariant.within fits c.place_of-place.ensures there in
    let spot : c.args.idx - t.first ≡ place = omega (arith, c.place_of-place.ensures.behind begun) in
    rw (← c.self.view_is) (sym (number_set t.first t.count c.args.idx c.args.number t.numbers.items begun (omega (arith, begun, spot, there))
    ∙ ap (λ (n : ℕ). among_zeros t.first t.count (slice_set t.numbers.items n c.args.number)) spot))

pub returns : goal.returns
returns c =
    let t = c.self.inside in
    let r = c.grow-self-inside.ensures.reaches in
    let start = c.grow-self-inside.result in
    let numbers = c.grow-self-inside.new.numbers.items in
    let below : c.args.idx < t.count = omega (arith, rw (← c.self.view_is) at c.requires, long_table t.first t.count t.numbers.items c.self.invariant.within) in
    let same = r.same t.count below c.self.invariant.within in
    rw (← c.self.view_is) (sym (number_set start t.count c.args.idx c.args.number numbers r.begun r.there) ∙ ap (λ (xs : List ℕ). slice_set xs c.args.idx c.args.number) same)
