use Rattle.std.proofs.Common.{ℕ, ◌≡◌, ◌+◌, ◌++◌, List, length, drop, ap, sym, ◌∙◌, arith}
use Rattle.std.proofs.lemmas.List.{append_assoc, append-nil, length-append}
use Rattle.vale_line.specs.declared.lot.Lot.{Lot}
use Rattle.vale_line.specs.Leased.{sizes_in}
use Rattle.vale_line.specs.Lines.{ready_sizes}
use Rattle.vale_line.specs.Rings.{held, held_lots}
use Rattle.vale_line.proofs.ReadyLemmas.{found-at, not-found-at, some-of, none-of}
use Rattle.vale_line.proofs.lot.push_ready.Goals as goal

pub push_sizes-requires : goal.push_sizes-requires
push_sizes-requires c = let at = found-at c.args.lots.now.items c.loop-i.i c.len-i-end.result c.index.result.now c.in-Some.gots.now c.loop-i-test.true (c.len-i-end.ensures ∙ c.args.lots.now.ok.0) c.index.ensures
    (some-of _ c.done_gots.result c.in-Some.gots (held c.index.result.now).gots c.done_gots.ensures c.in-Some.is) in let count = at.sizes_count in let room = c.loop-i.invariant.room in record { room = omega (arith, count, room) }

pub returns-in-None-clause-sizes : goal.returns-in-None-clause-sizes
returns-in-None-clause-sizes c =
    let none = not-found-at c.args.lots.now.items c.loop-i.i c.len-i-end.result c.index.result.now c.loop-i-test.true (c.len-i-end.ensures ∙ c.args.lots.now.ok.0) c.index.ensures
    (none-of _ c.done_gots.result (held c.index.result.now).gots c.done_gots.ensures c.in-None.is) in
    sym (append-nil c.loop-i.sizes.items) ∙ (ap (λ (ns : List ℕ). c.loop-i.sizes.items ++ ns) (sym none.1) ∙ c.loop-i.invariant.told)

pub loop-i-preserved : goal.loop-i-preserved
loop-i-preserved c =
    let at = found-at c.args.lots.now.items c.loop-i.i c.len-i-end.result c.index.result.now c.in-Some.gots.now c.loop-i-test.true (c.len-i-end.ensures ∙ c.args.lots.now.ok.0) c.index.ensures
    (some-of _ c.done_gots.result c.in-Some.gots (held c.index.result.now).gots c.done_gots.ensures c.in-Some.is) in
    let count = at.sizes_count in
    let gots = c.in-Some.gots.now in
    let rest = ready_sizes (drop (c.loop-i.i + 1) (held_lots c.args.lots.now.items)) in
    let old = c.loop-i.sizes.ok.0 in
    let new = c.push_sizes.new.sizes.ok.0 in
    let pushed = ap (λ (ns : List ℕ). length ns) c.push_sizes.ensures.sizes ∙ length-append c.loop-i.sizes.items (sizes_in gots) in
    let room = c.loop-i.invariant.room in
    let capacity = c.push_sizes.ensures.capacity in
    record {
      told =
          ap (λ (ns : List ℕ). ns ++ rest) c.push_sizes.ensures.sizes
          ∙ (append_assoc c.loop-i.sizes.items (sizes_in gots) rest
          ∙ (ap (λ (ns : List ℕ). c.loop-i.sizes.items ++ ns) (sym at.sizes) ∙ c.loop-i.invariant.told));
      room = omega (arith, count, old, new, pushed, room, capacity);
      capacity = c.push_sizes.ensures.capacity ∙ c.loop-i.invariant.capacity;
    }
