use Rattle.std.proofs.Common.{ℕ, suc, ◌≡◌, ◌+◌, ◌++◌, ◌∷◌, [], List, length, drop, ap, sym, ◌∙◌, arith}
use Rattle.std.proofs.lemmas.List.{append_assoc, length_push}
use Rattle.vale_line.specs.declared.got.Got.{Got}
use Rattle.vale_line.specs.Leased.{sizes_in}
use Rattle.vale_line.proofs.ReadyLemmas.{sizes-more}
use Rattle.vale_line.proofs.lot.push_sizes.Goals as goal

pub loop-at-preserved : goal.loop-at-preserved
loop-at-preserved c =
    let gots = c.args.gots.now in
    let at = c.loop-at.at in
    let got = c.index-gots-at.result in
    let size = c.from-size.result + 1 in
    let rest = ap (λ (g : Got). g.rest) c.index-gots-at.is in
    let same : size ≡ suc got.rest = (let from = c.from-size.ensures in omega (arith, from)) in
    let more = sizes-more gots at got c.loop-at-test.true in
    let told : sizes_in (drop at gots) ≡ size ∷ sizes_in (drop (at + size) gots) =
    more ∙ ap (λ (n : ℕ). n ∷ sizes_in (drop (at + n) gots)) (ap suc (sym rest) ∙ sym same) in
    let count = ap (λ (ns : List ℕ). length ns) told in
    let old = c.loop-at.sizes.ok.0 in
    let new = c.push_reserved.new.self.ok.0 in
    let pushed = ap (λ (ns : List ℕ). length ns) c.push_reserved.ensures.items in
    let one = length_push c.loop-at.sizes.items size in
    let room = c.loop-at.invariant.room in
    let capacity = c.push_reserved.ensures.capacity in
    record {
      told =
          ap (λ (ns : List ℕ). ns ++ sizes_in (drop (at + size) gots)) c.push_reserved.ensures.items
          ∙ (append_assoc c.loop-at.sizes.items (size ∷ []) (sizes_in (drop (at + size) gots))
          ∙ (ap (λ (ns : List ℕ). c.loop-at.sizes.items ++ ns) (sym told) ∙ c.loop-at.invariant.told));
      room = omega (arith, count, old, new, pushed, one, room, capacity);
      capacity = c.push_reserved.ensures.capacity ∙ c.loop-at.invariant.capacity;
    }
