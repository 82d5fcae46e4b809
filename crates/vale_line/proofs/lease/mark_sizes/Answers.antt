use Rattle.std.proofs.Common.{◌≡◌, ◌+◌, ◌-◌, ◌≤◌, ◌++◌, ◌∷◌, [], List, ℕ, suc, length, take, drop, get_or, ap, sym, ◌∙◌, arith}
use Rattle.std.specs.Prelude.{sum}
use Rattle.std.proofs.Math.Seq.{take-suc}
use Rattle.std.proofs.lemmas.List.{length-map}
use Rattle.std.proofs.lemmas.List.Sums.{sum_by-take-drop}
use Rattle.vale_line.specs.declared.got.Got.{Got}
use Rattle.vale_line.specs.Gots.{buffer_of}
use Rattle.vale_line.proofs.FittingLemmas.{sum-push}
use Rattle.vale_line.proofs.Filling.{buffers-set, size-at, sizes-marked}
use Rattle.vale_line.proofs.lease.mark_sizes.Goals as goal

pub loop-i-preserved : goal.loop-i-preserved
loop-i-preserved c =
    let sizes = c.args.sizes.now in
    let i = c.loop-i.i in
    let at = c.loop-i.at in
    let gots = c.loop-i.gots.items in
    let s = get_or sizes i 0 in
    let g = c.index_mut.result.now in
    let now : Got = record { buf = g.buf; len = g.len; rest = s - 1 } in
    let next : i + 1 ≡ suc i = omega arith in
    let one : take (i + 1) sizes ≡ take i sizes ++ s ∷ [] = ap (λ (n : ℕ). take n sizes) next ∙ take-suc sizes i 0 c.loop-i-test.true in
    let total = ap sum one ∙ sum-push (take i sizes) s in
    let some = (size-at sizes i c.requires.sizes c.loop-i-test.true).0 in
    let parts : sum (take (i + 1) sizes) + sum (drop (i + 1) sizes) ≡ sum sizes = sum_by-take-drop (λ (k : ℕ). k) sizes (i + 1) in
    let begun = c.loop-i.invariant.at in
    let same = ap length c.loop-i.invariant.buffers in
    let long = length-map gots buffer_of in
    let was = length-map c.args.gots.now.items buffer_of in
    let whole = c.requires.room in
    let room : at + s ≤ length gots = omega (arith, total, parts, begun, same, long, was, whole) in
    let marked = ap sum c.loop-i.invariant.marked in
    record {
      at = omega (arith, begun, total);
      buffers = buffers-set gots at now g (omega (arith, room, some)) (ap (λ (x : Got). x.buf) c.index_mut.ensures.value) ∙ c.loop-i.invariant.buffers;
      marked =
          sizes-marked gots 0 at s now room some (omega (arith, some)) (omega (arith, marked, begun))
          ∙ (ap (λ (l : List ℕ). l ++ s ∷ []) c.loop-i.invariant.marked ∙ sym one);
    }
