use Rattle.std.proofs.Common.{ℕ, ◌≡◌, ◌++◌, List, length, take, sym, ◌∙◌, ap, arith}
use Rattle.std.proofs.lemmas.List.{length-append, take_all}
use Rattle.vale_line.specs.Gots.{joined_parts}
use Rattle.vale_serve.proofs.Copied.{joined-more}
use Rattle.vale_serve.proofs.copying.join.Goals as goal

pub loop-i-init : goal.loop-i-init
loop-i-init c =
    let none = ap (λ (bs : List ℕ). length bs) c.requires.0 in
    record { made = c.requires.0; few = omega (arith, none); room = c.requires.1 }

pub append-requires : goal.append-requires
append-requires c =
    let few = c.loop-i.invariant.few in
    let room = c.loop-i.invariant.room in
    let low = c.loop-i-test.true in
    let size = c.part.ensures.size in
    omega (arith, few, room, low, size)

pub loop-i-preserved : goal.loop-i-preserved
loop-i-preserved c =
    let gots = c.args.gots.now in
    let i = c.loop-i.i in
    let k = c.loop-i.invariant in
    let few = k.few in
    let room = k.room in
    let size = c.part.ensures.size in
    let capacity = c.append.ensures.capacity in
    let count = ap (λ (bs : List ℕ). length bs) c.append.ensures.items ∙ length-append c.loop-i.to.items c.part.result.now in
    record {
      made = c.append.ensures.items
          ∙ (ap (λ (bs : List ℕ). bs ++ c.part.result.now) k.made
          ∙ (ap (λ (bs : List ℕ). joined_parts (take i gots) ++ bs) c.part.ensures.part ∙ sym (joined-more gots i c.index-gots-i.result c.loop-i-test.true c.index-gots-i.is)));
      few = omega (arith, few, size, count);
      room = omega (arith, room, capacity);
    }

pub returns : goal.returns
returns c =
    let end : c.loop-i.i ≡ length c.args.gots.now = omega (arith, c.loop-i.auto.i-end, c.loop-i-test.false) in
    c.loop-i.invariant.made ∙ ap joined_parts (take_all c.loop-i.i c.args.gots.now (omega (arith, end)))
