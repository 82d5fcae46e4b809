use Rattle.std.proofs.Common.{ℕ, ◌≡◌, ◌+◌, ap, sym, ◌∙◌, subst, arith}
use Rattle.vale_line.specs.declared.got.Got.{Got}
use Rattle.vale_fabric.specs.Filling.{Begins}
use Rattle.vale_fabric.proofs.LeaseFilling.{begins-some, passed}
use Rattle.vale_fabric.proofs.filling.find.Goals as goal

pub bounds-gots-cursor : goal.bounds-gots-cursor
bounds-gots-cursor c =
    let low = c.loop-cursor-test.true in
    let there = c.requires.there in
    begins-some c.args.gots.now c.loop-cursor.cursor.frame c.loop-cursor.cursor.at c.loop-cursor.invariant.begins (omega (arith, low, there))

pub bounds-gots-cursor-in-loop-cursor : goal.bounds-gots-cursor-in-loop-cursor
bounds-gots-cursor-in-loop-cursor c =
    let low = c.loop-cursor-test.true in
    let there = c.requires.there in
    begins-some c.args.gots.now c.loop-cursor.cursor.frame c.loop-cursor.cursor.at c.loop-cursor.invariant.begins (omega (arith, low, there))

pub loop-cursor-preserved : goal.loop-cursor-preserved
loop-cursor-preserved c =
    let k = c.loop-cursor.invariant in
    let low = c.loop-cursor-test.true in
    let there = c.requires.there in
    let step = passed c.args.gots.now c.loop-cursor.cursor.frame c.loop-cursor.cursor.at c.index-gots-cursor.result k.begins (omega (arith, low, there)) c.index-gots-cursor.is in
    let rest : c.index-gots-cursor.result.rest ≡ c.from.result = ap (λ (g : Got). g.rest) c.index-gots-cursor.is ∙ sym c.from.ensures in
    record {
      begins = subst (λ (n : ℕ). Begins c.args.gots.now (c.loop-cursor.cursor.frame + 1) (c.loop-cursor.cursor.at + (n + 1))) rest step.next;
      low = omega (arith, low);
    }

pub returns-clause-frame : goal.returns-clause-frame
returns-clause-frame c =
    let low = c.loop-cursor.invariant.low in
    let end = c.loop-cursor-test.false in
    omega (arith, low, end)

pub returns-clause-begins : goal.returns-clause-begins
returns-clause-begins c =
    let low = c.loop-cursor.invariant.low in
    let end = c.loop-cursor-test.false in
    let same : c.loop-cursor.cursor.frame ≡ c.args.place = omega (arith, low, end) in
    subst (λ n. Begins c.args.gots.now n c.loop-cursor.cursor.at) same c.loop-cursor.invariant.begins
