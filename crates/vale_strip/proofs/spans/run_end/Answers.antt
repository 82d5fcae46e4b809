use Rattle.std.proofs.Common.{◌∙◌, arith}
use Rattle.vale_strip.proofs.Runs.{run-on}
use Rattle.vale_strip.proofs.spans.run_end.Goals as goal

pub loop-end-preserved : goal.loop-end-preserved
loop-end-preserved c =
    let inside = c.loop-end-test.true in
    let is = c.if-numbers-end.false in
    record {
      some = omega (arith, c.loop-end.invariant.some);
      within = omega (arith, inside);
      last = omega (arith, c.loop-end.invariant.some, c.loop-end.invariant.last);
      fits = omega (arith, is, c.type_inv.numbers c.loop-end.end);
      run = run-on c.args.numbers.now c.args.k c.args.first c.loop-end.end inside (omega (arith, c.loop-end.invariant.some))
          (is ∙ omega (arith, c.loop-end.invariant.some, c.loop-end.invariant.last)) c.loop-end.invariant.run;
    }
