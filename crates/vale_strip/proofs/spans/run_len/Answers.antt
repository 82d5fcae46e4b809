use Rattle.std.proofs.Common.{arith}
use Rattle.vale_strip.proofs.Runs.{run-more}
use Rattle.vale_strip.proofs.spans.run_len.Goals as goal

pub loop-len-preserved : goal.loop-len-preserved
loop-len-preserved c =
    record {
      some = omega arith;
      within = omega (arith, c.loop-len-test.true);
      run = run-more c.args.numbers.now c.args.first c.loop-len.len 0 c.loop-len-test.true c.if-numbers-len.false c.loop-len.invariant.run;
    }
