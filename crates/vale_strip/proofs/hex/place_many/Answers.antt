use Rattle.std.proofs.Common.{◌-◌, length, arith}
use Rattle.std.proofs.lemmas.List.{take_rest}
use Rattle.vale_strip.proofs.Places.{digits-next, digits-last}
use Rattle.vale_strip.proofs.hex.place_many.Goals as goal

pub loop-done-preserved : goal.loop-done-preserved
loop-done-preserved c =
    let xs = c.args.bytes.now in
    let done = c.loop-done.done in
    record {
      within = omega arith;
      spelled = digits-next {at = c.args.at} xs done 16 c.loop-done.invariant.spelled (rw (take_rest xs done) at c.place_block.ensures);
    }

pub returns : goal.returns
returns c =
    let xs = c.args.bytes.now in
    let last = length xs - 16 in
    digits-last {at = c.args.at} xs c.loop-done.done last (omega arith) (omega arith) (omega (arith, c.loop-done.invariant.within)) (omega arith) c.loop-done.invariant.spelled
    (rw (take_rest xs last) at c.place_block-2.ensures)
