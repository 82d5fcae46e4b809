use Rattle.std.proofs.Common.{◌+◌, ◌-◌, length, arith}
use Rattle.std.proofs.lemmas.List.{take_rest}
use Rattle.vale_strip.proofs.Places.{digits-next, digits-over, digits-last}
use Rattle.vale_strip.proofs.hex.place_halves.Goals as goal

pub returns : goal.returns
returns c =
    let xs = c.args.bytes.now in
    let at = c.args.at in
    let last = length xs - 16 in
    let half = length xs - 16 - 16 in
    let two = digits-next {at = at} xs 16 16 c.place_block.ensures (rw (take_rest xs 16) at c.place_block-2.ensures) in
    let three = digits-over {at = at} xs 32 half (omega arith) (omega arith) (omega arith) two (rw (take_rest xs half) at c.place_block-3.ensures) in
    digits-last {at = at} xs (half + 16) last (omega arith) (omega arith) (omega arith) (omega arith) three (rw (take_rest xs last) at c.place_block-4.ensures)
