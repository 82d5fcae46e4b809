use Rattle.std.proofs.Common.{length, slice_index_or, ◌<◌, ◌-◌, arith}
use Rattle.vale_script.proofs.Packing.{packed_fits}
use Rattle.vale_script.proofs.keys.packed_few.Goals as goal

pub overflow_mul-number : goal.overflow_mul-number
overflow_mul-number c =
    let few : c.loop-i.i < 8 = omega (arith, c.loop-i-test.true, c.requires) in
    let fits = packed_fits c.loop-i.number 0 c.loop-i.i c.loop-i.invariant.small (omega arith) few in
    record { fits = omega (arith, fits) }

pub overflow_add-number : goal.overflow_add-number
overflow_add-number c =
    let b = slice_index_or c.args.word.now (length c.args.word.now - 1 - c.loop-i.i) 0 in
    let few : c.loop-i.i < 8 = omega (arith, c.loop-i-test.true, c.requires) in
    let byte : b < 256 = (c.type_inv.word (length c.args.word.now - 1 - c.loop-i.i)).fits in
    record { fits = packed_fits c.loop-i.number b c.loop-i.i c.loop-i.invariant.small byte few }
