use Rattle.std.proofs.Common.{take, length-take-le}
use Rattle.vale_fields.proofs.HexBlocks.{block-of}
use Rattle.vale_fields.proofs.hex.block_of.Goals as goal

pub returns : goal.returns
returns c = block-of c.values_of-values.result (take 16 c.args.digits.now) (length-take-le 16 c.args.digits.now c.requires) c.values_of-values.ensures
