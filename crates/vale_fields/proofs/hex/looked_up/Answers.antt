use Rattle.vale_fields.proofs.HexBlocks.{places-fit, looked-up-are}
use Rattle.vale_fields.proofs.hex.looked_up.Goals as goal

pub swizzle : goal.swizzle
swizzle c = places-fit c.args.places c.requires.long.1 c.requires.low

pub returns : goal.returns
returns c = looked-up-are c.args.table c.args.places c.requires.long.1 c.requires.low
