use Rattle.vale_strip.proofs.Blocks.{positions-fit, digits-are}
use Rattle.vale_strip.proofs.hex.digits_of.Goals as goal

pub swizzle : goal.swizzle
swizzle c = positions-fit c.args.numbers c.requires.long c.requires.low

pub returns : goal.returns
returns c = digits-are c.args.numbers c.requires.long c.requires.low
