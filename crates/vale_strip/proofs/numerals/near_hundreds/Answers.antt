use Rattle.std.proofs.Common.{arith}
use Rattle.vale_strip.proofs.Hundreds.{near-are}
use Rattle.vale_strip.proofs.numerals.near_hundreds.Goals as goal

pub returns-clause-are : goal.returns-clause-are
returns-clause-are c = near-are c.args.high _ (omega (arith, c.requires.1)) c.requires.0 c.requires.1
