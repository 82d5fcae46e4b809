use Rattle.std.proofs.Common.{arith}
use Rattle.vale_strip.proofs.Pairs.{placed-first-one, placed-first-two}
use Rattle.vale_strip.proofs.numerals.place_first.Goals as goal

pub returns-then-number-lt10 : goal.returns-then-number-lt10
returns-then-number-lt10 c = record {
  placed = placed-first-one c.args.buf.now c.args.at c.args.number c.if-number-lt10.true (omega arith);
  within = omega arith;
}

pub returns : goal.returns
returns c = record {
  placed = placed-first-two c.args.number c.if-number-lt10.false c.requires.0 c.place_pair.ensures;
  within = omega arith;
}
