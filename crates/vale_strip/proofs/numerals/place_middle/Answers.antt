use Rattle.std.proofs.Common.{◌/◌, arith}
use Rattle.vale_strip.proofs.Pairs.{placed-first-one, placed-first-two, placed-pair}
use Rattle.vale_strip.proofs.numerals.place_middle.Goals as goal

pub returns-then-high-lt10 : goal.returns-then-high-lt10
returns-then-high-lt10 c =
    let n = c.args.number in
    record {
      placed = placed-pair n c.requires.0 (omega (arith, c.requires.1)) (placed-first-one c.args.buf.now c.args.at (n / 100) c.if-high-lt10.true (omega (arith, c.requires.2))) c.place_pair.ensures;
      within = omega arith;
    }

pub returns : goal.returns
returns c =
    let n = c.args.number in
    record {
      placed = placed-pair n c.requires.0 (omega (arith, c.requires.1)) (placed-first-two (n / 100) c.if-high-lt10.false (omega (arith, c.requires.1)) c.place_pair-2.ensures) c.place_pair-3.ensures;
      within = omega arith;
    }
