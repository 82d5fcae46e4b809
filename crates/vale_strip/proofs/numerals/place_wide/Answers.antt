use Rattle.std.proofs.Common.{arith}
use Rattle.vale_strip.proofs.Pairs.{placed-four}
use Rattle.vale_strip.proofs.numerals.place_wide.Goals as goal

pub returns : goal.returns
returns c =
    record {
      placed = placed-four c.args.number c.requires.0 (omega (arith, c.requires.1)) c.place_short-end.ensures.placed c.place_pair.ensures c.place_pair-2.ensures;
      within = omega arith;
    }
