use Rattle.std.proofs.Common.{arith}
use Rattle.vale_strip.proofs.Hundreds.{far-are}
use Rattle.vale_strip.proofs.numerals.far_hundreds.Goals as goal

pub returns-clause-are : goal.returns-clause-are
returns-clause-are c =
    let end = c.place_number-end in
    far-are c.args.high _ end.result end.new.buf (omega (arith, c.requires.1)) (omega (arith, c.requires.0)) c.requires.1 end.ensures.placed
