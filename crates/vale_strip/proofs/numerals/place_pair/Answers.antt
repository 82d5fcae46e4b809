use Rattle.std.proofs.Common.{◌+◌, ◌/◌, ◌%◌}
use Rattle.vale_strip.proofs.Pairs.{pair_of, placed-two}
use Rattle.vale_strip.proofs.numerals.place_pair.Goals as goal

pub returns : goal.returns
returns c =
    let n = c.args.number in
    placed-two c.args.buf.now _ c.args.at (48 + n / 10) (48 + n % 10) (pair_of n c.requires.0) c.requires.1
