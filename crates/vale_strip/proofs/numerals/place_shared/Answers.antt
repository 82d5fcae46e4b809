use Rattle.std.proofs.Common.{◌-◌, ◌^◌}
use Rattle.vale_strip.proofs.Hundreds.{placed-number}
use Rattle.vale_strip.proofs.numerals.place_shared.Goals as goal

pub returns-clause-placed : goal.returns-clause-placed
returns-clause-placed c =
    let hundreds = c.args.hundreds in
    placed-number c.args.mark (2 ^ 64 - hundreds.below) c.args.low hundreds.len hundreds.text c.requires.hundreds c.requires.low c.place_hundreds.ensures c.place_pair.ensures
