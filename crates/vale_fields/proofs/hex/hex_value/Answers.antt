use Rattle.vale_fields.proofs.HexValues.{low_at}
use Rattle.vale_fields.proofs.hex.hex_value.Goals as goal

pub returns-clause-low : goal.returns-clause-low
returns-clause-low c = low_at c.args.b c.ranges.b.fits
