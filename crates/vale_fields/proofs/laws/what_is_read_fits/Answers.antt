use Rattle.vale_fields.proofs.Sizes.{what-fits}
use Rattle.vale_fields.proofs.laws.what_is_read_fits.Goals as goal

pub returns : goal.returns
returns c = what-fits
