use Rattle.vale_entry.proofs.OffersClimb.{offers-climb}
use Rattle.vale_entry.proofs.laws.offers_climb.Goals as goal

pub returns : goal.returns
returns c = offers-climb
