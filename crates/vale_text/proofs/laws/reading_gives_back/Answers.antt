use Rattle.vale_text.proofs.GivingBack.{reading-back}
use Rattle.vale_text.proofs.laws.reading_gives_back.Goals as goal

pub returns : goal.returns
returns c = reading-back
