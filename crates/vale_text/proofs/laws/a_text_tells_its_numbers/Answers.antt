use Rattle.vale_text.proofs.GivingBack.{numbers-told}
use Rattle.vale_text.proofs.laws.a_text_tells_its_numbers.Goals as goal

pub returns : goal.returns
returns c = numbers-told
