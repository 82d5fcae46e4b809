use Rattle.vale_fields.proofs.Entries.{words-read}
use Rattle.vale_fields.proofs.laws.words_are_read.Goals as goal

pub returns : goal.returns
returns c = words-read
