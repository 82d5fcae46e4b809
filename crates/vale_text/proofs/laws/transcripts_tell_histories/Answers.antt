use Rattle.vale_text.proofs.Transcripts.{transcripts-tell}
use Rattle.vale_text.proofs.laws.transcripts_tell_histories.Goals as goal

pub returns : goal.returns
returns c = transcripts-tell
