use Rattle.vale_script.specs.Drafts.{draft_of}
use Rattle.vale_script.proofs.Soundness.{finish_sound}
use Rattle.vale_script.proofs.reader.parse.Goals as goal

pub returns-in-Ok-clause-sound : goal.returns-in-Ok-clause-sound
returns-in-Ok-clause-sound c = finish_sound (draft_of c.loop-rest.draft) c.in-Ok.script c.loop-rest.invariant.sound c.in-Ok.ensures.value
