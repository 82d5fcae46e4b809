use Rattle.nm_slot.proofs.CheckLaws.{pushed_frames_are_sent}
use Rattle.nm_slot.proofs.laws.pushed_frames_are_sent.Goals as goal

pub returns-clause-sent : goal.returns-clause-sent
returns-clause-sent c = pushed_frames_are_sent
