use Rattle.vale_player.proofs.SavingFrames.{saved-grow}
use Rattle.vale_player.proofs.saving.saved_frames_grow.Goals as goal

pub returns : goal.returns
returns c = saved-grow
