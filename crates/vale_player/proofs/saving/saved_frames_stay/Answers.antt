use Rattle.vale_player.proofs.SavingFrames.{saved-stay}
use Rattle.vale_player.proofs.saving.saved_frames_stay.Goals as goal

pub returns : goal.returns
returns c = saved-stay
