use Rattle.vale_player.proofs.SavingFrames.{saved-begin}
use Rattle.vale_player.proofs.saving.saving_begins.Goals as goal

pub returns : goal.returns
returns c = saved-begin
