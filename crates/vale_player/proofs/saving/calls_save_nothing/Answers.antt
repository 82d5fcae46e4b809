use Rattle.vale_player.proofs.SavingFrames.{calls-save-nothing}
use Rattle.vale_player.proofs.saving.calls_save_nothing.Goals as goal

pub returns : goal.returns
returns c = calls-save-nothing
