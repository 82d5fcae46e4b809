use Rattle.vale_player.proofs.SavingFrames.{refused-save-nothing}
use Rattle.vale_player.proofs.saving.refused_calls_save_nothing.Goals as goal

pub returns : goal.returns
returns c = refused-save-nothing
