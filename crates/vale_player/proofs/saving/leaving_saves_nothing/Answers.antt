use Rattle.vale_player.proofs.SavingLeaving.{leaving-saves-nothing}
use Rattle.vale_player.proofs.saving.leaving_saves_nothing.Goals as goal

pub returns : goal.returns
returns c = leaving-saves-nothing
