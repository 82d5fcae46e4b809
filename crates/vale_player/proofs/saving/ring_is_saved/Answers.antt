use Rattle.vale_player.proofs.SavingFrames.{ring-is-saved}
use Rattle.vale_player.proofs.saving.ring_is_saved.Goals as goal

pub returns : goal.returns
returns c = ring-is-saved
