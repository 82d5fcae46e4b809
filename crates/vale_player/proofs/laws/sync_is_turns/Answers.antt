use Rattle.vale_player.proofs.laws.sync_is_turns.Goals as goal
use Rattle.vale_player.proofs.Syncs.{sync-turns}

pub returns : goal.returns
returns c = sync-turns
