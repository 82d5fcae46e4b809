use Rattle.vale_parts.proofs.WatchesKept.{watches_follow, watched_are_watched}
use Rattle.vale_parts.proofs.laws.watches_follow.Goals as goal

pub returns-clause-follow : goal.returns-clause-follow
returns-clause-follow c = watches_follow

pub returns-clause-watched : goal.returns-clause-watched
returns-clause-watched c = watched_are_watched
