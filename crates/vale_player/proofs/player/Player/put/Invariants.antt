use Rattle.std.proofs.Common.{replicate}
use Rattle.std.specs.Prelude.{◌≡◌, Some}
use Rattle.vale_replay.specs.Tasks.{PutFrame}
use Rattle.vale_player.specs.Players.{IsStill}
use Rattle.vale_player.specs.Syncing.{sender_named, Leads}
use Rattle.vale_player.proofs.player.Player.put.Given as goal

abbrev pub invariant-loop-left : goal.invariant-loop-left
invariant-loop-left g l = record {
  leads : Leads l.fn.self l.self (replicate l.count (PutFrame l.name l.frame)) (replicate l.left (PutFrame l.name l.frame));
  named : sender_named l.self.session.own l.name ≡ Some l.port;
  still : IsStill l.fn.self l.self;
}

abbrev pub decreases-loop-left : goal.decreases-loop-left
decreases-loop-left g l = l.left
