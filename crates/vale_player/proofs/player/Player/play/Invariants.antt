use Rattle.std.proofs.Common.{◌≤◌, ◌≡◌, Some, map, drop}
use Rattle.vale_replay.specs.Tasks.{played}
use Rattle.vale_player.specs.Players.{IsStill}
use Rattle.vale_captures.specs.Inputs.{captured}
use Rattle.vale_player.specs.Syncing.{sender_named, Leads, playing}
use Rattle.vale_player.proofs.player.Player.play.Given as goal

abbrev pub invariant-loop-record : goal.invariant-loop-record
invariant-loop-record g l = record {
  leads : Leads l.fn.self l.self (played l.name l.batch (map captured l.records)) (playing l.name l.batch l.left (map captured (drop l.record-index l.records)));
  more : 1 ≤ l.left;
  named : sender_named l.self.session.own l.name ≡ Some l.port;
  still : IsStill l.fn.self l.self;
}
