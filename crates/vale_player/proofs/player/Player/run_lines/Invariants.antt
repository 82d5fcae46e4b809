use Rattle.std.proofs.Common.{drop, map}
use Rattle.vale_replay.specs.Replay.{act_of}
use Rattle.vale_player.specs.Inputs.{records_in}
use Rattle.vale_player.specs.Deeds.{AreDoable, AllSaveNamed}
use Rattle.vale_player.proofs.PlayerLines.{AreLeft}
use Rattle.vale_player.proofs.player.Player.run_lines.Given as goal

abbrev pub invariant-loop-line : goal.invariant-loop-line
invariant-loop-line g l = record {
  left : AreLeft (records_in l.inputs) l.fn.self.number l.fn.self l.self (drop l.line-index l.lines) l.lines;
  doable : AreDoable (drop l.line-index l.lines);
  saves : AllSaveNamed l.fn.self.names (map act_of (drop l.line-index l.lines));
}
