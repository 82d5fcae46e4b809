use Rattle.std.proofs.Common.{◌≡◌, ◌++◌, map, drop}
use Rattle.std.specs.List.{AllByRecursion}
use Rattle.vale_captures.specs.Outputs.{IsShortRecord}
use Rattle.vale_replay.specs.Saved.{saved_from}
use Rattle.vale_player.specs.Kept.{record_of, records_of}
use Rattle.vale_player.proofs.kept.add_frames.Given as goal

abbrev pub invariant-loop-place : goal.invariant-loop-place
invariant-loop-place l = record {
  added : l.records.items ++ map record_of (saved_from l.received.entry l.place (drop l.place l.frames)) ≡ l.fn.records.items ++ records_of l.received.entry l.frames;
  short : AllByRecursion IsShortRecord l.records.items;
}
