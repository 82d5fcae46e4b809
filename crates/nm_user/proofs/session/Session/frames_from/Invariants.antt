use Rattle.std.proofs.Common.{◌≡◌, ◌<◌, true, false, [], length, map}
use Rattle.nm_types.specs.Positions.{slots_from}
use Rattle.nm_port.specs.Gathered.{gathered, goes_on_behind}
use Rattle.nm_user.specs.Saving.{readable_bytes, slot_or_blank_at}
use Rattle.nm_user.proofs.session.Session.frames_from.Given as goal

abbrev pub invariant-loop-k : goal.invariant-loop-k
invariant-loop-k l = record {
  frames : l.frames ≡ gathered (readable_bytes l.fn.self.own) [] false (map (slot_or_blank_at l.fn.self.own l.fn.port.0) (slots_from l.size l.fn.at l.k));
  begun : l.begun ≡ goes_on_behind false (map (slot_or_blank_at l.fn.self.own l.fn.port.0) (slots_from l.size l.fn.at l.k));
  some : l.begun ≡ true → 0 < length l.frames;
}
