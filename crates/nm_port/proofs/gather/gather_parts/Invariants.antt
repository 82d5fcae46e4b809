use Rattle.std.proofs.Common.{◌≡◌, ◌<◌, true, length, drop}
use Rattle.nm_port.specs.Own.{bytes_in_hold}
use Rattle.nm_port.specs.Gathered.{gathered, goes_on_behind}
use Rattle.nm_port.proofs.gather.gather_parts.Given as goal

abbrev pub invariant-loop-i : goal.invariant-loop-i
invariant-loop-i l = record {
  frames : gathered (bytes_in_hold l.hold) l.batch l.open (drop l.i l.slots) ≡ gathered (bytes_in_hold l.hold) l.fn.batch l.begun l.slots;
  begun : goes_on_behind l.open (drop l.i l.slots) ≡ goes_on_behind l.begun l.slots;
  some : l.open ≡ true → 0 < length l.batch;
}
