use Rattle.std.proofs.Common.{◌≡◌, false, drop}
use Rattle.nm_port.specs.Own.{bytes_in_hold}
use Rattle.nm_port.specs.Gathered.{gathered, goes_on_behind}
use Rattle.nm_port.proofs.gather.gather_whole.Given as goal

abbrev pub invariant-loop-i : goal.invariant-loop-i
invariant-loop-i l = record {
  frames : gathered (bytes_in_hold l.hold) l.batch false (drop l.i l.slots) ≡ gathered (bytes_in_hold l.hold) l.fn.batch false l.slots;
  begun : goes_on_behind false (drop l.i l.slots) ≡ goes_on_behind false l.slots;
}
