use Rattle.std.proofs.Common.{◌≡◌, ◌-◌, ◌<◌, drop}
use Rattle.vale_entry.specs.Transcript.{dests_rise}
use Rattle.vale_fields.proofs.printable.dests_rise.Given as goal

abbrev pub invariant-loop-i : goal.invariant-loop-i
invariant-loop-i l = record {
  some : 0 < l.i;
  rise : dests_rise l.dests ≡ dests_rise (drop (l.i - 1) l.dests);
}
