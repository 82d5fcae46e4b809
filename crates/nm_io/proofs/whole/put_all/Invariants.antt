use Rattle.std.proofs.Common.{◌≡◌, ◌≤◌, ◌-◌, length, take}
use Rattle.nm_io.specs.Held.{grown}
use Rattle.nm_io.proofs.whole.put_all.Given as goal

abbrev pub invariant-loop-done : goal.invariant-loop-done
invariant-loop-done g l = let sink = g.K.Sink in record {
  within : l.done ≤ length l.bytes;
  held : sink.holds l.out ≡ grown (sink.holds l.fn.out) (take l.done l.bytes);
  later : sink.faults l.fn.out ≤ sink.faults l.out;
}

abbrev pub decreases-loop-done : goal.decreases-loop-done
decreases-loop-done g l = length l.bytes - l.done
