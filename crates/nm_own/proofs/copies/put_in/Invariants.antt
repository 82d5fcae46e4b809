use Rattle.std.proofs.Common.{◌≡◌, ◌≤◌, length}
use Rattle.nm_own.specs.CopiesIn.{ring_behind, AreWritten}
use Rattle.nm_own.proofs.copies.put_in.Given as goal

abbrev pub invariant-loop-put : goal.invariant-loop-put
invariant-loop-put l = record {
  within : l.put ≤ l.most;
  ring : l.ring ≡ ring_behind l.put (length l.bytes) l.fn.ring;
  written : AreWritten l.put l.bytes l.fn.ring l.fn.hold l.hold;
}
