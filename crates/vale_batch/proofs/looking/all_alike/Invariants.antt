use Rattle.std.proofs.Common.{ℕ, ◌<◌, get_or}
use Rattle.nm_types.specs.Frames.{Frame}
use Rattle.vale_batch.specs.Looking.{IsOneAlike}
use Rattle.vale_batch.proofs.looking.all_alike.Given as goal

abbrev pub invariant-loop-i : goal.invariant-loop-i
invariant-loop-i l = (k : ℕ) (d : Frame) → k < l.i → IsOneAlike (record { bytes = l.other; no_learn = l.other_no_learn }) (get_or l.batch k d)
