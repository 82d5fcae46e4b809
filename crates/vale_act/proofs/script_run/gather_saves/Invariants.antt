use Rattle.std.proofs.Common.{◌≡◌, ℕ, ◌≤◌, ◌++◌, length, take, slice_get}
use Rattle.std.specs.Prelude.{flat_map}
use Rattle.vale_act.specs.Seats.{files_in}
use Rattle.vale_act.proofs.script_run.gather_saves.Given as goal

abbrev pub invariant-loop-place : goal.invariant-loop-place
invariant-loop-place l =
    (length l.lists ≡ length l.fn.lists) × ((k : ℕ) → l.place ≤ k → slice_get l.lists k ≡ slice_get l.fn.lists k)
    × (l.saves.items ≡ l.fn.saves.items ++ flat_map files_in (take l.place l.fn.lists))
