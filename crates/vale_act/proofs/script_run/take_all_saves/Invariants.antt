use Rattle.std.proofs.Common.{◌≡◌, ℕ, ◌<◌, ◌≤◌, length, slice_get, Some, Vec}
use Rattle.std.specs.declared.alloc.Global.{Global}
use Rattle.std.specs.Vec.{vec_capacity}
use Rattle.vale_replay.specs.Machine.{Save}
use Rattle.vale_act.specs.Seats.{AllAre, IsEmpty, saves_at}
use Rattle.vale_act.specs.declared.seat.Seat.{Seat}
use Rattle.vale_act.proofs.script_run.take_all_saves.Given as goal

abbrev pub invariant-loop-place : goal.invariant-loop-place
invariant-loop-place l =
    AllAre IsEmpty l.seats × (length l.seats ≡ length l.fn.seats)
    × (length l.fn.seats ≤ vec_capacity l.saves) × (length l.saves.items ≡ l.place)
    × ((k : ℕ) (seat : Seat) (files : Vec Save Global) → k < l.place → slice_get l.fn.seats k ≡ Some seat → slice_get l.saves.items k ≡ Some files → files.items ≡ saves_at seat)
    × ((k : ℕ) → l.place ≤ k → slice_get l.seats k ≡ slice_get l.fn.seats k)
