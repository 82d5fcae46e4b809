-- A block of seats, of each of which is known what it makes of it.
use Rattle.std.proofs.Common.{ℕ, zero, suc, ◌+◌, ◌<◌, ◌≡◌, List, [], ◌∷◌, length, slice_get, Some, refl, subst, arith}
use Rattle.vale_entry.specs.declared.entry.Ask.{Ask}
use Rattle.vale_fabric.specs.Fabrics.{Knowing}
use Rattle.vale_script.specs.declared.script.Line.{Line}
use Rattle.vale_act.specs.declared.seat.Seat.{Seat}
use Rattle.vale_act.specs.Units.{PlayBlockFrom, PlaysBlockAt, ReplayBlockFrom, ReplaysBlockAt, StopBlockFrom, StopsBlockAt, BlockIsOfEach, StopIsOfEach}

-- this holds of each seat, whose number is its place and this more
abbrev Each : (ℕ → Seat → Seat → Type 0) → ℕ → List Seat → List Seat → Type 0
Each R number befores afters = (place : ℕ) (before after : Seat) → slice_get befores place ≡ Some before → slice_get afters place ≡ Some after → R (place + number) before after

each-first : (R : ℕ → Seat → Seat → Type 0) (number : ℕ) (before after : Seat) (befores afters : List Seat) → Each R number (before ∷ befores) (after ∷ afters) → R number before after
each-first R number before after befores afters each =
    let same : 0 + number ≡ number = omega arith in
    subst (λ (n : ℕ). R n before after) same (each 0 before after refl refl)

each-rest : (R : ℕ → Seat → Seat → Type 0) (number : ℕ) (before after : Seat) (befores afters : List Seat) → Each R number (before ∷ befores) (after ∷ afters) → Each R (number + 1) befores afters
each-rest R number before after befores afters each place old new here there =
    let same : suc place + number ≡ place + (number + 1) = omega arith in
    subst (λ (n : ℕ). R n old new) same (each (suc place) old new here there)

-- what holds of two lists where it holds of each of their places, from a number on
each-from : (R : ℕ → Seat → Seat → Type 0) (Q : ℕ → List Seat → List Seat → Type 0) → ((number : ℕ) → Q number [] [])
    → ((number : ℕ) (before after : Seat) (befores afters : List Seat) → R number before after → Q (number + 1) befores afters → Q number (before ∷ befores) (after ∷ afters))
    → (number : ℕ) (befores afters : List Seat) → length afters ≡ length befores → Each R number befores afters → Q number befores afters
each-from R Q none more number [] [] len each = none number
each-from R Q none more number [] (after ∷ afters) len each = absurd (omega (arith, len))
each-from R Q none more number (before ∷ befores) [] len each = absurd (omega (arith, len))
each-from R Q none more number (before ∷ befores) (after ∷ afters) len each =
    more number before after befores afters (each-first R number before after befores afters each)
    (each-from R Q none more (number + 1) befores afters (omega (arith, len)) (each-rest R number before after befores afters each))

module _ (pool : ℕ) (records : List ℕ → List (List ℕ)) (lines : List Line) (main next : Knowing) where
  abbrev Plays : ℕ → Seat → Seat → Type 0
  Plays number before after = PlaysBlockAt pool number records lines main next before after

  abbrev Replays : ℕ → Seat → Seat → Type 0
  Replays number before after = ReplaysBlockAt pool number records lines main next before after

  plays-each : (number : ℕ) (befores afters : List Seat) → length afters ≡ length befores → Each Plays number befores afters → PlayBlockFrom pool number records lines main next befores afters
  plays-each = each-from Plays (λ (number : ℕ) (befores afters : List Seat). PlayBlockFrom pool number records lines main next befores afters) (λ number. tt)
      (λ number before after befores afters here rest. (here, rest))

  replays-each : (number : ℕ) (befores afters : List Seat) → length afters ≡ length befores → Each Replays number befores afters → ReplayBlockFrom pool number records lines main next befores afters
  replays-each = each-from Replays (λ (number : ℕ) (befores afters : List Seat). ReplayBlockFrom pool number records lines main next befores afters) (λ number. tt)
      (λ number before after befores afters here rest. (here, rest))

  stops-each : (number at count : ℕ) (call : Ask) (befores afters : List Seat) → length afters ≡ length befores → at < length befores
      → ((place : ℕ) (before after : Seat) → slice_get befores place ≡ Some before → slice_get afters place ≡ Some after → place < at → Plays (place + number) before after)
      → ((before after : Seat) → slice_get befores at ≡ Some before → slice_get afters at ≡ Some after → StopsBlockAt pool (at + number) records lines count call main next before after)
      → ((place : ℕ) (before after : Seat) → slice_get befores place ≡ Some before → slice_get afters place ≡ Some after → at < place → Replays (place + number) before after)
      → StopBlockFrom pool number at records lines count call main next befores afters
  stops-each number at count call [] afters len within plays stops replays = absurd (omega (arith, within))
  stops-each number at count call (before ∷ befores) [] len within plays stops replays = absurd (omega (arith, len))
  stops-each number zero count call (before ∷ befores) (after ∷ afters) len within plays stops replays =
      let same : 0 + number ≡ number = omega arith in (
        subst (λ (n : ℕ). StopsBlockAt pool n records lines count call main next before after) same (stops before after refl refl),
        replays-each (number + 1) befores afters (omega (arith, len))
            (λ place old new here there.
            let more : suc place + number ≡ place + (number + 1) = omega arith in
            subst (λ (n : ℕ). Replays n old new) more (replays (suc place) old new here there (omega arith))),
      )
  stops-each number (suc at) count call (before ∷ befores) (after ∷ afters) len within plays stops replays =
      let same : 0 + number ≡ number = omega arith in
      let last : suc at + number ≡ at + (number + 1) = omega arith in (
        subst (λ (n : ℕ). Plays n before after) same (plays 0 before after refl refl (omega arith)),
        stops-each (number + 1) at count call befores afters (omega (arith, len)) (omega (arith, within))
            (λ place old new here there less.
            let more : suc place + number ≡ place + (number + 1) = omega arith in
            subst (λ (n : ℕ). Plays n old new) more (plays (suc place) old new here there (omega (arith, less))))
            (λ old new here there. subst (λ (n : ℕ). StopsBlockAt pool n records lines count call main next old new) last (stops old new here there))
            (λ place old new here there above.
            let more : suc place + number ≡ place + (number + 1) = omega arith in
            subst (λ (n : ℕ). Replays n old new) more (replays (suc place) old new here there (omega (arith, above)))),
      )

pub block-of-each : BlockIsOfEach
block-of-each pool records lines main next befores afters len each = plays-each pool records lines main next 1 befores afters len each

pub stop-of-each : StopIsOfEach
stop-of-each pool records lines at count call main next befores afters len within plays stops replays =
    stops-each pool records lines main next 1 at count call befores afters len within plays stops replays
