-- Units one after another.
use Rattle.std.proofs.Common.{◌≡◌, ℕ, zero, suc, ◌+◌, ◌<◌, ◌≤◌, List, [], ◌∷◌, ◌++◌, map, length, slice_get, Option, Some, None, Result, Ok, Err, OnOk, IfErr, refl, sym, ap, ◌∙◌, subst, arith}
use Rattle.std.specs.Prelude.{flat_map}
use Rattle.std.specs.List.{AllByRecursion, range_with_len}
use Rattle.nm_types.specs.declared.fault.StepFault.{StepFault}
use Rattle.nm_types.specs.declared.fault.StepFault.TheVariants.{RecordFull, NoMemory}
use Rattle.vale_fabric.specs.declared.fabric.Fabric.{Fabric}
use Rattle.vale_fabric.specs.declared.kept.Fixed.{Fixed}
use Rattle.vale_fabric.specs.Fabrics.{Knowing, fixed_in}
use Rattle.vale_script.specs.Script.{Program}
use Rattle.vale_script.specs.declared.script.Unit.{Unit as Part}
use Rattle.vale_replay.specs.Replay.{ScriptUnit, closing_unit, shares_of, units_of, user_count}
use Rattle.vale_replay.specs.Tasks.{Captures, records_of}
use Rattle.vale_captures.specs.Inputs.{InputFile}
use Rattle.vale_player.specs.Inputs.{captures_of, names_of, records_in}
use Rattle.vale_act.specs.Units.{HavePlayed, PlaysUnit, knows_at}
use Rattle.vale_act.specs.Seats.{AreBetween, AreStopped, IsRunnable, IsScriptStop, IsUnitStop, UnitAt}
use Rattle.vale_act.specs.declared.seat.Seat.{Seat}
use Rattle.vale_act.proofs.UnitTurns.{unit-played}

front-get : {X Y : Type 0} (f : X → Y) (xs : List X) (ys : List Y) (i : ℕ) (x : X) → slice_get xs i ≡ Some x → slice_get (map f xs ++ ys) i ≡ Some (f x)
front-get f [] ys i x at = absurd cc
front-get f (first ∷ xs) ys zero x at = let is : first ≡ x = cc in ap (λ y. Some (f y)) is
front-get f (first ∷ xs) ys (suc i) x at = front-get f xs ys i x at

pub all-get : {X : Type 0} (P : X → Type 0) (xs : List X) (i : ℕ) (x : X) → AllByRecursion P xs → slice_get xs i ≡ Some x → P x
all-get P [] i x all at = absurd cc
all-get P (first ∷ xs) zero x all at = let is : first ≡ x = cc in subst P is all.0
all-get P (first ∷ xs) (suc i) x all at = all-get P xs i x all.1 at

module _ (fabric : Fabric) (program : Program) (inputs : List InputFile) (files : names_of inputs ≡ program.files) (pool : program.pool ≡ (fixed_in fabric).pool) where
  abbrev captures : Captures
  captures = captures_of inputs

  unit-is : (done : ℕ) (unit : Part) (count : ℕ) → count ≡ user_count program → slice_get program.units done ≡ Some unit → slice_get (units_of program captures) done ≡ Some (shares_of (records_in inputs) count unit)
  unit-is done unit count same at =
      front-get (shares_of (records_of program.files captures) (user_count program)) program.units (map closing_unit (range_with_len 1 (user_count program))) done unit at
      ∙ (ap (λ (names : List (List ℕ)). Some (shares_of (records_of names captures) (user_count program) unit)) (sym files)
      ∙ ap (λ (n : ℕ). Some (shares_of (records_in inputs) n unit)) (sym same))

  module _ (done : ℕ) (unit : Part) (v w : Knowing) (befores afters : List Seat) (at : slice_get program.units done ≡ Some unit) (so : AreBetween program captures done v befores) where
    pub between-next : UnitAt (fixed_in fabric) (shares_of (records_in inputs) (length befores) unit) v w befores afters (Ok tt) → AreBetween program captures (done + 1) w afters
    between-next ran = record {
      seated = ran.seated;
      count = ran.len ∙ so.count;
      held = ran.held so.held;
      played = unit-played program captures done (shares_of (records_in inputs) (length befores) unit) v w befores afters (unit-is done unit (length befores) so.count at) so.played
          (subst (λ (n : ℕ). PlaysUnit n (shares_of (records_in inputs) (length befores) unit) v w befores afters) (sym pool) ran.plays);
    }

    stop-of : (fault : StepFault) → IsUnitStop (fixed_in fabric) (shares_of (records_in inputs) (length befores) unit) v w befores afters fault → IsScriptStop (fixed_in fabric) program captures w afters fault
    stop-of NoMemory stop = tt
    stop-of (RecordFull what used want) stop = record {
      done = done;
      unit = shares_of (records_in inputs) (length befores) unit;
      there = unit-is done unit (length befores) so.count at;
      main = v;
      seats = befores;
      played = so.played;
      stop = stop;
    }

    pub between-stops : (fault : StepFault) → UnitAt (fixed_in fabric) (shares_of (records_in inputs) (length befores) unit) v w befores afters (Err fault) → AreStopped (fixed_in fabric) program captures w afters fault
    between-stops fault ran = record { seated = ran.seated; count = ran.len ∙ so.count; held = ran.held so.held; stop = stop-of fault ran.stops }

    pub between-runs : AllByRecursion (IsRunnable (user_count program)) program.units → IsRunnable (length befores) unit
    between-runs all = subst (λ (n : ℕ). IsRunnable n unit) (sym so.count) (all-get (IsRunnable (user_count program)) program.units done unit all at)
