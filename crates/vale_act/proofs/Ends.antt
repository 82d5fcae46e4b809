-- A script behind its last unit, or behind the one that a full record has stopped, and all users gone.
use Rattle.std.proofs.Common.{◌≡◌, ℕ, ◌+◌, ◌-◌, ◌*◌, ◌^◌, max, List, [], ◌∷◌, ◌++◌, length, map, take, slice_get, Some, Result, Ok, Err, OnOk, IfErr, refl, sym, ap, ◌∙◌, subst, arith}
use Rattle.std.specs.Prelude.{flat_map}
use lib.ListN.{length-map}
use Rattle.nm_turn.specs.Numbered.{numbered}
use Rattle.nm_turn.specs.declared.view.Share.{Share}
use Rattle.nm_turn.specs.Shares.{IsWhole, AddUp}
use Rattle.nm_types.specs.declared.fault.StepFault.{StepFault}
use Rattle.nm_types.specs.declared.fault.StepFault.TheVariants.{RecordFull, NoMemory}
use Rattle.vale_book.specs.Recorded.{IsRefusal}
use Rattle.vale_entry.specs.declared.entry.Entry.{Entry}
use Rattle.vale_fabric.specs.declared.fabric.Fabric.{Fabric}
use Rattle.vale_fabric.specs.declared.kept.Fixed.{Fixed}
use Rattle.vale_fabric.specs.Fabrics.{Knowing, fixed_in, record_in}
use Rattle.vale_script.specs.Script.{Program}
use Rattle.vale_captures.specs.Inputs.{InputFile, name_of, frames_of}
use Rattle.vale_replay.specs.Replay.{HasCaptures}
use Rattle.vale_replay.specs.Tasks.{Captures}
use Rattle.vale_player.specs.Inputs.{captures_of, names_of}
use Rattle.vale_player.proofs.Keeping.{take-longer}
use Rattle.vale_act.specs.Units.{knows_at}
use Rattle.vale_act.specs.Seats.{AreBetween, AreSeated, AreStopped, ClosesAll, IsHeld, IsScriptStop, IsScriptStopped, ScriptPlayed}
use Rattle.vale_act.specs.declared.seat.Seat.{Seat}
use Rattle.vale_act.proofs.UnitTurns.{play-whole}
use Rattle.vale_act.proofs.UnitStops.{stop-whole}

alone-whole : (p : Share) → AddUp (p ∷ []) → IsWhole p
alone-whole p up =
    let d : ℕ = max p.depth 0 in
    let deep : d ≡ p.depth = omega arith in
    let none : d - p.depth ≡ 0 = omega (arith, deep) in
    let one : p.share * 2 ^ (d - p.depth) ≡ p.share * 1 = ap (λ (n : ℕ). p.share * 2 ^ n) none in
    let all : p.share * 2 ^ (d - p.depth) + 0 ≡ 2 ^ d = up in
    let same : 2 ^ d ≡ 2 ^ p.depth = ap (λ (n : ℕ). 2 ^ n) deep in
    omega (arith, one, all, same)

module _ (m w : Knowing) (befores afters : List Seat) (pool : ℕ) (closes : ClosesAll pool m w befores afters) (held : IsHeld m (flat_map knows_at befores)) where
  end-held : IsHeld w []
  end-held = subst (IsHeld w) closes.gone (closes.held held)

  pub end-whole : IsWhole w.part
  end-whole = alone-whole w.part end-held.whole

  pub end-mine : w.mine ≡ numbered 1 w.seen
  end-mine = end-held.all end-whole

module _ (fabric : Fabric) (program : Program) (inputs : List InputFile) (files : names_of inputs ≡ program.files) (pool : program.pool ≡ (fixed_in fabric).pool)
    (m w : Knowing) (befores afters : List Seat) (closes : ClosesAll (fixed_in fabric).pool m w befores afters) where
  has-captures : HasCaptures program (captures_of inputs)
  has-captures = length-map inputs frames_of ∙ (sym (length-map inputs name_of) ∙ ap length files)

  pub ends-played : AreBetween program (captures_of inputs) (length program.units) m befores → ScriptPlayed program (captures_of inputs) w afters
  ends-played so =
      let all = play-whole program (captures_of inputs) w afters has-captures (closes.plays program (captures_of inputs) pool (sym so.count) so.played) closes.gone
      (end-mine m w befores afters (fixed_in fabric).pool closes so.held) in
      record { cast = all.0; played = all.1.0; are = all.1.1 }

  stops-by : (fault : StepFault) → IsHeld m (flat_map knows_at befores) → IsScriptStop (fixed_in fabric) program (captures_of inputs) m befores fault → IsScriptStopped (fixed_in fabric) program (captures_of inputs) w.seen fault
  stops-by NoMemory held stop = tt
  stops-by (RecordFull what used want) held stop =
      let s = stop.stop in
      let fault = RecordFull what used want in
      record {
        user = s.user;
        count = s.count;
        call = s.call;
        stopped = stop-whole program (captures_of inputs) (fixed_in fabric) stop.done stop.unit s.user s.count s.call fault stop.main m w stop.seats befores afters
            has-captures (sym pool) stop.there stop.played s.stops closes.begins closes.made closes.gone (end-mine m w befores afters (fixed_in fabric).pool closes held);
        refusal = subst (λ (h : List Entry). IsRefusal (record_in (fixed_in fabric) h) s.call fault) (sym (take-longer m.seen w.seen s.count closes.begins s.stops.seen)) s.stops.refusal;
      }

  pub ends-stopped : (fault : StepFault) → AreStopped (fixed_in fabric) program (captures_of inputs) m befores fault → IsScriptStopped (fixed_in fabric) program (captures_of inputs) w.seen fault
  ends-stopped fault so = stops-by fault so.held so.stop

-- whether they have done all units or not
pub either-held : (fixed : Fixed) (program : Program) (captures : Captures) (done : ℕ) (m : Knowing) (befores : List Seat) (r : Result (Unit {0}) StepFault) → OnOk r (AreBetween program captures done m befores) → IfErr r (AreStopped fixed program captures m befores) → IsHeld m (flat_map knows_at befores)
either-held fixed program captures done m befores (Ok x) ok err = ok.held
either-held fixed program captures done m befores (Err fault) ok err = err.held

pub either-seated : (fixed : Fixed) (program : Program) (captures : Captures) (done : ℕ) (m : Knowing) (befores : List Seat) (r : Result (Unit {0}) StepFault) → OnOk r (AreBetween program captures done m befores) → IfErr r (AreStopped fixed program captures m befores) → AreSeated befores
either-seated fixed program captures done m befores (Ok x) ok err = ok.seated
either-seated fixed program captures done m befores (Err fault) ok err = err.seated
