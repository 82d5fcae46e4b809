-- The lines of an accepted script fit: their numbers are in range, and only a monitor watches.
use Rattle.std.proofs.Common.{Bool, true, false, cond, not, ◌||◌, ℕ, ◌≡◌, List, [], ◌∷◌, ◌++◌, Option, Some, None, is_some, refl}
use Rattle.std.proofs.lemmas.Bool.{or_parts}
use Rattle.std.specs.List.{AllByRecursion as Each}
use Rattle.nm_types.specs.Names.{is_monitor_name}
use Rattle.vale_script.specs.declared.script.Act.{Act}
use Rattle.vale_script.specs.declared.script.Act.TheVariants as acts
use Rattle.vale_script.specs.declared.script.Line.{Line}
use Rattle.vale_script.specs.declared.script.Unit.{Unit as Part}
use Rattle.vale_script.specs.declared.script.Unit.TheVariants as parts
use Rattle.vale_script.specs.Replay.{act_says, line_says, lines_say, unit_says, units_say, replayed, MeetNoCause}
use Rattle.vale_script.specs.Rules.{Draft, nothing_said, act_cause, after, cause_of, first_use, second_use, lacks_port, lacks_ports, watches_wrongly}
use Rattle.vale_script.specs.Script.{Program}
use Rattle.vale_script.specs.Sound.{IsSoundAct, IsSoundLine, IsSoundUnit, IsSound}
use Rattle.vale_script.specs.Statements.{Statement, Begin, End}

abbrev pub WatchesNone : Act → Type 0
WatchesNone (acts.Watch monitor target sides) = (is_monitor_name monitor ≡ true) × (is_monitor_name target ≡ false)
WatchesNone _ = Unit {0}

pub record FitsAct (act : Act) : Type 0 where
  pub sound : IsSoundAct act
  pub watch : WatchesNone act

abbrev pub FitsLine : Line → Type 0
FitsLine line = FitsAct line.act

abbrev pub FitsUnit : Part → Type 0
FitsUnit (parts.Single line) = FitsLine line
FitsUnit (parts.Block lines) = Each FitsLine lines

pub passed : {X : Type 0} (b : Bool) (x : X) (o : Option X) → cond b (Some x) o ≡ None → (b ≡ false) × (o ≡ None)
passed true x o e = absurd cc
passed false x o e = (refl, e)

pub is-true : (b : Bool) → not b ≡ false → b ≡ true
is-true true e = refl
is-true false e = absurd cc

pub not-wrong : (draft : Draft) (user : List ℕ) (act : Act) → act_cause draft user act ≡ None → watches_wrongly act ≡ false
not-wrong draft user act none =
    let there = passed (not (is_some (draft.numbers user))) _ _ none in
    let has = passed (lacks_ports draft user act) _ _ there.1 in
    (or_parts (lacks_port draft user (first_use act) || lacks_port draft user (second_use act)) (watches_wrongly act) has.0).1

watch-fits : (draft : Draft) (user : List ℕ) (act : Act) → cause_of draft (act_says user act) ≡ None → WatchesNone act
watch-fits draft user (acts.Watch monitor target sides) none =
    let wrong = not-wrong draft user (acts.Watch monitor target sides) none in
    let both = or_parts (not (is_monitor_name monitor)) (is_monitor_name target) wrong in
    (is-true (is_monitor_name monitor) both.0, both.1)
watch-fits draft user _ none = tt

front : (draft : Draft) (said more : List Statement) → MeetNoCause draft (said ++ more) → MeetNoCause draft said
front draft [] more none = tt
front draft (statement ∷ said) more none = (none.0, front (after draft 0 statement) said more none.1)

behind : (draft : Draft) (said more : List Statement) → MeetNoCause draft (said ++ more) → MeetNoCause (replayed draft said) more
behind draft [] more none = none
behind draft (statement ∷ said) more none = behind (after draft 0 statement) said more none.1

lines-fit : (count : ℕ) (users : List (List ℕ)) (draft : Draft) (lines : List Line) → MeetNoCause draft (lines_say users lines) → Each (IsSoundLine count) lines → Each FitsLine lines
lines-fit count users draft [] none sound = tt
lines-fit count users draft (line ∷ lines) none sound =
    (record { sound = sound.0.act; watch = watch-fits draft _ line.act none.0 }, lines-fit count users (after draft 0 (line_says users line)) lines none.1 sound.1)

unit-fits : (count : ℕ) (users : List (List ℕ)) (draft : Draft) (unit : Part) → MeetNoCause draft (unit_says users unit) → IsSoundUnit count unit → FitsUnit unit
unit-fits count users draft (parts.Single line) none sound = record { sound = sound.act; watch = watch-fits draft _ line.act none.0 }
unit-fits count users draft (parts.Block lines) none sound =
    lines-fit count users (after draft 0 Begin) lines (front (after draft 0 Begin) (lines_say users lines) (End ∷ []) none.1) sound

units-fit : (count : ℕ) (users : List (List ℕ)) (draft : Draft) (units : List Part) → MeetNoCause draft (units_say users units) → Each (IsSoundUnit count) units → Each FitsUnit units
units-fit count users draft [] none sound = tt
units-fit count users draft (unit ∷ units) none sound = (
  unit-fits count users draft unit (front draft (unit_says users unit) (units_say users units) none) sound.0,
  units-fit count users (replayed draft (unit_says users unit)) units (behind draft (unit_says users unit) (units_say users units) none) sound.1,
)

pub script-fits : (program : Program) → IsSound program → Each FitsUnit program.units
script-fits program sound = units-fit _ program.users nothing_said program.units sound.causes sound.units_are
