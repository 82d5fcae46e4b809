-- What the users of a script that was accepted can do.
use Rattle.std.proofs.Common.{ℕ, ◌≡◌, ◌||◌, true, false, not, List, [], ◌∷◌, ◌++◌, Option, Some, None, is_some, refl}
use Rattle.std.proofs.lemmas.Bool.{or_parts}
use Rattle.std.specs.List.{AllByRecursion}
use Rattle.nm_types.specs.declared.name.Kind.{Kind}
use Rattle.nm_types.specs.declared.name.Kind.TheVariants.{Vale, Master, Slave, Monitor}
use Rattle.nm_types.specs.Names.{is_name, is_monitor_name, is_monitor_kind, is_pipe_kind, is_pipe_name, is_switch_port_kind, is_switch_port_name, kind_of}
use Rattle.vale_script.specs.declared.script.Act.{Act}
use Rattle.vale_script.specs.declared.script.Act.TheVariants as acts
use Rattle.vale_script.specs.declared.script.Line.{Line}
use Rattle.vale_script.specs.declared.script.Unit.{Unit as Part}
use Rattle.vale_script.specs.declared.script.Unit.TheVariants as parts
use Rattle.vale_script.specs.Replay.{act_says, line_says, lines_say, unit_says, units_say, replayed, MeetNoCause}
use Rattle.vale_script.specs.Rules.{Draft, nothing_said, after, cause_of}
use Rattle.vale_script.specs.Sound.{IsSoundAct, IsSoundLine, IsSoundUnit}
use Rattle.vale_script.specs.Statements.{Statement, Begin, End}
use Rattle.vale_player.specs.Deeds.{IsSoundWatch, IsDoableUnit, AreDoable, SoundScriptsAreDoable}
use Rattle.vale_replay.proofs.FitScripts.{is-true, not-wrong}

-- ---- a line

watchable : (name : List ℕ) → is_name name ≡ true → is_monitor_name name ≡ false → (is_switch_port_name name || is_pipe_name name) ≡ true
unfolding is_name is_monitor_name is_switch_port_name is_pipe_name
watchable name named other = by (kind_of name) named other
  where
    by : (kind : Option Kind) → is_some kind ≡ true → is_monitor_kind kind ≡ false → (is_switch_port_kind kind || is_pipe_kind kind) ≡ true
    by None named other = absurd cc
    by (Some Vale) named other = refl
    by (Some Master) named other = refl
    by (Some Slave) named other = refl
    by (Some Monitor) named other = absurd cc

watch-sound : (draft : Draft) (user : List ℕ) (act : Act) → IsSoundAct act → cause_of draft (act_says user act) ≡ None → IsSoundWatch act
watch-sound draft user (acts.Watch monitor target sides) sound none =
    let wrong = not-wrong draft user (acts.Watch monitor target sides) none in
    let parts = or_parts (not (is_monitor_name monitor)) (is_monitor_name target) wrong in
    (is-true (is_monitor_name monitor) parts.0, watchable target sound.1 parts.1)
watch-sound draft user _ sound none = tt

-- ---- lines, one behind another

front : (draft : Draft) (said more : List Statement) → MeetNoCause draft (said ++ more) → MeetNoCause draft said
front draft [] more none = tt
front draft (statement ∷ said) more none = (none.0, front (after draft 0 statement) said more none.1)

behind : (draft : Draft) (said more : List Statement) → MeetNoCause draft (said ++ more) → MeetNoCause (replayed draft said) more
behind draft [] more none = none
behind draft (statement ∷ said) more none = behind (after draft 0 statement) said more none.1

lines-doable : (count : ℕ) (users : List (List ℕ)) (draft : Draft) (lines : List Line) → MeetNoCause draft (lines_say users lines) → AllByRecursion (IsSoundLine count) lines → AreDoable lines
lines-doable count users draft [] none sound = tt
lines-doable count users draft (line ∷ lines) none sound =
    (record { sound = sound.0.act; watch = watch-sound draft _ line.act sound.0.act none.0 }, lines-doable count users (after draft 0 (line_says users line)) lines none.1 sound.1)

unit-doable : (count : ℕ) (users : List (List ℕ)) (draft : Draft) (unit : Part) → MeetNoCause draft (unit_says users unit) → IsSoundUnit count unit → IsDoableUnit unit
unit-doable count users draft (parts.Single line) none sound = record { sound = sound.act; watch = watch-sound draft _ line.act sound.act none.0 }
unit-doable count users draft (parts.Block lines) none sound =
    lines-doable count users (after draft 0 Begin) lines (front (after draft 0 Begin) (lines_say users lines) (End ∷ []) none.1) sound

units-doable : (count : ℕ) (users : List (List ℕ)) (draft : Draft) (units : List Part) → MeetNoCause draft (units_say users units) → AllByRecursion (IsSoundUnit count) units → AllByRecursion IsDoableUnit units
units-doable count users draft [] none sound = tt
units-doable count users draft (unit ∷ units) none sound = (
  unit-doable count users draft unit (front draft (unit_says users unit) (units_say users units) none) sound.0,
  units-doable count users (replayed draft (unit_says users unit)) units (behind draft (unit_says users unit) (units_say users units) none) sound.1,
)

pub sound-doable : SoundScriptsAreDoable
sound-doable program sound = units-doable _ program.users nothing_said program.units sound.causes sound.units_are
