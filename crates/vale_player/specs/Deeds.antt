-- What a line must keep for its user to do it.
use Rattle.std.specs.Prelude.{ℕ, Bool, true, ◌≡◌, if◌then◌else◌, List, [], ◌∷◌}
use Rattle.std.specs.List.{AllByRecursion}
use Rattle.nm_types.specs.Names.{is_monitor_name}
use Rattle.nm_user.specs.Ports.{IsWatchable}
use Rattle.vale_script.specs.declared.script.Act.{Act}
use Rattle.vale_script.specs.declared.script.Act.TheVariants as acts
use Rattle.vale_script.specs.declared.script.Line.{Line}
use Rattle.vale_script.specs.declared.script.Unit.{Unit as Part}
use Rattle.vale_script.specs.declared.script.Unit.TheVariants as parts
use Rattle.vale_script.specs.Script.{Program}
use Rattle.vale_script.specs.Sound.{IsSoundAct, IsSound}
use Rattle.vale_replay.specs.Tasks.{Task, TakeFrames, ChangeOwn}
use Rattle.vale_player.specs.Kept.{is_one_of}

-- a monitor watches, and is not watched
abbrev pub IsSoundWatch : Act → Type 0
IsSoundWatch (acts.Watch monitor target sides) =
    (is_monitor_name monitor ≡ true) × IsWatchable target
IsSoundWatch _ = Unit {0}

-- its names are names, its numbers are in range, and only a monitor watches, and none is watched
pub record IsDoable (act : Act) : Type 0 where
  pub sound : IsSoundAct act
  pub watch : IsSoundWatch act

abbrev pub IsDoableLine : Line → Type 0
IsDoableLine line = IsDoable line.act

abbrev pub AreDoable : List Line → Type 0
AreDoable lines = AllByRecursion IsDoableLine lines

abbrev pub IsDoableUnit : Part → Type 0
IsDoableUnit (parts.Single line) = IsDoableLine line
IsDoableUnit (parts.Block lines) = AreDoable lines

-- the frames that go into files are those of ports of these names
abbrev pub SavesNamed : List (List ℕ) → Act → Type 0
SavesNamed names (acts.Save name file) = is_one_of names name ≡ true
SavesNamed names _ = Unit {0}

abbrev pub AllSaveNamed : List (List ℕ) → List Act → Type 0
AllSaveNamed names list = AllByRecursion (SavesNamed names) list

-- what is done on the rings of ports, and not to a port
abbrev pub IsOnRings : Act → Type 0
IsOnRings acts.Enter = ⊥
IsOnRings (acts.Open name tx rx extra) = ⊥
IsOnRings (acts.Watch monitor target sides) = ⊥
IsOnRings (acts.Stat name) = ⊥
IsOnRings (acts.Save name file) = ⊥
IsOnRings (acts.Close name) = ⊥
IsOnRings _ = Unit {0}

-- without `keep` all received frames are given back before the ring is synced
abbrev pub receive_tasks : List ℕ → Bool → List Task
receive_tasks name keep =
    if keep then TakeFrames name ∷ [] else ChangeOwn (acts.Rx name keep) ∷ TakeFrames name ∷ []

-- The law: the users of a script that was accepted can do all its lines.
abbrev pub SoundScriptsAreDoable : Type 0
SoundScriptsAreDoable =
    (program : Program) → IsSound program → AllByRecursion IsDoableUnit program.units
