-- What a draft keeps.
use Rattle.std.specs.Prelude.{ℕ, ◌≤◌, ◌≡◌, List, [], ◌∷◌, ◌++◌, length, Option, Some, None, is_some, IfSome}
use Rattle.std.specs.List.{AllByRecursion as Each}
use Rattle.nm_types.specs.Limits.{most_pool, most_users}
use Rattle.vale_script.specs.Replay.{user_name, lines_say, units_say, replayed, MeetNoCause}
use Rattle.vale_script.specs.Rules.{Draft, Opened, nothing_said}
use Rattle.vale_script.specs.Sound.{IsUserName, IsSoundDeed, IsSoundLine, IsSoundUnit}
use Rattle.vale_script.specs.Statements.{Statement, Pool, NewUser, Begin, Does}

abbrev pub IsPoolRange : ℕ → Type 0
IsPoolRange size = (1 ≤ size) × (size ≤ most_pool)

abbrev pub IsSoundStatement : Statement → Type 0
IsSoundStatement (Pool size) = IsPoolRange size
IsSoundStatement (NewUser name) = IsUserName name
IsSoundStatement (Does user act) = IsSoundDeed act
IsSoundStatement _ = Unit {0}

-- the user that a statement names has a user's name
abbrev pub NamesUser : Statement → Type 0
NamesUser (NewUser name) = IsUserName name
NamesUser (Does user act) = IsUserName user
NamesUser _ = Unit {0}

-- the number of the user who does what a statement says
abbrev pub IsNumbered : Draft → Statement → Option ℕ → Type 0
IsNumbered draft (Does user act) number = number ≡ draft.numbers user
IsNumbered draft _ number = Unit {0}

abbrev pub IsUserNumber : ℕ → ℕ → Type 0
IsUserNumber users number = (1 ≤ number) × (number ≤ users)

abbrev pub IsSoundBlock : ℕ → Opened → Type 0
IsSoundBlock users block = Each (IsSoundLine users) block.lines

-- a number is that of the user of this name
abbrev pub IsNumberOf : List (List ℕ) → List ℕ → ℕ → Type 0
IsNumberOf users name number = user_name users number ≡ name

pub record HasSoundParts (draft : Draft) : Type 0 where
  pub pool : IfSome draft.pool IsPoolRange
  pub few : length draft.users ≤ most_users
  pub names : Each IsUserName draft.users
  pub numbers : (name : List ℕ) → IfSome (draft.numbers name) (IsUserNumber (length draft.users))
  pub units : Each (IsSoundUnit (length draft.users)) draft.units
  pub block : IfSome draft.block (IsSoundBlock (length draft.users))
  pub named : (name : List ℕ) → IfSome (draft.numbers name) (IsNumberOf draft.users name)

-- drafts with the same users, ports and files, and both with a block under way or both with none
pub record AreAlike (draft other : Draft) : Type 0 where
  pub users : draft.users ≡ other.users
  pub numbers : draft.numbers ≡ other.numbers
  pub ports : draft.ports ≡ other.ports
  pub files : draft.files ≡ other.files
  pub played : draft.played ≡ other.played
  pub block : is_some draft.block ≡ is_some other.block

abbrev pub opened_says : List (List ℕ) → Option Opened → List Statement
opened_says users None = []
opened_says users (Some block) = Begin ∷ lines_say users block.lines

-- what its units and its block say
abbrev pub draft_says : Draft → List Statement
draft_says draft = units_say draft.users draft.units ++ opened_says draft.users draft.block

-- these statements, replayed, are bad for no cause and come to the same
pub record IsReplayedBy (draft : Draft) (said : List Statement) : Type 0 where
  pub causes : MeetNoCause nothing_said said
  pub alike : AreAlike draft (replayed nothing_said said)

pub record IsSoundDraft (draft : Draft) : Type 0 where
  pub parts : HasSoundParts draft
  pub replay : IsReplayedBy draft (draft_says draft)
