-- A script replayed: what its lines say, one after another, from nothing said.
use Rattle.std.specs.Prelude.{ℕ, ◌≡◌, ◌-◌, List, [], ◌∷◌, ◌++◌, map, flat_map, get_or, None}
use Rattle.vale_script.specs.declared.script.Act.{Act}
use Rattle.vale_script.specs.declared.script.Act.TheVariants as acts
use Rattle.vale_script.specs.declared.script.Line.{Line}
use Rattle.vale_script.specs.declared.script.Unit.{Unit as Part}
use Rattle.vale_script.specs.declared.script.Unit.TheVariants as parts
use Rattle.vale_script.specs.Rules.{Draft, cause_of, after}
use Rattle.vale_script.specs.Script.{Program}
use Rattle.vale_script.specs.Statements.{Statement, NewUser, Begin, End, Does}

-- the user of this number, counted from 1
abbrev pub user_name : List (List ℕ) → ℕ → List ℕ
user_name users number = get_or users (number - 1) []

-- the line on which a user enters declares it
abbrev pub act_says : List ℕ → Act → Statement
act_says user acts.Enter = NewUser user
act_says user act = Does user act

abbrev pub line_says : List (List ℕ) → Line → Statement
line_says users line = act_says (user_name users line.user) line.act

abbrev pub lines_say : List (List ℕ) → List Line → List Statement
lines_say users lines = map (line_says users) lines

abbrev pub unit_says : List (List ℕ) → Part → List Statement
unit_says users (parts.Single line) = line_says users line ∷ []
unit_says users (parts.Block lines) = Begin ∷ (lines_say users lines ++ End ∷ [])

abbrev pub units_say : List (List ℕ) → List Part → List Statement
units_say users units = flat_map (unit_says users) units

abbrev pub program_says : Program → List Statement
program_says program = units_say program.users program.units

-- the draft behind these statements; causes do not hang on the numbers of lines
abbrev pub replayed : Draft → List Statement → Draft
replayed draft [] = draft
replayed draft (said ∷ more) = replayed (after draft 0 said) more

-- none of these statements is bad behind those before it
abbrev pub MeetNoCause : Draft → List Statement → Type 0
MeetNoCause draft [] = Unit {0}
MeetNoCause draft (said ∷ more) = (cause_of draft said ≡ None) × MeetNoCause (after draft 0 said) more
