-- What a script says: the lines one after another, up to the first that is bad. A block without its end is
-- bad at its `par` line, if no other line is bad.
use Rattle.std.specs.Prelude.{ℕ, Bool, ◌==◌, ◌≡◌, ◌+◌, List, [], ◌∷◌, Option, Some, None, Result, Ok, Err}
use Rattle.std.specs.Str.Lines.{lines}
use Rattle.nm_types.specs.declared.fault.LineCause.{LineCause}
use Rattle.nm_types.specs.declared.fault.LineCause.TheVariants.{Order}
use Rattle.vale_script.specs.declared.reader.ScriptFault.{ScriptFault}
use Rattle.vale_script.specs.declared.reader.ScriptFault.TheVariants.{BadLine, NoMemory}
use Rattle.vale_script.specs.Rules.{Draft, nothing_said, cause_of, after, finished}
use Rattle.vale_script.specs.Script.{Program}
use Rattle.vale_script.specs.Statements.{Statement, line_said}

pub record Fault : Type 0 where
  pub line : ℕ
  pub cause : LineCause

abbrev pub judged : Option LineCause → Draft → Result Draft LineCause
judged None draft = Ok draft
judged (Some cause) draft = Err cause

abbrev pub after_statement : Draft → ℕ → Result Statement LineCause → Result Draft LineCause
after_statement draft at (Err cause) = Err cause
after_statement draft at (Ok said) = judged (cause_of draft said) (after draft at said)

-- one more line: what it says by itself, and then by the lines before it
abbrev pub after_line : Draft → ℕ → List ℕ → Result Draft LineCause
after_line draft at line = after_statement draft at (line_said line)

abbrev pub goes_on : ℕ → (Draft → Result Draft Fault) → Result Draft LineCause → Result Draft Fault
goes_on at rest (Err cause) = Err (record { line = at; cause = cause })
goes_on at rest (Ok draft) = rest draft

abbrev pub said_from : ℕ → Draft → List (List ℕ) → Result Draft Fault
said_from at draft [] = Ok draft
said_from at draft (line ∷ lines) = goes_on at (λ next. said_from (at + 1) next lines) (after_line draft at line)

abbrev pub ended : Result Program ℕ → Result Program Fault
ended (Ok program) = Ok program
ended (Err at) = Err (record { line = at; cause = Order })

abbrev pub script_by : Result Draft Fault → Result Program Fault
script_by (Err fault) = Err fault
script_by (Ok draft) = ended (finished draft)

-- what a script says, or the first line that is bad and why
abbrev pub script_of : List ℕ → Result Program Fault
script_of bytes = script_by (said_from 1 nothing_said (lines bytes))

abbrev pub is_line_feed : ℕ → Bool
is_line_feed b = b == 10

-- the line and the cause are those that the definition gives; running out of memory needs no reason
abbrev pub BlamesLine : Result Program Fault → ScriptFault → Type 0
BlamesLine answer (BadLine line cause) = answer ≡ Err (record { line = line; cause = cause })
BlamesLine answer NoMemory = Unit {0}

-- a line was added, or it is bad for this cause
abbrev pub ReadsLine : Result Draft LineCause → Draft → Option LineCause → Type 0
ReadsLine answer draft None = answer ≡ Ok draft
ReadsLine answer draft (Some cause) = answer ≡ Err cause
