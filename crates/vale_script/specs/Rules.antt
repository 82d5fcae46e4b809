-- What the lines so far have said, what is wrong with the next one, and what it adds.
use Rattle.std.specs.Prelude.{ℕ, Bool, true, false, not, ◌||◌, ◌&&◌, ◌+◌, nat_le, if◌then◌else◌, List, [], ◌∷◌, ◌++◌, length, Option, Some, None, is_some, unwrap_or, Result, Ok, Err}
use Rattle.nm_types.specs.Limits.{most_users, default_pool}
use Rattle.nm_types.specs.Names.{is_monitor_name}
use Rattle.nm_types.specs.declared.id.Side.{Side}
use Rattle.nm_types.specs.declared.id.Side.TheVariants as rings
use Rattle.nm_types.specs.declared.fault.LineCause.{LineCause}
use Rattle.nm_types.specs.declared.fault.LineCause.TheVariants as causes
use Rattle.vale_script.specs.declared.draft.FileUse.{FileUse}
use Rattle.vale_script.specs.declared.draft.FileUse.TheVariants.{Played, Saved}
use Rattle.vale_script.specs.declared.script.Act.{Act}
use Rattle.vale_script.specs.declared.script.Act.TheVariants as acts
use Rattle.vale_script.specs.declared.script.Line.{Line}
use Rattle.vale_script.specs.declared.script.Unit.{Unit as Part}
use Rattle.vale_script.specs.declared.script.Unit.TheVariants as parts
use Rattle.vale_script.specs.Script.{Program}
use Rattle.vale_script.specs.Statements.{Statement, Nothing, Pool, NewUser, Begin, End, Does}
use Rattle.vale_script.specs.Tables.{updated}
use Rattle.vale_words.specs.Words.{text_of}

-- a block that has begun: the line of its `par`, and its lines so far
pub record Opened : Type 0 where
  pub at : ℕ
  pub lines : List Line

-- What the lines so far have said: the size of the pool; whether any line has said something; the users,
-- and their numbers by name; the ports that stand open by the lines, each with whether a line saves it; what files
-- are used for; the files that are played; the units; the block under way.
pub record Draft : Type 0 where
  pub pool : Option ℕ
  pub spoken : Bool
  pub users : List (List ℕ)
  pub numbers : List ℕ → Option ℕ
  pub ports : List ℕ → Option Bool
  pub files : List ℕ → Option FileUse
  pub played : List (List ℕ)
  pub units : List Part
  pub block : Option Opened

abbrev pub nothing_said : Draft
nothing_said = record { pool = None; spoken = false; users = []; numbers = λ name. None; ports = λ key. None; files = λ name. None; played = []; units = []; block = None }

-- a port of a user: the two words, with a blank between them
abbrev pub port_key : List ℕ → List ℕ → List ℕ
port_key user name = user ++ (32 ∷ []) ++ unwrap_or (text_of name) []

-- a port that a line uses, and whether the line needs its transmit ring
pub record Use : Type 0 where
  pub name : List ℕ
  pub sends : Bool

abbrev pub is_transmit : Side → Bool
is_transmit rings.Tx = true
is_transmit rings.Rx = false

abbrev pub used_as : List ℕ → Bool → Option Use
used_as name sends = Some (record { name = name; sends = sends })

-- the user's port that a line names first; the name of an `open` need not be open
abbrev pub first_use : Act → Option Use
first_use acts.Enter = None
first_use (acts.Open name tx rx extra) = None
first_use (acts.Put name count to from len fill) = used_as name true
first_use (acts.Hex name bytes) = used_as name true
first_use (acts.Play name file batch) = used_as name true
first_use (acts.Tx name) = used_as name true
first_use (acts.Rx name keep) = used_as name false
first_use (acts.Fwd from to count) = used_as from false
first_use (acts.Poke name side slot field value) = used_as name (is_transmit side)
first_use (acts.Move name side head cur) = used_as name (is_transmit side)
first_use (acts.Swap name side slot other other_side other_slot quiet) = used_as name (is_transmit side)
first_use (acts.Extra name i j) = used_as name false
first_use (acts.Watch monitor target sides) = used_as monitor false
first_use (acts.Stat name) = used_as name false
first_use (acts.Save name file) = used_as name false
first_use (acts.Close name) = used_as name false

-- the other one; what a monitor is to watch need not be the user's
abbrev pub second_use : Act → Option Use
second_use (acts.Fwd from to count) = used_as to true
second_use (acts.Swap name side slot other other_side other_slot quiet) = used_as other (is_transmit other_side)
second_use _ = None

-- no line of the user has opened it that is not closed, or it has no transmit ring where one is needed
abbrev pub lacks_port : Draft → List ℕ → Option Use → Bool
lacks_port draft user None = false
lacks_port draft user (Some used) = not (is_some (draft.ports (port_key user used.name))) || (used.sends && is_monitor_name used.name)

-- a monitor watches, and is not watched
abbrev pub watches_wrongly : Act → Bool
watches_wrongly (acts.Watch monitor target sides) = not (is_monitor_name monitor) || is_monitor_name target
watches_wrongly _ = false

abbrev pub lacks_ports : Draft → List ℕ → Act → Bool
lacks_ports draft user act = (lacks_port draft user (first_use act) || lacks_port draft user (second_use act)) || watches_wrongly act

abbrev pub is_saved : Option FileUse → Bool
is_saved None = false
is_saved (Some Played) = false
is_saved (Some Saved) = true

-- a name that this user has open; a file saved twice, or both saved and played; a port saved twice
abbrev pub is_twice : Draft → List ℕ → Act → Bool
is_twice draft user (acts.Open name tx rx extra) = is_some (draft.ports (port_key user name))
is_twice draft user (acts.Play name file batch) = is_saved (draft.files file)
is_twice draft user (acts.Save name file) = is_some (draft.files file) || unwrap_or (draft.ports (port_key user name)) false
is_twice draft user _ = false

abbrev pub act_cause : Draft → List ℕ → Act → Option LineCause
act_cause draft user act =
    if not (is_some (draft.numbers user)) then Some causes.User
    else (if lacks_ports draft user act then Some causes.Port
    else (if is_twice draft user act then Some causes.Twice else None))

-- at most 64 users, none twice
abbrev pub user_cause : Draft → List ℕ → Option LineCause
user_cause draft name =
    if is_some draft.block then Some causes.Order
    else (if is_some (draft.numbers name) || nat_le most_users (length draft.users) then Some causes.Twice else None)

-- what is wrong with a line that says this, behind the lines so far
abbrev pub cause_of : Draft → Statement → Option LineCause
cause_of draft Nothing = None
cause_of draft (Pool size) = if draft.spoken then Some causes.Order else None
cause_of draft (NewUser name) = user_cause draft name
cause_of draft Begin = if is_some draft.block then Some causes.Order else None
cause_of draft End = if is_some draft.block then None else Some causes.Order
cause_of draft (Does user act) = act_cause draft user act

-- What a line adds that is not bad.

abbrev pub with_port : Draft → List ℕ → List ℕ → Option Bool → Draft
with_port draft user name port = record draft { ports = updated draft.ports (port_key user name) port }

-- each file once, in the order of its first `play` line
abbrev pub with_played : Draft → List ℕ → Draft
with_played draft file = record draft {
  played = if is_some (draft.files file) then draft.played else draft.played ++ file ∷ [];
  files = updated draft.files file (Some Played);
}

abbrev pub with_saved : Draft → List ℕ → List ℕ → List ℕ → Draft
with_saved draft user name file = record draft { ports = updated draft.ports (port_key user name) (Some true); files = updated draft.files file (Some Saved) }

-- what an act opens, closes, plays and saves
abbrev pub with_act : Draft → List ℕ → Act → Draft
with_act draft user (acts.Open name tx rx extra) = with_port draft user name (Some false)
with_act draft user (acts.Close name) = with_port draft user name None
with_act draft user (acts.Play name file batch) = with_played draft file
with_act draft user (acts.Save name file) = with_saved draft user name file
with_act draft user _ = draft

abbrev pub units_with : Option Opened → Line → List Part → List Part
units_with None line units = units ++ parts.Single line ∷ []
units_with (Some block) line units = units

abbrev pub block_with : Option Opened → Line → Option Opened
block_with None line = None
block_with (Some block) line = Some (record block { lines = block.lines ++ line ∷ [] })

abbrev pub with_line : Draft → Line → Draft
with_line draft line = record draft { units = units_with draft.block line draft.units; block = block_with draft.block line }

abbrev pub with_user : Draft → ℕ → List ℕ → Draft
with_user draft at name = record draft {
  spoken = true;
  users = draft.users ++ name ∷ [];
  numbers = updated draft.numbers name (Some (length draft.users + 1));
  units = draft.units ++ parts.Single (record { at = at; user = length draft.users + 1; act = acts.Enter }) ∷ [];
}

abbrev pub ended_units : Option Opened → List Part → List Part
ended_units None units = units
ended_units (Some block) units = units ++ parts.Block block.lines ∷ []

abbrev pub with_end : Draft → Draft
with_end draft = record draft { units = ended_units draft.block draft.units; block = None }

abbrev pub does_act : Draft → ℕ → List ℕ → Act → Draft
does_act draft at user act = with_line (with_act draft user act) (record { at = at; user = unwrap_or (draft.numbers user) 0; act = act })

abbrev pub after : Draft → ℕ → Statement → Draft
after draft at Nothing = draft
after draft at (Pool size) = record draft { pool = Some size; spoken = true }
after draft at (NewUser name) = with_user draft at name
after draft at Begin = record draft { spoken = true; block = Some (record { at = at; lines = [] }) }
after draft at End = with_end draft
after draft at (Does user act) = does_act draft at user act

-- the script that the lines are, or the line of a `par` whose block has no end; 8,192 buffers where no line
-- says how many
abbrev pub finished_by : Option Opened → Program → Result Program ℕ
finished_by None program = Ok program
finished_by (Some block) program = Err block.at

abbrev pub finished : Draft → Result Program ℕ
finished draft = finished_by draft.block (record { pool = unwrap_or draft.pool default_pool; users = draft.users; files = draft.played; units = draft.units })
