-- What the lines of an accepted script keep.
use Rattle.std.specs.Prelude.{ℕ, ◌≤◌, ◌≡◌, true, false, List, length}
use Rattle.std.specs.List.{AllByRecursion as Each}
use Rattle.nm_types.specs.Frames.{Frame}
use Rattle.nm_types.specs.Names.{IsName}
use Rattle.nm_types.specs.Limits.{most_counts, most_pool, most_users, buffer_bytes, most_batch}
use Rattle.vale_script.specs.declared.script.Act.{Act}
use Rattle.vale_script.specs.declared.script.Act.TheVariants as acts
use Rattle.vale_script.specs.declared.script.Line.{Line}
use Rattle.vale_script.specs.declared.script.SlotField.{SlotField}
use Rattle.vale_script.specs.declared.script.SlotField.TheVariants.{Idx, Len, Flags, Ptr}
use Rattle.vale_script.specs.declared.script.Unit.{Unit as Part}
use Rattle.vale_script.specs.declared.script.Unit.TheVariants as parts
use Rattle.vale_script.specs.Replay.{program_says, replayed, MeetNoCause}
use Rattle.vale_script.specs.Rules.{nothing_said}
use Rattle.vale_script.specs.Script.{Program}
use Rattle.vale_words.specs.Words.{is_user_name, is_file_name}

-- the greatest number that a field of a slot holds
abbrev pub most_of : SlotField → ℕ
most_of Idx = 4294967295
most_of Len = 65535
most_of Flags = 65535
most_of Ptr = 18446744073709551615

-- a number of 32 bits
abbrev pub IsNumber : ℕ → Type 0
IsNumber n = n ≤ 4294967295

-- a frame that a buffer holds, without a mark
pub record IsSoundFrame (frame : Frame) : Type 0 where
  pub fits : length frame.bytes ≤ buffer_bytes
  pub unmarked : frame.no_learn ≡ false

abbrev pub IsUserName : List ℕ → Type 0
IsUserName word = is_user_name word ≡ true

abbrev pub IsFileName : List ℕ → Type 0
IsFileName word = is_file_name word ≡ true

-- what a user does that has entered: names are names, and numbers are within the ranges of their places
abbrev pub IsSoundDeed : Act → Type 0
IsSoundDeed acts.Enter = ⊥
IsSoundDeed (acts.Open name tx rx extra) = IsName name × IsNumber tx × IsNumber rx × IsNumber extra
IsSoundDeed (acts.Put name count to from len fill) = IsName name × (count ≤ most_counts) × (len ≤ buffer_bytes)
IsSoundDeed (acts.Hex name frame) = IsName name × IsSoundFrame frame
IsSoundDeed (acts.Play name file batch) = IsName name × IsFileName file × (1 ≤ batch) × (batch ≤ most_batch)
IsSoundDeed (acts.Tx name) = IsName name
IsSoundDeed (acts.Rx name keep) = IsName name
IsSoundDeed (acts.Fwd from to count) = IsName from × IsName to × (count ≤ most_counts)
IsSoundDeed (acts.Poke name side slot field value) = IsName name × (value ≤ most_of field)
IsSoundDeed (acts.Move name side head cur) = IsName name × IsNumber head × IsNumber cur
IsSoundDeed (acts.Swap name side slot other other_side other_slot quiet) = IsName name × IsName other
IsSoundDeed (acts.Extra name i j) = IsName name
IsSoundDeed (acts.Watch monitor target sides) = IsName monitor × IsName target
IsSoundDeed (acts.Stat name) = IsName name
IsSoundDeed (acts.Save name file) = IsName name × IsFileName file
IsSoundDeed (acts.Close name) = IsName name

abbrev pub IsSoundAct : Act → Type 0
IsSoundAct acts.Enter = Unit {0}
IsSoundAct act = IsSoundDeed act

pub record IsSoundLine (users : ℕ) (line : Line) : Type 0 where
  pub least : 1 ≤ line.user
  pub most : line.user ≤ users
  pub act : IsSoundAct line.act

abbrev pub IsSoundUnit : ℕ → Part → Type 0
IsSoundUnit users (parts.Single line) = IsSoundLine users line
IsSoundUnit users (parts.Block lines) = Each (IsSoundLine users) lines

-- The pool has a size that a pool may have. There are at most 64 users, with users' names, and each line is one
-- of theirs whose names are names and whose numbers are in range. The lines, replayed from nothing said, are bad
-- for no cause; they declare these users and play these files.
pub record IsSound (program : Program) : Type 0 where
  pub least : 1 ≤ program.pool
  pub most : program.pool ≤ most_pool
  pub few : length program.users ≤ most_users
  pub names : Each IsUserName program.users
  pub units_are : Each (IsSoundUnit (length program.users)) program.units
  pub causes : MeetNoCause nothing_said (program_says program)
  pub declares : program.users ≡ (replayed nothing_said (program_says program)).users
  pub plays : program.files ≡ (replayed nothing_said (program_says program)).played
