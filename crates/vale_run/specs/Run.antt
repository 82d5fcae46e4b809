-- What a run promises, by the status with which it ends.
use Rattle.std.specs.Prelude.{ℕ, Bool, true, false, ◌≡◌, ◌+◌, ◌<◌, ◌≤◌, ◌^◌, ◌⊎◌, if◌then◌else◌, List, [], ◌∷◌, length, map, take, codes, string_bytes, Option, Some, None, IfSome, IsSomeAnd, Ok, Err, bytes_eq}
use Rattle.std.specs.Str.Lines.{lines}
use Rattle.nm_io.specs.Counts.{Rose}
use Rattle.nm_io.specs.Files.{Files}
use Rattle.nm_io.specs.Held.{grown, GrowsByPrefix}
use Rattle.nm_io.specs.declared.shelf.Shelf as shelves
use Rattle.nm_io.specs.declared.sink.Sink as sinks
use Rattle.nm_types.specs.Limits.{most_script_bytes, most_script_lines, most_counts, most_capture_bytes, most_played}
use Rattle.nm_types.specs.declared.limits.Limits.{Limits}
use Rattle.nm_types.specs.declared.fault.Part.{Part}
use Rattle.nm_types.specs.declared.fault.Part.TheVariants as parts
use Rattle.nm_types.specs.declared.fault.StepFault.TheVariants.{RecordFull}
use Rattle.vale_entry.specs.declared.entry.Ask.{Ask}
use Rattle.vale_entry.specs.declared.entry.Entry.{Entry}
use Rattle.vale_entry.specs.Holdings.{is_buffer_index}
use Rattle.vale_entry.specs.Legal.{IsLegal, standing_of}
use Rattle.vale_entry.specs.Transcript.{transcript_text}
use Rattle.vale_book.specs.Recorded.{IsRefusal, HadRoom}
use Rattle.vale_script.specs.Grammar.{script_of}
use Rattle.vale_script.specs.Script.{Program}
use Rattle.vale_script.specs.Sound.{IsSound}
use Rattle.vale_captures.specs.declared.inputs.InputFault.{InputFault}
use Rattle.vale_captures.specs.declared.inputs.InputFault.TheVariants as inputs
use Rattle.vale_captures.specs.Inputs.{InputFile, HasContents, AreInputs, StopsAtFile, frames_of}
use Rattle.vale_captures.specs.Outputs.{OutputFile, all_appended, StopsAtOutput}
use Rattle.vale_replay.specs.Machine.{Machine}
use Rattle.vale_replay.specs.Replay.{Cast, HasPlayed}
use Rattle.vale_replay.specs.Stops.{HasStopped}
use Rattle.vale_replay.specs.Laws.{HaveLeft}
use Rattle.vale_replay.specs.Owners.{AreAlwaysOwnedOnce, Pool, owners_of}
use Rattle.vale_act.specs.Outputs.{outputs_of}
use Rattle.vale_captures.specs.Counting.{counts_of, frames_played}
use Rattle.vale_run.specs.Delivery.{Delivers}
use Rattle.vale_run.specs.declared.status.What.TheVariants.{Script, Lines, Counts, Inputs, Frames, Entries, Bytes, Text}
use Rattle.vale_run.specs.declared.status.Status.{Status}
use Rattle.vale_run.specs.declared.status.Status.TheVariants.{Done, Usage, BadScript, ReadFault, WriteFault, BadPcap, Over, NoMemory, BadText}
use Rattle.vale_run.specs.Status.{offset_of}

-- of a verb and one word more, where the verb is this one: that word
abbrev pub word_behind : List ℕ → List (List ℕ) → Option (List ℕ)
word_behind verb (first ∷ word ∷ []) = if bytes_eq first verb then Some word else None
word_behind verb _ = None

-- the words `run SCRIPT`, of which this gives the script's name
abbrev pub script_name : List (List ℕ) → Option (List ℕ)
script_name words = word_behind (codes "run") words

-- What a call sees of the shelf and the sink, before it and after it: their contents, where they are
-- told, and their counts of faults.
pub record Io : Type 0 where
  pub files : Option Files
  pub new_files : Option Files
  pub reads : List ℕ → ℕ × ℕ
  pub appends : List ℕ → ℕ × ℕ
  pub holds : Option (List ℕ)
  pub new_holds : Option (List ℕ)
  pub writes : ℕ × ℕ

-- this, of a shelf and a sink before a call and after it
abbrev pub io_of : {S K : Type 0} → shelves.Ghosts S → sinks.Ghosts K → S → S → K → K → Io
io_of s k shelf new_shelf out new_out = record {
  files = s.files shelf;
  new_files = s.files new_shelf;
  reads = λ name. (s.read_faults shelf name, s.read_faults new_shelf name);
  appends = λ name. (s.append_faults shelf name, s.append_faults new_shelf name);
  holds = k.holds out;
  new_holds = k.holds new_out;
  writes = (k.faults out, k.faults new_out);
}

-- no count of faults falls
pub record CountsRise (io : Io) : Type 0 where
  pub reads : (other : List ℕ) → (io.reads other).0 ≤ (io.reads other).1
  pub appends : (other : List ℕ) → (io.appends other).0 ≤ (io.appends other).1
  pub writes : io.writes.0 ≤ io.writes.1

-- a count rose
abbrev pub HasRisen : ℕ × ℕ → Type 0
HasRisen counts = Rose counts.0 counts.1

-- nothing was written
pub record WritesNothing (io : Io) : Type 0 where
  pub sink : io.new_holds ≡ io.holds
  pub shelf : io.new_files ≡ io.files

-- What is known of a run, step by step.

-- a script was read: these are the bytes of its name, where the shelf tells them
pub record IsScript (files : Option Files) (name script : List ℕ) : Type 0 where
  pub told : HasContents files name script
  pub short : length script ≤ most_script_bytes

-- it has few lines, each of which says something right
pub record IsAccepted (files : Option Files) (name : List ℕ) (program : Program) : Type 0 where
  pub script : List ℕ
  pub is_script : IsScript files name script
  pub few_lines : length (lines script) ≤ most_script_lines
  pub says : script_of script ≡ Ok program

-- it puts few frames
pub record IsCounted (files : Option Files) (name : List ℕ) (program : Program) : Type 0 where
  pub accepted : IsAccepted files name program
  pub few_counts : counts_of program ≤ most_counts

-- the captures were read that it plays
pub record HasInputs (files : Option Files) (name : List ℕ) (program : Program) (played : List InputFile) : Type 0 where
  pub counted : IsCounted files name program
  pub size : ℕ
  pub read : AreInputs files program.files played size
  pub within : size ≤ most_capture_bytes

-- it plays few of their frames
pub record IsReady (files : Option Files) (name : List ℕ) (program : Program) (played : List InputFile) : Type 0 where
  pub has_inputs : HasInputs files name program played
  pub few_frames : frames_played program played ≤ most_played

-- one of the captures was not read
pub record StopsAtInput (files : Option Files) (reads : List ℕ → ℕ × ℕ) (name : List ℕ) (fault : InputFault) (which : List ℕ) : Type 0 where
  pub program : Program
  pub counted : IsCounted files name program
  pub at : ℕ
  pub stops : StopsAtFile files program.files most_capture_bytes reads at fault
  pub name_is : stops.name ≡ which

-- What is written.

-- at a history's end the pool owns all its buffers
abbrev pub ComeBack : ℕ → List Entry → List Machine → Type 0
ComeBack pool history users =
    (b : ℕ) → owners_of (standing_of pool history) users b ≡ (if is_buffer_index pool b then Pool ∷ [] else [])

-- a transcript tells its history: no other legal history of fewer than 2^32 entries, of a pool with fewer
-- buffers, has this text
abbrev pub TellsHistory : ℕ → List Entry → Type 0
TellsHistory pool history =
    (buffers : ℕ) (other : List Entry) → buffers < 2 ^ 32 → length other < 2 ^ 32 → IsLegal buffers other
    → transcript_text buffers other ≡ transcript_text pool history → (buffers ≡ pool) × (other ≡ history)

-- The history is one that a switch of one thread may have had, and the script is played by it: it has
-- each of the script's calls once, in its user's order; of a script without blocks there is one such
-- history at most (`plays_one_history` of vale_replay). It is told by its transcript, the record had
-- room for each of its entries, it delivers each frame, or counts it as dropped, and at every entry each
-- buffer has one owner. At its end nobody is there, and all buffers are the pool's.
pub record IsHistoryOf (limits : Limits) (program : Program) (played : List InputFile) (history : List Entry) (cast : Cast) : Type 0 where
  pub legal : IsLegal program.pool history
  pub plays : HasPlayed program (map frames_of played) history cast
  pub told : TellsHistory program.pool history
  pub region : ℕ
  pub roomy : HadRoom (record { pool = program.pool; region = region; limits = limits; entries = history })
  pub delivers : Delivers program.pool history
  pub owned : AreAlwaysOwnedOnce program (map frames_of played) history
  pub left : HaveLeft program.pool history cast.users
  pub back : ComeBack program.pool history cast.users

-- A run of a script that was read, with its captures.
pub record HistoryOf (limits : Limits) (files : Option Files) (name : List ℕ) : Type 0 where
  pub program : Program
  pub played : List InputFile
  pub ready : IsReady files name program played
  pub entries : List Entry
  pub cast : Cast
  pub history : IsHistoryOf limits program played entries cast

abbrev pub text_in : {limits : Limits} {files : Option Files} {name : List ℕ} → HistoryOf limits files name → List ℕ
text_in h = transcript_text h.program.pool h.entries

abbrev pub saved_in : {limits : Limits} {files : Option Files} {name : List ℕ} → HistoryOf limits files name → List OutputFile
saved_in h = outputs_of h.program h.entries h.cast.users

-- this text was written, and each of these captures is at the end of its file
pub record WritesWhole (text : List ℕ) (saved : List OutputFile) (io : Io) : Type 0 where
  pub sink : io.new_holds ≡ grown io.holds text
  pub shelf : io.new_files ≡ all_appended io.files saved

-- a prefix of the text was written
pub record WritesText (text : List ℕ) (io : Io) (failed : Bool) : Type 0 where
  pub sink : GrowsByPrefix io.holds io.new_holds text
  pub shelf : io.new_files ≡ io.files
  pub rose : failed ≡ true → HasRisen io.writes

-- or all of it, with the first captures, and a prefix of the next one
pub record WritesSaved (text : List ℕ) (saved : List OutputFile) (io : Io) (failed : Bool) : Type 0 where
  pub sink : io.new_holds ≡ grown io.holds text
  pub shelf : StopsAtOutput io.files io.new_files saved io.appends failed

abbrev pub WritesPart : List ℕ → List OutputFile → Io → Bool → Type 0
WritesPart text saved io failed = WritesText text io failed ⊎ WritesSaved text saved io failed

-- In a history of a sound script for which the record had room some users stopped, the one with the smallest
-- number at this call: it comes next after so many entries, and the record was full for it. Each user of a
-- smaller number has played its lines to the end of its block. How far users of a larger number went in it
-- is left free, and so are the entries behind the block's, those with which the sessions are closed: the run
-- writes none of this history.
pub record StopsFull (limits : Limits) (files : Option Files) (name : List ℕ) (part : Part) (count : ℕ) : Type 0 where
  pub program : Program
  pub played : List InputFile
  pub ready : IsReady files name program played
  pub sound : IsSound program
  pub history : List Entry
  pub region : ℕ
  pub roomy : HadRoom (record { pool = program.pool; region = region; limits = limits; entries = history })
  pub before : ℕ
  pub user : ℕ
  pub call : Ask
  pub stopped : HasStopped program (map frames_of played) history before user call
  pub used : ℕ
  pub want : ℕ
  pub refused : IsRefusal (record { pool = program.pool; region = region; limits = limits; entries = take before history }) call (RecordFull part used want)
  pub counted : count ≡ used + want

-- The script of this name was run, and this is how the run ended. Want of memory is the one status that
-- needs no cause.
abbrev pub Ends : Limits → Io → List ℕ → Status → Type 0
Ends limits io name Usage = ⊥
Ends limits io name (BadText which line) = ⊥
Ends limits io name (Over Text count limit) = ⊥
Ends limits io name (ReadFault which) =
    (((string_bytes which ≡ name) × HasRisen (io.reads name)) ⊎ StopsAtInput io.files io.reads name inputs.Failed (string_bytes which)) × WritesNothing io
Ends limits io name (Over Script count limit) =
    (count ≡ most_script_bytes + 1) × ((limit ≡ most_script_bytes) × (IfSome io.files (λ all. IsSomeAnd (all name) (λ script. most_script_bytes < length script)) × WritesNothing io))
Ends limits io name (Over Lines count limit) =
    (script : List ℕ) × (IsScript io.files name script × ((count ≡ length (lines script)) × ((most_script_lines < count) × ((limit ≡ most_script_lines) × WritesNothing io))))
Ends limits io name (BadScript line cause) =
    (script : List ℕ) × (IsScript io.files name script × ((length (lines script) ≤ most_script_lines) × ((script_of script ≡ Err (record { line = line; cause = cause })) × WritesNothing io)))
Ends limits io name (Over Counts count limit) =
    (program : Program) × (IsAccepted io.files name program × ((count ≡ counts_of program) × ((most_counts < count) × ((limit ≡ most_counts) × WritesNothing io))))
Ends limits io name (Over Inputs count limit) =
    (which : List ℕ) × (StopsAtInput io.files io.reads name inputs.TooLong which × ((count ≡ most_capture_bytes + 1) × ((limit ≡ most_capture_bytes) × WritesNothing io)))
Ends limits io name (BadPcap which offset cause) =
    StopsAtInput io.files io.reads name (inputs.BadPcap cause) (string_bytes which) × ((offset ≡ offset_of cause) × WritesNothing io)
Ends limits io name (Over Frames count limit) =
    (program : Program) × ((played : List InputFile) × (HasInputs io.files name program played
    × ((count ≡ frames_played program played) × ((most_played < count) × ((limit ≡ most_played) × WritesNothing io)))))
Ends limits io name (Over Entries count limit) = StopsFull limits io.files name parts.Entries count × ((limit ≡ limits.entries) × WritesNothing io)
Ends limits io name (Over Bytes count limit) = StopsFull limits io.files name parts.Bytes count × ((limit ≡ limits.bytes) × WritesNothing io)
Ends limits io name WriteFault = (run : HistoryOf limits io.files name) × WritesPart (text_in run) (saved_in run) io true
Ends limits io name NoMemory = WritesNothing io ⊎ ((run : HistoryOf limits io.files name) × WritesPart (text_in run) (saved_in run) io false)
Ends limits io name Done = (run : HistoryOf limits io.files name) × WritesWhole (text_in run) (saved_in run) io
