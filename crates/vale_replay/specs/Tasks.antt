-- What a line has its user do, one step after another.
use Rattle.std.specs.Prelude.{ℕ, ◌==◌, ◌-◌, if◌then◌else◌, nat_le, Bool, List, [], ◌∷◌, ◌++◌, length, take, filter, flat_map, replicate, bytes_eq}
use Rattle.nm_types.specs.Limits.{buffer_bytes, most_frame_bytes}
use Rattle.nm_types.specs.Names.{is_pipe_name}
use Rattle.nm_types.specs.declared.id.Mac.{Mac}
use Rattle.nm_types.specs.declared.id.Sides.{Sides}
use Rattle.vale_script.specs.declared.script.Act.{Act}
use Rattle.vale_script.specs.declared.script.Act.TheVariants as acts

-- Each task makes one call at most. A line that puts many frames puts them one by one, and a port
-- is shut and then finished.
pub data Task : Type 0 where
  Arrive : Task
  OpenPort : (name : List ℕ) → (tx rx extra : ℕ) → Task
  PutFrame : (name bytes : List ℕ) → Task
  SendFrames : (name : List ℕ) → Task
  TakeFrames : (name : List ℕ) → Task
  ChangeOwn : (act : Act) → Task
  SaveFrames : (name file : List ℕ) → Task
  WatchPort : (monitor target : List ℕ) → (sides : Sides) → Task
  ReadCounts : (name : List ℕ) → Task
  ShutPort : (name : List ℕ) → Task
  FinishPort : (name : List ℕ) → Task
  Depart : Task
  EndLine : Task

-- for each file that a script plays, in their order, the captured bytes of its records
abbrev pub Captures : Type 0
Captures = List (List (List ℕ))

-- the records of a file
abbrev pub records_of : List (List ℕ) → Captures → List ℕ → List (List ℕ)
records_of [] captures file = []
records_of (name ∷ names) [] file = []
records_of (name ∷ names) (records ∷ captures) file =
    if bytes_eq name file then records else records_of names captures file

-- the first `len` bytes of destination, source, 88 b5 and the fill byte repeated
abbrev pub frame_of_put : Mac → Mac → ℕ → ℕ → List ℕ
frame_of_put to from len fill = take len (to.0 ++ (from.0 ++ (136 ∷ 181 ∷ replicate len fill)))

-- the bytes of a record that is played at a port of this name, at most: a pipe's end takes a buffer's
abbrev pub most_to_play : List ℕ → ℕ
most_to_play name = if is_pipe_name name then buffer_bytes else most_frame_bytes

-- records of so many bytes are put, and longer ones passed over
abbrev pub fits_to_play : List ℕ → List ℕ → Bool
fits_to_play name bytes = nat_le (length bytes) (most_to_play name)

-- Frames one after another, with a sync behind each `batch` of them and behind the last one; so
-- many are still to be put before the next sync.
abbrev pub played_before_sync : List ℕ → ℕ → ℕ → List (List ℕ) → List Task
played_before_sync name batch left [] = if left == batch then [] else SendFrames name ∷ []
played_before_sync name batch left (bytes ∷ frames) =
    if left == 1 then PutFrame name bytes ∷ SendFrames name ∷ played_before_sync name batch batch frames
    else PutFrame name bytes ∷ played_before_sync name batch (left - 1) frames

abbrev pub played : List ℕ → ℕ → List (List ℕ) → List Task
played name batch frames = played_before_sync name batch batch (filter (fits_to_play name) frames)

-- what a line has its user do; `records` gives the records of a file
abbrev pub tasks_of : (List ℕ → List (List ℕ)) → Act → List Task
tasks_of records acts.Enter = Arrive ∷ []
tasks_of records (acts.Open name tx rx extra) = OpenPort name tx rx extra ∷ []
tasks_of records (acts.Put name count to from len fill) =
    replicate count (PutFrame name (frame_of_put to from len fill))
tasks_of records (acts.Hex name frame) = PutFrame name frame.bytes ∷ []
tasks_of records (acts.Play name file batch) = played name batch (records file)
tasks_of records (acts.Tx name) = SendFrames name ∷ []
tasks_of records (acts.Rx name keep) =
    if keep then TakeFrames name ∷ [] else ChangeOwn (acts.Rx name keep) ∷ TakeFrames name ∷ []
tasks_of records (acts.Fwd from to count) = ChangeOwn (acts.Fwd from to count) ∷ []
tasks_of records (acts.Poke name side slot field value) =
    ChangeOwn (acts.Poke name side slot field value) ∷ []
tasks_of records (acts.Move name side head cur) = ChangeOwn (acts.Move name side head cur) ∷ []
tasks_of records (acts.Swap name side slot other other_side other_slot quiet) =
    ChangeOwn (acts.Swap name side slot other other_side other_slot quiet) ∷ []
tasks_of records (acts.Extra name i j) = ChangeOwn (acts.Extra name i j) ∷ []
tasks_of records (acts.Watch monitor target sides) = WatchPort monitor target sides ∷ []
tasks_of records (acts.Stat name) = ReadCounts name ∷ []
tasks_of records (acts.Save name file) = SaveFrames name file ∷ []
tasks_of records (acts.Close name) = ShutPort name ∷ FinishPort name ∷ []

abbrev pub tasks_of_line : (List ℕ → List (List ℕ)) → Act → List Task
tasks_of_line records act = tasks_of records act ++ EndLine ∷ []

abbrev pub tasks_of_lines : (List ℕ → List (List ℕ)) → List Act → List Task
tasks_of_lines records acts = flat_map (tasks_of_line records) acts

-- what is left to do once the line under way ends early
abbrev pub lines_left : List Task → List Task
lines_left [] = []
lines_left (EndLine ∷ tasks) = EndLine ∷ tasks
lines_left (_ ∷ tasks) = lines_left tasks
