-- The frames that are kept of a session's ports while it plays.
use Rattle.std.specs.Prelude.{ℕ, Bool, true, ◌≡◌, ◌++◌, ◌==◌, if◌then◌else◌, List, [], ◌∷◌, length, map, find, bytes_eq, Option, Some, None, IsSome, IfSome, option_map, Result, Ok, Err, Vec}
use Rattle.std.specs.List.{AllByRecursion, list_any}
use Rattle.std.specs.Option.{option_map_or}
use Rattle.std.specs.declared.alloc.Global.{Global}
use Rattle.nm_types.specs.declared.fault.OpenFault.{OpenFault}
use Rattle.nm_types.specs.declared.fault.StepFault.{StepFault}
use Rattle.nm_types.specs.declared.fault.SyncFault.{SyncFault}
use Rattle.nm_types.specs.declared.id.PortId.{PortId}
use Rattle.nm_types.specs.declared.id.Side.TheVariants.{Rx}
use Rattle.nm_types.specs.Frames.{Frame}
use Rattle.nm_types.specs.Sendable.{AreFrames}
use Rattle.nm_types.specs.OwnPorts.{OwnPort, OwnRing, OwnState, ring_at}
use Rattle.pcap_io.specs.declared.record.Record.{Record}
use Rattle.vale_entry.specs.declared.entry.Entry.{Entry}
use Rattle.vale_entry.specs.Legal.{IsLegal}
use Rattle.vale_fabric.specs.Fabrics.{Knowing}
use Rattle.nm_user.specs.declared.receiving.Received.{Received}
use Rattle.nm_user.specs.Sessions.{SessionState, IsThere}
use Rattle.nm_user.specs.PortReads.{IsPortOf}
use Rattle.nm_user.specs.Receives.{IsReceived, ReceivesNot}
use Rattle.nm_user.specs.Saving.{frames_from}
use Rattle.vale_replay.specs.Machine.{Save}
use Rattle.vale_replay.specs.Saved.{SavedFrame, saved_from, saved_frames}
use Rattle.vale_player.specs.declared.frames.SyncEnd.{SyncEnd}
use Rattle.vale_player.specs.Syncing.{EndsRx, sync_end_of}
use Rattle.vale_player.specs.Saving.{HasGone}

-- all of a saved frame is captured
abbrev pub record_of : SavedFrame → Record
record_of frame = record { seconds = frame.seconds; fraction = frame.fraction; original = length frame.bytes; bytes = frame.bytes }

-- a port by its id, with the records that are kept of it
pub record KeptFrames : Type 0 where
  pub id : ℕ
  pub records : List Record

-- The port is the session's, and these are the records of all frames that it has given, by what the
-- session has seen.
pub record IsKept (s : SessionState) (k : KeptFrames) : Type 0 where
  pub port : IsPortOf s.fixed.pool s.knows.seen s.id k.id
  pub records : k.records ≡ map record_of (saved_frames s.fixed.pool s.knows.seen k.id)

abbrev pub AreKept : SessionState → List KeptFrames → Type 0
AreKept s kept = AllByRecursion (IsKept s) kept

-- The ports that are kept, or none any more since memory was wanting.

abbrev pub ports_in : Option (Vec KeptFrames Global) → Option (List KeptFrames)
ports_in ports = option_map (λ (kept : Vec KeptFrames Global). kept.items) ports

-- the port of an id is kept
abbrev pub Keeps : Option (List KeptFrames) → ℕ → Type 0
Keeps None id = Unit {0}
Keeps (Some kept) id = IsSome (find (λ (one : KeptFrames). one.id == id) kept)

-- and so is the port of each note of a file
abbrev pub KeepsAll : Option (List KeptFrames) → List Save → Type 0
KeepsAll kept saves = AllByRecursion (λ (save : Save). Keeps kept save.port.0) saves

-- a name is one of those of whose ports the frames are kept
abbrev pub is_one_of : List (List ℕ) → List ℕ → Bool
is_one_of names name = list_any (λ (one : List ℕ). bytes_eq one name) names

-- a port of such a name is kept
abbrev pub KeepsNamed : List (List ℕ) → Option (List KeptFrames) → OwnPort → Type 0
KeepsNamed names kept p = is_one_of names p.name ≡ true → Keeps kept p.id.0

-- what was kept is kept still
abbrev pub KeepsMore : Option (List KeptFrames) → Option (List KeptFrames) → Type 0
KeepsMore before after = (id : ℕ) → Keeps before id → Keeps after id

-- just these are kept, unless memory was wanting
abbrev pub AreOrLost : Option (List KeptFrames) → Option (List KeptFrames) → Type 0
AreOrLost kept now = IfSome now (λ ports. kept ≡ Some ports)

-- the ports that two have kept, unless memory was wanting for one of them
abbrev pub both_kept : Option (List KeptFrames) → Option (List KeptFrames) → Option (List KeptFrames)
both_kept (Some kept) (Some more) = Some (kept ++ more)
both_kept _ _ = None

-- Between two calls the session is there, and so is what is kept: each of its ports that has one of the
-- names, and the ports of all files that are noted.
pub record IsKeeping (s : SessionState) (names : List (List ℕ)) (saves : List Save) (kept : Option (List KeptFrames)) : Type 0 where
  pub there : IsThere None s
  pub all : IfSome kept (AreKept s)
  pub named : AllByRecursion (KeepsNamed names kept) s.own.ports
  pub noted : KeepsAll kept saves

-- the port of an id is the session's still, and no more is saved of it
pub record SavesNot (s t : SessionState) (id : ℕ) : Type 0 where
  pub port : IsPortOf t.fixed.pool t.knows.seen t.id id
  pub saved : saved_frames t.fixed.pool t.knows.seen id ≡ saved_frames s.fixed.pool s.knows.seen id

-- so it is with all ports of the session
abbrev pub SaveNothing : SessionState → SessionState → Type 0
SaveNothing s t = (id : ℕ) → IsPortOf s.fixed.pool s.knows.seen s.id id → SavesNot s t id

-- what came of a receive sync of a port: it went through, and the session is there, or it failed
pub record ReceivesNothing (s t : SessionState) (id : ℕ) : Type 0 where
  pub fault : SyncFault
  pub not : ReceivesNot s t id fault

abbrev pub SavesBy : SessionState → SessionState → ℕ → Option Received → Type 0
SavesBy s t id None = ReceivesNothing s t id
SavesBy s t id (Some received) = IsReceived s t id received × IsThere None t

-- it made an entry
pub record CameRx (s t : SessionState) (id : ℕ) : Type 0 where
  pub end : SyncEnd
  pub ends : EndsRx s t id end

-- a full record and want of memory stop the user
abbrev pub stop_of_end : Result SyncEnd StepFault → Result (Unit {0}) StepFault
stop_of_end (Ok end) = Ok tt
stop_of_end (Err fault) = Err fault

abbrev pub sync_stop_of : SyncFault → Result (Unit {0}) StepFault
sync_stop_of fault = stop_of_end (sync_end_of fault)

-- the record of a frame of so many bytes, of the entry of a number and at a place in it
abbrev pub record_at : ℕ → ℕ → List ℕ → Record
record_at number place bytes = record_of (record { seconds = number; fraction = place; bytes = bytes })

-- where the tail of a port's receive ring is: what a sync brings then stands from there on
abbrev pub tail_of_ring : OwnRing → ℕ
tail_of_ring r = r.ring.tail

abbrev pub rx_tail : OwnState → ℕ → ℕ
rx_tail own id = option_map_or tail_of_ring (ring_at Rx own id) 0

-- the records of the frames of an entry
abbrev pub records_of : ℕ → List Frame → List Record
records_of number frames = map record_of (saved_from number 0 frames)

-- those of the frames that a receive sync has brought to a port's ring, whose tail was here
abbrev pub new_records : OwnState → ℕ → ℕ → Received → List Record
new_records own id tail received = records_of received.entry (frames_from own id tail)

-- which go behind those of the port
abbrev pub grown_if : OwnState → ℕ → ℕ → Received → KeptFrames → KeptFrames
grown_if own id tail received k = if k.id == id then (record k { records = k.records ++ new_records own id tail received }) else k

-- so it is with all ports that are kept; a sync that brought nothing changes none
abbrev pub kept_received : OwnState → ℕ → ℕ → Option Received → List KeptFrames → List KeptFrames
kept_received own id tail None kept = kept
kept_received own id tail (Some received) kept = map (grown_if own id tail received) kept

-- as many frames have come as the sync says, and each is no longer than frames are
pub record AreReceived (received : Received) (frames : List Frame) : Type 0 where
  pub count : received.gave ≡ length frames
  pub fit : AreFrames frames

abbrev pub HasReceived : OwnState → ℕ → ℕ → Option Received → Type 0
HasReceived own id tail None = Unit {0}
HasReceived own id tail (Some received) = AreReceived received (frames_from own id tail)

-- a port that was opened is kept from then on, if its name is among those whose frames are kept
abbrev pub kept_opened : List (List ℕ) → List ℕ → Result PortId OpenFault → List KeptFrames → List KeptFrames
kept_opened names name (Ok port) kept = if is_one_of names name then kept ++ record { id = port.0; records = [] } ∷ [] else kept
kept_opened names name (Err fault) kept = kept

-- what is kept of a port that is gone is all that it has given
pub record IsWhole (pool : ℕ) (history : List Entry) (k : KeptFrames) : Type 0 where
  pub gone : HasGone pool history k.id
  pub records : k.records ≡ map record_of (saved_frames pool history k.id)

abbrev pub AreWhole : ℕ → List Entry → List KeptFrames → Type 0
AreWhole pool history kept = AllByRecursion (IsWhole pool history) kept

-- and so it is in every longer history
abbrev pub KeptStaysWhole : Type 0
KeptStaysWhole =
    (pool : ℕ) (past more : List Entry) (kept : List KeptFrames) → IsLegal pool (past ++ more) → AreWhole pool past kept → AreWhole pool (past ++ more) kept

-- A pass goes on, and what is kept stays all that its ports gave.
abbrev pub KeepsWhole : ℕ → Knowing → Knowing → Option (List KeptFrames) → Option (List KeptFrames) → Type 0
KeepsWhole pool v w befores afters = IfSome befores (AreWhole pool v.seen) → IfSome afters (AreWhole pool w.seen)
