-- Shorter ways to write the worked examples.
use Rattle.std.specs.Prelude.{ℕ, ◌≡◌, true, false, List, [], ◌∷◌, ◌++◌, Option, Some, None, map, option_map, get_or, drop, replicate}
use Rattle.std.proofs.Common.{ap}
use Rattle.nm_types.specs.Frames.{Frame}
use Rattle.nm_types.specs.declared.id.Counts.{Counts}
use Rattle.nm_types.specs.declared.id.Chain.{Chain}
use Rattle.nm_types.specs.declared.id.PortId.{PortId}
use Rattle.nm_types.specs.declared.id.SessionId.{SessionId}
use Rattle.vale_entry.specs.declared.entry.Ask.{Ask}
use Rattle.vale_entry.specs.declared.entry.Ask.TheVariants.{Enter, Open, Grant, Done, Leave}
use Rattle.vale_entry.specs.declared.entry.Dest.{Dest}
use Rattle.vale_entry.specs.declared.entry.Entry.{Entry}
use Rattle.vale_entry.specs.declared.entry.Item.{Item}
use Rattle.vale_entry.specs.declared.entry.Reply.{Reply}
use Rattle.vale_entry.specs.Legal.{Standing, IsLegal, IsLegalFrom, after, fresh_standing, recorded_step, session_and_reply}
use Rattle.vale_entry.specs.declared.entry.Reply.TheVariants.{Made, Opened, Shared}

abbrev pub entry : ℕ → Ask → Reply → Entry
entry session ask reply = record { session = record { 0 = session }; ask = ask; reply = reply }

abbrev pub port : ℕ → PortId
port id = record { 0 = id }

abbrev pub session : ℕ → SessionId
session id = record { 0 = id }

-- an opening without extra buffers
abbrev pub opening : ℕ → List ℕ → ℕ → ℕ → Ask
opening id name tx rx = Open (session id) name tx rx 0

-- a session that comes, and a port that it opens with rings of these sizes
abbrev pub entered : ℕ → Entry
entered id = entry id (Enter id) Made

abbrev pub opened : ℕ → List ℕ → ℕ → ℕ → Entry
opened id name tx rx = entry id (opening id name tx rx) Opened

abbrev pub completes : ℕ → Ask
completes number = Done (record { 0 = number })

-- the offer of one frame to a port is granted as the entry of this number, and that lot done in the
-- next
abbrev pub delivered : ℕ → ℕ → ℕ → ℕ → List Entry
delivered session origin to number =
    entry session (Grant origin (port to)) (Shared 1 0 0)
    ∷ entry session (completes number) Made
    ∷ []

abbrev pub left : ℕ → Ask
left id = Leave (session id)

abbrev pub no_chain : Chain
no_chain = record { found = 0; astray = 0 }

abbrev pub dest : ℕ → ℕ → Dest
dest to count = record { to = record { 0 = to }; count = count }

abbrev pub counters : ℕ → ℕ → ℕ → ℕ → ℕ → ℕ → Counts
counters sent short lone given full read =
    record { sent = sent; short = short; lone = lone; given = given; full = full; read = read }

-- frames, and those that teach nothing
abbrev pub bytes : List ℕ → Frame
bytes bs = record { bytes = bs; no_learn = false }

abbrev pub marked : Frame → Frame
marked frame = record frame { no_learn = true }

abbrev pub item : ℕ → List ℕ → Item
item index bs = record { index = index; bytes = bytes bs }

-- an address of one station, and that of all
abbrev pub mac : ℕ → List ℕ
mac last = 2 ∷ 0 ∷ 0 ∷ 0 ∷ 0 ∷ last ∷ []

abbrev pub everyone : List ℕ
everyone = replicate 6 255

-- a frame with addresses and a type alone
abbrev pub packet : List ℕ → List ℕ → Frame
packet to from = bytes (to ++ from ++ 136 ∷ 181 ∷ [])

abbrev pub frame_f : Frame
frame_f = packet everyone (mac 10)

-- one of 60 bytes
abbrev pub frame_h : Frame
frame_h = bytes (frame_f.bytes ++ replicate 46 17)

-- what each entry of a history is to say, and what it says
abbrev pub due_in : Standing → List Entry → List (Option (ℕ × Reply))
due_in s [] = []
due_in s (entry ∷ entries) =
    option_map session_and_reply (recorded_step s entry.ask entry.reply)
    ∷ due_in (after s entry) entries

abbrev pub said_by : Entry → Option (ℕ × Reply)
said_by entry = Some (entry.session.0, entry.reply)

-- histories that begin with a pool of so many buffers: where their entries say what is due, they are
-- legal
abbrev pub AreLegal : ℕ → List (List Entry) → Type 0
AreLegal pool [] = Unit {0}
AreLegal pool (history ∷ histories) = IsLegal pool history × AreLegal pool histories

legal_from : (s : Standing) (history : List Entry) → due_in s history ≡ map said_by history
    → IsLegalFrom s history
legal_from s [] same = tt
legal_from s (entry ∷ entries) same = (
  ap (λ said. get_or said 0 None) same,
  legal_from (after s entry) entries (ap (λ said. drop 1 said) same),
)

pub are_legal : (pool : ℕ) (histories : List (List Entry))
    → map (due_in (fresh_standing pool)) histories ≡ map (map said_by) histories
    → AreLegal pool histories
are_legal pool [] same = tt
are_legal pool (history ∷ histories) same = (
  legal_from (fresh_standing pool) history (ap (λ said. get_or said 0 []) same),
  are_legal pool histories (ap (λ said. drop 1 said) same),
)
