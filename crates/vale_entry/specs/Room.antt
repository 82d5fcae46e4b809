-- The room of a record: entries stored and promised, and bytes of frames stored.
use Rattle.std.specs.Prelude.{ℕ, Bool, true, false, ◌+◌, ◌*◌, List, length, sum_by, count_by}
use Rattle.nm_types.specs.Frames.{bytes_of_frames}
use Rattle.vale_entry.specs.declared.entry.Ask.{Ask}
use Rattle.vale_entry.specs.declared.entry.Reply.{Reply}
use Rattle.vale_entry.specs.declared.entry.Entry.{Entry}
use Rattle.vale_entry.specs.declared.entry.Ask.TheVariants.{Enter, Open, Send, Grant, Done, Sync, Reset, Shut, Finish, Leave, Put, PutKept, Get, Watch, Stat}
use Rattle.vale_entry.specs.World.{World, Port, is_undone}
use Rattle.vale_entry.specs.Pipe.{frames_of_items}
use Rattle.vale_entry.specs.Legal.{world_of, kept_items}

-- a port owes its Shut, where it is open, and its Finish
abbrev pub owed_by_port : Port → ℕ
owed_by_port port = owed port.shutting
  where
    owed : Bool → ℕ
    owed true = 1
    owed false = 2

abbrev pub undone_of : Port → ℕ
undone_of port = count_by is_undone port.line

-- the entries that are still to come: a Leave for each session, a Shut and a Finish for each open
-- port and a Finish for each shutting one, a Grant and a Done for each offer, a Done for each open
-- lease
abbrev pub promised_of : World → ℕ
promised_of w =
    length w.sessions + sum_by owed_by_port w.ports + 2 * length w.offers + sum_by undone_of w.ports

-- the bytes of frames that an entry keeps: those of the frames sent, and of those that a Put's
-- other end took
abbrev pub bytes_of : Ask → Reply → ℕ
bytes_of (Send port frames) reply = bytes_of_frames frames
bytes_of (Put port offered) reply = bytes_of_frames (frames_of_items (kept_items reply))
bytes_of (PutKept port offered) reply = bytes_of_frames (frames_of_items (kept_items reply))
bytes_of (Enter user) reply = 0
bytes_of (Open session name tx rx extra) reply = 0
bytes_of (Grant origin to) reply = 0
bytes_of (Done lease) reply = 0
bytes_of (Sync port back) reply = 0
bytes_of (Reset port side fault) reply = 0
bytes_of (Shut port) reply = 0
bytes_of (Finish port bufs chain) reply = 0
bytes_of (Leave session) reply = 0
bytes_of (Get port back) reply = 0
bytes_of (Watch monitor target sides) reply = 0
bytes_of (Stat port) reply = 0

abbrev pub bytes_of_entry : Entry → ℕ
bytes_of_entry entry = bytes_of entry.ask entry.reply

abbrev pub frame_bytes : List Entry → ℕ
frame_bytes entries = sum_by bytes_of_entry entries

abbrev pub room_used : ℕ → List Entry → ℕ
room_used pool history = length history + promised_of (world_of pool history)
