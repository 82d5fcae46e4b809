-- What the entries tell of one frame of an entry: at each port for which the reply names frames
-- whether it was given room there, when its buffers were filled, and which sync read it.
use Rattle.std.specs.Prelude.{ℕ, zero, suc, ◌&&◌, ◌==◌, ◌+◌, ◌-◌, nat_lt, if◌then◌else◌, List, [], ◌∷◌, ◌++◌, length, map, take, sum, Option, Some, None, slice_get}
use Rattle.vale_entry.specs.declared.entry.Ask.{Ask}
use Rattle.vale_entry.specs.declared.entry.Ask.TheVariants.{Send, Grant, Done, Sync, PutKept, Get}
use Rattle.vale_entry.specs.declared.entry.Dest.{Dest}
use Rattle.vale_entry.specs.declared.entry.Entry.{Entry}
use Rattle.vale_entry.specs.declared.entry.Reply.{Reply}
use Rattle.vale_entry.specs.declared.entry.Reply.TheVariants.{Shared}
use Rattle.vale_entry.specs.Legal.{kept_items}
use Rattle.vale_entry.specs.Delivered.{count_gave, gave_by}
use Rattle.vale_entry.specs.Offers.{dests_in}
use Rattle.vale_told.specs.declared.ends.End.{End}
use Rattle.vale_told.specs.declared.fates.Share.{Share}
use Rattle.vale_told.specs.declared.fates.Stay.{Stay}
use Rattle.vale_told.specs.declared.fates.Fate.{Fate}
use Rattle.vale_told.specs.declared.fates.Fate.TheVariants.{Unknown, Pending, Full, Gone, Given}
use Rattle.vale_told.specs.declared.fates.Trace.{Trace}
use Rattle.vale_told.specs.Ends.{ends_by, peer_among}
use Rattle.vale_told.specs.Told.{told_of}

-- how many frames an entry has: those of a Send, those that a Put's other end took, and those that a
-- Sync or a Get gave
abbrev pub frame_count : Ask → Reply → ℕ
frame_count (Send from frames) reply = length frames
frame_count (PutKept at offered) reply = length (kept_items reply)
frame_count (Sync at back) reply = sum (count_gave reply)
frame_count (Get at back) reply = sum (count_gave reply)
frame_count _ reply = 0

-- the entry of this number, counted from 1
abbrev pub entry_at : List Entry → ℕ → Option Entry
entry_at history zero = None
entry_at history (suc i) = slice_get history i

abbrev pub frames_in : Option Entry → ℕ
frames_in None = 0
frames_in (Some entry) = frame_count entry.ask entry.reply

-- The first entry of which something is told.

abbrev pub first_some : {X : Type 0} → Option X → Option X → Option X
first_some None later = later
first_some (Some x) later = Some x

-- of entries of which the first has this number, what is told of the first that tells it
abbrev pub first_from : {X : Type 0} → (ℕ → Entry → Option X) → ℕ → List Entry → Option X
first_from pick number [] = None
first_from pick number (entry ∷ entries) =
    first_some (pick number entry) (first_from pick (number + 1) entries)

-- how the Grant of this number shares out an entry's frames at a port, as its reply says
abbrev pub share_by : ℕ → ℕ → ℕ → Ask → Reply → Option Share
share_by origin to number (Grant at port) (Shared given full gone) =
    if (at == origin) && (port.0 == to) then
    Some (record { by = number; given = given; full = full; gone = gone })
    else None
share_by origin to number _ _ = None

abbrev pub share_in : ℕ → ℕ → ℕ → Entry → Option Share
share_in origin to number entry = share_by origin to number entry.ask entry.reply

abbrev pub share_of : List Entry → ℕ → ℕ → Option Share
share_of history origin to = first_from (share_in origin to) 1 history

-- the number of the Done of a lease
abbrev pub done_by : ℕ → ℕ → Ask → Option ℕ
done_by lease number (Done at) = if at.0 == lease then Some number else None
done_by lease number _ = None

abbrev pub done_in : ℕ → ℕ → Entry → Option ℕ
done_in lease number entry = done_by lease number entry.ask

abbrev pub done_of : List Entry → ℕ → Option ℕ
done_of history lease = first_from (done_in lease) 1 history

-- Frames are read in the order in which they were given: the entry with which a port has read more
-- than `place` frames, among entries of which the first has this number.
abbrev pub reads_at : ℕ → Entry → ℕ
reads_at port entry = sum (gave_by port entry.ask entry.reply)

abbrev pub reader_from : ℕ → ℕ → ℕ → List Entry → Option ℕ
reader_from port number place [] = None
reader_from port number place (entry ∷ entries) =
    if nat_lt place (reads_at port entry) then Some number
    else reader_from port (number + 1) (place - reads_at port entry) entries

-- how many frames a port was given before the entry of this number
abbrev pub given_before : List Entry → ℕ → ℕ → ℕ
given_before history number port =
    (told_of (take (number - 1) history) port).tally.counts.given

-- what is told of a frame that a port was given by this entry, behind so many others of it
abbrev pub stay_of : List Entry → ℕ → ℕ → ℕ → Option ℕ → Stay
stay_of history port place by done = record {
  by = by;
  done = done;
  read = reader_from port 1 (given_before history by port + place) history;
  finished = (told_of history port).finished;
}

-- The first of the frames wanted at a port are given.
abbrev pub fate_in : List Entry → ℕ → ℕ → Share → Fate
fate_in history port place share =
    if nat_lt place share.given then
    Given (stay_of history port place share.by (done_of history share.by))
    else (if nat_lt 0 share.gone then Gone share.by else Full share.by)

-- A share of another number of frames is none that a switch makes.
abbrev pub fate_by : List Entry → ℕ → ℕ → ℕ → Option Share → Fate
fate_by history port count place None = Pending
fate_by history port count place (Some share) =
    if share.given + share.full + share.gone == count then fate_in history port place share
    else Unknown

-- Which frames of an entry are wanted at a port is told only where all of them are.
abbrev pub fate_of : List Entry → ℕ → ℕ → ℕ → Dest → Fate
fate_of history origin all place dest =
    if dest.count == all then
    fate_by history dest.to.0 dest.count place (share_of history origin dest.to.0)
    else Unknown

abbrev pub trace_of : List Entry → ℕ → ℕ → ℕ → Dest → Trace
trace_of history origin all place dest = record {
  to = dest.to.0;
  count = dest.count;
  fate = fate_of history origin all place dest;
}

-- The other end of a pipe is given what it takes with the Put itself.

-- the ends that are open behind entries of which the first has this number
abbrev pub ends_from : ℕ → List End → List Entry → List End
ends_from number ends [] = ends
ends_from number ends (entry ∷ entries) =
    ends_from (number + 1) (ends_by number entry.ask entry.reply ends) entries

abbrev pub ends_before : List Entry → ℕ → List End
ends_before history number = ends_from 1 [] (take (number - 1) history)

abbrev pub peer_trace : List Entry → ℕ → ℕ → ℕ → Option ℕ → List Trace
peer_trace history number all place None = []
peer_trace history number all place (Some peer) =
    (record {
      to = peer;
      count = all;
      fate = Given (stay_of history peer place number (Some number));
    })
    ∷ []

abbrev pub put_trace : List Entry → ℕ → ℕ → ℕ → Ask → List Trace
put_trace history number all place (PutKept at offered) =
    peer_trace history number all place (peer_among (ends_before history number) at.0)
put_trace history number all place _ = []

-- what is told of the frame at this place of an entry, counted from 0, at each port
abbrev pub traces_by : List Entry → ℕ → ℕ → ℕ → Entry → List Trace
traces_by history number all place entry =
    put_trace history number all place entry.ask
    ++ map (trace_of history number all place) (dests_in entry.reply)

abbrev pub traces_in : List Entry → ℕ → ℕ → Option Entry → List Trace
traces_in history number place None = []
traces_in history number place (Some entry) =
    if nat_lt place (frames_in (Some entry)) then
    traces_by history number (frames_in (Some entry)) place entry
    else []

abbrev pub traces_told : List Entry → ℕ → ℕ → List Trace
traces_told history number place = traces_in history number place (entry_at history number)
