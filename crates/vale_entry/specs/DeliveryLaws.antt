-- Laws of delivery, as statements: what is given, read, dropped and counted in every legal history.
use Rattle.std.specs.Prelude.{ℕ, true, false, ◌≡◌, ◌≢◌, ◌+◌, ◌<◌, ◌≤◌, ◌⊎◌, min, List, [], ◌∷◌, ◌++◌, length, map, take, replicate, sum, count_by, flat_map, filter_map, slice_get, Option, Some, None}
use Rattle.std.specs.List.{AllByRecursion}
use Rattle.nm_types.specs.Frames.{Frame, size_of_frames}
use Rattle.nm_types.specs.declared.id.PortId.{PortId}
use Rattle.vale_entry.specs.declared.entry.Ask.TheVariants.{Send}
use Rattle.vale_entry.specs.declared.entry.Dest.{Dest}
use Rattle.vale_entry.specs.declared.entry.Reply.{Reply}
use Rattle.vale_entry.specs.declared.entry.Reply.TheVariants.{Offered}
use Rattle.vale_entry.specs.declared.entry.Entry.{Entry}
use Rattle.vale_entry.specs.World.{World, Port, Pair, Offer, open_port, space_of}
use Rattle.vale_entry.specs.Learning.{is_short}
use Rattle.vale_entry.specs.Lookup.{Named, named_frames, is_named, is_lone}
use Rattle.vale_entry.specs.Offers.{port_of_dest, dests_in, dest_wanting}
use Rattle.vale_entry.specs.Legal.{named_of, world_of, standing_of, IsLegal, Follows}
use Rattle.vale_entry.specs.Leases.{leases_granted, leases_ended, times, leases_standing}
use Rattle.vale_entry.specs.Laws.{Rise}
use Rattle.vale_entry.specs.Delivered.{port_at, frames_of_line, Brought, frames_brought, count_brought, put_by, brought_to, given_frames, given_counts, read_frames, read_counts, returned_counts, unread_counts}
use Rattle.vale_entry.specs.Counters.{counts_of}
use Rattle.vale_entry.specs.Counted.{counts_told}
use Rattle.vale_entry.specs.Fate.{wanted_at, offers_at, Share, share_in, shares_at, granted_at, puts_at, Fate, Pending, Given, Full, Gone, fates_at, given_of, entries_of, origin_of, brought_between}

-- What was given to a port is what it read, and behind that a rest: the frames in its line while
-- the port is there, and once it is gone as many as its one Finish counted.
pub record IsReadInOrder (given read : List Frame) (found : Option Port) (unread : List ℕ)
    : Type 0 where
  pub rest : List Frame
  pub in_order : given ≡ read ++ rest
  pub queued : (port : Port) → found ≡ Some port → rest ≡ frames_of_line port.line
  pub counted : AllByRecursion (λ count. length rest ≡ count) unread
  pub counted_once : length unread ≤ 1
  pub else_none : found ≡ None → unread ≡ [] → rest ≡ []

abbrev pub ReadIsPrefixOfGiven : Type 0
ReadIsPrefixOfGiven = (pool : ℕ) (history : List Entry) → IsLegal pool history → (port : ℕ)
    → IsReadInOrder (given_frames pool history port) (read_frames pool history port)
    (port_at (world_of pool history).ports port) (unread_counts history port)

-- What is brought to a port is, each time, a prefix of the frames of an entry that are wanted
-- there, or the frames that a Put's other end took.
abbrev pub IsPrefixOfWanted : ℕ → List Entry → ℕ → Brought → Type 0
IsPrefixOfWanted pool history port brought =
    (rest : List Frame) × (wanted_at pool history brought.origin port ≡ brought.frames ++ rest)

abbrev pub IsTaken : ℕ → List Entry → ℕ → Brought → Type 0
IsTaken pool history port brought = puts_at pool history brought.origin port ≡ brought ∷ []

abbrev pub IsBroughtFor : ℕ → List Entry → ℕ → Brought → Type 0
IsBroughtFor pool history port brought =
    IsPrefixOfWanted pool history port brought ⊎ IsTaken pool history port brought

abbrev pub GivenOnlyByWanted : Type 0
GivenOnlyByWanted = (pool : ℕ) (history : List Entry) → IsLegal pool history → (port : ℕ)
    → AllByRecursion (IsBroughtFor pool history port) (brought_to pool history port)

-- What a Put brings to a port is not wanted there beside.
pub record IsPutOnce (puts : List Brought) (wanted : List Frame) : Type 0 where
  pub once : length puts ≤ 1
  pub alone : (puts ≡ []) ⊎ (wanted ≡ [])

abbrev pub PutsBringOnce : Type 0
PutsBringOnce = (pool : ℕ) (history : List Entry) → IsLegal pool history → (number to : ℕ)
    → IsPutOnce (puts_at pool history number to) (wanted_at pool history number to)

-- It is what the Put's reply says was taken, if the port is the other end as the Put is made, and
-- else nothing.
abbrev pub PutsAreOfReply : Type 0
PutsAreOfReply = (pool : ℕ) (past : List Entry) (entry : Entry) (rest : List Entry) (to : ℕ)
    → puts_at pool (past ++ entry ∷ rest) (length past + 1) to
    ≡ put_by to (world_of pool past) entry.ask entry.reply

-- A short frame is named for no port of the switch. A frame is lone exactly where it is long enough
-- and named for no port of the switch.
abbrev pub IsForNobody : List Port → Port → Named → Type 0
IsForNobody ports sender named =
    AllByRecursion (λ port. is_named sender named.destination port ≡ false) ports

pub record IsNamedFor (ports : List Port) (sender : Port) (named : Named) : Type 0 where
  pub short_for_nobody : is_short named.frame ≡ true → IsForNobody ports sender named
  pub lone_for_nobody : is_lone ports sender named ≡ true → IsForNobody ports sender named
  pub lone_is_long : is_lone ports sender named ≡ true → is_short named.frame ≡ false
  pub else_lone :
      is_short named.frame ≡ false → IsForNobody ports sender named
      → is_lone ports sender named ≡ true

abbrev pub ShortAndLoneAreForNobody : Type 0
ShortAndLoneAreForNobody =
    (ports : List Port) (sender : Port) (pairs : List Pair) (frames : List Frame)
    → AllByRecursion (IsNamedFor ports sender) (named_frames ports sender pairs frames)

-- A Send is of an open port, and its reply counts which of its frames are short and which lone.
pub record IsToldOfSend (w : World) (from : ℕ) (frames : List Frame) (reply : Reply) : Type 0 where
  pub sender : Port
  pub sender_is : open_port w.ports from ≡ Some sender
  pub told :
      reply
      ≡ Offered (count_by is_short frames)
      (count_by (is_lone w.ports sender) (named_of w sender frames)) (dests_in reply)
  pub named : AllByRecursion (IsNamedFor w.ports sender) (named_of w sender frames)

abbrev pub SendsTellShortAndLone : Type 0
SendsTellShortAndLone =
    (pool : ℕ) (history : List Entry) → IsLegal pool history → (count : ℕ) (entry : Entry)
    → slice_get history count ≡ Some entry
    → (from : PortId) (frames : List Frame) → entry.ask ≡ Send from frames
    → IsToldOfSend (world_of pool (take count history)) from.0 frames entry.reply

-- The destinations in an entry's reply are just the ports at which frames of it are wanted, by
-- rising id, each with how many those are. At no port that is not there anything is wanted.
pub record AreJustWanting (w : World) (wanted : ℕ → List Frame) (dests : List Dest) : Type 0 where
  pub just : dests ≡ filter_map (λ (port : Port). dest_wanting port.id (wanted port.id)) w.ports
  pub rising : Rise 0 (map port_of_dest dests) w.entry_count
  pub none_elsewhere : (to : ℕ) → port_at w.ports to ≡ None → wanted to ≡ []

abbrev pub RepliesNameTheWanting : Type 0
RepliesNameTheWanting =
    (pool : ℕ) (history : List Entry) → IsLegal pool history → (count : ℕ) (entry : Entry)
    → slice_get history count ≡ Some entry
    → AreJustWanting (world_of pool (take count history)) (wanted_at pool history (count + 1))
    (dests_in entry.reply)

-- The frames of an entry that are wanted at a port stand in one offer until one Grant shares them
-- out: its reply counts each of them, for one cause at most, and those given are the first ones.
pub record AreSharedOnce (wanted : List Frame) (offers : List Offer) (shares : List Share)
    (granted : List Brought) : Type 0 where
  pub once : length offers + length shares ≡ min 1 (length wanted)
  pub offered : AllByRecursion (λ offer. offer.frames ≡ wanted) offers
  pub counted :
      AllByRecursion (λ share. share.given + share.full + share.gone ≡ length wanted) shares
  pub one_cause : AllByRecursion (λ share. (share.full ≡ 0) ⊎ (share.gone ≡ 0)) shares
  pub first_given : map frames_brought granted ≡ map (λ share. take share.given wanted) shares

abbrev pub WantedIsSharedOnce : Type 0
WantedIsSharedOnce = (pool : ℕ) (history : List Entry) → IsLegal pool history → (number to : ℕ)
    → AreSharedOnce (wanted_at pool history number to) (offers_at (world_of pool history) number to)
    (shares_at history number to) (granted_at pool history number to)

-- Each wanted frame has one fate: all are pending before the Grant; after it the first ones are
-- given, and the others full, or gone, as many as its reply says.
pub record HaveFates (fates : List Fate) (wanted : List Frame) (shares : List Share) : Type 0 where
  pub pending : shares ≡ [] → fates ≡ replicate (length wanted) Pending
  pub counted :
      AllByRecursion
      (λ share.
      fates
      ≡ replicate share.given Given ++ (replicate share.full Full ++ replicate share.gone Gone))
      shares

abbrev pub DroppedFramesAreCounted : Type 0
DroppedFramesAreCounted = (pool : ℕ) (history : List Entry) → IsLegal pool history → (number to : ℕ)
    → HaveFates (fates_at pool history number to) (wanted_at pool history number to)
    (shares_at history number to)

-- A Grant drops frames for a cause: they are gone where the port is not open; they are full where
-- it is open, those given fit its space, and one more does not.
pub record HasCause (found : Option Port) (wanted : List Frame) (share : Share) : Type 0 where
  pub gone_closed : 0 < share.gone → found ≡ None
  pub full_open :
      0 < share.full
      → (port : Port)
      × ((found ≡ Some port) × (space_of port < size_of_frames (take (share.given + 1) wanted)))
  pub given_fits :
      (port : Port) → found ≡ Some port → size_of_frames (take share.given wanted) ≤ space_of port

abbrev pub FramesAreDroppedForCause : Type 0
FramesAreDroppedForCause =
    (pool : ℕ) (history : List Entry) (entry : Entry) → IsLegal pool history
    → Follows (standing_of pool history) entry → (number to : ℕ)
    → AllByRecursion
    (HasCause (open_port (world_of pool history).ports to) (wanted_at pool history number to))
    (share_in number to entry)

-- The replies count what is given and read: each Grant its frames, each Put those that were taken,
-- and the Syncs and Gets of a port all that it read.
pub record AreCounted (brought : List Brought) (given : List ℕ) (read : List Frame) (gave : List ℕ)
    : Type 0 where
  pub given_counted : map count_brought brought ≡ given
  pub read_counted : length read ≡ sum gave

abbrev pub RepliesCountFrames : Type 0
RepliesCountFrames = (pool : ℕ) (history : List Entry) → IsLegal pool history → (port : ℕ)
    → AreCounted (brought_to pool history port) (given_counts pool history port)
    (read_frames pool history port) (read_counts history port)

-- The buffers that are out at a port are those of the frames that it read, less those brought back.
abbrev pub OutIsCounted : Type 0
OutIsCounted =
    (pool : ℕ) (history : List Entry) → IsLegal pool history → (id : ℕ) (port : Port)
    → port_at (world_of pool history).ports id ≡ Some port
    → port.out + sum (returned_counts history id) ≡ size_of_frames (read_frames pool history id)

-- The counters of a port that is there are what the history tells of it: the frames that it sent
-- and which of them were short and lone, those that were given to it, were full there, and were
-- read.
abbrev pub CountersAreSums : Type 0
CountersAreSums = (pool : ℕ) (history : List Entry) → IsLegal pool history → (id : ℕ) (port : Port)
    → port_at (world_of pool history).ports id ≡ Some port
    → counts_of (world_of pool history).counts id ≡ counts_told pool history id

-- A lease that was granted, under the number of its Grant, stands until it is done, once. Nothing
-- else stands that is not done, and nothing else is done.
pub record AreDoneOnce (count : ℕ) (granted ended : List ℕ) (standing : ℕ → ℕ) : Type 0 where
  pub granted_once : Rise 0 granted count
  pub ended_or_standing :
      (number : ℕ) → times number ended + standing number ≡ times number granted

abbrev pub LeasesAreDoneOnce : Type 0
LeasesAreDoneOnce = (pool : ℕ) (history : List Entry) → IsLegal pool history
    → AreDoneOnce (length history) (leases_granted history) (leases_ended history)
    (leases_standing (world_of pool history).ports)

-- Once no session is left, no frame is pending.
abbrev pub NothingIsPendingAtTheEnd : Type 0
NothingIsPendingAtTheEnd =
    (pool : ℕ) (history : List Entry) → IsLegal pool history → (world_of pool history).sessions ≡ []
    → (number to : ℕ)
    → AllByRecursion (λ fate. fate ≢ Pending) (fates_at pool history number to)

-- The entries that a port sent rise by number, and so do those of which something is brought to a
-- port. The frames brought are what was given of each entry, one entry after the other: a sender's
-- frames keep their order.
pub record AreInSenderOrder (count : ℕ) (numbers : List ℕ) (brought : List Brought)
    (given : ℕ → List Frame) : Type 0 where
  pub numbers_rise : Rise 0 numbers count
  pub brought_rises : Rise 0 (map origin_of brought) count
  pub one_after_another : flat_map frames_brought brought ≡ flat_map given numbers

abbrev pub SenderOrderIsKept : Type 0
SenderOrderIsKept = (pool : ℕ) (history : List Entry) → IsLegal pool history → (from to : ℕ)
    → AreInSenderOrder (length history) (entries_of pool history from)
    (brought_between pool history from to) (λ number. given_of pool history number to)
