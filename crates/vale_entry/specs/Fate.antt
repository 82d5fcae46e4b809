-- What becomes of an entry's frames: the frames wanted at a port are pending until they are granted
-- there; each is then given, or dropped and counted because the ring was full or the port gone.
use Rattle.std.specs.Prelude.{ℕ, Bool, true, false, ◌&&◌, ◌==◌, ◌+◌, nat_lt, if◌then◌else◌, List, [], ◌∷◌, ◌++◌, length, take, map, filter, flat_map, Option, Some, None}
use Rattle.std.specs.List.{range_with_len, list_any}
use Rattle.nm_types.specs.Frames.{Frame}
use Rattle.vale_entry.specs.declared.entry.Ask.{Ask}
use Rattle.vale_entry.specs.declared.entry.Ask.TheVariants.{Enter, Open, Send, Grant, Done, Sync, Reset, Shut, Finish, Leave, Put, PutKept, Get, Watch, Stat}
use Rattle.vale_entry.specs.declared.entry.Reply.{Reply}
use Rattle.vale_entry.specs.declared.entry.Reply.TheVariants.{Shared, Took}
use Rattle.vale_entry.specs.declared.entry.Entry.{Entry}
use Rattle.vale_entry.specs.World.{World, Port, Offer, open_port, transmit_monitor, receive_monitor}
use Rattle.vale_entry.specs.Offers.{wanted_frames, monitored_frames}
use Rattle.vale_entry.specs.Delivery.{delivered_frames}
use Rattle.vale_entry.specs.Pipe.{frames_of_items}
use Rattle.vale_entry.specs.Legal.{named_of, kept_items}
use Rattle.vale_entry.specs.Delivered.{told, port_at, frames_at, Brought, frames_brought, grants_to, puts_to, brought_to}

-- the frames of a Send that are wanted at a port
abbrev pub wanted_of_send : World → List Frame → ℕ → Option Port → List Frame
wanted_of_send w frames to None = []
wanted_of_send w frames to (Some sender) =
    frames_at (wanted_frames sender (transmit_monitor w sender.id) (named_of w sender frames))
    (port_at w.ports to)

-- the frames that a Sync or a Get gave, wanted at the monitor of the port's receive side
abbrev pub wanted_of_sync : World → ℕ → Option Port → List Frame
wanted_of_sync w to None = []
wanted_of_sync w to (Some reader) =
    frames_at (monitored_frames (receive_monitor w reader.id) (delivered_frames reader))
    (port_at w.ports to)

-- the frames that a Put's other end took, wanted at the monitor of the port's transmit side
abbrev pub wanted_of_put : World → List Frame → ℕ → Option Port → List Frame
wanted_of_put w frames to None = []
wanted_of_put w frames to (Some sender) =
    frames_at (monitored_frames (transmit_monitor w sender.id) frames) (port_at w.ports to)

-- the frames of an entry that are wanted at a port, by the world before it
abbrev pub wanted_by : World → Ask → Reply → ℕ → List Frame
wanted_by w (Send from frames) reply to = wanted_of_send w frames to (open_port w.ports from.0)
wanted_by w (Sync at back) reply to = wanted_of_sync w to (open_port w.ports at.0)
wanted_by w (PutKept from offered) reply to =
    wanted_of_put w (frames_of_items (kept_items reply)) to (open_port w.ports from.0)
wanted_by w (Get at back) reply to = wanted_of_sync w to (open_port w.ports at.0)
wanted_by w _ reply to = []

-- the same where the entry bears this number
abbrev pub wanted_in : ℕ → ℕ → World → Entry → List Frame
wanted_in number to w entry =
    if w.entry_count + 1 == number then wanted_by w entry.ask entry.reply to else []

-- the frames of the entry of this number that are wanted at a port
abbrev pub wanted_at : ℕ → List Entry → ℕ → ℕ → List Frame
wanted_at pool history number to = told (wanted_in number to) pool history

-- the offers not yet granted of this entry to this port
abbrev pub is_offer_to : ℕ → ℕ → Offer → Bool
is_offer_to number to offer = (offer.origin == number) && (offer.to == to)

abbrev pub offers_at : World → ℕ → ℕ → List Offer
offers_at w number to = filter (is_offer_to number to) w.offers

-- how a Grant shared out the frames wanted at a port, as its reply says
pub record Share : Type 0 where
  pub given : ℕ
  pub full : ℕ
  pub gone : ℕ

-- what a reply shares out
abbrev pub share_of : Reply → List Share
share_of (Shared given full gone) = (record { given = given; full = full; gone = gone }) ∷ []
share_of _ = []

abbrev pub share_by : ℕ → ℕ → Ask → Reply → List Share
share_by number to (Grant origin at) reply =
    if (origin == number) && (at.0 == to) then share_of reply else []
share_by number to _ reply = []

abbrev pub share_in : ℕ → ℕ → Entry → List Share
share_in number to entry = share_by number to entry.ask entry.reply

-- the shares of this entry's frames at this port: none before they are granted
abbrev pub shares_at : List Entry → ℕ → ℕ → List Share
shares_at history number to = flat_map (share_in number to) history

-- what was granted to this port of this entry, and what its Put brought there
abbrev pub is_brought_of : ℕ → Brought → Bool
is_brought_of number brought = brought.origin == number

abbrev pub granted_at : ℕ → List Entry → ℕ → ℕ → List Brought
granted_at pool history number to = filter (is_brought_of number) (grants_to pool history to)

abbrev pub puts_at : ℕ → List Entry → ℕ → ℕ → List Brought
puts_at pool history number to = filter (is_brought_of number) (puts_to pool history to)

-- what became of a frame
pub data Fate : Type 0 where
  Pending : Fate
  Given : Fate
  Full : Fate
  Gone : Fate

-- by the share that counts the frame, if there is one: the first frames are given
abbrev pub fate_by : List Share → ℕ → Fate
fate_by [] j = Pending
fate_by (share ∷ shares) j =
    if nat_lt j share.given then Given else (if nat_lt 0 share.gone then Gone else Full)

-- the fate of the j-th of the frames, counted from 0, that are wanted of this entry at this port
abbrev pub fate_of : List Entry → ℕ → ℕ → ℕ → Fate
fate_of history number j to = fate_by (shares_at history number to) j

-- the fates of all of them
abbrev pub fates_at : ℕ → List Entry → ℕ → ℕ → List Fate
fates_at pool history number to =
    map (λ j. fate_of history number j to)
    (range_with_len 0 (length (wanted_at pool history number to)))

-- how many of them were given
abbrev pub given_count : List Share → ℕ
given_count [] = 0
given_count (share ∷ shares) = share.given

-- the frames that were given: the first of those wanted
abbrev pub given_prefix : ℕ → List Entry → ℕ → ℕ → List Frame
given_prefix pool history number to =
    take (given_count (shares_at history number to)) (wanted_at pool history number to)

-- the frames of an entry that a port was given: those that it took where they were put to it, and
-- else the first of those wanted there
abbrev pub given_of : ℕ → List Entry → ℕ → ℕ → List Frame
given_of pool history number to =
    flat_map frames_brought (puts_at pool history number to) ++ given_prefix pool history number to

-- whether a Put found its other end open, so that it sent what was taken
abbrev pub was_taken : Reply → Bool
was_taken (Took items to) = true
was_taken _ = false

-- whether an entry's frames come from this port
abbrev pub is_sent_by : ℕ → Ask → Reply → Bool
is_sent_by port (Send from frames) reply = from.0 == port
is_sent_by port (Sync at back) reply = at.0 == port
is_sent_by port (PutKept at offered) reply = (at.0 == port) && was_taken reply
is_sent_by port (Get at back) reply = at.0 == port
is_sent_by port (Enter user) reply = false
is_sent_by port (Open session name tx rx extra) reply = false
is_sent_by port (Grant origin to) reply = false
is_sent_by port (Done lease) reply = false
is_sent_by port (Reset at side fault) reply = false
is_sent_by port (Shut at) reply = false
is_sent_by port (Finish at bufs chain) reply = false
is_sent_by port (Leave session) reply = false
is_sent_by port (Put at offered) reply = false
is_sent_by port (Watch monitor target sides) reply = false
is_sent_by port (Stat at) reply = false

-- the number of an entry whose frames come from a port
abbrev pub numbers_in : ℕ → World → Entry → List ℕ
numbers_in port w entry =
    if is_sent_by port entry.ask entry.reply then (w.entry_count + 1) ∷ [] else []

-- the entries whose frames come from a port, by rising number
abbrev pub entries_of : ℕ → List Entry → ℕ → List ℕ
entries_of pool history port = told (numbers_in port) pool history

-- brought of one of these entries
abbrev pub is_among : List ℕ → Brought → Bool
is_among numbers brought = list_any (λ number. number == brought.origin) numbers

abbrev pub origin_of : Brought → ℕ
origin_of brought = brought.origin

-- what was brought to a port of what came from another
abbrev pub brought_between : ℕ → List Entry → ℕ → ℕ → List Brought
brought_between pool history from to =
    filter (is_among (entries_of pool history from)) (brought_to pool history to)
