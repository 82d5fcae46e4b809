-- What a history brought to a port, and what the port read: what each entry tells, in the order of
-- entries.
use Rattle.std.specs.Prelude.{ℕ, Bool, ◌==◌, ◌+◌, if◌then◌else◌, List, [], ◌∷◌, ◌++◌, length, find, flat_map, Option, Some, None}
use Rattle.nm_types.specs.Frames.{Frame}
use Rattle.vale_entry.specs.declared.entry.Ask.{Ask}
use Rattle.vale_entry.specs.declared.entry.Ask.TheVariants.{Grant, Sync, Finish, PutKept, Get}
use Rattle.vale_entry.specs.declared.entry.Reply.{Reply}
use Rattle.vale_entry.specs.declared.entry.Reply.TheVariants.{Shared, Gave, Took, Unread}
use Rattle.vale_entry.specs.declared.entry.Entry.{Entry}
use Rattle.vale_entry.specs.World.{World, Port, Lot, Offer, open_port}
use Rattle.vale_entry.specs.Grant.{first_offer, granted_frames}
use Rattle.vale_entry.specs.Delivery.{frames_of_lot, delivered_frames}
use Rattle.vale_entry.specs.Pipe.{puts_to_port, frames_of_items}
use Rattle.vale_entry.specs.Legal.{Standing, after, fresh_standing}

-- what each entry tells in the world before it, one entry after the other
abbrev pub told_from : {X : Type 0} → (World → Entry → List X) → Standing → List Entry → List X
told_from tell s [] = []
told_from tell s (entry ∷ entries) = tell s.world entry ++ told_from tell (after s entry) entries

-- what all entries of a history tell
abbrev pub told : {X : Type 0} → (World → Entry → List X) → ℕ → List Entry → List X
told tell pool history = told_from tell (fresh_standing pool) history

-- what the ask and the reply of an entry tell of a port, in the world before it
abbrev pub of_entry_in :
    {X : Type 0} → (ℕ → World → Ask → Reply → List X) → ℕ → World → Entry → List X
of_entry_in tell port w entry = tell port w entry.ask entry.reply

-- and where that world does not matter
abbrev pub of_entry : {X : Type 0} → (ℕ → Ask → Reply → List X) → ℕ → Entry → List X
of_entry tell port entry = tell port entry.ask entry.reply

-- what all entries of a history tell of a port in this way
abbrev pub gathered : {X : Type 0} → (ℕ → Ask → Reply → List X) → List Entry → ℕ → List X
gathered tell history port = flat_map (of_entry tell port) history

-- the port of this id, open or shutting
abbrev pub has_id : ℕ → Port → Bool
has_id id port = port.id == id

abbrev pub port_at : List Port → ℕ → Option Port
port_at ports id = find (has_id id) ports

-- the frames at a port, if there is one
abbrev pub frames_at : (Port → List Frame) → Option Port → List Frame
frames_at frames None = []
frames_at frames (Some port) = frames port

-- the frames of a line's lots
abbrev pub frames_of_line : List Lot → List Frame
frames_of_line line = flat_map frames_of_lot line

-- frames that were brought to a port, under the number of the entry whose frames they are
pub record Brought : Type 0 where
  pub origin : ℕ
  pub frames : List Frame

abbrev pub frames_brought : Brought → List Frame
frames_brought brought = brought.frames

abbrev pub count_brought : Brought → ℕ
count_brought brought = length brought.frames

-- what the Grant of an offer gives
abbrev pub granted_of_offer : World → Option Offer → List Brought
granted_of_offer w None = []
granted_of_offer w (Some offer) =
    (record { origin = offer.origin; frames = granted_frames w offer }) ∷ []

-- what an ask grants to a port
abbrev pub granted_by : ℕ → World → Ask → Reply → List Brought
granted_by port w (Grant origin to) reply =
    if to.0 == port then granted_of_offer w (first_offer w origin) else []
granted_by port w _ reply = []

-- the grants to a port
abbrev pub grants_to : ℕ → List Entry → ℕ → List Brought
grants_to pool history port = told (of_entry_in granted_by port) pool history

-- what a Put of this number took
abbrev pub taken_of : ℕ → Reply → List Brought
taken_of number (Took items to) = (record { origin = number; frames = frames_of_items items }) ∷ []
taken_of number _ = []

-- what a Put brings to a port: what the port took as the other end
abbrev pub put_by : ℕ → World → Ask → Reply → List Brought
put_by port w (PutKept at offered) reply =
    if puts_to_port w.ports at.0 port then taken_of (w.entry_count + 1) reply else []
put_by port w _ reply = []

-- what Puts brought to a port
abbrev pub puts_to : ℕ → List Entry → ℕ → List Brought
puts_to pool history port = told (of_entry_in put_by port) pool history

-- what Grants and Puts brought to a port
abbrev pub brought_by : ℕ → World → Ask → Reply → List Brought
brought_by port w ask reply = granted_by port w ask reply ++ put_by port w ask reply

abbrev pub brought_to : ℕ → List Entry → ℕ → List Brought
brought_to pool history port = told (of_entry_in brought_by port) pool history

-- the frames that were given to a port
abbrev pub given_frames : ℕ → List Entry → ℕ → List Frame
given_frames pool history port = flat_map frames_brought (brought_to pool history port)

-- what an ask reads at a port
abbrev pub read_by : ℕ → World → Ask → Reply → List Frame
read_by port w (Sync at back) reply =
    if at.0 == port then frames_at delivered_frames (open_port w.ports at.0) else []
read_by port w (Get at back) reply =
    if at.0 == port then frames_at delivered_frames (open_port w.ports at.0) else []
read_by port w _ reply = []

-- the frames that a port's syncs and gets gave
abbrev pub read_frames : ℕ → List Entry → ℕ → List Frame
read_frames pool history port = told (of_entry_in read_by port) pool history

-- how many buffers a port's syncs and gets brought back
abbrev pub returned_by : ℕ → Ask → Reply → List ℕ
returned_by port (Sync at back) reply = if at.0 == port then length back ∷ [] else []
returned_by port (Get at back) reply = if at.0 == port then length back ∷ [] else []
returned_by port _ reply = []

abbrev pub returned_counts : List Entry → ℕ → List ℕ
returned_counts history port = gathered returned_by history port

-- what a Finish counts unread
abbrev pub count_unread : Reply → List ℕ
count_unread (Unread count) = count ∷ []
count_unread _ = []

abbrev pub unread_by : ℕ → Ask → Reply → List ℕ
unread_by port (Finish at bufs chain) reply = if at.0 == port then count_unread reply else []
unread_by port _ reply = []

-- how many frames nobody read, as the port's Finish counted them: none before it is made
abbrev pub unread_counts : List Entry → ℕ → List ℕ
unread_counts history port = gathered unread_by history port

-- how many frames a Grant gave, as its reply says, and how many a Put's other end took
abbrev pub count_given : Reply → List ℕ
count_given (Shared given full gone) = given ∷ []
count_given _ = []

abbrev pub count_taken : Reply → List ℕ
count_taken (Took items to) = length items ∷ []
count_taken _ = []

abbrev pub given_by : ℕ → World → Ask → Reply → List ℕ
given_by port w (Grant origin to) reply = if to.0 == port then count_given reply else []
given_by port w (PutKept at offered) reply =
    if puts_to_port w.ports at.0 port then count_taken reply else []
given_by port w _ reply = []

-- the counts of the Grants and Puts to a port, one after the other
abbrev pub given_counts : ℕ → List Entry → ℕ → List ℕ
given_counts pool history port = told (of_entry_in given_by port) pool history

-- how many frames a Sync or a Get gave, as its reply says
abbrev pub count_gave : Reply → List ℕ
count_gave (Gave count to) = count ∷ []
count_gave _ = []

abbrev pub gave_by : ℕ → Ask → Reply → List ℕ
gave_by port (Sync at back) reply = if at.0 == port then count_gave reply else []
gave_by port (Get at back) reply = if at.0 == port then count_gave reply else []
gave_by port _ reply = []

-- the counts of a port's syncs and gets, one after the other
abbrev pub read_counts : List Entry → ℕ → List ℕ
read_counts history port = gathered gave_by history port
