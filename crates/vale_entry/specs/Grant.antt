-- A grant: an offer's frames, as many from the front as there is room for, become a lot of the
-- port.
use Rattle.std.specs.Prelude.{ℕ, Bool, false, ◌+◌, ◌-◌, nat_le, if◌then◌else◌, List, [], ◌∷◌, ◌++◌, length, find, Option, Some, None}
use Rattle.nm_types.specs.Frames.{Frame, slots_of}
use Rattle.vale_entry.specs.declared.entry.Reply.{Reply}
use Rattle.vale_entry.specs.declared.entry.Reply.TheVariants.{Shared}
use Rattle.vale_entry.specs.World.{Port, Lot, Offer, World, open_port, space_of, changed_at}
use Rattle.vale_entry.specs.Offers.{is_offer_of}

-- the longest prefix of the frames that takes at most this many slots
abbrev pub longest_fitting : ℕ → List Frame → List Frame
longest_fitting room [] = []
longest_fitting room (frame ∷ frames) =
    if nat_le (slots_of frame) room then frame ∷ longest_fitting (room - slots_of frame) frames
    else []

-- what the grant of an offer gives: nothing where the port is not open
abbrev pub given_at : Option Port → List Frame → List Frame
given_at None frames = []
given_at (Some port) frames = longest_fitting (space_of port) frames

abbrev pub granted_frames : World → Offer → List Frame
granted_frames w offer = given_at (open_port w.ports offer.to) offer.frames

-- a grant that gives nothing needs no Done: that one's room comes back
abbrev pub room_back : List Frame → ℕ
room_back [] = 1
room_back (frame ∷ frames) = 0

abbrev pub grant_reply_at : Option Port → List Frame → Reply
grant_reply_at None frames = Shared 0 0 (length frames)
grant_reply_at (Some port) frames =
    Shared (length (longest_fitting (space_of port) frames))
    (length frames - length (longest_fitting (space_of port) frames)) 0

abbrev pub grant_reply : World → Offer → Reply
grant_reply w offer = grant_reply_at (open_port w.ports offer.to) offer.frames

-- how many frames a reply tells as given, as refused for want of room, and for a port that is gone
abbrev pub given_in : Reply → ℕ
given_in (Shared given full gone) = given
given_in _ = 0

abbrev pub full_in : Reply → ℕ
full_in (Shared given full gone) = full
full_in _ = 0

abbrev pub gone_in : Reply → ℕ
gone_in (Shared given full gone) = gone
gone_in _ = 0

-- the line of a port with one more lot, if that has frames
abbrev pub with_lot : ℕ → ℕ → Bool → List Frame → List Lot → List Lot
with_lot number session done [] line = line
with_lot number session done (frame ∷ frames) line =
    line
    ++ (record { number = number; session = session; frames = frame ∷ frames; is_done = done }) ∷ []

abbrev pub port_after_grant : ℕ → ℕ → List Frame → Port → Port
port_after_grant number session frames port =
    record port { line = with_lot number session false frames port.line }

abbrev pub first_offer : World → ℕ → Option Offer
first_offer w origin = find (is_offer_of origin) w.offers

-- the offers without the first one of this entry
abbrev pub without_first : ℕ → List Offer → List Offer
without_first origin [] = []
without_first origin (offer ∷ offers) =
    if is_offer_of origin offer then offers else offer ∷ without_first origin offers

abbrev pub after_grant : World → Offer → World
after_grant w offer = record w {
  ports =
      changed_at offer.to
      (port_after_grant (w.entry_count + 1) offer.session (granted_frames w offer)) w.ports;
  offers = without_first offer.origin w.offers;
}
