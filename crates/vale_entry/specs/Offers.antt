-- What an entry's frames are wanted for: a list of frames for each port that some of them are named
-- for, in the order of the batch; the ports by rising id.
use Rattle.std.specs.Prelude.{ℕ, Bool, true, false, ◌||◌, ◌==◌, List, [], ◌∷◌, length, map, filter, filter_map, Option, Some, None}
use Rattle.nm_types.specs.Frames.{Frame}
use Rattle.vale_entry.specs.declared.entry.Dest.{Dest}
use Rattle.vale_entry.specs.declared.entry.Reply.{Reply}
use Rattle.vale_entry.specs.declared.entry.Reply.TheVariants.{Offered, Gave, Took}
use Rattle.vale_entry.specs.World.{Port, Offer}
use Rattle.vale_entry.specs.Lookup.{Named, is_named}

abbrev pub is_monitor : Option ℕ → Port → Bool
is_monitor None port = false
is_monitor (Some monitor) port = port.id == monitor

-- the frames of a batch that are named for a port; its monitor's port gets all of them
abbrev pub is_wanted_at : Port → Option ℕ → Port → Named → Bool
is_wanted_at sender monitor port named =
    is_named sender named.destination port || is_monitor monitor port

abbrev pub frame_of : Named → Frame
frame_of named = named.frame

abbrev pub wanted_frames : Port → Option ℕ → List Named → Port → List Frame
wanted_frames sender monitor named port =
    map frame_of (filter (is_wanted_at sender monitor port) named)

-- the frames that a sync gave, wanted at the monitor of the receive side
abbrev pub wanted_if : Bool → List Frame → List Frame
wanted_if true frames = frames
wanted_if false frames = []

abbrev pub monitored_frames : Option ℕ → List Frame → Port → List Frame
monitored_frames monitor frames port = wanted_if (is_monitor monitor port) frames

abbrev pub offer_to : ℕ → ℕ → ℕ → List Frame → Option Offer
offer_to origin session to [] = None
offer_to origin session to (frame ∷ frames) =
    Some (record { origin = origin; session = session; to = to; frames = frame ∷ frames })

abbrev pub offers_of : ℕ → ℕ → (Port → List Frame) → List Port → List Offer
offers_of origin session wanted ports =
    filter_map (λ port. offer_to origin session port.id (wanted port)) ports

abbrev pub dest_of : Offer → Dest
dest_of offer = record { to = record { 0 = offer.to }; count = length offer.frames }

abbrev pub dests_of : List Offer → List Dest
dests_of offers = map dest_of offers

abbrev pub port_of_dest : Dest → ℕ
port_of_dest dest = dest.to.0

-- the destinations that a reply tells
abbrev pub dests_in : Reply → List Dest
dests_in (Offered short lone to) = to
dests_in (Gave count to) = to
dests_in (Took items to) = to
dests_in _ = []

-- a port as a destination, if these frames are wanted there
abbrev pub dest_wanting : ℕ → List Frame → Option Dest
dest_wanting to [] = None
dest_wanting to (frame ∷ frames) =
    Some (record { to = record { 0 = to }; count = length (frame ∷ frames) })

-- the first offer of an entry that is not granted
abbrev pub is_offer_of : ℕ → Offer → Bool
is_offer_of origin offer = offer.origin == origin
