-- Where the frames of a batch go. Each frame is learned first and then looked up; the frames after it
-- see what it taught.
use Rattle.std.specs.Prelude.{ℕ, false, ◌≡◌, ◌==◌, ◌≤◌, if◌then◌else◌, List, [], ◌∷◌, length, fold, reverse, slice_get, All, Option, Some, None}
use Rattle.nm_types.specs.Frames.{Frame}
use Rattle.nm_types.specs.Limits.{buffer_bytes}
use Rattle.nm_types.specs.declared.id.Mac.{Mac}
use Rattle.nm_types.specs.declared.id.PortId.{PortId}
use Rattle.nm_frag.specs.Parts.{slots_of_length}
use Rattle.vale_learn.specs.AddressTable.{Entries, port_of_address, learned, restored}
use Rattle.vale_batch.specs.Addresses.{is_short, is_group, is_learnable, destination_address, source_address}
use Rattle.vale_batch.specs.declared.looking.Destination.{Destination}
use Rattle.vale_batch.specs.declared.looking.Destination.TheVariants.{Short, Nobody, Only, Others}
use Rattle.vale_batch.specs.declared.looking.Looked.{Looked}
use Rattle.vale_batch.specs.declared.looking.Taught.{Taught}

abbrev pub mac_of : List ℕ → Mac
mac_of address = record { 0 = address }

-- the table after a frame that port `from` sends
abbrev pub learned_from : PortId → Entries → Frame → Entries
learned_from from entries frame =
    if is_learnable frame then learned entries (mac_of (source_address frame)) from else entries

abbrev pub learned_of_batch : PortId → Entries → List Frame → Entries
learned_of_batch from entries frames = fold (learned_from from) entries frames

abbrev pub destination_found : PortId → Option PortId → Destination
destination_found from None = Others
destination_found from (Some port) = if port.0 == from.0 then Nobody else Only port

-- a short frame goes to no port of the switch; one to a group or to an unknown address goes to all other ports
abbrev pub destination_of : PortId → Entries → Frame → Destination
destination_of from entries frame =
    if is_short frame then Short
    else (if is_group (destination_address frame) then Others
    else destination_found from (port_of_address entries (destination_address frame)))

-- a frame as it was looked up
abbrev pub looked_up : PortId → Entries → Frame → Looked
looked_up from entries frame = record { destination = destination_of from entries frame; size = slots_of_length (length frame.bytes) }

abbrev pub looked_up_batch : PortId → Entries → List Frame → List Looked
looked_up_batch from entries [] = []
looked_up_batch from entries (frame ∷ frames) =
    looked_up from (learned_from from entries frame) frame ∷ looked_up_batch from (learned_from from entries frame) frames

-- both frames have addresses, and the same ones, and the same mark
pub record IsAlike (frame other : Frame) : Type 0 where
  pub long : is_short frame ≡ false
  pub other_long : is_short other ≡ false
  pub to : destination_address frame ≡ destination_address other
  pub from : source_address frame ≡ source_address other
  pub mark : frame.no_learn ≡ other.no_learn

-- a frame of one slot, as it was looked up
abbrev pub looked_one : Destination → Looked
looked_one to = record { destination = to; size = 1 }

-- the frame takes one slot, and has the addresses and the mark of another one
pub record IsOneAlike (other frame : Frame) : Type 0 where
  pub alike : IsAlike frame other
  pub one : length frame.bytes ≤ buffer_bytes

-- some frames, each of one slot, with the addresses and the mark of the first
pub record AreAlike (frames : List Frame) : Type 0 where
  pub some : 1 ≤ length frames
  pub each : (first : Frame) → slice_get frames 0 ≡ Some first → All (IsOneAlike first) frames

-- the table before it was taught, from the last to the first
abbrev pub untaught : Entries → Taught → Entries
untaught entries taught = restored entries taught.address taught.before

abbrev pub untaught_all : Entries → List Taught → Entries
untaught_all entries taughts = fold untaught entries (reverse taughts)

-- what contracts see of a batch that was looked up: who sent it, where its frames go, and what they taught
pub record LookedUp : Type 0 where
  pub from : PortId
  pub all : List Looked
  pub taughts : List Taught
