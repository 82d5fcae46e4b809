-- Where the frames of a batch go. Each frame is learned first and then looked up; the frames after
-- it see what it taught.
use Rattle.std.specs.Prelude.{ℕ, Bool, true, false, not, ◌&&◌, ◌==◌, if◌then◌else◌, List, [], ◌∷◌, Option, Some, None}
use Rattle.std.specs.List.{list_any}
use Rattle.nm_types.specs.Frames.{Frame}
use Rattle.nm_types.specs.Names.{switch_of}
use Rattle.nm_types.specs.Openings.{is_on_switch}
use Rattle.vale_entry.specs.World.{Port, Pair}
use Rattle.vale_entry.specs.Learning.{is_short, is_group, destination_address, learned, port_of_address}

-- another open port of the sender's switch
abbrev pub is_other_port : Port → Port → Bool
is_other_port sender port =
    not (port.id == sender.id)
    && (not port.shutting && is_on_switch (switch_of sender.name) port.name)

-- where a frame goes: to the ports of these ids, or to all other open ports of its sender's switch
pub data Destination : Type 0 where
  These : (ids : List ℕ) → Destination
  Others : Destination

abbrev pub destination_found : Port → Option ℕ → Destination
destination_found sender None = Others
destination_found sender (Some port) = if port == sender.id then These [] else These (port ∷ [])

-- a short frame goes to no port of the switch; one to a group or to an unknown address goes to all
-- other ports
abbrev pub destination_of : List Port → Port → List Pair → Frame → Destination
destination_of ports sender pairs frame =
    if is_short frame then These []
    else (if is_group (destination_address frame) then Others
    else destination_found sender
    (port_of_address ports pairs (switch_of sender.name) (destination_address frame)))

pub record Named : Type 0 where
  pub frame : Frame
  pub destination : Destination

abbrev pub named_frames : List Port → Port → List Pair → List Frame → List Named
named_frames ports sender pairs [] = []
named_frames ports sender pairs (frame ∷ frames) =
    record {
      frame = frame;
      destination = destination_of ports sender (learned sender pairs frame) frame;
    }
    ∷ named_frames ports sender (learned sender pairs frame) frames

abbrev pub is_id_of : Port → ℕ → Bool
is_id_of port id = port.id == id

-- whether a destination names a port
abbrev pub is_named : Port → Destination → Port → Bool
is_named sender (These ids) port = list_any (is_id_of port) ids
is_named sender Others port = is_other_port sender port

abbrev pub names_some_port : List Port → Port → Destination → Bool
names_some_port ports sender (These []) = false
names_some_port ports sender (These (id ∷ ids)) = true
names_some_port ports sender Others = list_any (is_other_port sender) ports

-- long enough, and named for no port of the switch
abbrev pub is_lone : List Port → Port → Named → Bool
is_lone ports sender named =
    not (is_short named.frame) && not (names_some_port ports sender named.destination)
