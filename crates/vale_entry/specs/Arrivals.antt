-- The buffers that an entry brings to its session, each with the part of a frame in it; all its other
-- bytes are zero.
use Rattle.std.specs.Prelude.{ℕ, ◌+◌, List, [], ◌++◌, length, map, take, drop}
use Rattle.std.specs.Option.{option_map_or}
use Rattle.std.specs.List.{zip}
use Rattle.nm_types.specs.Frames.{Frame}
use Rattle.nm_types.specs.Parts.{HeldPart, cut_frames}
use Rattle.nm_types.specs.OwnPorts.{Arrival}
use Rattle.vale_entry.specs.declared.entry.Ask.{Ask}
use Rattle.vale_entry.specs.declared.entry.Ask.TheVariants.{Open, Sync, Get, PutKept}
use Rattle.vale_entry.specs.declared.entry.Reply.{Reply}
use Rattle.vale_entry.specs.declared.entry.Reply.TheVariants.{Opened, Gave, Took}
use Rattle.vale_entry.specs.World.{Port, open_port}
use Rattle.vale_entry.specs.Delivery.{ready_lots, delivered_frames}
use Rattle.vale_entry.specs.Holdings.{PortBuffers, delivered_buffers, first_idle}
use Rattle.vale_entry.specs.Pipe.{peer_of}
use Rattle.vale_entry.specs.Legal.{Standing}

abbrev pub blank_arrival : ℕ → Arrival
blank_arrival buffer = record { buffer = buffer; bytes = []; rest = 0 }

abbrev pub part_arrival : ℕ × HeldPart → Arrival
part_arrival (buffer, part) = record { buffer = buffer; bytes = part.bytes; rest = part.rest }

-- the parts of the frames that are ready at a port, as they lie in buffers
abbrev pub delivered_parts : Port → List HeldPart
delivered_parts port = cut_frames (map (λ (frame : Frame). frame.bytes) (delivered_frames port))

-- an opening: the smallest free buffers for the transmit slots, and those behind the receive ring's
-- for the extra positions
abbrev pub opened_arrivals : ℕ → ℕ → ℕ → List ℕ → List Arrival
opened_arrivals tx rx extra free =
    map blank_arrival (take tx free ++ take extra (drop (tx + rx) free))

-- a sync: the frames that are ready at the port, each part in its buffer
abbrev pub given_arrivals : Standing → Port → List Arrival
given_arrivals s port =
    map part_arrival
    (zip (delivered_buffers port.id (length (ready_lots port)) s.holdings.ports)
    (delivered_parts port))

-- a put: the first idle buffers of the other end, one for each frame taken
abbrev pub lent_arrivals : List PortBuffers → ℕ → ℕ → List Arrival
lent_arrivals held id count = map blank_arrival (first_idle id count held)

abbrev pub given_at : Standing → ℕ → List Arrival
given_at s id = option_map_or (given_arrivals s) (open_port s.world.ports id) []

abbrev pub lent_to : Standing → ℕ → Port → List Arrival
lent_to s count port =
    option_map_or (λ (peer : Port). lent_arrivals s.holdings.ports peer.id count)
    (peer_of s.world.ports port) []

abbrev pub lent_at : Standing → ℕ → ℕ → List Arrival
lent_at s id count = option_map_or (lent_to s count) (open_port s.world.ports id) []

abbrev pub arrivals_of : Standing → Ask → Reply → List Arrival
arrivals_of s (Open session name tx rx extra) Opened = opened_arrivals tx rx extra s.holdings.free
arrivals_of s (Sync port back) (Gave count to) = given_at s port.0
arrivals_of s (Get port back) (Gave count to) = given_at s port.0
arrivals_of s (PutKept port offered) (Took items to) = lent_at s port.0 (length items)
arrivals_of s _ _ = []
