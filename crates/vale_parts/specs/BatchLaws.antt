-- Laws of the look-up of a batch: it names what the world names, and what it wants is what is offered.
use Rattle.std.specs.Prelude.{ℕ, ◌≡◌, true, List, [], map, count_by, length, Some, ◌≤◌, All}
use Rattle.nm_types.specs.Limits.{buckets, most_batch}
use Rattle.nm_types.specs.Addresses.{is_short}
use Rattle.nm_types.specs.Frames.{Frame}
use Rattle.nm_types.specs.Names.{switch_of}
use Rattle.nm_types.specs.Sendable.{IsFrame, is_sendable}
use Rattle.nm_types.specs.declared.id.PortId.{PortId}
use Rattle.vale_learn.specs.AddressTable.{Entries}
use Rattle.vale_batch.specs.Looking.{looked_up_batch}
use Rattle.vale_batch.specs.Wants.{Wanted, wants_of, is_lone as is_lone_looked, IsRising, port_number}
use Rattle.vale_entry.specs.declared.entry.Entry.{Entry}
use Rattle.vale_entry.specs.declared.entry.Reply.TheVariants.{Offered}
use Rattle.vale_entry.specs.World.{World, Port, Offer, open_port, transmit_monitor, receive_monitor}
use Rattle.vale_entry.specs.Lookup.{is_lone}
use Rattle.vale_entry.specs.Offers.{dests_of}
use Rattle.vale_entry.specs.Delivery.{delivered_frames}
use Rattle.vale_entry.specs.Legal.{standing_of, send_step, world_of, can_send, named_of, offers_of_send, offers_of_sync, offers_of_put, IsLegal}
use Rattle.vale_parts.specs.SwitchPorts.{open_ports_on}
use Rattle.vale_parts.specs.Tables.{Finds}
use Rattle.vale_parts.specs.Batches.{AreLookedAs, AreOffersOf, wants_monitored, dests_wanted}

-- an open port that may send these frames, and the table of its switch
pub record IsSender (w : World) (from : PortId) (frames : List Frame) (port : Port) (entries : Entries) : Type 0 where
  pub here : open_port w.ports from.0 ≡ Some port
  pub can : can_send w frames port ≡ true
  pub size : length entries ≡ buckets
  pub finds : Finds w (switch_of port.name) entries

-- what its switch's open ports want
abbrev pub wants_at : World → PortId → List Frame → Port → Entries → List Wanted
wants_at w from frames port entries = wants_of from (looked_up_batch from entries frames) (open_ports_on (switch_of port.name) w.ports)

abbrev pub OpenPortsRise : Type 0
OpenPortsRise = (pool : ℕ) (history : List Entry) (switch : List ℕ) → IsRising (map port_number (open_ports_on switch (world_of pool history).ports))

abbrev pub BatchesAreNamed : Type 0
BatchesAreNamed = (pool : ℕ) (history : List Entry) (from : PortId) (frames : List Frame) (port : Port) (entries : Entries) → IsSender (world_of pool history) from frames port entries
    → AreLookedAs (looked_up_batch from entries frames) (named_of (world_of pool history) port frames)

abbrev pub LoneFramesAreCounted : Type 0
LoneFramesAreCounted = (pool : ℕ) (history : List Entry) (from : PortId) (frames : List Frame) (port : Port) (entries : Entries) → IsSender (world_of pool history) from frames port entries
    → count_by (is_lone_looked from (open_ports_on (switch_of port.name) (world_of pool history).ports)) (looked_up_batch from entries frames)
    ≡ count_by (is_lone (world_of pool history).ports port) (named_of (world_of pool history) port frames)

-- the wants of a send, with its monitor's at its place, are those of the offers
abbrev pub SentWantsAreOffers : Type 0
SentWantsAreOffers = (pool : ℕ) (history : List Entry) (from : PortId) (frames : List Frame) (port : Port) (entries : Entries) → IsLegal pool history
    → IsSender (world_of pool history) from frames port entries
    → AreOffersOf frames (wants_monitored (transmit_monitor (world_of pool history) port.id) frames (wants_at (world_of pool history) from frames port entries)) (offers_of_send (world_of pool history) port frames)

-- what a sync gives, or a put takes, is wanted by the monitor alone
abbrev pub GivenWantsAreOffers : Type 0
GivenWantsAreOffers = (pool : ℕ) (history : List Entry) (port : Port) → IsLegal pool history
    → AreOffersOf (delivered_frames port) (wants_monitored (receive_monitor (world_of pool history) port.id) (delivered_frames port) []) (offers_of_sync (world_of pool history) port)

abbrev pub PutWantsAreOffers : Type 0
PutWantsAreOffers = (pool : ℕ) (history : List Entry) (port : Port) (frames : List Frame) → IsLegal pool history
    → AreOffersOf frames (wants_monitored (transmit_monitor (world_of pool history) port.id) frames []) (offers_of_put (world_of pool history) port frames)

-- the destinations that a reply tells are those of the wants
abbrev pub DestsAreWanted : Type 0
DestsAreWanted = (frames : List Frame) (wants : List Wanted) (offers : List Offer) → AreOffersOf frames wants offers → dests_wanted wants ≡ dests_of offers

-- frames that may be sent are few enough, and short enough, to be looked up
pub record CanBeLookedUp (frames : List Frame) : Type 0 where
  pub few : length frames ≤ most_batch
  pub each : All IsFrame frames

abbrev pub SendableCanBeLookedUp : Type 0
SendableCanBeLookedUp = (frames : List Frame) → is_sendable frames ≡ true → CanBeLookedUp frames

-- so the reply of a Send is told by the look-up of its batch
abbrev pub SendsAreReplied : Type 0
SendsAreReplied = (pool : ℕ) (history : List Entry) (from : PortId) (frames : List Frame) (port : Port) (entries : Entries) → IsLegal pool history
    → IsSender (world_of pool history) from frames port entries
    → (send_step (standing_of pool history) frames port).reply
    ≡ Offered (count_by is_short frames)
    (count_by (is_lone_looked from (open_ports_on (switch_of port.name) (world_of pool history).ports)) (looked_up_batch from entries frames))
    (dests_wanted (wants_monitored (transmit_monitor (world_of pool history) port.id) frames (wants_at (world_of pool history) from frames port entries)))

-- and so are the destinations of what is given, and taken
abbrev pub ReadsAreReplied : Type 0
ReadsAreReplied = (pool : ℕ) (history : List Entry) (port : Port) → IsLegal pool history
    → dests_of (offers_of_sync (world_of pool history) port) ≡ dests_wanted (wants_monitored (receive_monitor (world_of pool history) port.id) (delivered_frames port) [])

abbrev pub PutsAreReplied : Type 0
PutsAreReplied = (pool : ℕ) (history : List Entry) (port : Port) (frames : List Frame) → IsLegal pool history
    → dests_of (offers_of_put (world_of pool history) port frames) ≡ dests_wanted (wants_monitored (transmit_monitor (world_of pool history) port.id) frames [])
