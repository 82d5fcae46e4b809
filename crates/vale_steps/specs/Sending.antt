-- What a send records and offers.
use Rattle.std.specs.Prelude.{ℕ, ◌+◌, ◌*◌, List, [], count_by, length, option_map, Option}
use Rattle.nm_types.specs.Frames.{Frame}
use Rattle.nm_types.specs.Counters.{zero_counts}
use Rattle.nm_types.specs.declared.id.Counts.{Counts}
use Rattle.nm_types.specs.declared.id.PortId.{PortId}
use Rattle.nm_types.specs.declared.id.SessionId.{SessionId}
use Rattle.vale_learn.specs.AddressTable.{Entries}
use Rattle.vale_batch.specs.Addresses.{is_short}
use Rattle.vale_batch.specs.Looking.{looked_up_batch}
use Rattle.vale_batch.specs.Wants.{Wanted, Classed, port_number, is_lone, wants_of}
use Rattle.vale_entry.specs.declared.entry.Ask.TheVariants.{Send}
use Rattle.vale_entry.specs.declared.entry.Reply.TheVariants.{Offered}
use Rattle.vale_entry.specs.declared.entry.Entry.{Entry}
use Rattle.vale_port.specs.Ports.{PortState, open_ids}
use Rattle.vale_parts.specs.Batches.{wants_monitored, dests_wanted}
use Rattle.vale_steps.specs.Offering.{OffersState}

-- what the ports want of a classified batch, with its monitor's want
abbrev pub all_wants : Option PortId → List Frame → Classed → List Wanted
all_wants monitor frames classed = wants_monitored (option_map port_number monitor) frames classed.wants

-- what the classification of a batch tells; what it taught the table is not seen here
abbrev pub classed : PortId → Entries → List Frame → List PortId → Classed
classed from entries frames ports = record {
  short = count_by is_short frames;
  lone = count_by (is_lone from ports) (looked_up_batch from entries frames);
  wants = wants_of from (looked_up_batch from entries frames) ports;
  taughts = [];
}

-- the same for the open ports of a switch
abbrev pub classed_among : PortId → Entries → List Frame → List ℕ → List PortState → Classed
classed_among from entries frames switch ports = classed from entries frames (open_ids switch ports)

abbrev pub send_entry : SessionId → PortId → List Frame → Classed → List Wanted → Entry
send_entry session from frames classed wants = record { session = session; ask = Send from frames; reply = Offered classed.short classed.lone (dests_wanted wants) }

-- an entry for the send, and two for each port that wants some
abbrev pub send_room : List Wanted → ℕ
send_room wants = 1 + 2 * length (dests_wanted wants)

abbrev pub send_offers : ℕ → SessionId → Classed → List Wanted → OffersState
send_offers number session classed wants = record { entry = number; session = session.0; short = classed.short; lone = classed.lone; wants = wants }

abbrev pub sent_counts : ℕ → ℕ → ℕ → Counts
sent_counts sent short lone = record zero_counts { sent = sent; short = short; lone = lone }
