-- Laws of the offers that are not granted yet.
use Rattle.std.specs.Prelude.{ℕ, ◌≡◌, ◌≤◌, ◌+◌, List, [], ◌∷◌, ◌++◌, Some, None}
use Rattle.nm_types.specs.Frames.{Frame}
use Rattle.nm_types.specs.declared.id.PortId.{PortId}
use Rattle.vale_learn.specs.AddressTable.{Entries}
use Rattle.vale_batch.specs.Wants.{Wanted}
use Rattle.vale_entry.specs.declared.entry.Ask.{Ask}
use Rattle.vale_entry.specs.declared.entry.Ask.TheVariants.{Send, Sync, Get, PutKept}
use Rattle.vale_entry.specs.declared.entry.Reply.TheVariants.{Took}
use Rattle.vale_entry.specs.declared.entry.Dest.{Dest}
use Rattle.vale_entry.specs.declared.entry.Item.{Item}
use Rattle.vale_entry.specs.declared.entry.Entry.{Entry}
use Rattle.vale_entry.specs.World.{World, Port, open_port, transmit_monitor, receive_monitor}
use Rattle.vale_entry.specs.Grant.{first_offer}
use Rattle.vale_entry.specs.Delivery.{delivered_frames}
use Rattle.vale_entry.specs.Pipe.{frames_of_items}
use Rattle.vale_entry.specs.Legal.{standing_of, world_of, IsLegal, Follows}
use Rattle.vale_parts.specs.Batches.{wants_monitored}
use Rattle.vale_parts.specs.BatchLaws.{IsSender, wants_at}
use Rattle.vale_parts.specs.Offering.{OffersAre, IsNext, offers_at, offers_started, wants_after}

-- each entry leaves the wants of an earlier one as they are, or grants the first of them
abbrev pub OffersFollow : Type 0
OffersFollow = (pool : ℕ) (history : List Entry) (entry : Entry) (origin : ℕ) (frames : List Frame) (wants : List Wanted) → Follows (standing_of pool history) entry
    → origin ≤ (world_of pool history).entry_count → OffersAre (world_of pool history) origin frames wants
    → OffersAre (world_of pool (history ++ entry ∷ [])) origin frames (wants_after origin entry.ask wants)

-- the first want is that of the offer that a Grant of the entry takes
abbrev pub FirstWantsAreNext : Type 0
FirstWantsAreNext = (w : World) (origin : ℕ) (frames : List Frame) (want : Wanted) (wants : List Wanted) → OffersAre w origin frames (want ∷ wants) → IsNext w origin frames want

abbrev pub NoWantIsLeft : Type 0
NoWantIsLeft = (w : World) (origin : ℕ) (frames : List Frame) → OffersAre w origin frames [] → first_offer w origin ≡ None

abbrev pub OffersStart : Type 0
OffersStart = (pool : ℕ) (history : List Entry) (entry : Entry) → Follows (standing_of pool history) entry
    → offers_at (world_of pool (history ++ entry ∷ [])) ((world_of pool history).entry_count + 1) ≡ offers_started (world_of pool history) entry.ask entry.reply

-- a Send starts with the wants of its batch and its monitor
abbrev pub SendsStart : Type 0
SendsStart = (pool : ℕ) (history : List Entry) (entry : Entry) (from : PortId) (frames : List Frame) (port : Port) (table : Entries) → IsLegal pool history
    → Follows (standing_of pool history) entry → entry.ask ≡ Send from frames → IsSender (world_of pool history) from frames port table
    → OffersAre (world_of pool (history ++ entry ∷ [])) ((world_of pool history).entry_count + 1) frames
    (wants_monitored (transmit_monitor (world_of pool history) port.id) frames (wants_at (world_of pool history) from frames port table))

-- a Sync, and a Get, with those of the monitor of what they give
pub data ReadsAt (at : PortId) (back : List ℕ) : Ask → Type 0 where
  syncs : ReadsAt at back (Sync at back)
  gets : ReadsAt at back (Get at back)

abbrev pub ReadsStart : Type 0
ReadsStart = (pool : ℕ) (history : List Entry) (entry : Entry) (at : PortId) (back : List ℕ) (port : Port) → IsLegal pool history → Follows (standing_of pool history) entry
    → ReadsAt at back entry.ask → open_port (world_of pool history).ports at.0 ≡ Some port
    → OffersAre (world_of pool (history ++ entry ∷ [])) ((world_of pool history).entry_count + 1) (delivered_frames port)
    (wants_monitored (receive_monitor (world_of pool history) port.id) (delivered_frames port) [])

-- and a Put with those of the monitor of what is taken
abbrev pub PutsStart : Type 0
PutsStart = (pool : ℕ) (history : List Entry) (entry : Entry) (at : PortId) (offered : ℕ) (items : List Item) (to : List Dest) (port : Port) → IsLegal pool history
    → Follows (standing_of pool history) entry → entry.ask ≡ PutKept at offered → entry.reply ≡ Took items to → open_port (world_of pool history).ports at.0 ≡ Some port
    → OffersAre (world_of pool (history ++ entry ∷ [])) ((world_of pool history).entry_count + 1) (frames_of_items items)
    (wants_monitored (transmit_monitor (world_of pool history) port.id) (frames_of_items items) [])
