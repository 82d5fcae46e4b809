-- What the monitor of a port is offered of an entry's frames: all of them, if there are some.
use Rattle.std.specs.Prelude.{ℕ, ◌≡◌, ◌≤◌, List, [], length, map, Option}
use Rattle.std.specs.List.{AllByRecursion}
use Rattle.nm_types.specs.declared.id.PortId.{PortId}
use Rattle.nm_types.specs.declared.id.SessionId.{SessionId}
use Rattle.vale_batch.specs.Wants.{Wanted, wanted}
use Rattle.vale_entry.specs.Legal.{room_of_dests}
use Rattle.vale_parts.specs.Batches.{dests_wanted}
use Rattle.vale_steps.specs.declared.monitored.Monitored.TheInside.{Inside}
use Rattle.vale_steps.specs.Offering.{OffersState, HasFewFrames, slots_in}
use Rattle.vale_steps.specs.Wanting.{wants_with}

-- what a monitor, if there is one, wants of frames of these sizes
abbrev pub wants_by : Option PortId → List ℕ → List Wanted
wants_by monitor sizes = wants_with monitor sizes []

-- what an entry whose frames are wanted so promises
abbrev pub room_of_wants : List Wanted → ℕ
room_of_wants wants = room_of_dests (dests_wanted wants)

-- the monitor's want at most, with the room for its lease and the number of its frames
pub record AreMonitored (m : Inside) : Type 0 where
  pub rooms : m.rooms.items ≡ map slots_in m.wants.items
  pub to : m.to.items ≡ dests_wanted (map wanted m.wants.items)
  pub few : length m.wants.items ≤ 1
  pub small : AllByRecursion HasFewFrames m.wants.items

-- the offers of an entry that has nobody but a monitor to offer to
abbrev pub offers_to : ℕ → SessionId → List Wanted → OffersState
offers_to entry session wants = record { entry = entry; session = session.0; short = 0; lone = 0; wants = wants }
