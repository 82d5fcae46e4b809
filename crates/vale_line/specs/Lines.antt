-- The kernel side of a receive ring: the idle buffers, and the lots that were granted, oldest first.
use Rattle.std.specs.Prelude.{ℕ, Bool, ◌≡◌, ◌==◌, ◌+◌, ◌-◌, ◌≤◌, if◌then◌else◌, List, [], ◌∷◌, ◌++◌, length, take, drop, map, take_while, flat_map, sum_by, not, sum, All, Option, Some, None, is_some, option_map, find, ◌&&◌, IfSome}
use Rattle.std.specs.List.{prefix_len}
use Rattle.std.specs.Option.{option_map_or}
use Rattle.nm_types.specs.Limits.{most_ring}
use Rattle.nm_types.specs.declared.id.LeaseId.{LeaseId}
use Rattle.nm_region.specs.Buffers.{Buffer}
use Rattle.vale_lease.specs.declared.leases.LeaseSlots.{LeaseSlots}
use Rattle.vale_lease.specs.Leases.{AreLeases}
use Rattle.vale_line.specs.declared.got.Got.{Got}
use Rattle.vale_line.specs.Fitting.{fitting_sizes}
use Rattle.vale_line.specs.Gots.{IsCut, frames_in}
use Rattle.vale_line.specs.Leased.{Leased, sizes_in}

-- a lot has so many slots; its buffers are with its lease until that is done
pub record HeldLot : Type 0 where
  pub id : LeaseId
  pub slots : ℕ
  pub gots : Option (List Got)

pub record LineState : Type 0 where
  pub size : ℕ
  pub idle : List Buffer
  pub lots : List HeldLot

abbrev pub is_done : HeldLot → Bool
is_done lot = is_some lot.gots

abbrev pub gots_of : HeldLot → List Got
gots_of lot = option_map_or (λ (gots : List Got). gots) lot.gots []

-- what the ring of leases has of a lot
abbrev pub lease_of : HeldLot → LeaseSlots
lease_of lot = record { id = lot.id; slots = lot.slots; is_done = is_done lot }

abbrev pub leases_of : List HeldLot → List LeaseSlots
leases_of lots = map lease_of lots

abbrev pub slots_of : List HeldLot → ℕ
slots_of lots = sum_by (λ (lot : HeldLot). lot.slots) lots

-- the longest prefix of done lots, and what stands behind it
abbrev pub done_lots : List HeldLot → List HeldLot
done_lots lots = take_while is_done lots

abbrev pub behind_done : List HeldLot → List HeldLot
behind_done lots = drop (prefix_len is_done lots) lots

-- what a sync gives
abbrev pub ready_gots : List HeldLot → List Got
ready_gots lots = flat_map gots_of (done_lots lots)

-- how many buffers a sync wants room for: none where it gives one lot, whose own vector serves
abbrev pub room_to_sync : List HeldLot → ℕ
room_to_sync lots = if length (done_lots lots) == 1 then 0 else length (ready_gots lots)

-- the frames of a lot, which its lease keeps until it is done
abbrev pub frames_of_lot : HeldLot → List (List ℕ)
frames_of_lot lot = frames_in (gots_of lot)

abbrev pub sizes_of_lot : HeldLot → List ℕ
sizes_of_lot lot = sizes_in (gots_of lot)

-- the frames that a sync gives
abbrev pub ready_frames : List HeldLot → List (List ℕ)
ready_frames lots = flat_map frames_of_lot (done_lots lots)

-- the slots of each of these frames, as their buffers tell them, and as the frames have them
abbrev pub ready_sizes : List HeldLot → List ℕ
ready_sizes lots = flat_map sizes_of_lot (done_lots lots)

-- the buffers that a grant can still lease: one always stays
abbrev pub space_of : LineState → ℕ
space_of line = length line.idle - 1

-- the buffers that syncs gave and that have not come back
abbrev pub out_of : LineState → ℕ
out_of line = line.size - length line.idle - slots_of line.lots

-- a lot with what its lease was filled with
abbrev pub completed : ℕ → List Got → HeldLot → HeldLot
completed id gots lot = if lot.id.0 == id then record lot { gots = Some gots } else lot

-- a lot of this id whose lease is out
abbrev pub is_out_at : ℕ → HeldLot → Bool
is_out_at id lot = (lot.id.0 == id) && not (is_done lot)

-- how many slots the lease of this id has, if it is out
abbrev pub slots_out : ℕ → List HeldLot → Option ℕ
slots_out id lots = option_map (λ (lot : HeldLot). lot.slots) (find (is_out_at id) lots)

-- the buffers of the first lot, if that is done
abbrev pub first_gots : List HeldLot → Option (List Got)
first_gots [] = None
first_gots (lot ∷ lots) = lot.gots

-- its buffers, or none
abbrev pub gots_of_first : List HeldLot → List Got
gots_of_first lots = option_map_or (λ (gots : List Got). gots) (first_gots lots) []

-- a lot that came done
abbrev pub put_lot : LeaseId → List Got → HeldLot
put_lot id gots = record { id = id; slots = length gots; gots = Some gots }

abbrev pub with_put : LeaseId → List Got → LineState → LineState
with_put id gots line = if length gots == 0 then line else record line { lots = line.lots ++ put_lot id gots ∷ [] }

-- the buffers of all done lots
abbrev pub held_gots : List HeldLot → List Got
held_gots lots = flat_map gots_of lots

abbrev pub new_line : List Buffer → LineState
new_line bufs = record { size = length bufs; idle = bufs; lots = [] }

abbrev pub opened_lot : LeaseId → ℕ → HeldLot
opened_lot id slots = record { id = id; slots = slots; gots = None }

-- the line with the first idle buffers leased
abbrev pub with_lease : LeaseId → ℕ → LineState → LineState
with_lease id count line = record line { idle = drop count line.idle; lots = line.lots ++ opened_lot id count ∷ [] }

-- the sizes of the frames that a grant gives of those that are wanted
abbrev pub granted_sizes : List ℕ → LineState → List ℕ
granted_sizes want line = fitting_sizes (space_of line) want

-- a lease of the first idle buffers, for frames of these sizes
abbrev pub leased : LeaseId → ℕ → List ℕ → LineState → Leased
leased id to sizes line = record { id = id.0; to = to; filled = []; sizes = sizes; empty = take (sum sizes) line.idle }

abbrev pub given_by_sync : List Buffer → LineState → LineState
given_by_sync back line = record line { idle = line.idle ++ back; lots = behind_done line.lots }

-- a done lot has as many buffers as it has slots, and whole frames in them, cut as frames are
abbrev pub IsLot : HeldLot → Type 0
IsLot lot = IfSome lot.gots (λ (gots : List Got). (length gots ≡ lot.slots) × IsCut gots)

-- sizes that a line keeps
pub record IsLine (line : LineState) : Type 0 where
  pub few : line.size ≤ most_ring
  pub some : 1 ≤ length line.idle
  pub within : length line.idle + slots_of line.lots ≤ line.size
  pub lots : All IsLot line.lots
  pub are_leases : AreLeases (leases_of line.lots)
