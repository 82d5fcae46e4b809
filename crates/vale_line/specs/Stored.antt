-- How a line, a lease and the room for one are kept in memory.
use Rattle.std.specs.Prelude.{◌≡◌, ◌≤◌, ◌+◌, ◌-◌, [], length, take, drop, sum}
use Rattle.std.specs.Vec.{vec_capacity}
use Rattle.nm_types.specs.Limits.{most_ring}
use Rattle.vale_line.specs.declared.lease.Lease.TheInside.{Inside as LeaseInside}
use Rattle.vale_line.specs.declared.line.Line.TheInside.{Inside}
use Rattle.vale_line.specs.Gots.{buffers_of, frames_in, IsCut}
use Rattle.vale_line.specs.Leased.{Leased, sizes_in}
use Rattle.vale_line.specs.Lines.{LineState, IsLine, leases_of}
use Rattle.vale_line.specs.Rings.{ring_state, IsRing}

abbrev pub state_of : Inside → LineState
state_of l = ring_state l.ring

pub record IsStored (l : Inside) : Type 0 where
  pub size : l.size ≡ (state_of l).size
  pub line : IsLine (state_of l)
  pub ring : IsRing l.ring
  pub leases : l.leases ≡ record { size = (state_of l).size; leases = leases_of (state_of l).lots }
  pub none : l.room.items ≡ []
  pub room : (state_of l).size ≤ vec_capacity l.room

abbrev pub lease_state : LeaseInside → Leased
lease_state l = record {
  id = l.id.0;
  to = l.to.0;
  filled = take l.filled l.gots.items;
  sizes = sizes_in (drop l.filled l.gots.items);
  empty = buffers_of (drop l.filled l.gots.items);
}

pub record IsStoredLease (l : LeaseInside) : Type 0 where
  pub within : l.filled ≤ length l.gots.items
  pub few : length l.gots.items ≤ most_ring
  pub frames : length (frames_in (take l.filled l.gots.items)) ≡ l.frames
  pub count : l.count ≡ l.frames + length (sizes_in (drop l.filled l.gots.items))
  pub cut : IsCut (take l.filled l.gots.items)
  pub room : sum (sizes_in (drop l.filled l.gots.items)) ≡ length l.gots.items - l.filled
