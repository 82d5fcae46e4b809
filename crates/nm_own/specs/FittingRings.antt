-- A port's ring whose positions fit it.
use Rattle.std.specs.Prelude.{ℕ, ◌≡◌, List, Some}
use Rattle.nm_types.specs.declared.id.Side.{Side}
use Rattle.nm_types.specs.Positions.{IsRing, FitsRing}
use Rattle.nm_port.specs.declared.port.UserPort.{UserPort}
use Rattle.nm_port.specs.RingSlots.{RingSlots}
use Rattle.nm_port.specs.Own.{slots_at}

-- the ring on a side of the port of an id
pub record IsFittingRing (ports : List UserPort) (id : ℕ) (side : Side) (r : RingSlots) : Type 0 where
  pub at : slots_at side ports id ≡ Some r
  pub ring : IsRing r.ring
  pub fits : FitsRing r.ring r.ring.head r.ring.cur
