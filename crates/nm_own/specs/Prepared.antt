-- What holds of the fields of a port that may be opened.
use Rattle.std.specs.Prelude.{◌≡◌, ◌≤◌, []}
use Rattle.std.specs.VecDeque.{deque_capacity}
use Rattle.nm_types.specs.Limits.{most_extra}
use Rattle.nm_types.specs.declared.id.Side.TheVariants.{Rx}
use Rattle.nm_types.specs.Positions.{IsRingSize, opened_rx}
use Rattle.nm_hold.specs.Offsets.{count_of}
use Rattle.nm_own.specs.Opening.{IsTxSize}
use Rattle.nm_own.specs.declared.open.NewPort.TheInside.{Inside}

pub record IsPrepared (n : Inside) : Type 0 where
  pub tx : IsTxSize n.room.sizes.tx
  pub rx : IsRingSize n.room.sizes.rx
  pub extra : n.room.sizes.extra ≤ most_extra
  pub slots : n.slots.items ≡ []
  pub slot_room : n.room.sizes.tx ≤ deque_capacity n.slots
  pub ring : n.rx ≡ record { side = Rx; ring = opened_rx n.room.sizes.rx; slots = [] }
  pub none : n.ports.items ≡ []
  pub back : n.back ≡ count_of n.room.sizes
