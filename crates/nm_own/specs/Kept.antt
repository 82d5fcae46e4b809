-- What holds of the fields of a session's own side.
use Rattle.std.specs.Prelude.{◌≡◌, ◌+◌, false, replicate}
use Rattle.nm_hold.specs.Holds.{buffers_of, IsHold}
use Rattle.nm_port.specs.Own.{AreWhole, AreFilled, AreFlagged, AreRings, AreSided, HasPlaces, HaveBackRoom}
use Rattle.nm_own.specs.declared.own.OwnSide.TheInside.{Inside}

pub record IsKept (o : Inside) : Type 0 where
  pub sided : AreSided o.ports.items
  pub rings : AreRings o.ports.items
  pub flagged : AreFlagged o.hold o.ports.items
  pub hold : IsHold o.hold
  pub places : HasPlaces o.hold o.ports.items
  pub filled : AreFilled o.hold o.ports.items
  pub whole : AreWhole o.hold
  pub blank : o.marks ≡ replicate (buffers_of o.hold + 2) false
  pub back : HaveBackRoom o.ports.items
