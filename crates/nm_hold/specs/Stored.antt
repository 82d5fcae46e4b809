-- The fields of a hold.
use Rattle.nm_hold.specs.Ties.{AreHeld}
use Rattle.nm_hold.specs.declared.hold.Hold.TheInside.{Inside}

abbrev pub IsStored : Inside → Type 0
IsStored h = AreHeld h.cells h.ports.tables
