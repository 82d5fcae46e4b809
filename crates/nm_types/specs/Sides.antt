-- The sides of a port that a monitor watches.
use Rattle.std.specs.Prelude.{Bool, true, false}
use Rattle.nm_types.specs.declared.id.Side.{Side}
use Rattle.nm_types.specs.declared.id.Side.TheVariants.{Tx, Rx}
use Rattle.nm_types.specs.declared.id.Sides.{Sides}
use Rattle.nm_types.specs.declared.id.Sides.TheVariants.{T as Transmit, R as Receive, TR as Both}

abbrev pub watches_side : Sides → Side → Bool
watches_side Transmit Tx = true
watches_side Transmit Rx = false
watches_side Receive Tx = false
watches_side Receive Rx = true
watches_side Both Tx = true
watches_side Both Rx = true
