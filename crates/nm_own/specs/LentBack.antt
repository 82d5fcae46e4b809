-- The own side of a receive push whose buffers are lent out: they go back for good, or come back.
use Rattle.std.specs.Prelude.{List}
use Rattle.nm_types.specs.declared.id.Side.TheVariants.{Rx}
use Rattle.nm_region.specs.Buffers.{Buffer}
use Rattle.nm_own.specs.declared.lend.LentBack.{LentBack}
use Rattle.nm_port.specs.Regions.{SideState}
use Rattle.nm_own.specs.LentSides.{IsLent}

abbrev pub IsLentBack : SideState → List Buffer → LentBack → Type 0
IsLentBack s lent l = IsLent Rx l.port s lent l.lent
