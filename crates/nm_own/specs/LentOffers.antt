-- The own side of a put whose frames' buffers are lent out: they come back, or some of them go.
use Rattle.std.specs.Prelude.{◌≡◌, ◌≤◌, nat_eq, List, length, drop}
use Rattle.std.specs.List.{AllByRecursion, IsDistinct}
use Rattle.nm_types.specs.declared.id.Side.TheVariants.{Tx}
use Rattle.nm_region.specs.Buffers.{Buffer, indices_of}
use Rattle.nm_own.specs.declared.lend_offers.LentOffers.{LentOffers}
use Rattle.nm_port.specs.Regions.{SideState}
use Rattle.nm_own.specs.Opening.{IsNew}
use Rattle.nm_own.specs.LentSides.{IsLent}
pub use Rattle.nm_own.specs.LentSides.{offered_count, offered_buffers}

abbrev pub IsLentOffers : SideState → List Buffer → LentOffers → Type 0
IsLentOffers s lent l = IsLent Tx l.port s lent l.lent

-- of the frames offered the first ones can be taken: the buffers of the others are back, and for each that
-- goes one came, which is new to the session
pub record CanBeTaken (s : SideState) (lent rest came : List Buffer) (l : LentOffers) : Type 0 where
  pub lends : IsLentOffers s lent l
  pub back : rest ≡ drop (length came) lent
  pub few : length came ≤ length lent
  pub new : AllByRecursion (IsNew s.own) (indices_of came)
  pub once : IsDistinct nat_eq (indices_of came)
