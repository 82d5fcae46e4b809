-- How the cells of a ring and the rights to them are kept.
use Rattle.std.specs.Prelude.{ℕ, ◌≡◌, ◌+◌, ◌≤◌, ◌<◌, List, [], ◌∷◌, length, take, drop, map, option_map, All, Option, Vec}
use Rattle.std.specs.declared.alloc.Global.{Global}
use Rattle.std.specs.Vec.{vec_capacity}
use Rattle.std.specs.VecDeque.{deque_capacity}
use Rattle.nm_types.specs.Limits.{most_ring}
use denote.RawPtr.{Ptr}
use Rattle.nm_reach.specs.Fields.{Run, round, end_of}
use Rattle.nm_region.specs.Buffers.{Buffer}
use Rattle.vale_line.specs.declared.got.Got.{Got}
use Rattle.vale_line.specs.declared.lot.Lot.{Lot}
use Rattle.vale_line.specs.declared.ring.Ring.{Ring}
use Rattle.vale_line.specs.Cells.{gots_in, AreFull, AreEmpty}
use Rattle.vale_line.specs.Gots.{blank, buffers_of}
use Rattle.vale_line.specs.Lines.{HeldLot, LineState, slots_of}

abbrev pub items_of : Vec Got Global → List Got
items_of gots = gots.items

-- what a lot holds
abbrev pub held : Lot → HeldLot
held lot = record {
  id = lot.id;
  slots = length lot.reach.values;
  gots = option_map items_of lot.gots;
}

abbrev pub held_lots : List Lot → List HeldLot
held_lots lots = map held lots

-- the cells of a lot are empty
abbrev pub IsHeld : Lot → Type 0
IsHeld lot = AreEmpty lot.reach.values

-- a run that begins at the cell `start` of a field
pub record IsAt (base : Ptr) (n from : ℕ) (r : Run (Option Got)) : Type 0 where
  pub field : r.field ≡ base
  pub size : r.size ≡ n
  pub start : r.start ≡ from

-- the lots' runs lie one behind the other, from a cell on up to before another
abbrev pub Chain : Ptr → ℕ → ℕ → List Lot → ℕ → Type 0
Chain field size from [] to = from ≡ to
Chain field size from (lot ∷ lots) to =
    IsAt field size from lot.reach × Chain field size (round size from (length lot.reach.values)) lots to

-- what a ring holds
abbrev pub ring_state : Ring → LineState
ring_state r = record { size = r.field.size; idle = buffers_of (gots_in r.idle.values); lots = held_lots r.lots.items }

-- in ring order its runs are those that were given, those of the lots, and the idle ones, the first of
-- which are lent
pub record IsRing (r : Ring) : Type 0 where
  pub given : IsAt r.field.field r.field.size r.given.start r.given
  pub lots : Chain r.field.field r.field.size (end_of r.given) r.lots.items r.idle.start
  pub idle : IsAt r.field.field r.field.size r.idle.start r.idle
  pub round : end_of r.idle ≡ r.given.start
  pub given_within : r.given.start < r.field.size
  pub idle_within : r.idle.start < r.field.size
  pub few : r.field.size ≤ most_ring
  pub all : length r.given.values + slots_of (held_lots r.lots.items) + length r.idle.values ≡ r.field.size
  pub none : AreEmpty r.given.values
  pub held : All IsHeld r.lots.items
  pub lent_within : r.lent ≤ length r.idle.values
  pub lent : AreEmpty (take r.lent r.idle.values)
  pub full : AreFull (drop r.lent r.idle.values)
  pub blank : gots_in r.idle.values ≡ map blank (buffers_of (gots_in r.idle.values))
  pub room : r.field.size ≤ deque_capacity r.lots

-- a ring, and an empty vector with room for all its buffers
pub record IsRingWith (r : Ring) (spare : Vec Buffer Global) : Type 0 where
  pub ring : IsRing r
  pub none : spare.items ≡ []
  pub room : r.field.size ≤ vec_capacity spare
