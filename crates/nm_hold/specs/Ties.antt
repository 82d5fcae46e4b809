-- How a hold is kept in memory: the cells and the tables of places tell the same.
use Rattle.std.specs.Prelude.{ℕ, true, ◌≡◌, ◌+◌, ◌<◌, ◌≤◌, All, List, length, replicate, Option, Some}
use Rattle.nm_types.specs.Limits.{most_pool}
use Rattle.nm_types.specs.declared.place.Place.{Place}
use Rattle.nm_hold.specs.declared.standing.Standing.{Standing}
use Rattle.nm_hold.specs.declared.table.PortTable.{PortTable}
use Rattle.nm_hold.specs.Offsets.{count_of, ArePortsOnce}
use Rattle.nm_hold.specs.Tables.{IsTable, number_at, ports_of}
use Rattle.nm_hold.specs.Holds.{cell_at, stands_at}

-- a buffer in the cell of its index, and its place has that index
pub record StandsRightly (tables : List PortTable) (idx : ℕ) (s : Standing) : Type 0 where
  pub low : 2 ≤ idx
  pub index : s.buf.index ≡ idx
  pub number : number_at tables s.home.place ≡ idx

pub record IsTied (cells : List (Option Standing)) (tables : List PortTable) : Type 0 where
  pub standing : (idx : ℕ) (s : Standing) → cell_at cells idx ≡ Some s → StandsRightly tables idx s
  pub numbered : (place : Place) → 0 < number_at tables place → stands_at place (cell_at cells (number_at tables place)) ≡ true

-- the cells and tables of one hold
pub record AreHeld (cells : List (Option Standing)) (all : List PortTable) : Type 0 where
  pub low : 3 ≤ length cells
  pub high : length cells ≤ most_pool + 2
  pub tables : All IsTable all
  pub once : ArePortsOnce (ports_of all)
  pub tied : IsTied cells all

-- a table in which no place holds a buffer
pub record IsBlank (t : PortTable) : Type 0 where
  pub table : IsTable t
  pub empty : t.numbers.items ≡ replicate (count_of t.places.sizes) 0
