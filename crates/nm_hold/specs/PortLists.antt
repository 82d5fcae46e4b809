-- The tables of a session's ports as contracts see them: in the order in which the ports came, and for
-- how many more of them there is room.
use Rattle.std.specs.Prelude.{ℕ, List}
use Rattle.nm_hold.specs.declared.table.PortTable.{PortTable}

pub record PortList : Type 0 where
  pub tables : List PortTable
  pub spare : ℕ
