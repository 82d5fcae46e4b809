-- What an opening makes of the parts of a book.
use Rattle.std.specs.Prelude.{ℕ, Bool, true, false, ◌≡◌, ◌≤◌, ◌+◌, not, List, [], ◌∷◌, ◌++◌, length, take, drop, map, Option, Result, OnOk, OnErr, IfOk}
use Rattle.std.specs.List.{list_any}
use Rattle.nm_types.specs.Limits.{most_switches, most_ring}
use Rattle.nm_types.specs.Names.{switch_of, is_switch_port_name}
use Rattle.nm_types.specs.declared.fault.OpenFault.{OpenFault}
use Rattle.nm_types.specs.Openings.{is_on_switch, finds_switches_full, open_refusal as names_refusal}
use Rattle.nm_pool.specs.Free.{PoolState}
use Rattle.nm_region.specs.Buffers.{Buffer, indices_of}
use Rattle.vale_names.specs.declared.port.NamedPort.{NamedPort}
use Rattle.vale_names.specs.Ports.{names_of, Joins, ports_without}
use Rattle.vale_entry.specs.declared.entry.Entry.{Entry}
use Rattle.vale_entry.specs.declared.entry.Ask.TheVariants.{Open}
use Rattle.vale_entry.specs.declared.entry.Reply.{Reply}
pub use Rattle.vale_entry.specs.Opening.{name_of_port}
use Rattle.vale_entry.specs.Opening.{refusal_or_room}
use Rattle.vale_entry.specs.Legal.{world_of}
use Rattle.vale_port.specs.declared.port.Opening.{Opening}
use Rattle.vale_port.specs.Ports.{PortState, opened_state}
use Rattle.vale_parts.specs.FreeBuffers.{pool_less}
use Rattle.vale_parts.specs.FreeLaws.{IsTakenBack}
use Rattle.vale_parts.specs.SwitchTables.{TablesAre, has_table}
use Rattle.vale_steps.specs.declared.opening.Opened.{Opened}
use Rattle.vale_steps.specs.declared.tables.NamedTable.{NamedTable}
use Rattle.vale_steps.specs.NamedTables.{table_seen}

abbrev pub is_port_on : List ℕ → PortState → Bool
is_port_on switch p = is_on_switch switch p.name

-- a table whose switch has no port
abbrev pub is_vacant : List PortState → NamedTable → Bool
is_vacant ps table = not (list_any (is_port_on (switch_of table.label)) ps)

-- a port of this name has its switch's table, if it is on a switch
abbrev pub HasTableFor : List ℕ → List NamedTable → Type 0
HasTableFor name tables = is_switch_port_name name ≡ true → has_table (switch_of name) (map table_seen tables) ≡ true

abbrev pub name_of_state : PortState → List ℕ
name_of_state p = p.name

-- tables that are those of a world whose ports have these names still are
abbrev pub StillTables : List PortState → List NamedTable → List NamedTable → Type 0
StillTables ps old new = (pool : ℕ) (history : List Entry) → map name_of_state ps ≡ map name_of_port (world_of pool history).ports
    → TablesAre (world_of pool history) (map table_seen old) → TablesAre (world_of pool history) (map table_seen new)

-- and no more than a book may have switches, where one of this name is not refused for that
abbrev pub StillFew : List ℕ → List PortState → List NamedTable → List NamedTable → Type 0
StillFew name ps old new = (pool : ℕ) (history : List Entry) → map name_of_state ps ≡ map name_of_port (world_of pool history).ports
    → TablesAre (world_of pool history) (map table_seen old) → finds_switches_full (map name_of_port (world_of pool history).ports) name ≡ false
    → length old ≤ most_switches → length new ≤ most_switches

-- names that a port joins are as they were once it is taken out again
abbrev pub ComesOut : NamedPort → List NamedPort → Type 0
ComesOut port names = (next : List NamedPort) → Joins names port next → ports_without port.id.0 next ≡ names

-- why an opening is refused, by the names that are there and the free buffers
abbrev pub refusal_for : List NamedPort → List Buffer → Opening → ℕ → Option OpenFault
refusal_for names free opening rx =
    refusal_or_room (names_refusal (names_of names) opening.name opening.tx rx opening.extra) (opening.tx + rx + opening.extra) (length free)

abbrev pub entry_for : Opening → ℕ → Reply → Entry
entry_for opening rx reply = record {
  session = opening.session;
  ask = Open opening.session opening.name opening.tx rx opening.extra;
  reply = reply;
}

-- the port, with its part of the free buffers
abbrev pub state_for : Opening → ℕ → List Buffer → PortState
state_for opening rx free = opened_state opening.id.0 opening.session.0 opening.name opening.tx opening.extra (take rx (drop opening.tx free))

-- what an opening hands out of the free buffers
pub record IsOpened (opening : Opening) (rx : ℕ) (free : List Buffer) (opened : Opened) : Type 0 where
  pub port_is : opened.port ≡ opening.id
  pub tx_are : opened.tx.items ≡ take opening.tx free
  pub rx_are : opened.rx.items ≡ indices_of (take rx (drop opening.tx free))
  pub extra_are : opened.extra.items ≡ take opening.extra (drop (opening.tx + rx) free)

-- a pool of which an opening can take its buffers
pub record CanSeat (opening : Opening) (rx : ℕ) (pool : PoolState) : Type 0 where
  pub back : (count : ℕ) → IsTakenBack pool count
  pub enough : opening.tx + rx + opening.extra ≤ length pool.free
  pub ring : (1 ≤ rx) × (rx ≤ most_ring)

-- the port stands behind the others with its part of the free buffers, or nothing has changed
pub record IsSeated {E : Type 0} (opening : Opening) (rx : ℕ) (ports new_ports : List PortState) (pool new_pool : PoolState) (result : Result Opened E) : Type 0 where
  pub ports_are : OnOk result (new_ports ≡ ports ++ state_for opening rx pool.free ∷ [])
  pub pool_is : OnOk result (new_pool ≡ pool_less (opening.tx + rx + opening.extra) pool)
  pub opened : IfOk result (IsOpened opening rx pool.free)
  pub err : OnErr result ((new_ports ≡ ports) × (new_pool ≡ pool))
