-- What a book stands for, and how its parts are those of a switch.
use Rattle.std.specs.Prelude.{ℕ, ◌≡◌, ◌<◌, ◌≤◌, ◌^◌, ◌++◌, List, length, map}
use Rattle.std.specs.List.{AllByRecursion}
use Rattle.nm_types.specs.Limits.{most_switches}
use Rattle.nm_types.specs.Buffers.{IsPoolSize}
use Rattle.nm_types.specs.declared.id.SessionId.{SessionId}
use Rattle.nm_region.specs.Buffers.{Buffer}
pub use Rattle.nm_region.specs.Regions.{IsBufferOf, AreOf}
use Rattle.vale_line.specs.Gots.{buffers_of}
use Rattle.vale_line.specs.Lines.{held_gots}
use Rattle.vale_entry.specs.declared.entry.Entry.{Entry}
use Rattle.vale_entry.specs.Legal.{world_of, holdings_of, IsLegal}
use Rattle.vale_entry.specs.Room.{promised_of}
use Rattle.vale_port.specs.Ports.{PortState}
use Rattle.vale_port.specs.Lists.{ArePortsOf}
use Rattle.vale_parts.specs.Parts.{Parts, PartsAre}
use Rattle.vale_steps.specs.NamedTables.{table_seen}
use Rattle.vale_book.specs.declared.book.Book.TheInside.{Inside}
use Rattle.vale_own.specs.Recorded.{Recorded, HadRoom}

abbrev pub recorded : Inside → Recorded
recorded b = record { pool = b.pool.buffers; region = b.region.region; limits = b.history.limits; entries = b.history.entries }

abbrev pub parts_in : Inside → Parts
parts_in b = record { names = b.names; tables = map table_seen b.tables.items; watches = b.watches; tally = b.tally; free = b.pool }

abbrev pub number_of_session : SessionId → ℕ
number_of_session session = session.0

abbrev pub buffers_in_port : PortState → List Buffer
buffers_in_port p = p.line.idle ++ buffers_of (held_gots p.line.lots)

abbrev pub HasBuffersOf : ℕ → PortState → Type 0
HasBuffersOf region p = AreOf region (buffers_in_port p)

-- the entries are a legal history, and the parts are what stands after it
pub record StandsFor (pool : ℕ) (history : List Entry) (b : Inside) : Type 0 where
  pub legal : IsLegal pool history
  pub promised_is : b.history.promised ≡ promised_of (world_of pool history)
  pub sessions_are : map number_of_session b.sessions.items ≡ (world_of pool history).sessions
  pub ports_are : ArePortsOf (world_of pool history).ports (holdings_of pool history).ports b.ports.items
  pub parts_are : PartsAre (world_of pool history) (holdings_of pool history) (parts_in b)

-- so it is with the book's own entries, each of which had room, and each buffer that the parts have is
-- of the book's region
pub record IsBook (b : Inside) : Type 0 where
  pub stands : StandsFor b.pool.buffers b.history.entries b
  pub rooms : HadRoom (recorded b)
  -- a switch that has lost its last port leaves its table to the next
  pub tables_few : length b.tables.items ≤ most_switches
  -- the number of each entry has 32 bits
  pub few : b.history.limits.entries < 2 ^ 32
  -- and over so few buffers no counter passes its 64 bits
  pub pool_fits : IsPoolSize b.pool.buffers
  -- the book, its pool and its region are of one size
  pub size : b.buffers ≡ b.pool.buffers
  pub region_size : b.region.buffers ≡ b.pool.buffers
  pub free_are : AreOf b.region.region b.pool.free
  pub lines_are : AllByRecursion (HasBuffersOf b.region.region) b.ports.items
