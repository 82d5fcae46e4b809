-- A buffer and where it stands: a cell has the buffer of its index, or none.
use Rattle.std.specs.Prelude.{ℕ, Bool, true, false, List, Option, Some, None, option_map}
use Rattle.std.specs.Borrow.{Lends, MutBor, Fml, Array, u8}
use Rattle.nm_region.specs.Buffers.{Buffer, with_bytes}
use Rattle.nm_region.specs.Marked.{with_front}
use Rattle.nm_hold.specs.declared.standing.Home.{Home}
use Rattle.nm_hold.specs.declared.standing.Standing.{Standing}
use Rattle.nm_hold.specs.contracts.standing.Standing.{the_row}

abbrev pub home_in : Option Standing → Option Home
home_in cell = option_map (λ (s : Standing). s.home) cell

-- the same home, named or not
abbrev pub cell_named : Bool → Option Standing → Option Standing
cell_named named cell = option_map (λ (s : Standing). record s { home = record { place = s.home.place; named = named } }) cell

abbrev pub buf_in : Option Standing → Option Buffer
buf_in cell = option_map (λ (s : Standing). s.buf) cell

abbrev pub bytes_if : Bool → List ℕ → Option (List ℕ)
bytes_if true bytes = Some bytes
bytes_if false bytes = None

-- the bytes of a named buffer
abbrev pub named_bytes_in : Option Standing → Option (List ℕ)
named_bytes_in None = None
named_bytes_in (Some s) = bytes_if s.home.named s.buf.bytes

abbrev pub cell_written : Option Standing → List ℕ → Option Standing
cell_written cell bytes = option_map (λ (s : Standing). record s { buf = with_bytes s.buf bytes }) cell

-- a cell whose buffer's first bytes are written
abbrev pub cell_fronted : List ℕ → Option Standing → Option Standing
cell_fronted bytes cell = option_map (λ (s : Standing). record s { buf = with_front bytes s.buf }) cell

abbrev pub bytes_in : Option Standing → Option (List ℕ)
bytes_in cell = option_map (λ (s : Standing). s.buf.bytes) cell

-- a standing ends with the bytes last written
abbrev pub LendsBytes : MutBor Standing → MutBor (List ℕ) → Fml
LendsBytes s r = Lends the_row (Array u8 0) s r (λ bytes. record (s.now) { buf = with_bytes s.now.buf bytes })
