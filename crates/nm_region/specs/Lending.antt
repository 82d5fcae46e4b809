-- What a buffer is once its bytes have been lent.
use Rattle.std.specs.Prelude.{ℕ, List}
use Rattle.std.specs.Borrow.{Lends, MutBor, Fml, Array, u8}
use Rattle.nm_region.specs.Buffers.{Buffer, with_bytes}
use Rattle.nm_region.specs.contracts.buf.Buf.{the_row}

-- the buffer ends with the bytes last written
abbrev pub LendsBytes : MutBor Buffer → MutBor (List ℕ) → Fml
LendsBytes b r = Lends the_row (Array u8 0) b r (with_bytes (b.now))
