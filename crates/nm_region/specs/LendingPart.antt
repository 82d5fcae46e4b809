-- What a part of a block is once its bytes have been lent.
use Rattle.std.specs.Prelude.{ℕ, List}
use Rattle.std.specs.Borrow.{Lends, MutBor, Fml, Array, u8}
use Rattle.nm_region.specs.Buffers.{written_over}
use Rattle.nm_region.specs.declared.part.Part.{Part}
use Rattle.nm_region.specs.contracts.part.Part.{the_row}

abbrev pub with_written : Part → List ℕ → Part
with_written part bytes = record part { items = written_over part.items bytes }

-- the part ends with the bytes last written
abbrev pub LendsItems : MutBor Part → MutBor (List ℕ) → Fml
LendsItems p r = Lends the_row (Array u8 0) p r (with_written p.now)
