-- Copies of one frame, put one after another.
use Rattle.std.proofs.Common.{ℕ, zero, suc, List}
use Rattle.vale_own.specs.SideEdits.{KeepsSides}
use Rattle.vale_own.proofs.SideEditing.{edits-keep}
use Rattle.nm_own.specs.Copies.{with_copies}

pub copies-keep : (count id : ℕ) (bytes : List ℕ) → KeepsSides (with_copies count id bytes)
copies-keep zero id bytes pool session shut own side of = of
copies-keep (suc count) id bytes pool session shut own side of =
    edits-keep.frame id bytes pool session shut own (with_copies count id bytes side) (copies-keep count id bytes pool session shut own side of)
