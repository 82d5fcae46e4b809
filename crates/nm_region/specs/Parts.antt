-- The parts of a region's block.
use Rattle.std.specs.Prelude.{ℕ, ◌≡◌, ◌+◌, ◌*◌, ◌^◌, ◌<◌, Bool, true, false, List, [], ◌∷◌, length}
use mir.Syntax.{Ty, w8, ty_int, ty_array}
use base.Fml.{Fml, ftrue, ffalse, fsep, froom}
use denote.RawPtr.{Ptr, block_ptr, null_ptr}

-- the type of a block of n bytes
abbrev pub bytes_of : ℕ → Ty
bytes_of n = ty_array (ty_int w8) n

-- room for parts of s bytes side by side, from o on in the block b: for those that the list says
module _ (s b : ℕ) where
  abbrev pub parts : ℕ → List Bool → Fml
  parts o [] = ftrue
  parts o (true ∷ home) = fsep (froom (bytes_of s) b o) (parts (o + s) home)
  parts o (false ∷ home) = parts (o + s) home

-- how many bytes into the block its parts begin: behind the 16 bytes that the C library puts in front of a block
-- that it maps by itself, two parts are then one page
abbrev pub lead : ℕ
lead = 4080

abbrev pub parts_at : Ptr → List Bool → Fml
parts_at (block_ptr b o) home = fsep (froom (bytes_of lead) b o) (parts 2048 b (o + lead) home)
parts_at null_ptr home = ffalse

-- the list has an entry for each part
abbrev pub IsBlock : ℕ → List Bool → Type 0
IsBlock size home = (size ≡ length home * 2048 + lead) × (size < 2 ^ 63)
