-- A `&` to a part lends its bytes. Assumes `Logic`.
use Rattle.std.proofs.Common.{ℕ, ◌-◌, ◌*◌, ◌^◌, List, [], length, sym, subst}
use seplogic.Ra.Ura.{Ura}
use mir.Syntax.{ty_array}
use mir.Raw.{raw as bare}
use base.Fraction.{full_share}
use base.Fml.{Lft, Incl, Incl-refl, ftrue, fsep, flt}
use types.Logic.{Logic}
use denote.Array.{Array}
use denote.ArrayMemory.{Single}
use denote.Builtin.{u8}
use denote.Memory.{lone}
use denote.Param.Shared.{copy_shared}
use denote.RawPtr.{Ptr, block_ptr, null_ptr, lies_at, room_for, in_block, ◌+ₚ◌}
use denote.Sharing.{said}
use denote.Shares.{Shares-less, Shares-Array}
use denote.Struct.Field.{RawPtr-field}
use denote.Struct.Laws.{RawPtr-copy}
use denote.Struct.Lending.{lent_at, Lends, Lends-false, Lends-lies, Lends-said, Lends-first, Lends-both, of_Lends}
use Rattle.std.specs.Mem.{type_size}
use Rattle.std.specs.Allocator.{block_with_items}
use Rattle.std_alloc.proofs.SharedLaws.{lent_shr_laws}
use Rattle.nm_region.proofs.Lodging.{byte_laws}
use Rattle.nm_region.specs.contracts.part.Part as C
use Rattle.nm_region.proofs.part.Part.TheLaw.Statement.{statement}

module _ {M : Type 1} {𝓤 : Ura M} (𝓛 : Logic 𝓤) (l : Lft) (inc : Incl l u8.lives) (xs : List ℕ) where
  Lends-bytes : (p : Ptr) → Lends 𝓛 (in_block p (block_with_items (λ _ _. ftrue) u8 p (length xs) 2048 xs)) (lent_at (Array u8 (length xs)) p xs) l
  Lends-bytes null_ptr κ ts inc' sp = Lends-false 𝓛 (lent_at (Array u8 (length xs)) null_ptr xs) l κ ts inc' sp
  Lends-bytes (block_ptr b o) κ ts inc' sp =
      let p : Ptr = block_ptr b o in
      let n = length xs in
      Lends-first 𝓛 (lies_at (Array u8 n) full_share p xs) (fsep (room_for (bare (ty_array (lone u8.mir) (2048 - n))) (p +ₚ (n * type_size u8))) ftrue) (lent_at (Array u8 n) p xs) l
      (Lends-lies 𝓛 (Array u8 n) l p xs (Shares-Array 𝓛 u8 (subst Single (sym byte_laws.one) tt) n l (Shares-less 𝓛 u8 u8.lives l inc (byte_laws.shares 𝓛)) xs)) κ ts inc' sp

pub shares : statement
shares = of_Lends C.struct C.the_codes C.the_heap C.the_lent (λ d p. lent_shr_laws u8 byte_laws.shr_laws d.at (length d.items) 2048 d.items)
    (copy_shared RawPtr-field RawPtr-copy, tt)
    (λ M 𝓤 𝓛 d p.
    let l = C.the_row.lives in
    let n = length d.items in
    let small = flt (2048 * type_size u8) (2 ^ 63) in
    Lends-both 𝓛 small (in_block d.at (block_with_items (λ _ _. ftrue) u8 d.at n 2048 d.items)) (said small) (lent_at (Array u8 n) d.at d.items) l (Lends-said 𝓛 small tt l)
    (Lends-bytes 𝓛 l (Incl-refl []) d.items d.at))
