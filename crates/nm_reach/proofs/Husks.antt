-- A vector is its values and the way back. Assumes `Logic`.
use Rattle.std.proofs.Common.{◌≡◌, ℕ, ◌*◌, ◌^◌, ◌<◌, List, [], ◌∷◌, length, true, refl, sym, arith}
use Rattle.std.proofs.lemmas.Bool.{ne_eqb, not_from_false}
use Rattle.std.proofs.lemmas.List.{with_items_is}
use seplogic.Ra.Ura.{Ura}
use mir.Val.{Val}
use base.Fraction.{full_share}
use base.Logic.{ent, sep, wand, never, id⊢}
use base.Fml.{fsep, feq, flt, fall, fwand}
use types.Logic.{Logic, sem}
use types.Kit.{‵, ◌$◌, ◌∵◌, !, qed, move, frame, each, assume, show, fsplit, fjoin, feq_l, feq_i, flt_l, flt_i, rewrite, done}
use denote.RattleType.{RattleType}
use denote.Array.{Array}
use denote.RawPtr.{Ptr, block_ptr, lies_at, in_block, in_a_block}
use Rattle.std.proofs.ptr.Rows.{times_below}
use Rattle.std.specs.Mem.{type_size}
use Rattle.std.specs.Allocator.{block_with_items}
use Rattle.std.specs.Vec.{with_items}
use Rattle.std.specs.contracts.alloc.Global as heap
use Rattle.std.specs.contracts.impls.GlobalAllocator.TheImpl.{ghosts}
use Rattle.std_alloc.specs.Vec.Ownership.{owns_if, has_block}
use Rattle.std_alloc.specs.contracts.vec.Vec as V
use Rattle.nm_reach.specs.Cells.{values_at}
use Rattle.nm_reach.specs.Fields.{FieldState, husk_of}
use Rattle.nm_reach.specs.contracts.parts.Husk as Husk
use Rattle.nm_reach.proofs.Lodging.{plainly}
use Rattle.nm_reach.proofs.Walks.{one, one_made}

abbrev pub Whole : RattleType → RattleType
Whole R = V.the_row R heap.the_row ghosts

module _ (R : RattleType) {M : Type 1} {𝓤 : Ura M} (𝓛 : Logic 𝓤) (v : (Whole R).Denot) (u : Val) where
  pub carve : 0 < v.len → ent 𝓤 (sem 𝓛 ((Whole R).own_val v (u ∷ [])))
      (sep 𝓤 (sem 𝓛 (values_at R v.ptr v.items)) (sep 𝓤 (sem 𝓛 (flt (v.len * type_size R) (2 ^ 63))) (sem 𝓛 (Husk.the_own R (husk_of v) (one u ∷ [])))))
  carve some =
      let live : has_block v.cap ≡ true = not_from_false _ (ne_eqb v.cap 0 (λ e. omega (arith, v.ok.1))) in
      let t = ghosts.dealloc_token v.alloc in
      let Blk = λ (p : Ptr) (xs : List R.Denot). block_with_items t R p v.len v.cap xs in
      let Given = λ (ys : List R.Denot). fsep (feq ℕ (length ys) v.len) (values_at R v.ptr ys) in
      let Back = λ (ys : List R.Denot). (plainly (Whole R ∷ [])).own_val (with_items v ys, tt) (one u ∷ []) in
      qed 𝓛 (‵ ((Whole R).own_val v (u ∷ [])) ∷ []) ∵ fsplit ! $ move ! (1 ∷ []) $ fsplit ! $ flt_l ! (λ fit.
      in_a_block ! v.ptr (λ p. in_block p (owns_if (has_block v.cap) (Blk p v.items))) (id⊢ 𝓤 (never 𝓤)) (λ b o at.
      rewrite ! 0 (λ y. ‵ (owns_if y (Blk (block_ptr b o) v.items))) live refl $ rewrite ! 0 (λ p. ‵ (Blk p v.items)) (sym at) refl $ fsplit ! $
      rewrite ! 0 (λ n. ‵ (lies_at (Array R n) full_share v.ptr v.items)) v.ok.0 refl $ frame ! $
      -- [the spare room and the right to free; the fields]
      flt_i ! (v.len * type_size R) (2 ^ 63) (times_below v.len v.cap (type_size R) (2 ^ 63) v.ok.1 fit) $ frame ! $
      show ! (λ i. sem 𝓛 (fsep (feq FieldState (husk_of i.vec) (husk_of v)) (fall (List R.Denot) (λ ys. fwand (Given ys) ((plainly (Whole R ∷ [])).own_val (with_items i.vec ys, tt) (one u ∷ [])))))) (record { vec = v }) $
      feq_i ! FieldState (husk_of v) (husk_of v) refl $ frame ! $ each ! (λ ys. wand 𝓤 (sem 𝓛 (Given ys)) (sem 𝓛 (Back ys))) (λ ys. assume ! (‵ (Given ys)) $ fsplit ! $ feq_l ! (λ long.
      rewrite ! 0 (λ n. ‵ (lies_at (Array R n) full_share v.ptr ys)) long refl $ fjoin ! $
      rewrite ! 0 (λ xs. ‵ (Blk v.ptr xs)) (sym (with_items_is v ys long)) refl $
      let zs = (with_items v ys).items in
      rewrite ! 0 (λ p. ‵ (Blk p zs)) at refl $ rewrite ! 0 (λ y. ‵ (owns_if y (Blk (block_ptr b o) zs))) (sym live) refl $
      rewrite ! 0 (λ p. ‵ (in_block p (owns_if (has_block v.cap) (Blk p zs)))) (sym at) refl $
      flt_i ! (v.cap * type_size R) (2 ^ 63) fit $ fjoin ! $ move ! (1 ∷ 0 ∷ []) $ fjoin ! $ one_made ! (Whole R) (with_items v ys) u $ done !))))
