-- Values where they lie are cut, glued, and are what a vector over them owns. Assumes `Logic`.
use native.Mathlib.Nat.{zero-mul, suc-mul}
use prog.Capped.{capped_is}
use prog.Memory.{capped}
use Rattle.std.proofs.Common.{◌≡◌, ℕ, zero, suc, ◌+◌, ◌-◌, ◌*◌, ◌^◌, ◌<◌, ◌≤◌, List, [], ◌∷◌, ◌++◌, length, take, drop as drop_l, refl, sym, ap, ◌∙◌, arith, take-append-drop, length-take-le}
use seplogic.Ra.Ura.{Ura}
use mir.Syntax.{ty_array}
use base.Fraction.{full_share}
use base.Logic.{ent, sep, id⊢, never}
use base.Fml.{ftrue, froom}
use types.Logic.{Logic, sem}
use types.Kit.{‵, given, ◌⊛◌, ◌$◌, ◌∵◌, !, qed, by, move, keep, drop, use0, use1, use2, split, learn, rewrite, fsplit, fjoin, flt_i, done}
use denote.RattleType.{RattleType}
use denote.Param.Laws.{Laws}
use denote.RawPtr.{Ptr, block_ptr, null_ptr, in_block, in_a_block}
use denote.Array.{Array}
use denote.Index.{place, place_is, row}
use denote.Memory.{part_at}
use denote.Steps.{nothing}
use Rattle.std.proofs.ptr.Rows.{add_times}
use Rattle.std.specs.Mem.{type_size}
use Rattle.std.specs.Ptr.{ptr_add}
use Rattle.std.specs.Allocator.{block_with_items}
use Rattle.std_alloc.specs.Vec.Ownership.{lodged, owns_if, has_block}
use Rattle.std_alloc.proofs.OfLodged.{lodging}
use Rattle.std_alloc.proofs.VecSteps.El.{El, R, elτ, sz}
use Rattle.std_alloc.proofs.VecSteps.Opens.{blk_in, blk_out}
use Rattle.std_alloc.proofs.VecSteps.Rows.{apart, whole, empty, row_cut, row_glue}
use Rattle.nm_reach.specs.Cells.{values_at}

-- the size of i values, which is below the word's limit
pub uncapped : (i k : ℕ) → i * k < 2 ^ 64 → i * capped k ≡ i * k
uncapped zero k h = zero-mul (capped k) ∙ sym (zero-mul k)
uncapped (suc i) k h = let more = suc-mul i k in ap (λ (j : ℕ). suc i * j) (capped_is k (omega arith))

swapped : (a b c o : ℕ) → c ≡ b + a → a + (b + o) ≡ c + o
swapped a b c o e = omega arith

-- n cells behind the cell m
pub added : (X : RattleType) (m n : ℕ) (p : Ptr) → ptr_add X n (ptr_add X m p) ≡ ptr_add X (m + n) p
added X m n (block_ptr b o) = ap (block_ptr b) (swapped (n * type_size X) (m * type_size X) ((m + n) * type_size X) o (add_times m n (type_size X)))
added X m n null_ptr = refl

pub at_first : (X : RattleType) (p : Ptr) → ptr_add X 0 p ≡ p
at_first X (block_ptr b o) = ap (block_ptr b) (let none : 0 * type_size X ≡ 0 = zero-mul (type_size X) in omega (arith, none))
at_first X null_ptr = refl

module _ (Y : RattleType) (L : Laws Y) {M : Type 1} {𝓤 : Ura M} (𝓛 : Logic 𝓤) where
  open 𝓛 use {H}

  abbrev E : El
  E = lodging Y L

  abbrev X : RattleType
  X = R E

  pub housed : (b o n : ℕ) (xs : List Y.Denot) → length xs ≡ n → n * type_size X < 2 ^ 63
      → ent 𝓤 (sem 𝓛 (values_at X (block_ptr b o) xs)) (sem 𝓛 (lodged X (block_ptr b o) n n xs))
  housed b o zero xs long fit =
      qed 𝓛 (‵ (values_at X (block_ptr b o) xs) ∷ []) ∵ drop ! $ nothing ! $ flt_i ! (zero * type_size X) (2 ^ 63) fit $ fjoin ! $ done !
  housed b o (suc k) xs long fit =
      let n = suc k in
      let none : 0 ≡ n - n = omega arith in
      qed 𝓛 (‵ (values_at X (block_ptr b o) xs) ∷ []) ∵ rewrite ! 0 (λ j. ‵ (part_at (Array X j) full_share xs b o)) long refl $
      nothing ! $ use0 𝓛 (‵ (froom (ty_array (elτ E) 0) b (o + n * sz E))) (𝓛.laws.room_nil (elτ E) b (o + n * sz E)) $
      rewrite ! 0 (λ j. ‵ (froom (ty_array (elτ E) j) b (o + n * sz E))) none refl $ move ! (2 ∷ 0 ∷ 1 ∷ []) $
      blk_in E ! (record {}) b o n n xs (omega arith) $ flt_i ! (n * type_size X) (2 ^ 63) fit $ fjoin ! $ done !

  vacated_at : (b o n : ℕ) (xs : List Y.Denot) → length xs ≡ n
      → ent 𝓤 (sem 𝓛 (owns_if (has_block n) (block_with_items (λ _ _. ftrue) X (block_ptr b o) n n xs))) (sem 𝓛 (values_at X (block_ptr b o) xs))
  vacated_at b o zero xs long =
      qed 𝓛 (‵ ftrue ∷ []) ∵ drop ! $ use0 𝓛 (‵ (part_at (Array X (length xs)) full_share xs b o)) (empty E 𝓛 xs b o long) $ done !
  vacated_at b o (suc k) xs long =
      let n = suc k in
      qed 𝓛 (‵ (owns_if (has_block n) (block_with_items (λ _ _. ftrue) X (block_ptr b o) n n xs)) ∷ []) ∵
      blk_out E ! (record {}) b o n n xs (omega arith) $ keep ! (0 ∷ []) $ rewrite ! 0 (λ j. ‵ (part_at (Array X j) full_share xs b o)) (sym long) refl $ done !

  pub vacated : (p : Ptr) (n c : ℕ) (xs : List Y.Denot) → length xs ≡ n → c ≡ n → ent 𝓤 (sem 𝓛 (lodged X p n c xs)) (sem 𝓛 (values_at X p xs))
  vacated p n c xs long full =
      let Blk = λ (q : Ptr) (j : ℕ). owns_if (has_block j) (block_with_items (λ _ _. ftrue) X q n j xs) in
      qed 𝓛 (‵ (lodged X p n c xs) ∷ []) ∵ fsplit ! $ drop ! $ in_a_block ! p (λ q. in_block q (Blk q c)) (id⊢ 𝓤 (never 𝓤)) (λ b o at.
      rewrite ! 0 (λ j. ‵ (Blk (block_ptr b o) j)) full refl $ use1 𝓛 (‵ (values_at X (block_ptr b o) xs)) (vacated_at b o n xs long) $
      rewrite ! 0 (λ q. ‵ (values_at X q xs)) (sym at) refl $ done !)

  pub cut : (b o k : ℕ) (xs : List Y.Denot) → k ≤ length xs
      → ent 𝓤 (sem 𝓛 (values_at X (block_ptr b o) xs)) (sep 𝓤 (sem 𝓛 (values_at X (block_ptr b o) (take k xs))) (sem 𝓛 (values_at X (block_ptr b (k * type_size X + o)) (drop_l k xs))))
  cut b o k xs within =
      let front = take k xs in
      let back = drop_l k xs in
      let long : length front ≡ k = length-take-le k xs within in
      qed 𝓛 (‵ (part_at (Array X (length xs)) full_share xs b o) ∷ []) ∵
      use1 𝓛 (given (length xs ≡ length xs) (‵ (row X full_share xs b o))) (apart E 𝓛 full_share (length xs) xs b o) $ learn ! (λ _.
      rewrite ! 0 (λ ys. ‵ (row X full_share ys b o)) (sym (take-append-drop k xs)) refl $
      use1 𝓛 (‵ (row X full_share front b o) ⊛ ‵ (row X full_share back b (place (sz E) o (length front)))) (row_cut E 𝓛 full_share front back b o) $ split ! $
      use1 𝓛 (‵ (part_at (Array X (length front)) full_share front b o)) (whole E 𝓛 full_share (length front) front b o refl) $ move ! (1 ∷ []) $
      rewrite ! 0 (λ j. ‵ (row X full_share back b j)) (ap (place (sz E) o) long ∙ place_is (sz E) o k) refl $
      use1 𝓛 (‵ (part_at (Array X (length back)) full_share back b (k * type_size X + o))) (whole E 𝓛 full_share (length back) back b (k * type_size X + o) refl) $ move ! (1 ∷ 0 ∷ []) $ done !)

  pub glue : (b o : ℕ) (xs ys : List Y.Denot)
      → ent 𝓤 (sep 𝓤 (sem 𝓛 (values_at X (block_ptr b o) xs)) (sem 𝓛 (values_at X (block_ptr b (length xs * type_size X + o)) ys))) (sem 𝓛 (values_at X (block_ptr b o) (xs ++ ys)))
  glue b o xs ys =
      let far = length xs * type_size X + o in
      qed 𝓛 (‵ (part_at (Array X (length xs)) full_share xs b o) ∷ ‵ (part_at (Array X (length ys)) full_share ys b far) ∷ []) ∵
      use1 𝓛 (given (length xs ≡ length xs) (‵ (row X full_share xs b o))) (apart E 𝓛 full_share (length xs) xs b o) $ learn ! (λ _. move ! (1 ∷ []) $
      use1 𝓛 (given (length ys ≡ length ys) (‵ (row X full_share ys b far))) (apart E 𝓛 full_share (length ys) ys b far) $ learn ! (λ _.
      rewrite ! 0 (λ j. ‵ (row X full_share ys b j)) (sym (place_is (sz E) o (length xs))) refl $ move ! (1 ∷ 0 ∷ []) $
      use2 𝓛 (‵ (row X full_share (xs ++ ys) b o)) (row_glue E 𝓛 full_share xs ys b o) $ by ! (whole E 𝓛 full_share (length (xs ++ ys)) (xs ++ ys) b o refl)))
