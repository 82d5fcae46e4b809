-- A whole block is its parts, a part that is at home is taken out, and one that is out is put back.
-- Assumes `Logic`.
use Rattle.std.proofs.Common.{◌≡◌, ℕ, zero, suc, ◌+◌, ◌*◌, ◌<◌, Bool, true, false, List, [], ◌∷◌, length, get_or, refl, sym, ap, ◌∙◌, arith}
use lib.ListN.{set, replicate}
use native.Mathlib.Nat.{add_comm, add_assoc, suc-mul, zero-mul, add-zero}
use seplogic.Ra.Ura.{Ura}
use mir.Syntax.{w8, ty_int}
use base.Logic.{ent, sep}
use base.Fml.{ftrue, fsep, froom}
use types.Logic.{Logic, sem}
use types.Kit.{‵, ◌⊛◌, ◌$◌, ◌∵◌, !, qed, by, move, use0, use1, use2, drop, split, rewrite, fsplit, fjoin, done}
use denote.RawPtr.Room.{past, past_bytes, room_cut, room_glue}
use denote.Steps.{nothing}
use Rattle.nm_region.specs.Parts.{bytes_of, parts}

-- where the next part's later parts begin
pub further : (o k s : ℕ) → o + s + k * s ≡ o + suc k * s
further o k s = add_assoc o s (k * s) ∙ ap (λ (j : ℕ). o + j) (add_comm s (k * s) ∙ sym (suc-mul k s))

pub first : (o s : ℕ) → o + zero * s ≡ o
first o s = ap (λ (j : ℕ). o + j) (zero-mul s) ∙ add-zero o

one_more : (n s : ℕ) → suc n * s ≡ s + n * s
one_more n s = suc-mul n s ∙ add_comm (n * s) s

module _ {M : Type 1} {𝓤 : Ura M} (𝓛 : Logic 𝓤) (s b : ℕ) where
  open 𝓛 use {H}

  made : (n o : ℕ) → ent 𝓤 (H.room (bytes_of (n * s)) b o) (sem 𝓛 (parts s b o (replicate n true)))
  made zero o = qed 𝓛 (‵ (froom (bytes_of (zero * s)) b o) ∷ []) ∵ drop ! $ nothing ! $ done !
  made (suc n) o =
      qed 𝓛 (‵ (froom (bytes_of (suc n * s)) b o) ∷ []) ∵
      rewrite ! 0 (λ (k : ℕ). ‵ (froom (bytes_of k) b o)) (one_more n s) refl $
      use1 𝓛 (‵ (froom (bytes_of s) b o) ⊛ ‵ (froom (bytes_of (n * s)) b (past (ty_int w8) s o))) (room_cut 𝓛 (ty_int w8) s (n * s) b o) $ split ! $ move ! (1 ∷ []) $
      rewrite ! 0 (λ (k : ℕ). ‵ (froom (bytes_of (n * s)) b k)) (past_bytes s o) refl $
      use1 𝓛 (‵ (parts s b (o + s) (replicate n true))) (made n (o + s)) $ move ! (1 ∷ []) $ fjoin ! $ done !

  whole : (n o : ℕ) → ent 𝓤 (sem 𝓛 (parts s b o (replicate n true))) (H.room (bytes_of (n * s)) b o)
  whole zero o =
      qed 𝓛 (‵ ftrue ∷ []) ∵ drop ! $ use0 𝓛 (‵ (froom (bytes_of zero) b o)) (𝓛.laws.room_nil (ty_int w8) b o) $
      rewrite ! 0 (λ (k : ℕ). ‵ (froom (bytes_of k) b o)) (sym (zero-mul s)) refl $ done !
  whole (suc n) o =
      qed 𝓛 (‵ (fsep (froom (bytes_of s) b o) (parts s b (o + s) (replicate n true))) ∷ []) ∵ fsplit ! $ move ! (1 ∷ []) $
      use1 𝓛 (‵ (froom (bytes_of (n * s)) b (o + s))) (whole n (o + s)) $
      rewrite ! 0 (λ (k : ℕ). ‵ (froom (bytes_of (n * s)) b k)) (sym (past_bytes s o)) refl $ move ! (1 ∷ []) $
      use2 𝓛 (‵ (froom (bytes_of (s + n * s)) b o)) (room_glue 𝓛 (ty_int w8) s (n * s) b o) $
      rewrite ! 0 (λ (k : ℕ). ‵ (froom (bytes_of k) b o)) (sym (one_more n s)) refl $ done !

  taken : (home : List Bool) (k o : ℕ) → k < length home → get_or home k false ≡ true
      → ent 𝓤 (sem 𝓛 (parts s b o home)) (sep 𝓤 (H.room (bytes_of s) b (o + k * s)) (sem 𝓛 (parts s b o (set home k false))))
  taken [] k o h e = absurd (let bad : k < 0 = h in omega arith)
  taken (true ∷ home) zero o h e =
      qed 𝓛 (‵ (fsep (froom (bytes_of s) b o) (parts s b (o + s) home)) ∷ []) ∵ fsplit ! $
      rewrite ! 0 (λ (j : ℕ). ‵ (froom (bytes_of s) b j)) (sym (first o s)) refl $ done !
  taken (false ∷ home) zero o h e = absurd cc
  taken (true ∷ home) (suc k) o h e =
      qed 𝓛 (‵ (fsep (froom (bytes_of s) b o) (parts s b (o + s) home)) ∷ []) ∵ fsplit ! $ move ! (1 ∷ []) $
      use1 𝓛 (‵ (froom (bytes_of s) b (o + s + k * s)) ⊛ ‵ (parts s b (o + s) (set home k false))) (taken home k (o + s) (omega arith) e) $ split ! $
      rewrite ! 0 (λ (j : ℕ). ‵ (froom (bytes_of s) b j)) (further o k s) refl $ move ! (2 ∷ 1 ∷ []) $ fjoin ! $ move ! (1 ∷ []) $ done !
  taken (false ∷ home) (suc k) o h e =
      qed 𝓛 (‵ (parts s b (o + s) home) ∷ []) ∵
      use1 𝓛 (‵ (froom (bytes_of s) b (o + s + k * s)) ⊛ ‵ (parts s b (o + s) (set home k false))) (taken home k (o + s) (omega arith) e) $ split ! $
      rewrite ! 0 (λ (j : ℕ). ‵ (froom (bytes_of s) b j)) (further o k s) refl $ done !

  put : (home : List Bool) (k o : ℕ) → k < length home
      → ent 𝓤 (sep 𝓤 (H.room (bytes_of s) b (o + k * s)) (sem 𝓛 (parts s b o home))) (sem 𝓛 (parts s b o (set home k true)))
  put [] k o h = absurd (let bad : k < 0 = h in omega arith)
  put (true ∷ home) zero o h =
      qed 𝓛 (‵ (froom (bytes_of s) b (o + zero * s)) ∷ ‵ (fsep (froom (bytes_of s) b o) (parts s b (o + s) home)) ∷ []) ∵ drop ! $ done !
  put (false ∷ home) zero o h =
      qed 𝓛 (‵ (froom (bytes_of s) b (o + zero * s)) ∷ ‵ (parts s b (o + s) home) ∷ []) ∵
      rewrite ! 0 (λ (j : ℕ). ‵ (froom (bytes_of s) b j)) (first o s) refl $ fjoin ! $ done !
  put (true ∷ home) (suc k) o h =
      qed 𝓛 (‵ (froom (bytes_of s) b (o + suc k * s)) ∷ ‵ (fsep (froom (bytes_of s) b o) (parts s b (o + s) home)) ∷ []) ∵
      rewrite ! 0 (λ (j : ℕ). ‵ (froom (bytes_of s) b j)) (sym (further o k s)) refl $ move ! (1 ∷ []) $ fsplit ! $ move ! (2 ∷ 1 ∷ []) $
      use2 𝓛 (‵ (parts s b (o + s) (set home k true))) (put home k (o + s) (omega arith)) $ move ! (1 ∷ []) $ fjoin ! $ done !
  put (false ∷ home) (suc k) o h =
      qed 𝓛 (‵ (froom (bytes_of s) b (o + suc k * s)) ∷ ‵ (parts s b (o + s) home) ∷ []) ∵
      rewrite ! 0 (λ (j : ℕ). ‵ (froom (bytes_of s) b j)) (sym (further o k s)) refl $
      by ! (put home k (o + s) (omega arith))

  -- the same where the parts begin behind l bytes of room, which stay
  pub made_behind : (l n o : ℕ) → ent 𝓤 (H.room (bytes_of (l + n * s)) b o) (sem 𝓛 (fsep (froom (bytes_of l) b o) (parts s b (o + l) (replicate n true))))
  made_behind l n o =
      qed 𝓛 (‵ (froom (bytes_of (l + n * s)) b o) ∷ []) ∵
      use1 𝓛 (‵ (froom (bytes_of l) b o) ⊛ ‵ (froom (bytes_of (n * s)) b (past (ty_int w8) l o))) (room_cut 𝓛 (ty_int w8) l (n * s) b o) $ split ! $ move ! (1 ∷ []) $
      rewrite ! 0 (λ (k : ℕ). ‵ (froom (bytes_of (n * s)) b k)) (past_bytes l o) refl $
      use1 𝓛 (‵ (parts s b (o + l) (replicate n true))) (made n (o + l)) $ move ! (1 ∷ []) $ fjoin ! $ done !

  pub whole_behind : (l n o : ℕ) → ent 𝓤 (sem 𝓛 (fsep (froom (bytes_of l) b o) (parts s b (o + l) (replicate n true)))) (H.room (bytes_of (l + n * s)) b o)
  whole_behind l n o =
      qed 𝓛 (‵ (fsep (froom (bytes_of l) b o) (parts s b (o + l) (replicate n true))) ∷ []) ∵ fsplit ! $ move ! (1 ∷ []) $
      use1 𝓛 (‵ (froom (bytes_of (n * s)) b (o + l))) (whole n (o + l)) $
      rewrite ! 0 (λ (k : ℕ). ‵ (froom (bytes_of (n * s)) b k)) (sym (past_bytes l o)) refl $ move ! (1 ∷ []) $
      use2 𝓛 (‵ (froom (bytes_of (l + n * s)) b o)) (room_glue 𝓛 (ty_int w8) l (n * s) b o) $ done !

  pub taken_behind : (l : ℕ) (home : List Bool) (k o : ℕ) → k < length home → get_or home k false ≡ true
      → ent 𝓤 (sem 𝓛 (fsep (froom (bytes_of l) b o) (parts s b (o + l) home)))
      (sep 𝓤 (H.room (bytes_of s) b (o + l + k * s)) (sem 𝓛 (fsep (froom (bytes_of l) b o) (parts s b (o + l) (set home k false)))))
  taken_behind l home k o h e =
      qed 𝓛 (‵ (fsep (froom (bytes_of l) b o) (parts s b (o + l) home)) ∷ []) ∵ fsplit ! $ move ! (1 ∷ []) $
      use1 𝓛 (‵ (froom (bytes_of s) b (o + l + k * s)) ⊛ ‵ (parts s b (o + l) (set home k false))) (taken home k (o + l) h e) $ split ! $
      move ! (2 ∷ 1 ∷ []) $ fjoin ! $ move ! (1 ∷ []) $ done !

  pub put_behind : (l : ℕ) (home : List Bool) (k o : ℕ) → k < length home
      → ent 𝓤 (sep 𝓤 (H.room (bytes_of s) b (o + l + k * s)) (sem 𝓛 (fsep (froom (bytes_of l) b o) (parts s b (o + l) home))))
      (sem 𝓛 (fsep (froom (bytes_of l) b o) (parts s b (o + l) (set home k true))))
  put_behind l home k o h =
      qed 𝓛 (‵ (froom (bytes_of s) b (o + l + k * s)) ∷ ‵ (fsep (froom (bytes_of l) b o) (parts s b (o + l) home)) ∷ []) ∵ move ! (1 ∷ []) $ fsplit ! $ move ! (2 ∷ 1 ∷ []) $
      use2 𝓛 (‵ (parts s b (o + l) (set home k true))) (put home k (o + l) h) $ move ! (1 ∷ []) $ fjoin ! $ done !
