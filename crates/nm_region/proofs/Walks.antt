-- What the walks share. Assumes `Logic`.
use Rattle.std.proofs.Common.{◌≡◌, ℕ, zero, suc, ◌^◌, ◌<◌, List, [], ◌∷◌, take, drop, take-append-drop, subst}
use lib.Dec.{T}
use seplogic.Ra.Ura.{Ura}
use mir.Syntax.{Body, w64, int_big, given as dict_at}
use mir.Val.{Val, vint, Fits, has_ty, WT}
use base.Logic.{ent, via, fst∗, guard_i}
use base.Fml.{ftrue}
use prog.Wp.{Env, Calls, Loops, Wp, after_seq, after_block}
use types.Logic.{Logic}
use types.Run.{Opd}
use types.Kit.{Item, Goal, Seq, Post, ‵, any_q, post, ⋆, ⊢++}
use contract.Monad.{fact, fact_use}
use denote.Builtin.{unit}
use denote.RattleType.{RattleType}
use denote.Param.{layout}
use denote.Param.Laws.{Laws}
use denote.Signature.{Slot, plain}
use Rattle.std.proofs.alloc.Calls.{handle_tells}

abbrev pub slot_at : {n : ℕ} → ℕ → List (Slot n) → Slot n
slot_at k [] = plain (λ _. unit)
slot_at zero (s ∷ ss) = s
slot_at (suc k) (s ∷ ss) = slot_at k ss

abbrev pub Good : RattleType → Val → Type 0
Good R v = T (has_ty (layout R) v) × WT v

module _ {M : Type 1} {𝓤 : Ura M} (𝓛 : Logic 𝓤) where
  open 𝓛 use {H}

  abbrev pub then_runs : Calls 𝓤 H → Loops 𝓤 H → Env 𝓤 H → Body → Post 𝓤 H → Post 𝓤 H
  then_runs C Λ E b q = any_q (after_seq 𝓤 H (Wp 𝓤 H C Λ E b (post 𝓤 H q)) (post 𝓤 H q))

  abbrev pub out_of_block : Post 𝓤 H → Post 𝓤 H
  out_of_block q = any_q (after_block 𝓤 H (post 𝓤 H q))

module _ {M : Type 1} {𝓤 : Ura M} {𝓛 : Logic 𝓤} {K : Type 0} {Γ : List (Item 𝓤)} {G : Goal 𝓤 𝓛.H} where
  -- a fact is learned from the first n entries, which stay
  pub learns : K → (n : ℕ) (φ : Type 0) → ent 𝓤 (⋆ 𝓛 (take n Γ)) (fact 𝓤 φ) → (φ → Seq K 𝓛 Γ G) → Seq K 𝓛 Γ G
  learns t n φ shown k = record {
    prf = fact_use 𝓤 φ (via 𝓤 (⋆ 𝓛 (take n Γ)) (subst (λ (Δ : List (Item 𝓤)). ent 𝓤 (⋆ 𝓛 Δ) (⋆ 𝓛 (take n Γ))) (take-append-drop n Γ)
        (via 𝓤 _ (⊢++ 𝓛 (take n Γ) (drop n Γ)) (fst∗ 𝓤 (⋆ 𝓛 (take n Γ)) (⋆ 𝓛 (drop n Γ))))) shown) (λ x. (k x).prf);
  }

  -- what is owned is one machine value, of its type
  pub tells : K → (R : RattleType) → Laws R → (x : R.Denot) (vs : List Val) → ((v : Val) → vs ≡ v ∷ [] → Good R v → Seq K 𝓛 (‵ (R.own_val x (v ∷ [])) ∷ Γ) G) → Seq K 𝓛 (‵ (R.own_val x vs) ∷ Γ) G
  tells t R L = handle_tells (record { row = R; laws = L; g = record { dealloc_token = λ a τ p. ftrue }; d = dict_at 0; drops = dict_at 0 }) t

module _ {M : Type 1} {𝓤 : Ura M} {𝓛 : Logic 𝓤} where
  open 𝓛 use {H}

  -- a constant that is written out as a large number
  pub big : {K : Type 0} {Γ : List (Item 𝓤)} {E : Env 𝓤 H} → K → {n : ℕ} → n < 2 ^ 64 → Opd K 𝓛 Γ E (int_big w64 n) (vint w64 n)
  big t {n = n} fits = record { go = λ Kt h. via 𝓤 (Kt (vint w64 n)) h (guard_i 𝓤 (Fits w64 n) (Kt (vint w64 n)) (record { fits = fits })) }
