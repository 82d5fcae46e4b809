-- The machine values of the structs of a block: what is owned tells them, and is made of nothing.
use Rattle.std.proofs.Common.{◌≡◌, ℕ, ◌^◌, ◌<◌, List, [], ◌∷◌, ◌++◌, refl, ◌∙◌, w64}
use seplogic.Ra.Ura.{Ura}
use mir.Val.{Val, vint, vstruct, vcons, vnil, of_list}
use base.Logic.{ent, emp}
use base.Fml.{Fml}
use types.Logic.{Logic, sem}
use denote.RattleType.{RattleType}
use denote.Builtin.{usize}
use denote.RawPtr.{Ptr, RawPtr, ptr_val}
use denote.Shadow.{shadow, makes_shadow}
use denote.Struct.Struct.{Struct}

-- a struct by its fields alone: what it owns does not read its name
abbrev pub plainly : List RattleType → RattleType
plainly Rs = Struct (record { name = []; args = []; types = []; fields = Rs })

abbrev pub block_val : Ptr → ℕ → Val
block_val p n = vstruct (vcons (ptr_val p) (vcons (vint w64 n) vnil))

abbrev pub block_own : Ptr → ℕ → List Val → Fml
block_own p n = (plainly (RawPtr ∷ usize ∷ [])).own_val (p, (n, tt))

pub block_told : (p : Ptr) (n : ℕ) (vs : List Val) → shadow (block_own p n vs) → (vs ≡ block_val p n ∷ []) × (n < 2 ^ 64)
block_told p n vs s = (s.1.0 ∙ (λ i. vstruct (of_list (s.1.1.0 i ++ (s.1.1.1.0.0 i ++ []))) ∷ []), s.1.1.1.0.1)

pub block_made : {M : Type 1} {𝓤 : Ura M} (𝓛 : Logic 𝓤) (p : Ptr) (n : ℕ) → (n < 2 ^ 64) → ent 𝓤 (emp 𝓤) (sem 𝓛 (block_own p n (block_val p n ∷ [])))
block_made 𝓛 p n f = makes_shadow 𝓛 (block_own p n (block_val p n ∷ [])) (λ _. (tt, (tt, ((tt, tt), tt)))) ((ptr_val p ∷ [], (vint w64 n ∷ [], tt)), (refl, (refl, ((refl, f), tt))))

abbrev pub part_val : Ptr → Val
part_val p = vstruct (vcons (ptr_val p) vnil)

abbrev pub part_own : Ptr → List Val → Fml
part_own p = (plainly (RawPtr ∷ [])).own_val (p, tt)

pub part_told : (p : Ptr) (vs : List Val) → shadow (part_own p vs) → vs ≡ part_val p ∷ []
part_told p vs s = s.1.0 ∙ (λ i. vstruct (of_list (s.1.1.0 i ++ [])) ∷ [])

pub part_made : {M : Type 1} {𝓤 : Ura M} (𝓛 : Logic 𝓤) (p : Ptr) → ent 𝓤 (emp 𝓤) (sem 𝓛 (part_own p (part_val p ∷ [])))
part_made 𝓛 p = makes_shadow 𝓛 (part_own p (part_val p ∷ [])) (λ _. (tt, (tt, tt))) ((ptr_val p ∷ [], tt), (refl, (refl, tt)))

abbrev pub deed_val : Val
deed_val = vstruct (vcons (vstruct vnil) vnil)

abbrev pub deed_own : List Val → Fml
deed_own = (plainly (plainly [] ∷ [])).own_val (tt, tt)

pub deed_told : (vs : List Val) → shadow (deed_own vs) → (vs ≡ deed_val ∷ []) × Unit {0}
deed_told vs s = (s.1.0 ∙ (λ i. vstruct (of_list (s.1.1.0.1.0 i ++ [])) ∷ []), tt)

pub deed_made : {M : Type 1} {𝓤 : Ura M} (𝓛 : Logic 𝓤) → Unit {0} → ent 𝓤 (emp 𝓤) (sem 𝓛 (deed_own (deed_val ∷ [])))
deed_made 𝓛 f = makes_shadow 𝓛 (deed_own (deed_val ∷ [])) (λ _. (tt, ((λ _. (tt, tt)), tt))) ((vstruct vnil ∷ [], tt), (refl, ((tt, (refl, tt)), tt)))
