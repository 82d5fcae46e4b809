-- What stands side by side, with the index that owns its position: read as two lists.
use Rattle.std.proofs.Common.{ℕ, zero, suc, ◌≡◌, List, [], ◌∷◌, ◌++◌, length, get_or, slice_set, refl, sym, ◌∙◌, ap}
use Rattle.std.proofs.lemmas.List.{length-map}
use Rattle.nm_hold.specs.declared.standing.Standing.{Standing}
use Rattle.nm_hold.specs.declared.cells.Owned.{Owned}
use Rattle.nm_hold.specs.Sparse.{standings_in, owners_in}

pub standings_long : (held : List Owned) → length (standings_in held) ≡ length held
standings_long held = length-map held (λ (o : Owned). o.standing)

pub owners_long : (held : List Owned) → length (owners_in held) ≡ length held
owners_long held = length-map held (λ (o : Owned). o.index)

pub both_long : (held : List Owned) → length (standings_in held) ≡ length (owners_in held)
both_long held = standings_long held ∙ sym (owners_long held)

-- what is read at a position
pub standing_get : (held : List Owned) (k : ℕ) (o : Owned) → get_or (standings_in held) k o.standing ≡ (get_or held k o).standing
standing_get [] k o = refl
standing_get (p ∷ held) zero o = refl
standing_get (p ∷ held) (suc k) o = standing_get held k o

pub index_get : (held : List Owned) (k : ℕ) (o : Owned) → get_or (owners_in held) k o.index ≡ (get_or held k o).index
index_get [] k o = refl
index_get (p ∷ held) zero o = refl
index_get (p ∷ held) (suc k) o = index_get held k o

pub standing_of : (held : List Owned) (k : ℕ) (o : Owned) → o ≡ get_or held k o → o.standing ≡ get_or (standings_in held) k o.standing
standing_of held k o e = ap (λ (p : Owned). p.standing) e ∙ sym (standing_get held k o)

pub index_of : (held : List Owned) (k : ℕ) (o : Owned) → o ≡ get_or held k o → o.index ≡ get_or (owners_in held) k o.index
index_of held k o e = ap (λ (p : Owned). p.index) e ∙ sym (index_get held k o)

-- one more, behind the others
pub standings_push : (held : List Owned) (o : Owned) → standings_in (held ++ o ∷ []) ≡ standings_in held ++ o.standing ∷ []
standings_push [] o = refl
standings_push (p ∷ held) o = ap (λ (rest : List Standing). p.standing ∷ rest) (standings_push held o)

pub owners_push : (held : List Owned) (o : Owned) → owners_in (held ++ o ∷ []) ≡ owners_in held ++ o.index ∷ []
owners_push [] o = refl
owners_push (p ∷ held) o = ap (λ (rest : List ℕ). p.index ∷ rest) (owners_push held o)

-- what stands at a position is written, and its owner stays
pub standings_set : (held : List Owned) (k : ℕ) (o : Owned) → standings_in (slice_set held k o) ≡ slice_set (standings_in held) k o.standing
standings_set [] k o = refl
standings_set (p ∷ held) zero o = refl
standings_set (p ∷ held) (suc k) o = ap (λ (rest : List Standing). p.standing ∷ rest) (standings_set held k o)

pub owners_stay : (held : List Owned) (k : ℕ) (o : Owned) (s : Standing) → o ≡ get_or held k o → owners_in (slice_set held k (record { index = o.index; standing = s })) ≡ owners_in held
owners_stay [] k o s e = refl
owners_stay (p ∷ held) zero o s e = ap (λ (q : Owned). q.index ∷ owners_in held) e
owners_stay (p ∷ held) (suc k) o s e = ap (λ (rest : List ℕ). p.index ∷ rest) (owners_stay held k o s e)
