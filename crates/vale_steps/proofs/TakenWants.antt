-- The wants of an entry, the last of which is the next one.
use Rattle.std.proofs.Common.{ℕ, ◌≡◌, List, [], ◌∷◌, ◌++◌, map, sym, ◌∙◌, ap, subst}
use Rattle.std.specs.List.{AllByRecursion as Each}
use Rattle.std.proofs.lemmas.List.{map-append, same_from_push}
use Rattle.nm_types.proofs.Lists.{each-front, each-back}
use Rattle.vale_batch.specs.declared.lists.Want.{Want}
use Rattle.vale_steps.specs.Offering.{slots_in, HasFewFrames}

-- a room and a want go together
pub record IsTaken (rooms : List ℕ) (wants : List Want) (room : ℕ) (want : Want) : Type 0 where
  pub left : rooms ≡ map slots_in wants
  pub own : room ≡ slots_in want
  pub few : HasFewFrames want
  pub others : Each HasFewFrames wants

pub taken : (all rooms : List ℕ) (wants others : List Want) (room : ℕ) (want : Want) → all ≡ map slots_in wants → Each HasFewFrames wants
    → all ≡ rooms ++ room ∷ [] → wants ≡ others ++ want ∷ [] → IsTaken rooms others room want
taken all rooms wants others room want are few cut left =
    let same : rooms ++ room ∷ [] ≡ map slots_in others ++ slots_in want ∷ [] =
    sym cut ∙ (are ∙ (ap (map slots_in) left ∙ map-append slots_in others (want ∷ []))) in
    let parts = same_from_push rooms (map slots_in others) room (slots_in want) same in
    let each = subst (Each HasFewFrames) left few in
    record { left = parts.0; own = parts.1; few = (each-back HasFewFrames others (want ∷ []) each).0; others = each-front HasFewFrames others (want ∷ []) each }
