-- What one more entry does to a history: to what stands after it, to its length and to its
-- legality.
use Rattle.std.proofs.Common.{ℕ, zero, suc, take, slice_get, subst, List, [], ◌∷◌, ◌++◌, ◌≡◌, ◌+◌, length, refl, sym, ◌∙◌, ap, arith, Option, Some, None, add-zero, zero-add}
use Rattle.std.specs.List.{fold}
use Rattle.std.proofs.lemmas.List.Sums.{fold-append}
use Rattle.vale_entry.specs.declared.entry.Entry.{Entry}
use Rattle.vale_entry.specs.Legal.{Standing, Outcome, recorded_step, after, standing_after, standing_of, world_of, fresh_standing, IsLegalFrom, IsLegal, Follows}

pub standing-push :
    (pool : ℕ) (h : List Entry) (e : Entry)
    → standing_of pool (h ++ e ∷ []) ≡ after (standing_of pool h) e
standing-push pool h e = fold-append after (fresh_standing pool) h (e ∷ [])

-- each entry is with_entry_count, also one that is not enabled
pub count-standing_after :
    (s : Standing) (e : Entry) (made : Option Outcome)
    → (standing_after s e made).world.entry_count ≡ s.world.entry_count + 1
count-standing_after s e None = refl
count-standing_after s e (Some made) = refl

count-fold :
    (s : Standing) (h : List Entry)
    → (fold after s h).world.entry_count ≡ s.world.entry_count + length h
count-fold s [] = sym (add-zero s.world.entry_count)
count-fold s (e ∷ es) =
    let rest = count-fold (after s e) es in
    let one = count-standing_after s e (recorded_step s e.ask e.reply) in
    omega arith

pub count-world_of : (pool : ℕ) (h : List Entry) → (world_of pool h).entry_count ≡ length h
count-world_of pool h = count-fold (fresh_standing pool) h ∙ zero-add (length h)

legal_from-push :
    (s : Standing) (h : List Entry) (e : Entry) → IsLegalFrom s h → Follows (fold after s h) e
    → IsLegalFrom s (h ++ e ∷ [])
legal_from-push s [] e legal follows = (follows, tt)
legal_from-push s (d ∷ ds) e legal follows =
    (legal.0, legal_from-push (after s d) ds e legal.1 follows)

pub legal-push :
    (pool : ℕ) (h : List Entry) (e : Entry) → IsLegal pool h → Follows (standing_of pool h) e
    → IsLegal pool (h ++ e ∷ [])
legal-push pool h e legal follows = legal_from-push (fresh_standing pool) h e legal follows

-- the front of a legal history is legal, and each entry follows on what stands before it
pub legal-take :
    (s : Standing) (history : List Entry) (n : ℕ) → IsLegalFrom s history
    → IsLegalFrom s (take n history)
legal-take s [] zero legal = tt
legal-take s [] (suc n) legal = tt
legal-take s (e ∷ history) zero legal = tt
legal-take s (e ∷ history) (suc n) legal = (legal.0, legal-take (after s e) history n legal.1)

pub follows-at :
    (s : Standing) (history : List Entry) (n : ℕ) (entry : Entry) → IsLegalFrom s history
    → slice_get history n ≡ Some entry
    → Follows (fold after s (take n history)) entry
follows-at s [] n entry legal there = absurd cc
follows-at s (e ∷ history) zero entry legal there =
    let same : e ≡ entry = cc in subst (Follows s) same legal.0
follows-at s (e ∷ history) (suc n) entry legal there =
    follows-at (after s e) history n entry legal.1 there

pub length-front :
    (h : List Entry) (n : ℕ) (e : Entry) → slice_get h n ≡ Some e → length (take n h) ≡ n
length-front [] n e there = absurd cc
length-front (x ∷ xs) zero e there = refl
length-front (x ∷ xs) (suc n) e there = ap suc (length-front xs n e there)
