-- A text in the pieces between its marks.
use Rattle.std.specs.List.{position_or_len, slice_split}
use Rattle.std.proofs.Common.{◌≡◌, ◌==◌, ℕ, ◌+◌, ◌<◌, Bool, true, false, cond, List, [], ◌∷◌, length, take, drop, nat_lt, Some, None, refl, ap, ◌∙◌, arith}
use Rattle.std.proofs.lemmas.List.Splits.{slice_split_first, slice_split_none}
use Rattle.std.proofs.lemmas.List.Quantifiers.{position-Some}
use Rattle.vale_words.proofs.Positions.{none_passes}
use Rattle.vale_fields.specs.Fields.{mark_in}

found-at : (k n m : ℕ) (b : Bool) → b ≡ nat_lt k m → cond b (Some k) None ≡ Some n → k ≡ n
found-at k n m true same is = cc
found-at k n m false same is = cc

-- the first piece, and those behind its mark
pub first-piece : (mark : ℕ) (text : List ℕ) (end : ℕ) → mark_in mark text ≡ Some end
    → slice_split (λ b. b == mark) text ≡ take end text ∷ slice_split (λ b. b == mark) (drop (end + 1) text)
first-piece mark text end is =
    let p : ℕ → Bool = λ b. b == mark in
    let at : position_or_len p text ≡ end = found-at (position_or_len p text) end (length text) (nat_lt (position_or_len p text) (length text)) refl is in
    let inside : end < length text = (position-Some p text end 0 is).0 in
    let below : position_or_len p text < length text = omega (arith, inside, at) in
    slice_split_first p text 0 below ∙ ap (λ k. take k text ∷ slice_split p (drop (k + 1) text)) at

-- a text without the mark is one piece
pub one-piece : (mark : ℕ) (text : List ℕ) → mark_in mark text ≡ None → slice_split (λ b. b == mark) text ≡ text ∷ []
one-piece mark text is = slice_split_none (λ b. b == mark) text (λ k d low. none_passes (λ b. b == mark) text is k d low)
