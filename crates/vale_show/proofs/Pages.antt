-- Texts that are added one after another.
use Rattle.std.proofs.Common.{ℕ, suc, ◌+◌, ◌<◌, ◌≤◌, ◌≡◌, List, [], ◌∷◌, ◌++◌, length, take, drop, get_or, flat_map, sym, ◌∙◌, ap, append_assoc, append-nil, add-one, take_all, drop-cons}
use Rattle.std.proofs.lemmas.List.{drop_all}
use Rattle.vale_strip.proofs.Strips.{adds_two, adds_three, flat_map-more}
use Rattle.vale_entry.specs.declared.entry.Entry.{Entry}
use Rattle.vale_show.specs.Refusals.{refusal_text, refusal_texts}

pub adds_none : (p q : List ℕ) → q ≡ p → q ≡ p ++ []
adds_none p q same = same ∙ sym (append-nil p)

pub adds_four :
    (p q r s t a b c d : List ℕ) → q ≡ p ++ a → r ≡ q ++ b → s ≡ r ++ c → t ≡ s ++ d
    → t ≡ p ++ (a ++ (b ++ (c ++ d)))
adds_four p q r s t a b c d first second third fourth =
    adds_two p q t a (b ++ (c ++ d)) first (adds_three q r s t b c d second third fourth)

-- what a call needs that adds in a few steps
pub ruleset adding = (adds_none, adds_two, adds_three, adds_four)

-- the text of the next item is added
pub adds-item :
    {X : Type 0} (f : X → List ℕ) (xs : List X) (i : ℕ) (x : X) (p q r : List ℕ) → i < length xs
    → x ≡ get_or xs i x → q ≡ p ++ flat_map f (take i xs) → r ≡ q ++ f x
    → r ≡ p ++ flat_map f (take (i + 1) xs)
adds-item f xs i x p q r within same before now =
    now ∙ ap (λ t. t ++ f x) before ∙ append_assoc p (flat_map f (take i xs)) (f x)
    ∙ ap (λ y. p ++ (flat_map f (take i xs) ++ f y)) same
    ∙ ap (λ t. p ++ t) (sym (flat_map-more f xs i x within))

-- those of all items are
pub adds-all :
    {X : Type 0} (f : X → List ℕ) (xs : List X) (i : ℕ) (p q : List ℕ) → length xs ≤ i
    → q ≡ p ++ flat_map f (take i xs) → q ≡ p ++ flat_map f xs
adds-all f xs i p q past before = before ∙ ap (λ ys. p ++ flat_map f ys) (take_all i xs past)

-- the line of the next entry is added, if it did nothing
pub adds-refusal :
    (entries : List Entry) (i : ℕ) (entry : Entry) (p q r : List ℕ) → i < length entries
    → entry ≡ get_or entries i entry
    → p ++ refusal_texts 1 entries ≡ q ++ refusal_texts (i + 1) (drop i entries)
    → r ≡ q ++ refusal_text (i + 1) entry.session.0 entry.ask entry.reply
    → p ++ refusal_texts 1 entries ≡ r ++ refusal_texts (i + 1 + 1) (drop (i + 1) entries)
adds-refusal entries i entry p q r within same before now =
    before
    ∙ ap (λ es. q ++ refusal_texts (i + 1) es)
    (drop-cons entries i entry within ∙ ap (λ e. e ∷ drop (suc i) entries) (sym same) ∙ ap (λ n. entry ∷ drop n entries) (sym (add-one i)))
    ∙ sym (append_assoc q (refusal_text (i + 1) entry.session.0 entry.ask entry.reply) (refusal_texts (i + 1 + 1) (drop (i + 1) entries)))
    ∙ ap (λ t. t ++ refusal_texts (i + 1 + 1) (drop (i + 1) entries)) (sym now)

pub adds-refusals :
    (entries : List Entry) (i : ℕ) (p q : List ℕ) → length entries ≤ i
    → p ++ refusal_texts 1 entries ≡ q ++ refusal_texts (i + 1) (drop i entries)
    → q ≡ p ++ refusal_texts 1 entries
adds-refusals entries i p q past before =
    sym (before ∙ ap (λ es. q ++ refusal_texts (i + 1) es) (drop_all i entries past) ∙ append-nil q)
