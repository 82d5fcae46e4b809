use Rattle.std.proofs.Common.{◌≡◌, ℕ, ◌+◌, ◌-◌, ◌<◌, ◌≤◌, List, ◌++◌, length, take, Option, None, Some, IfSome, IsSomeAnd, sym, ap, ◌∙◌, arith, length-append, length-drop, take_all, length-take-le, ap₂}
use Rattle.std.proofs.Math.Seq.{take-add}
use Rattle.nm_io.specs.Files.{Files, ReadsPart}
use Rattle.nm_io.specs.Whole.{IsFront}

-- one more part makes a longer front
pub front_more : (files : Option Files) (name front room : List ℕ) (n : ℕ) → IsFront files name front → IfSome files (λ all. ReadsPart (all name) (length front) n room) → n ≤ length room → IsFront files name (front ++ take n room)
front_more None name front room n held part fits = tt
front_more (Some all) name front room n held part fits =
    let first : front ≡ take (length front) part.contents = rw part.there at held in
    let size : length (front ++ take n room) ≡ length front + n = length-append front (take n room) ∙ ap (λ k. length front + k) (length-take-le n room fits) in
    let more : front ++ take n room ≡ take (length (front ++ take n room)) part.contents =
    ap₂ (λ a b. a ++ b) first part.bytes ∙ sym (take-add (length front) n part.contents) ∙ ap (λ k. take k part.contents) (sym size) in
    rw part.there more

-- where there is no next part, the front is the whole
pub front_whole : (files : Option Files) (name front room : List ℕ) → IsFront files name front → IfSome files (λ all. ReadsPart (all name) (length front) 0 room) → 0 < length room → IfSome files (λ all. all name ≡ Some front)
front_whole None name front room held part fits = tt
front_whole (Some all) name front room held part fits =
    let first : front ≡ take (length front) part.contents = rw part.there at held in
    let past : length part.contents ≤ length front = grind (arith, part.moves fits) in
    part.there ∙ ap (λ whole. Some whole) (sym (first ∙ take_all (length front) part.contents past))

-- a part past the limit shows that the whole is longer
pub front_long : (files : Option Files) (name front room : List ℕ) (n limit : ℕ) → IfSome files (λ all. ReadsPart (all name) (length front) n room) → 0 < n → length front ≤ limit → limit - length front < n → IfSome files (λ all. IsSomeAnd (all name) (λ contents. limit < length contents))
front_long None name front room n limit part some short long = tt
front_long (Some all) name front room n limit part some short long =
    rw part.there (omega (arith, part.within, length-drop (length front) part.contents))

pub ruleset parts = (front_more, front_whole, front_long)
