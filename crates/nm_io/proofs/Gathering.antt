use Rattle.std.proofs.Common.{◌≡◌, ℕ, ◌+◌, List, [], ◌++◌, length, take, drop, Option, Result, Ok, Err, refl, sym, ap, subst, ◌∙◌, arith, append_assoc, length-append, take-append-drop}
use Rattle.std.proofs.Math.Seq.{take-append-add, drop-append-add}
use Rattle.nm_io.specs.Held.{grown, GrowsByPrefix, Writes}
use Rattle.nm_io.specs.Gathered.{Gathered}
use Rattle.nm_io.proofs.Growth.{grown-grown, grown_nothing, grows_more, grows_longer}

-- what went out in a first step, and what the page then held
two_parts : (p q a b : List ℕ) (count : ℕ) → q ≡ drop count (p ++ a) → p ++ (a ++ b) ≡ take count (p ++ a) ++ (q ++ b)
two_parts p q a b count rest =
    sym (append_assoc p a b) ∙ ap (λ all. all ++ b) (sym (take-append-drop count (p ++ a)))
    ∙ append_assoc (take count (p ++ a)) (drop count (p ++ a)) b ∙ ap (λ held. take count (p ++ a) ++ (held ++ b)) (sym rest)

-- what was gathered in two steps
pub gathered_more : (old middle new : Option (List ℕ)) (p q r a b : List ℕ) → Gathered old middle p q a → Gathered middle new q r b → Gathered old new p r (a ++ b)
gathered_more old middle new p q r a b first second =
    let front : List ℕ = take first.count (p ++ a) in
    let split : p ++ (a ++ b) ≡ front ++ (q ++ b) = two_parts p q a b first.count first.rest in
    record {
      count = length front + second.count;
      within = omega (arith, second.within, ap length split ∙ length-append front (q ++ b));
      held = second.held ∙ ap (λ h. grown h (take second.count (q ++ b))) first.held
          ∙ grown-grown old front (take second.count (q ++ b)) ∙ ap (grown old) (sym (take-append-add front (q ++ b) second.count))
          ∙ ap (λ all. grown old (take (length front + second.count) all)) (sym split);
      rest = second.rest ∙ sym (drop-append-add front (q ++ b) second.count) ∙ ap (drop (length front + second.count)) (sym split);
    }

-- a failure in the second of two steps
pub gathered_fails : (old middle new : Option (List ℕ)) (p q a b : List ℕ) → Gathered old middle p q a → GrowsByPrefix middle new (q ++ b) → GrowsByPrefix old new (p ++ (a ++ b))
gathered_fails old middle new p q a b first second =
    subst (GrowsByPrefix old new) (sym (two_parts p q a b first.count first.rest)) (grows_more old middle new (take first.count (p ++ a)) (q ++ b) first.held second)

-- nothing gathered yet
pub gathered_nothing : (held : Option (List ℕ)) → Gathered held held [] [] []
gathered_nothing held = record { count = 0; within = omega arith; held = sym (grown_nothing held); rest = refl }

-- what went out, and what the page holds, are all
whole : (page bytes : List ℕ) (count : ℕ) → page ≡ drop count bytes → take count bytes ++ page ≡ bytes
whole page bytes count rest = ap (λ held. take count bytes ++ held) rest ∙ take-append-drop count bytes

-- all is out once the page is
pub gathered_all : (old middle new : Option (List ℕ)) (page bytes : List ℕ) → Gathered old middle [] page bytes → new ≡ grown middle page → new ≡ grown old bytes
gathered_all old middle new page bytes first out =
    out ∙ ap (λ h. grown h page) first.held ∙ grown-grown old (take first.count bytes) page ∙ ap (grown old) (whole page bytes first.count first.rest)

-- a failure in writing the page
pub gathered_some : (old middle new : Option (List ℕ)) (page bytes : List ℕ) → Gathered old middle [] page bytes → GrowsByPrefix middle new page → GrowsByPrefix old new bytes
gathered_some old middle new page bytes first out =
    subst (GrowsByPrefix old new) (whole page bytes first.count first.rest) (grows_more old middle new (take first.count bytes) page first.held out)

-- all is out, or a prefix, once the page is or was to be
pub gathered_written : {T E : Type 0} (old middle new : Option (List ℕ)) (page bytes : List ℕ) (result : Result T E) → Gathered old middle [] page bytes → Writes middle new result page → Writes old new result bytes
gathered_written old middle new page bytes (Ok x) first out = gathered_all old middle new page bytes first out
gathered_written old middle new page bytes (Err e) first out = gathered_some old middle new page bytes first out

-- a prefix of what was tried first is one of all that was to come
pub grows_past : (old new : Option (List ℕ)) (page a b : List ℕ) → GrowsByPrefix old new (page ++ a) → GrowsByPrefix old new (page ++ (a ++ b))
grows_past old new page a b part = subst (GrowsByPrefix old new) (append_assoc page a b) (grows_longer old new (page ++ a) b part)

-- what a function that writes several texts by way of a page needs
pub ruleset gathering = (gathered_more, gathered_fails, gathered_nothing, gathered_all, gathered_some, gathered_written, grows_past)
