use Rattle.std.proofs.Common.{◌≡◌, ℕ, ◌+◌, ◌-◌, List, [], ◌++◌, length, take, drop, Option, None, Some, refl, sym, ap, ◌∙◌, arith, append_assoc, length-append}
use Rattle.std.proofs.lemmas.List.{take_rest, append-nil, take-append-le}
use Rattle.std.proofs.Math.Seq.{take-add, take-append-add}
use Rattle.nm_io.specs.Held.{grown, GrowsByPrefix}

-- growing twice is growing by both together
pub grown-grown : (held : Option (List ℕ)) (a b : List ℕ) → grown (grown held a) b ≡ grown held (a ++ b)
grown-grown None a b = refl
grown-grown (Some held) a b = ap (λ all. Some all) (append_assoc held a b)

-- growing by nothing changes nothing
pub grown_nothing : (held : Option (List ℕ)) → grown held [] ≡ held
grown_nothing None = refl
grown_nothing (Some held) = ap (λ all. Some all) (append-nil held)

-- a prefix of the first part is one of the whole
pub grows_longer : (old new : Option (List ℕ)) (a b : List ℕ) → GrowsByPrefix old new a → GrowsByPrefix old new (a ++ b)
grows_longer old new a b part = record {
  count = part.count;
  within = omega (arith, part.within, length-append a b);
  held = part.held ∙ ap (grown old) (sym (take-append-le part.count a b part.within));
}

-- all of the first part, and then a prefix of the second
pub grows_more : (old middle new : Option (List ℕ)) (a b : List ℕ) → middle ≡ grown old a → GrowsByPrefix middle new b → GrowsByPrefix old new (a ++ b)
grows_more old middle new a b all part = record {
  count = length a + part.count;
  within = omega (arith, part.within, length-append a b);
  held = part.held ∙ ap (λ h. grown h (take part.count b)) all ∙ grown-grown old a (take part.count b) ∙ ap (grown old) (sym (take-append-add a b part.count));
}

-- some of the bytes, and then some of the rest
pub grown_more : (held : Option (List ℕ)) (bytes : List ℕ) (done n : ℕ) → grown (grown held (take done bytes)) (take n (take (length bytes - done) (drop done bytes))) ≡ grown held (take (done + n) bytes)
grown_more held bytes done n = grown-grown held (take done bytes) (take n (take (length bytes - done) (drop done bytes)))
    ∙ ap (λ rest. grown held (take done bytes ++ take n rest)) (take_rest bytes done)
    ∙ ap (grown held) (sym (take-add done n bytes))

-- what a function that writes in several steps needs
pub ruleset writing = (grown-grown, grown_nothing, grows_longer, grows_more)

pub ruleset growth = (grown_more, grown_nothing)
