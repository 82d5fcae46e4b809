use Rattle.std.proofs.Common.{◌≡◌, ℕ, ◌+◌, ◌-◌, Bool, true, false, cond, List, [], ◌++◌, length, take, drop, Option, None, Some, unwrap_or, refl, sym, ap, ◌∙◌, append_assoc, length-append, arith, inl, inr}
use Rattle.std.specs.Str.{bytes_eq}
use Rattle.std.proofs.lemmas.List.{take_rest, take-append-le}
use Rattle.std.proofs.lemmas.Slice.Eq.{bytes_eq-Decides}
use Rattle.std.proofs.Math.Path.{fun_ext}
use Rattle.std.proofs.Math.Seq.{take-add, take-append-add, take-append_seam}
use Rattle.nm_io.specs.Files.{Files, appended, appended_told, AppendsPrefix}

-- a name equals itself
same_name : (name : List ℕ) → bytes_eq name name ≡ true
same_name name = (bytes_eq-Decides name name).1 refl

-- what a file holds after two appends, or another file
appended_twice : (had found : Option (List ℕ)) (a b : List ℕ) (here same : Bool) → same ≡ true → cond here (Some (unwrap_or (cond same (Some (unwrap_or had [] ++ a)) had) [] ++ b)) (cond here (Some (unwrap_or had [] ++ a)) found) ≡ cond here (Some (unwrap_or had [] ++ (a ++ b))) found
appended_twice had found a b true same is = rw is (ap (λ all. Some all) (append_assoc (unwrap_or had []) a b))
appended_twice had found a b false same is = refl

-- appending twice is appending both together
pub appended-appended : (files : Files) (name a b : List ℕ) → appended (appended files name a) name b ≡ appended files name (a ++ b)
appended-appended files name a b = fun_ext (λ other. appended_twice (files name) (files other) a b (bytes_eq name other) (bytes_eq name name) (same_name name))

pub appended_told-appended_told : (files : Option Files) (name a b : List ℕ) → appended_told (appended_told files name a) name b ≡ appended_told files name (a ++ b)
appended_told-appended_told None name a b = refl
appended_told-appended_told (Some files) name a b = ap (λ all. Some all) (appended-appended files name a b)

-- some of the bytes, and then some of the rest
pub appended_more : (files : Option Files) (name bytes : List ℕ) (done n : ℕ) → appended_told (appended_told files name (take done bytes)) name (take n (take (length bytes - done) (drop done bytes))) ≡ appended_told files name (take (done + n) bytes)
appended_more files name bytes done n =
    appended_told-appended_told files name (take done bytes) (take n (take (length bytes - done) (drop done bytes)))
    ∙ ap (λ rest. appended_told files name (take done bytes ++ take n rest)) (take_rest bytes done)
    ∙ ap (appended_told files name) (sym (take-add done n bytes))

-- a prefix of the first part is one of the whole
pub appends_longer : (old new : Option Files) (name a b : List ℕ) → AppendsPrefix old new name a → AppendsPrefix old new name (a ++ b)
appends_longer old new name a b part = record {
  count = part.count;
  within = omega (arith, part.within, length-append a b);
  files = elim part.files [ inl same ↦ inl same | inr grew ↦ inr (grew ∙ ap (appended_told old name) (sym (take-append-le part.count a b part.within))) ];
}

-- all of the first part, and then a prefix of the second
pub appends_more : (old middle new : Option Files) (name a b : List ℕ) → middle ≡ appended_told old name a → AppendsPrefix middle new name b → AppendsPrefix old new name (a ++ b)
appends_more old middle new name a b all part = elim part.files [
  | inl same ↦ record { count = length a; within = omega (arith, length-append a b); files = inr (same ∙ all ∙ ap (appended_told old name) (sym (take-append_seam a b))) }
  | inr grew ↦ record {
    count = length a + part.count;
    within = omega (arith, part.within, length-append a b);
    files = inr (grew ∙ ap (λ files. appended_told files name (take part.count b)) all
        ∙ appended_told-appended_told old name a (take part.count b) ∙ ap (appended_told old name) (sym (take-append-add a b part.count)));
  }
]

pub ruleset appending = (appended_more)

-- what a function that adds to a file in several steps needs
pub ruleset appends = (appended_told-appended_told, appends_longer, appends_more)
