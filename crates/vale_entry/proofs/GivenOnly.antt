-- What is granted is a prefix of what an entry wants there.
use Rattle.std.proofs.Common.{ℕ, ◌≡◌, ◌≤◌, inl, inr, length, arith, Bool, true, false, cond, ◌==◌, List, [], ◌∷◌, ◌++◌, filter, take, drop, refl, sym, subst, take-append-drop}
use Rattle.std.specs.List.{AllByRecursion as Each}
use Rattle.std.proofs.lemmas.Bool.{eqb-true, eq-eqb}
use Rattle.nm_types.specs.Frames.{Frame}
use Rattle.vale_entry.specs.Delivered.{Brought, frames_brought, grants_to, puts_to, brought_to}
use Rattle.vale_entry.specs.Fate.{wanted_at, Share, shares_at, is_brought_of, granted_at, puts_at}
use Rattle.vale_entry.specs.DeliveryLaws.{IsPrefixOfWanted, IsTaken, IsBroughtFor, GivenOnlyByWanted}
use Rattle.vale_entry.proofs.Each.{each-both, each-weaker, each-append, each-all, each-unmap, each-image}
use Rattle.vale_entry.proofs.Puts.{history-puts}
use Rattle.vale_entry.proofs.Removals.{each-kept}
use Rattle.vale_entry.proofs.SharedOnce.{history-account}

each_rest :
    {X : Type 0} (P : X → Type 0) (x : X) (xs : List X) (b : Bool) → Each P (cond b (x ∷ xs) xs)
    → Each P xs
each_rest P x xs true all = all.1
each_rest P x xs false all = all

each_head :
    {X : Type 0} (P : X → Type 0) (x : X) (xs : List X) (b : Bool) → b ≡ true
    → Each P (cond b (x ∷ xs) xs) → P x
each_head P x xs true e all = all.0
each_head P x xs false e all = absurd cc

-- what holds of the elements of each key holds of all
pub each-by_key :
    {X : Type 0} (key : X → ℕ) (P : X → Type 0) (xs : List X)
    → ((k : ℕ) → Each P (filter (λ x. key x == k) xs)) → Each P xs
each-by_key key P [] all = tt
each-by_key key P (x ∷ xs) all = (
  each_head P x (filter (λ y. key y == key x) xs) (key x == key x) (eq-eqb (key x) (key x) refl)
      (all (key x)),
  each-by_key key P xs (λ k. each_rest P x (filter (λ y. key y == k) xs) (key x == k) (all k)),
)

-- a single element is what the list is
each-single : (xs : List Brought) → length xs ≤ 1 → Each (λ (x : Brought). xs ≡ x ∷ []) xs
each-single [] few = tt
each-single (x ∷ []) few = (refl, tt)
each-single (x ∷ y ∷ ys) few = absurd (omega (arith, few))

pub given-only : GivenOnlyByWanted
given-only pool h legal port =
    each-by_key (λ (brought : Brought). brought.origin) (IsBroughtFor pool h port)
    (brought_to pool h port) of_entry
  where
    granted : (k : ℕ) → Each (IsPrefixOfWanted pool h port) (granted_at pool h k port)
    granted k =
        let account = history-account pool h legal k port in
        let wanted = wanted_at pool h k port in
        let prefixes =
        each-all
        (λ (share : Share). (rest : List Frame) × (wanted ≡ take share.given wanted ++ rest))
        (λ share. (drop share.given wanted, sym (take-append-drop share.given wanted)))
        (shares_at h k port) in
        let images =
        each-image (λ (frames : List Frame). (rest : List Frame) × (wanted ≡ frames ++ rest))
        (λ (share : Share). take share.given wanted) (shares_at h k port) prefixes in
        let same =
        subst
        (λ (xs : List (List Frame)).
        Each (λ (frames : List Frame). (rest : List Frame) × (wanted ≡ frames ++ rest)) xs)
        (sym account.first_given) images in
        let mine =
        each-kept (λ (brought : Brought). Unit {0}) (λ (brought : Brought). brought.origin ≡ k)
        (is_brought_of k) (λ brought t here. eqb-true brought.origin k t) (grants_to pool h port)
        (each-all (λ (brought : Brought). Unit {0}) (λ brought. tt) (grants_to pool h port)) in
        each-both (λ (brought : Brought). brought.origin ≡ k)
        (λ (brought : Brought). (rest : List Frame) × (wanted ≡ brought.frames ++ rest))
        (IsPrefixOfWanted pool h port)
        (λ brought here prefix.
        subst
        (λ (number : ℕ).
        (rest : List Frame) × (wanted_at pool h number port ≡ brought.frames ++ rest)) (sym here)
        prefix)
        (granted_at pool h k port) mine
        (each-unmap (λ (frames : List Frame). (rest : List Frame) × (wanted ≡ frames ++ rest))
        frames_brought (granted_at pool h k port) same)

    put : (k : ℕ) → Each (IsTaken pool h port) (puts_at pool h k port)
    put k =
        let mine =
        each-kept (λ (brought : Brought). Unit {0}) (λ (brought : Brought). brought.origin ≡ k)
        (is_brought_of k) (λ brought t here. eqb-true brought.origin k t) (puts_to pool h port)
        (each-all (λ (brought : Brought). Unit {0}) (λ brought. tt) (puts_to pool h port)) in
        each-both (λ (brought : Brought). brought.origin ≡ k)
        (λ (brought : Brought). puts_at pool h k port ≡ brought ∷ []) (IsTaken pool h port)
        (λ brought here single.
        subst (λ (number : ℕ). puts_at pool h number port ≡ brought ∷ []) (sym here) single)
        (puts_at pool h k port) mine
        (each-single (puts_at pool h k port) (history-puts pool h legal k port).once)

    of_entry :
        (k : ℕ)
        → Each (IsBroughtFor pool h port) (filter (is_brought_of k) (brought_to pool h port))
    of_entry k =
        subst (λ (xs : List Brought). Each (IsBroughtFor pool h port) xs)
        (sym (history-puts pool h legal k port).parts)
        (each-append (IsBroughtFor pool h port) (puts_at pool h k port) (granted_at pool h k port)
        (each-weaker (IsTaken pool h port) (IsBroughtFor pool h port) (λ brought here. inr here)
        (puts_at pool h k port) (put k))
        (each-weaker (IsPrefixOfWanted pool h port) (IsBroughtFor pool h port)
        (λ brought here. inl here) (granted_at pool h k port) (granted k)))
