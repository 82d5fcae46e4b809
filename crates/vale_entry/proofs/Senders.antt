-- A sender's entries are granted at a port one after the other, whatever entry comes.
use Rattle.std.proofs.Common.{ℕ, ◌+◌, ◌<◌, ◌≤◌, ◌≡◌, ◌⊎◌, inl, inr, Bool, true, false, cond, ◌||◌, ◌==◌, List, [], ◌∷◌, ◌++◌, map, filter, Option, Some, refl, sym, ◌∙◌, ap, subst, arith, append-nil, true≢false}
use Rattle.std.specs.List.{AllByRecursion as Each, list_any}
use Rattle.std.proofs.lemmas.List.{map-append}
use Rattle.std.proofs.lemmas.List.Elements.{filter-append}
use Rattle.std.proofs.lemmas.List.Folds.{list_any-append}
use Rattle.std.proofs.lemmas.Bool.{eqb-true, eqb-false, ne_eqb}
use Rattle.nm_types.proofs.Tests.{or_none}
use Rattle.vale_entry.specs.World.{Port, Offer}
use Rattle.vale_entry.specs.Laws.{Rise, IsThere}
use Rattle.vale_entry.specs.Delivered.{Brought}
use Rattle.vale_entry.specs.Fate.{is_among, origin_of}
use Rattle.vale_entry.proofs.Each.{each-weaker, each-append, each-both, each-map}
use Rattle.vale_entry.proofs.Rising.{rise-wider, rise-push, rise-bounds, rise-above}
use Rattle.vale_entry.proofs.Removals.{each-kept}

-- Numbers among others.

-- one number more is seen by what bears it alone
pub there-push_other :
    (ns : List ℕ) (n k : ℕ) → (n == k) ≡ false
    → list_any (λ (m : ℕ). m == k) (ns ++ n ∷ []) ≡ list_any (λ (m : ℕ). m == k) ns
there-push_other ns n k other =
    list_any-append (λ (m : ℕ). m == k) ns (n ∷ [])
    ∙
    (ap (λ (b : Bool). list_any (λ (m : ℕ). m == k) ns || (b || false)) other
    ∙ or_none (list_any (λ (m : ℕ). m == k) ns))

-- a number that is there is within what holds of all
there_by :
    (P : ℕ → Type 0) (n : ℕ) (ns : List ℕ) (k : ℕ) (hit : Bool) → (n == k) ≡ hit → P n
    → (IsThere ns k → P k) → (hit || list_any (λ (m : ℕ). m == k) ns) ≡ true → P k
there_by P n ns k true t here later e = subst P (eqb-true n k t) here
there_by P n ns k false t here later e = later e

pub there-each : (P : ℕ → Type 0) (ns : List ℕ) (k : ℕ) → Each P ns → IsThere ns k → P k
there-each P [] k all e = absurd cc
there-each P (n ∷ ns) k all e = there_by P n ns k (n == k) refl all.0 (there-each P ns k all.1) e

rise-below : (low : ℕ) (ns : List ℕ) (high : ℕ) → Rise low ns high → Each (λ (n : ℕ). n ≤ high) ns
rise-below low [] high r = tt
rise-below low (n ∷ ns) high r = (bound n ns high r.1, rise-below n ns high r.1)
  where
    bound : (n : ℕ) (ns : List ℕ) (high : ℕ) → Rise n ns high → n ≤ high
    bound n ns high r = rise-bounds n ns high r

pub there-below : (ns : List ℕ) (high k : ℕ) → Rise 0 ns high → IsThere ns k → k ≤ high
there-below ns high k r e = there-each (λ (n : ℕ). n ≤ high) ns k (rise-below 0 ns high r) e

pub filter-same :
    {X : Type 0} (f g : X → Bool) (xs : List X) → Each (λ x. f x ≡ g x) xs
    → filter f xs ≡ filter g xs
filter-same f g [] all = refl
filter-same f g (x ∷ xs) all =
    ap (λ (b : Bool). cond b (x ∷ filter f xs) (filter f xs)) all.0 ∙ ap
    (λ ys. cond (g x) (x ∷ ys) ys) (filter-same f g xs all.1)

rise-more :
    (low : ℕ) (ns : List ℕ) (high k higher : ℕ) → Rise low ns high → Each (λ (n : ℕ). n < k) ns
    → low < k → k ≤ higher → Rise low (ns ++ k ∷ []) higher
rise-more low [] high k higher r all first last = (first, last)
rise-more low (n ∷ ns) high k higher r all first last =
    (r.0, rise-more n ns high k higher r.1 all.1 all.0 last)

-- What stands of a sender port, and of the grants to one port.

pub record Ordered (id count : ℕ) (found : Option Port) (offers : List Offer) (numbers : List ℕ)
    (granted : List Brought) : Type 0 where
  pub numbers_rise : Rise 0 numbers count
  pub within : Each (λ (gift : Brought). gift.origin ≤ count) granted
  pub brought_rises : Rise 0 (map origin_of (filter (is_among numbers) granted)) count
  pub last :
      Each
      (λ (offer : Offer). IsThere numbers offer.origin → Each (λ (n : ℕ). n ≤ offer.origin) numbers)
      offers
  pub owner :
      Each
      (λ (offer : Offer).
      IsThere numbers offer.origin → (port : Port) → found ≡ Some port
      → port.session ≡ offer.session) offers
  pub future : count < id → numbers ≡ []

-- the port is as it was, or gone, or new
abbrev pub IsKept : List ℕ → Option Port → Option Port → Type 0
IsKept numbers found later =
    (port : Port) → later ≡ Some port
    → (numbers ≡ []) ⊎ ((old : Port) × ((found ≡ Some old) × (old.session ≡ port.session)))

owner-later :
    (numbers : List ℕ) (found later : Option Port) (offer : Offer) → IsKept numbers found later
    →
    (IsThere numbers offer.origin → (port : Port) → found ≡ Some port → port.session ≡ offer.session)
    → IsThere numbers offer.origin → (port : Port) → later ≡ Some port
    → port.session ≡ offer.session
owner-later numbers found later offer kept before there port e = by_case (kept port e)
  where
    by_case :
        (numbers ≡ []) ⊎ ((old : Port) × ((found ≡ Some old) × (old.session ≡ port.session)))
        → port.session ≡ offer.session
    by_case (inl none) =
        absurd (true≢false (sym (subst (λ (ns : List ℕ). IsThere ns offer.origin) none there)))
    by_case (inr old) = sym old.1.1 ∙ before there old.0 old.1.0

pub ordered-still :
    (id count : ℕ) (found later : Option Port) (offers : List Offer) (numbers : List ℕ)
    (granted : List Brought)
    → IsKept numbers found later
    → Ordered id count found offers numbers granted
    → Ordered id (count + 1) later offers (numbers ++ []) (granted ++ [])
ordered-still id count found later offers numbers granted kept o =
    rw (append-nil numbers, append-nil granted) (record {
      numbers_rise =
          rise-wider 0 0 numbers count (count + 1) (omega arith) (omega arith) o.numbers_rise;
      within =
          each-weaker (λ (gift : Brought). gift.origin ≤ count)
          (λ (gift : Brought). gift.origin ≤ count + 1) (λ gift here. omega (arith, here)) granted
          o.within;
      brought_rises =
          rise-wider 0 0 (map origin_of (filter (is_among numbers) granted)) count (count + 1)
          (omega arith) (omega arith) o.brought_rises;
      last = o.last;
      owner =
          each-weaker
          (λ (offer : Offer).
          IsThere numbers offer.origin → (port : Port) → found ≡ Some port
          → port.session ≡ offer.session)
          (λ (offer : Offer).
          IsThere numbers offer.origin → (port : Port) → later ≡ Some port
          → port.session ≡ offer.session)
          (λ offer before. owner-later numbers found later offer kept before) offers o.owner;
      future = λ above. o.future (omega (arith, above));
    })

abbrev pub IsOf : ℕ → ℕ → Offer → Type 0
IsOf origin session offer = (offer.origin ≡ origin) × (offer.session ≡ session)

-- offers of an entry that another port sent
pub ordered-others :
    (id count session : ℕ) (found later : Option Port) (offers fresh : List Offer)
    (numbers : List ℕ) (granted : List Brought)
    → IsKept numbers found later
    → Each (IsOf (count + 1) session) fresh
    → Ordered id count found offers numbers granted
    → Ordered id (count + 1) later (offers ++ fresh) (numbers ++ []) (granted ++ [])
ordered-others id count session found later offers fresh numbers granted kept mine o =
    let next = ordered-still id count found later offers numbers granted kept o in
    let same = append-nil numbers in
    record {
      numbers_rise = next.numbers_rise;
      within = next.within;
      brought_rises = next.brought_rises;
      last =
          each-append
          (λ (offer : Offer).
          IsThere (numbers ++ []) offer.origin → Each (λ (n : ℕ). n ≤ offer.origin) (numbers ++ []))
          offers fresh next.last
          (each-weaker (IsOf (count + 1) session)
          (λ (offer : Offer).
          IsThere (numbers ++ []) offer.origin → Each (λ (n : ℕ). n ≤ offer.origin) (numbers ++ []))
          (λ offer of there.
          absurd
          (not_there offer of.0 (subst (λ (ns : List ℕ). IsThere ns offer.origin) same there)))
          fresh mine);
      owner =
          each-append
          (λ (offer : Offer).
          IsThere (numbers ++ []) offer.origin → (port : Port) → later ≡ Some port
          → port.session ≡ offer.session) offers fresh next.owner
          (each-weaker (IsOf (count + 1) session)
          (λ (offer : Offer).
          IsThere (numbers ++ []) offer.origin → (port : Port) → later ≡ Some port
          → port.session ≡ offer.session)
          (λ offer of there.
          absurd
          (not_there offer of.0 (subst (λ (ns : List ℕ). IsThere ns offer.origin) same there)))
          fresh mine);
      future = next.future;
    }
  where
    not_there : (offer : Offer) → offer.origin ≡ count + 1 → IsThere numbers offer.origin → ⊥
    not_there offer at there =
        let below : offer.origin ≤ count =
        there-below numbers count offer.origin o.numbers_rise there in
        omega (arith, at, below)

-- offers of an entry that the port sent: its session had none
pub ordered-sends :
    (id count : ℕ) (port : Port) (found later : Option Port) (offers fresh : List Offer)
    (numbers : List ℕ) (granted : List Brought)
    → found ≡ Some port → ((next : Port) → later ≡ Some next → next.session ≡ port.session)
    → id ≤ count
    → Each (λ (offer : Offer). (offer.session == port.session) ≡ false) offers
    → Each (λ (offer : Offer). offer.origin ≤ count) offers
    → Each (IsOf (count + 1) port.session) fresh
    → Ordered id count found offers numbers granted
    → Ordered id (count + 1) later (offers ++ fresh) (numbers ++ (count + 1) ∷ []) (granted ++ [])
ordered-sends id count port found later offers fresh numbers granted here same old settled
    bounds mine o =
    rw (append-nil granted) (record {
      numbers_rise = rise;
      within =
          each-weaker (λ (gift : Brought). gift.origin ≤ count)
          (λ (gift : Brought). gift.origin ≤ count + 1) (λ gift below. omega (arith, below)) granted
          o.within;
      brought_rises =
          subst (λ (gifts : List Brought). Rise 0 (map origin_of gifts) (count + 1)) (sym unseen)
          (rise-wider 0 0 (map origin_of (filter (is_among numbers) granted)) count (count + 1)
          (omega arith) (omega arith) o.brought_rises);
      last =
          each-append
          (λ (offer : Offer). IsThere more offer.origin → Each (λ (n : ℕ). n ≤ offer.origin) more)
          offers fresh
          (each-weaker (λ (offer : Offer). IsThere more offer.origin → ⊥)
          (λ (offer : Offer). IsThere more offer.origin → Each (λ (n : ℕ). n ≤ offer.origin) more)
          (λ offer none there. absurd (none there)) offers nothing)
          (each-weaker (IsOf (count + 1) port.session)
          (λ (offer : Offer). IsThere more offer.origin → Each (λ (n : ℕ). n ≤ offer.origin) more)
          (λ offer of there.
          subst (λ (k : ℕ). Each (λ (n : ℕ). n ≤ k) more) (sym of.0)
          (rise-below 0 more (count + 1) rise)) fresh mine);
      owner =
          each-append
          (λ (offer : Offer).
          IsThere more offer.origin → (next : Port) → later ≡ Some next
          → next.session ≡ offer.session) offers fresh
          (each-weaker (λ (offer : Offer). IsThere more offer.origin → ⊥)
          (λ (offer : Offer).
          IsThere more offer.origin → (next : Port) → later ≡ Some next
          → next.session ≡ offer.session) (λ offer none there. absurd (none there)) offers nothing)
          (each-weaker (IsOf (count + 1) port.session)
          (λ (offer : Offer).
          IsThere more offer.origin → (next : Port) → later ≡ Some next
          → next.session ≡ offer.session)
          (λ offer of there next e. same next e ∙ sym of.1) fresh mine);
      future = λ above. absurd (omega (arith, above, old));
    })
  where
    more : List ℕ
    more = numbers ++ (count + 1) ∷ []

    rise : Rise 0 (numbers ++ (count + 1) ∷ []) (count + 1)
    rise = rise-push 0 numbers count (count + 1) (omega arith) o.numbers_rise

    unseen :
        filter (is_among (numbers ++ (count + 1) ∷ [])) granted ≡ filter (is_among numbers) granted
    unseen =
        filter-same (is_among (numbers ++ (count + 1) ∷ [])) (is_among numbers) granted
        (each-weaker (λ (gift : Brought). gift.origin ≤ count)
        (λ (gift : Brought). is_among (numbers ++ (count + 1) ∷ []) gift ≡ is_among numbers gift)
        (λ gift below.
        there-push_other numbers (count + 1) gift.origin
        (ne_eqb (count + 1) gift.origin (λ e. omega (arith, e, below)))) granted o.within)

    -- no offer that stood is of an entry of the port
    nothing :
        Each (λ (offer : Offer). IsThere (numbers ++ (count + 1) ∷ []) offer.origin → ⊥) offers
    nothing =
        each-both (λ (offer : Offer). IsThere numbers offer.origin → ⊥)
        (λ (offer : Offer). offer.origin ≤ count)
        (λ (offer : Offer). IsThere (numbers ++ (count + 1) ∷ []) offer.origin → ⊥)
        (λ offer none below there.
        none
        (sym
        (there-push_other numbers (count + 1) offer.origin
        (ne_eqb (count + 1) offer.origin (λ e. omega (arith, e, below)))) ∙ there)) offers
        (each-both (λ (offer : Offer). (offer.session == port.session) ≡ false)
        (λ (offer : Offer).
        IsThere numbers offer.origin → (p : Port) → found ≡ Some p → p.session ≡ offer.session)
        (λ (offer : Offer). IsThere numbers offer.origin → ⊥)
        (λ offer other own there.
        eqb-false offer.session port.session other (sym (own there port here))) offers settled
        o.owner) bounds

-- A Grant to the port.

granted_by_test :
    (numbers : List ℕ) (granted : List Brought) (gift : Brought) (count : ℕ) (hit : Bool)
    → is_among numbers gift ≡ hit
    → (hit ≡ true → Each (λ (n : ℕ). n ≤ gift.origin) numbers)
    → Each (λ (other : Brought). (other.origin == gift.origin) ≡ false) granted
    → (hit ≡ true → 0 < gift.origin) → gift.origin ≤ count
    → Rise 0 (map origin_of (filter (is_among numbers) granted)) count
    → Rise 0 (map origin_of (filter (is_among numbers) granted ++ cond hit (gift ∷ []) []))
    (count + 1)
granted_by_test numbers granted gift count true t last alone first below r =
    rw (map-append origin_of (filter (is_among numbers) granted) (gift ∷ []))
    (rise-more 0 (map origin_of (filter (is_among numbers) granted)) count gift.origin (count + 1) r
    (each-map (λ (other : Brought). other.origin < gift.origin) (λ (n : ℕ). n < gift.origin)
    origin_of (λ other here. here) (filter (is_among numbers) granted)
    (each-kept (λ (other : Brought). (other.origin == gift.origin) ≡ false)
    (λ (other : Brought). other.origin < gift.origin) (is_among numbers)
    (λ other among apart.
    let under : other.origin ≤ gift.origin =
    there-each (λ (n : ℕ). n ≤ gift.origin) numbers other.origin (last refl) among in
    below_other other.origin gift.origin under
    (eqb-false other.origin gift.origin apart)) granted alone))
    (first refl) (omega (arith, below)))
  where
    below_other : (m n : ℕ) → m ≤ n → (m ≡ n → ⊥) → m < n
    below_other m n under apart = omega (arith, under, apart)
granted_by_test numbers granted gift count false t last alone first below r =
    rw (append-nil (filter (is_among numbers) granted))
    (rise-wider 0 0 (map origin_of (filter (is_among numbers) granted)) count (count + 1)
    (omega arith) (omega arith) r)

-- an entry that grants an offer to another port
pub ordered-fewer :
    (id count : ℕ) (found later : Option Port) (offers fewer : List Offer) (numbers : List ℕ)
    (granted : List Brought)
    → IsKept numbers found later
    → ((P : Offer → Type 0) → Each P offers → Each P fewer)
    → Ordered id count found offers numbers granted
    → Ordered id (count + 1) later fewer (numbers ++ []) (granted ++ [])
ordered-fewer id count found later offers fewer numbers granted kept less o =
    let next = ordered-still id count found later offers numbers granted kept o in
    record {
      numbers_rise = next.numbers_rise;
      within = next.within;
      brought_rises = next.brought_rises;
      last =
          less
          (λ (offer : Offer).
          IsThere (numbers ++ []) offer.origin → Each (λ (n : ℕ). n ≤ offer.origin) (numbers ++ []))
          next.last;
      owner =
          less
          (λ (offer : Offer).
          IsThere (numbers ++ []) offer.origin → (port : Port) → later ≡ Some port
          → port.session ≡ offer.session) next.owner;
      future = next.future;
    }

pub ordered-grants :
    (id count : ℕ) (found later : Option Port) (offers fewer : List Offer) (numbers : List ℕ)
    (granted : List Brought) (gift : Brought)
    → IsKept numbers found later
    → ((P : Offer → Type 0) → Each P offers → Each P fewer)
    → (IsThere numbers gift.origin → Each (λ (n : ℕ). n ≤ gift.origin) numbers)
    → Each (λ (other : Brought). (other.origin == gift.origin) ≡ false) granted
    → gift.origin ≤ count
    → Ordered id count found offers numbers granted
    → Ordered id (count + 1) later fewer (numbers ++ []) (granted ++ gift ∷ [])
ordered-grants id count found later offers fewer numbers granted gift kept less last alone below o =
    let next = ordered-fewer id count found later offers fewer numbers granted kept less o in
    let same = append-nil numbers in
    record {
      numbers_rise = next.numbers_rise;
      within =
          each-append (λ (g : Brought). g.origin ≤ count + 1) granted (gift ∷ [])
          (each-weaker (λ (g : Brought). g.origin ≤ count) (λ (g : Brought). g.origin ≤ count + 1)
          (λ g here. omega (arith, here)) granted o.within) (omega (arith, below), tt);
      brought_rises =
          subst
          (λ (ns : List ℕ).
          Rise 0 (map origin_of (filter (is_among ns) (granted ++ gift ∷ []))) (count + 1))
          (sym same)
          (subst (λ (gifts : List Brought). Rise 0 (map origin_of gifts) (count + 1))
          (sym (filter-append (is_among numbers) granted (gift ∷ [])))
          (granted_by_test numbers granted gift count (is_among numbers gift) refl last alone
          (λ there.
          there-each (λ (n : ℕ). 0 < n) numbers gift.origin
          (rise-above 0 numbers count o.numbers_rise) there) below o.brought_rises));
      last = next.last;
      owner = next.owner;
      future = next.future;
    }

-- what a Put brings there, under the number of its own entry
pub ordered-brings :
    (id count : ℕ) (later : Option Port) (offers : List Offer) (numbers : List ℕ)
    (brought : List Brought) (gift : Brought)
    → gift.origin ≡ count + 1 → Each (λ (other : Brought). other.origin ≤ count) brought
    → Ordered id (count + 1) later offers numbers brought
    → Ordered id (count + 1) later offers numbers (brought ++ gift ∷ [])
ordered-brings id count later offers numbers brought gift mine before o = record {
  numbers_rise = o.numbers_rise;
  within =
      each-append (λ (g : Brought). g.origin ≤ count + 1) brought (gift ∷ []) o.within
      (omega (arith, mine), tt);
  brought_rises =
      subst (λ (gifts : List Brought). Rise 0 (map origin_of gifts) (count + 1))
      (sym (filter-append (is_among numbers) brought (gift ∷ [])))
      (by_test (is_among numbers gift) refl);
  last = o.last;
  owner = o.owner;
  future = o.future;
}
  where
    by_test :
        (hit : Bool) → is_among numbers gift ≡ hit
        → Rise 0 (map origin_of (filter (is_among numbers) brought ++ cond hit (gift ∷ []) []))
        (count + 1)
    by_test true t =
        rw (map-append origin_of (filter (is_among numbers) brought) (gift ∷ []))
        (rise-more 0 (map origin_of (filter (is_among numbers) brought)) (count + 1) gift.origin
        (count + 1) o.brought_rises
        (each-map (λ (other : Brought). other.origin < gift.origin) (λ (n : ℕ). n < gift.origin)
        origin_of (λ other here. here) (filter (is_among numbers) brought)
        (each-kept (λ (other : Brought). other.origin ≤ count)
        (λ (other : Brought). other.origin < gift.origin) (is_among numbers)
        (λ other among below. omega (arith, below, mine)) brought before))
        (omega (arith, mine)) (omega (arith, mine)))
    by_test false t = rw (append-nil (filter (is_among numbers) brought)) o.brought_rises
