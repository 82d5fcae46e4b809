-- The offers of one entry to one port: as an entry makes offers, and as one is granted.
use Rattle.std.proofs.Common.{ℕ, ◌<◌, ◌≤◌, ◌≡◌, min, Bool, true, false, cond, ◌&&◌, ◌==◌, List, [], ◌∷◌, map, length, filter, find, Option, Some, None, refl, sym, ◌∙◌, ap, subst, arith}
use Rattle.std.specs.List.{AllByRecursion as Each, cons_option}
use Rattle.std.proofs.lemmas.Bool.{and_parts, eqb-true, eqb-false, eq-eqb, ne_eqb}
use Rattle.nm_types.specs.Frames.{Frame}
use Rattle.vale_entry.specs.World.{Port, Offer}
use Rattle.vale_entry.specs.Offers.{offer_to, offers_of, is_offer_of, dests_of, port_of_dest}
use Rattle.vale_entry.specs.Grant.{without_first}
use Rattle.vale_entry.specs.Laws.{Rise, id_of_port}
use Rattle.vale_entry.specs.Delivered.{port_at, frames_at}
use Rattle.vale_entry.specs.Fate.{is_offer_to}
use Rattle.vale_entry.proofs.Rising.{rise-wider}

pub cond-same : {X : Type 0} (b : Bool) (x : X) → cond b x x ≡ x
cond-same true x = refl
cond-same false x = refl

-- the offer of an entry to the port that is found, if it wants frames there
abbrev pub offer_at : ℕ → ℕ → (Port → List Frame) → Option Port → List Offer
offer_at origin session wanted None = []
offer_at origin session wanted (Some port) =
    cons_option (offer_to origin session port.id (wanted port)) []

tested : (number to origin session at : ℕ) (frames : List Frame) (rest : List Offer)
    → filter (is_offer_to number to) (cons_option (offer_to origin session at frames) rest)
    ≡ cond ((origin == number) && (at == to))
    (cons_option (offer_to origin session at frames) (filter (is_offer_to number to) rest))
    (filter (is_offer_to number to) rest)
tested number to origin session at [] rest =
    sym (cond-same ((origin == number) && (at == to)) (filter (is_offer_to number to) rest))
tested number to origin session at (frame ∷ frames) rest = refl

-- an offer to each port behind that of this id is to another
offers-above :
    (number to origin session : ℕ) (wanted : Port → List Frame) (low : ℕ) (ports : List Port)
    (high : ℕ)
    → to ≤ low → Rise low (map id_of_port ports) high
    → filter (is_offer_to number to) (offers_of origin session wanted ports) ≡ []
offers-above number to origin session wanted low [] high below r = refl
offers-above number to origin session wanted low (x ∷ xs) high below r =
    let first : low < x.id = r.0 in
    let miss : (x.id == to) ≡ false = ne_eqb x.id to (λ e. omega (arith, first, below, e)) in
    let rest =
    offers-above number to origin session wanted x.id xs high (omega (arith, first, below)) r.1 in
    tested number to origin session x.id (wanted x) (offers_of origin session wanted xs)
    ∙ skipped (origin == number) (x.id == to) miss
    (cons_option (offer_to origin session x.id (wanted x))
    (filter (is_offer_to number to) (offers_of origin session wanted xs)))
    (filter (is_offer_to number to) (offers_of origin session wanted xs)) rest
  where
    skipped :
        (a b : Bool) → b ≡ false → (more less : List Offer) → less ≡ []
        → cond (a && b) more less ≡ []
    skipped true b e more less none = rw e none
    skipped false b e more less none = none

-- the offers that an entry makes to a port
offers_by :
    (number to origin session : ℕ) (wanted : Port → List Frame) (x : Port) (xs : List Port)
    (high : ℕ) (hit : Bool)
    → (x.id == to) ≡ hit → origin ≡ number
    → Rise x.id (map id_of_port xs) high
    → filter (is_offer_to number to) (offers_of origin session wanted xs)
    ≡ offer_at origin session wanted (port_at xs to)
    → cond ((origin == number) && hit)
    (cons_option (offer_to origin session x.id (wanted x))
    (filter (is_offer_to number to) (offers_of origin session wanted xs)))
    (filter (is_offer_to number to) (offers_of origin session wanted xs))
    ≡ offer_at origin session wanted (cond hit (Some x) (port_at xs to))
offers_by number to origin session wanted x xs high true t mine r rest =
    let same : x.id ≡ to = eqb-true x.id to t in
    let none = offers-above number to origin session wanted x.id xs high (omega (arith, same)) r in
    rw (eq-eqb origin number mine)
    (ap (λ (os : List Offer). cons_option (offer_to origin session x.id (wanted x)) os) none)
offers_by number to origin session wanted x xs high false t mine r rest =
    rw (eq-eqb origin number mine) rest

offers_from :
    (number to origin session : ℕ) (wanted : Port → List Frame) (low : ℕ) (ports : List Port)
    (high : ℕ)
    → origin ≡ number → Rise low (map id_of_port ports) high
    → filter (is_offer_to number to) (offers_of origin session wanted ports)
    ≡ offer_at origin session wanted (port_at ports to)
offers_from number to origin session wanted low [] high mine r = refl
offers_from number to origin session wanted low (x ∷ xs) high mine r =
    tested number to origin session x.id (wanted x) (offers_of origin session wanted xs)
    ∙ offers_by number to origin session wanted x xs high (x.id == to) refl mine r.1
    (offers_from number to origin session wanted x.id xs high mine r.1)

pub offers-made :
    (number to origin session : ℕ) (wanted : Port → List Frame) (ports : List Port) (high : ℕ)
    → origin ≡ number → Rise 0 (map id_of_port ports) high
    → filter (is_offer_to number to) (offers_of origin session wanted ports)
    ≡ offer_at origin session wanted (port_at ports to)
offers-made number to origin session wanted ports high mine r =
    offers_from number to origin session wanted 0 ports high mine r

-- and those of another entry
pub offers-other :
    (number to origin session : ℕ) (wanted : Port → List Frame) (ports : List Port)
    → (origin == number) ≡ false
    → filter (is_offer_to number to) (offers_of origin session wanted ports) ≡ []
offers-other number to origin session wanted [] other = refl
offers-other number to origin session wanted (x ∷ xs) other =
    tested number to origin session x.id (wanted x) (offers_of origin session wanted xs)
    ∙ ap
    (λ (b : Bool).
    cond (b && (x.id == to))
    (cons_option (offer_to origin session x.id (wanted x))
    (filter (is_offer_to number to) (offers_of origin session wanted xs)))
    (filter (is_offer_to number to) (offers_of origin session wanted xs))) other
    ∙ offers-other number to origin session wanted xs other

one_if :
    (origin session at : ℕ) (frames : List Frame)
    → length (cons_option (offer_to origin session at frames) []) ≡ min 1 (length frames)
one_if origin session at [] = omega arith
one_if origin session at (frame ∷ frames) = omega arith

pub offer_at-one : (origin session : ℕ) (wanted : Port → List Frame) (found : Option Port)
    → length (offer_at origin session wanted found) ≡ min 1 (length (frames_at wanted found))
offer_at-one origin session wanted None = omega arith
offer_at-one origin session wanted (Some port) = one_if origin session port.id (wanted port)

same_if :
    (origin session at : ℕ) (frames : List Frame)
    → Each (λ (offer : Offer). offer.frames ≡ frames)
    (cons_option (offer_to origin session at frames) [])
same_if origin session at [] = tt
same_if origin session at (frame ∷ frames) = (refl, tt)

pub offer_at-same : (origin session : ℕ) (wanted : Port → List Frame) (found : Option Port)
    → Each (λ (offer : Offer). offer.frames ≡ frames_at wanted found)
    (offer_at origin session wanted found)
offer_at-same origin session wanted None = tt
offer_at-same origin session wanted (Some port) = same_if origin session port.id (wanted port)

-- the first offer of an entry goes, and no other
skipped_first :
    (number to origin : ℕ) (x offer : Offer) (hit : Bool) → (x.origin == origin) ≡ false
    → offer.origin ≡ origin → is_offer_to number to offer ≡ hit
    → (all less : List Offer) → all ≡ cond hit (offer ∷ less) less
    → cond (is_offer_to number to x) (x ∷ all) all
    ≡ cond hit (offer ∷ cond (is_offer_to number to x) (x ∷ less) less)
    (cond (is_offer_to number to x) (x ∷ less) less)
skipped_first number to origin x offer true other here t all less e =
    let mine : offer.origin ≡ number =
    eqb-true offer.origin number (and_parts (offer.origin == number) (offer.to == to) t).0 in
    let miss : (x.origin == number) ≡ false =
    ne_eqb x.origin number (λ k. eqb-false x.origin origin other (k ∙ (sym mine ∙ here))) in
    rw miss e
skipped_first number to origin x offer false other here t all less e =
    ap (λ (os : List Offer). cond (is_offer_to number to x) (x ∷ os) os) e

found_first :
    (number to origin : ℕ) (x offer : Offer) (xs : List Offer) (b : Bool) → (x.origin == origin) ≡ b
    → offer.origin ≡ origin
    →
    (find (is_offer_of origin) xs ≡ Some offer
    → filter (is_offer_to number to) xs ≡ cond (is_offer_to number to offer)
    (offer ∷ filter (is_offer_to number to) (without_first origin xs))
    (filter (is_offer_to number to) (without_first origin xs)))
    → cond b (Some x) (find (is_offer_of origin) xs) ≡ Some offer
    → filter (is_offer_to number to) (x ∷ xs)
    ≡ cond (is_offer_to number to offer)
    (offer ∷ filter (is_offer_to number to) (cond b xs (x ∷ without_first origin xs)))
    (filter (is_offer_to number to) (cond b xs (x ∷ without_first origin xs)))
found_first number to origin x offer xs true t here later e =
    let same : x ≡ offer = cc in
    ap
    (λ (o : Offer).
    cond (is_offer_to number to o) (o ∷ filter (is_offer_to number to) xs)
    (filter (is_offer_to number to) xs)) same
found_first number to origin x offer xs false t here later e =
    skipped_first number to origin x offer (is_offer_to number to offer) t here refl
    (filter (is_offer_to number to) xs) (filter (is_offer_to number to) (without_first origin xs))
    (later e)

pub first-origin :
    (origin : ℕ) (offers : List Offer) (offer : Offer)
    → find (is_offer_of origin) offers ≡ Some offer → offer.origin ≡ origin
first-origin origin [] offer e = absurd cc
first-origin origin (x ∷ xs) offer e =
    by_test (x.origin == origin) refl (first-origin origin xs offer) e
  where
    by_test :
        (b : Bool) → (x.origin == origin) ≡ b
        → (find (is_offer_of origin) xs ≡ Some offer → offer.origin ≡ origin)
        → cond b (Some x) (find (is_offer_of origin) xs) ≡ Some offer → offer.origin ≡ origin
    by_test true t later e =
        let same : x
        ≡ offer = cc in subst (λ (o : Offer). o.origin ≡ origin) same (eqb-true x.origin origin t)
    by_test false t later e = later e

pub offers-granted :
    (number to origin : ℕ) (offers : List Offer) (offer : Offer)
    → find (is_offer_of origin) offers ≡ Some offer
    → filter (is_offer_to number to) offers
    ≡ cond (is_offer_to number to offer)
    (offer ∷ filter (is_offer_to number to) (without_first origin offers))
    (filter (is_offer_to number to) (without_first origin offers))
offers-granted number to origin [] offer e = absurd cc
offers-granted number to origin (x ∷ xs) offer e =
    found_first number to origin x offer xs (x.origin == origin) refl
    (first-origin origin (x ∷ xs) offer e) (offers-granted number to origin xs offer) e

rise-offered :
    (low origin session at : ℕ) (frames : List Frame) (rest : List Offer) (high : ℕ) → low < at
    → Rise at (map port_of_dest (dests_of rest)) high
    → Rise low (map port_of_dest (dests_of (cons_option (offer_to origin session at frames) rest))) high
rise-offered low origin session at [] rest high above r =
    rise-wider low at (map port_of_dest (dests_of rest)) high high (omega arith) (omega arith) r
rise-offered low origin session at (frame ∷ frames) rest high above r = (above, r)

-- the offers of an entry rise, since ports do
pub rise-offers :
    (low origin session : ℕ) (wanted : Port → List Frame) (ports : List Port) (high : ℕ)
    → Rise low (map id_of_port ports) high
    → Rise low (map port_of_dest (dests_of (offers_of origin session wanted ports))) high
rise-offers low origin session wanted [] high r = r
rise-offers low origin session wanted (port ∷ ports) high r =
    rise-offered low origin session port.id (wanted port) (offers_of origin session wanted ports)
    high r.0 (rise-offers port.id origin session wanted ports high r.1)
