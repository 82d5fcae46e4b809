-- Lists of which some elements are another session's: what a filter, a search or a join of lists reads.
use Rattle.std.proofs.Common.{ℕ, ◌≡◌, ◌≢◌, Bool, true, false, cond, not, ◌==◌, List, [], ◌∷◌, ◌++◌, map, filter, flat_map, append-nil, find, Some, refl, ◌∙◌, ap}
use Rattle.std.specs.List.{AllByRecursion as Each, list_any}
use Rattle.std.proofs.lemmas.Bool.{eqb-true, ne_eqb}
use Rattle.std.proofs.lemmas.List.Elements.{filter-append}
use Rattle.nm_types.specs.Frames.{Frame}
use Rattle.vale_entry.specs.World.{Port, Offer}
use Rattle.vale_entry.specs.Offers.{is_offer_of, offers_of}
use Rattle.vale_entry.specs.Grant.{without_first}
use Rattle.vale_entry.specs.Holdings.{SessionBuffers, buffers_of_session}
use Rattle.vale_entry.proofs.Each.{each-offers_of}
use Rattle.vale_own.specs.Own.{is_offer_by}

pub filter-none : {X : Type 0} (p : X → Bool) (xs : List X) → Each (λ x. p x ≡ false) xs → filter p xs ≡ []
filter-none p [] all = refl
filter-none p (x ∷ xs) all = rw (all.0) (filter-none p xs all.1)

pub filter-every : {X : Type 0} (p : X → Bool) (xs : List X) → Each (λ x. p x ≡ true) xs → filter p xs ≡ xs
filter-every p [] all = refl
filter-every p (x ∷ xs) all = rw (all.0) (ap (λ ys. x ∷ ys) (filter-every p xs all.1))

pub flat_map-none : {X Y : Type 0} (f : X → List Y) (xs : List X) → Each (λ x. f x ≡ []) xs → flat_map f xs ≡ []
flat_map-none f [] all = refl
flat_map-none f (x ∷ xs) all = rw (all.0, flat_map-none f xs all.1) refl

pub flat_map-changed : {X Y : Type 0} (f : X → List Y) (change : X → X) (xs : List X) → Each (λ x. f (change x) ≡ f x) xs → flat_map f (map change xs) ≡ flat_map f xs
flat_map-changed f change [] all = refl
flat_map-changed f change (x ∷ xs) all = let rest = flat_map-changed f change xs all.1 in let here = all.0 in cc

pub flat_map-filtered : {X Y : Type 0} (f : X → List Y) (q : X → Bool) (xs : List X) → Each (λ x. q x ≡ false → f x ≡ []) xs → flat_map f (filter q xs) ≡ flat_map f xs
flat_map-filtered f q [] all = refl
flat_map-filtered {X} {Y} f q (x ∷ xs) all = by (q x) refl (flat_map-filtered f q xs all.1)
  where
    by : (b : Bool) → q x ≡ b → flat_map f (filter q xs) ≡ flat_map f xs → flat_map f (cond (q x) (x ∷ filter q xs) (filter q xs)) ≡ f x ++ flat_map f xs
    by true e rest = rw (e, rest) refl
    by false e rest = rw (e, all.0 e, rest) refl

-- the sessions that are there
pub any-pushed : (session n : ℕ) (ns : List ℕ) → n ≢ session → list_any (λ (k : ℕ). k == session) (ns ++ n ∷ []) ≡ list_any (λ (k : ℕ). k == session) ns
any-pushed session n [] other = rw (ne_eqb n session other) refl
any-pushed session n (k ∷ ks) other = rw (any-pushed session n ks other) refl

pub any-filtered : (session gone : ℕ) (ns : List ℕ) → gone ≢ session → list_any (λ (k : ℕ). k == session) (filter (λ (k : ℕ). not (k == gone)) ns) ≡ list_any (λ (k : ℕ). k == session) ns
any-filtered session gone [] other = refl
any-filtered session gone (k ∷ ks) other = by (k == gone) refl (any-filtered session gone ks other)
  where
    by : (b : Bool) → (k == gone) ≡ b → list_any (λ (j : ℕ). j == session) (filter (λ (j : ℕ). not (j == gone)) ks) ≡ list_any (λ (j : ℕ). j == session) ks
        → list_any (λ (j : ℕ). j == session) (filter (λ (j : ℕ). not (j == gone)) (k ∷ ks)) ≡ list_any (λ (j : ℕ). j == session) (k ∷ ks)
    by true t rest =
        let miss : (k == session) ≡ false = rw (eqb-true k gone t) (ne_eqb gone session other) in
        rw (t, miss, rest) refl
    by false t rest = rw (t, rest) refl

-- the buffers of a session, as those of others change
pub buffers-mapped : (session : ℕ) (f : SessionBuffers → SessionBuffers) → ((h : SessionBuffers) → (f h).session ≡ h.session) → ((h : SessionBuffers) → h.session ≡ session → f h ≡ h)
    → (xs : List SessionBuffers) → buffers_of_session (map f xs) session ≡ buffers_of_session xs session
buffers-mapped session f keeps same [] = refl
buffers-mapped session f keeps same (h ∷ xs) = by (h.session == session) refl (buffers-mapped session f keeps same xs)
  where
    by : (b : Bool) → (h.session == session) ≡ b → buffers_of_session (map f xs) session ≡ buffers_of_session xs session
        → cond ((f h).session == session) (f h).buffers (buffers_of_session (map f xs) session) ≡ cond (h.session == session) h.buffers (buffers_of_session xs session)
    by true e rest = rw (keeps h, e, same h (eqb-true h.session session e)) refl
    by false e rest = rw (keeps h, e, rest) refl

pub buffers-filtered : (session : ℕ) (q : SessionBuffers → Bool) → ((h : SessionBuffers) → h.session ≡ session → q h ≡ true)
    → (xs : List SessionBuffers) → buffers_of_session (filter q xs) session ≡ buffers_of_session xs session
buffers-filtered session q stays [] = refl
buffers-filtered session q stays (h ∷ xs) = by (q h) (h.session == session) refl refl (buffers-filtered session q stays xs)
  where
    by : (c b : Bool) → q h ≡ c → (h.session == session) ≡ b → buffers_of_session (filter q xs) session ≡ buffers_of_session xs session
        → buffers_of_session (cond (q h) (h ∷ filter q xs) (filter q xs)) session ≡ cond (h.session == session) h.buffers (buffers_of_session xs session)
    by true true t e rest = rw (t, e) refl
    by true false t e rest = rw (t, e, rest) refl
    by false true t e rest = absurd (let s = stays h (eqb-true h.session session e) in cc)
    by false false t e rest = rw (t, e, rest) refl

pub buffers-pushed : (session : ℕ) (h : SessionBuffers) → h.session ≢ session → (xs : List SessionBuffers) → buffers_of_session (xs ++ h ∷ []) session ≡ buffers_of_session xs session
buffers-pushed session h other [] = rw (ne_eqb h.session session other) refl
buffers-pushed session h other (x ∷ xs) = let rest = buffers-pushed session h other xs in rw rest refl

-- offers
pub offers-other : (session origin : ℕ) (offers : List Offer) (offer : Offer) → find (is_offer_of origin) offers ≡ Some offer → offer.session ≢ session
    → filter (is_offer_by session) (without_first origin offers) ≡ filter (is_offer_by session) offers
offers-other session origin [] offer e other = refl
offers-other session origin (o ∷ os) offer e other = by (is_offer_of origin o) refl (λ f. offers-other session origin os offer f other)
  where
    by : (b : Bool) → is_offer_of origin o ≡ b → (find (is_offer_of origin) os ≡ Some offer → filter (is_offer_by session) (without_first origin os) ≡ filter (is_offer_by session) os)
        → filter (is_offer_by session) (cond (is_offer_of origin o) os (o ∷ without_first origin os)) ≡ filter (is_offer_by session) (o ∷ os)
    by true t rest =
        let is : o ≡ offer = let f : cond (is_offer_of origin o) (Some o) (find (is_offer_of origin) os) ≡ Some offer = e in let g : Some o ≡ Some offer = rw t at f in cc in
        let miss : (o.session == session) ≡ false = rw is (ne_eqb offer.session session other) in
        rw (t, miss) refl
    by false t rest =
        let found : find (is_offer_of origin) os ≡ Some offer = let f : cond (is_offer_of origin o) (Some o) (find (is_offer_of origin) os) ≡ Some offer = e in rw t at f in
        rw (t, rest found) refl

pub more-offers : (session by n : ℕ) (wanted : Port → List Frame) (ports : List Port) (offers : List Offer) → by ≢ session
    → filter (is_offer_by session) (offers ++ offers_of n by wanted ports) ≡ filter (is_offer_by session) offers
more-offers session by n wanted ports offers other =
    let none = filter-none (is_offer_by session) (offers_of n by wanted ports)
    (each-offers_of (λ (o : Offer). is_offer_by session o ≡ false) n by wanted (λ at frames. ne_eqb by session other) ports) in
    filter-append (is_offer_by session) offers (offers_of n by wanted ports) ∙ rw (none, append-nil) refl
