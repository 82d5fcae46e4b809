-- What is read of all that stands for a session is read off what is its own.
use Rattle.std.proofs.Common.{ℕ, ◌≡◌, Bool, true, false, cond, ◌||◌, ◌==◌, List, [], ◌∷◌, map, filter, find, flat_map, length, sum_by, slice_get, Some, refl, sym, ◌∙◌, ap, ap₂}
use Rattle.std.specs.Prelude.{option_map}
use Rattle.std.specs.List.{AllByRecursion as Each, list_any}
use Rattle.std.proofs.lemmas.Bool.{eqb-true, eq-eqb}
use Rattle.vale_entry.specs.World.{Port, Lot, Offer, is_owed_by, due_of}
use Rattle.vale_entry.specs.Closing.{is_port_of}
use Rattle.vale_entry.specs.Delivery.{line_of}
use Rattle.vale_entry.specs.Offers.{is_offer_of}
use Rattle.vale_entry.specs.Holdings.{SessionBuffers, buffers_of_session, due_of_session}
use Rattle.vale_entry.specs.Laws.{IsThere, id_of_session}
use Rattle.vale_entry.specs.Legal.{standing_of, world_of}
use Rattle.vale_entry.proofs.HistoryLaws.{history-stands}
use Rattle.vale_entry.proofs.Holding.{IsPaid}
use Rattle.vale_entry.proofs.ListLaws.{sum-map_same, place-of}
use Rattle.vale_entry.proofs.Removals.{map-filter}
use Rattle.vale_entry.proofs.Each.{each-both, each-find}
use Rattle.vale_own.specs.Own.{own_of, port_alone, is_offer_by, lot_of_lease}
use Rattle.vale_own.specs.Laws.{FirstOffersAreOwn, FirstLeasesAreOwn, OffersLeftAreOwn, SettledIsOwn, BuffersAreDue}
use Rattle.vale_own.proofs.OneAsker.{entries-have-one-asker}
use Rattle.vale_own.proofs.Sounds.{lots-of_leases, settled-at}

-- the first that passes
head-found : {X : Type 0} (p : X → Bool) (xs : List X) → find p xs ≡ slice_get (filter p xs) 0
head-found p [] = refl
head-found {X} p (x ∷ xs) = by (p x) refl (head-found p xs)
  where
    by : (b : Bool) → p x ≡ b → find p xs ≡ slice_get (filter p xs) 0 → cond (p x) (Some x) (find p xs) ≡ slice_get (cond (p x) (x ∷ filter p xs) (filter p xs)) 0
    by true t rest = rw t refl
    by false t rest = rw t rest

head-mapped : {X Y : Type 0} (f : X → Y) (xs : List X) → slice_get (map f xs) 0 ≡ option_map f (slice_get xs 0)
head-mapped f [] = refl
head-mapped f (x ∷ xs) = refl

pub first-offers : FirstOffersAreOwn
first-offers s session = head-found (is_offer_by session) s.world.offers

pub first-leases : FirstLeasesAreOwn
first-leases pool h session legal =
    let s = standing_of pool h in
    let agree = (history-stands pool h legal).held.ports_agree in
    head-found (is_owed_by session) (flat_map line_of s.world.ports)
    ∙ (ap (λ (ls : List Lot). slice_get ls 0) (sym (lots-of_leases session s.world.ports s.holdings.ports agree)) ∙ head-mapped lot_of_lease (own_of session s).leases)

-- tests that agree
filter-same : {X : Type 0} (p q : X → Bool) (xs : List X) → Each (λ x. p x ≡ q x) xs → filter p xs ≡ filter q xs
filter-same p q [] all = refl
filter-same p q (x ∷ xs) all = ap₂ (λ (b : Bool) ys. cond b (x ∷ ys) ys) (all.0) (filter-same p q xs all.1)

same-test : (a b c d : ℕ) → (a ≡ b → c ≡ d) → (c ≡ d → a ≡ b) → (a == b) ≡ (c == d)
same-test a b c d to back = by (a == b) (c == d) refl refl
  where
    by : (x y : Bool) → (a == b) ≡ x → (c == d) ≡ y → x ≡ y
    by true true s t = refl
    by false false s t = refl
    by true false s t = absurd (let yes = eq-eqb c d (to (eqb-true a b s)) in cc)
    by false true s t = absurd (let yes = eq-eqb a b (back (eqb-true c d t)) in cc)

pub offers-left : OffersLeftAreOwn
offers-left pool h origin offer legal e =
    let os = (world_of pool h).offers in
    let n = offer.session in
    let here = place-of (is_offer_of origin) os offer e in
    let is : offer.origin ≡ origin = eqb-true offer.origin origin here.passes in
    let by_origin = entries-have-one-asker pool h origin in
    let by_session = (history-stands pool h legal).one n in
    let asker : n ≡ by_origin.0 = each-find (λ (o : Offer). o.origin ≡ origin → o.session ≡ by_origin.0) (is_offer_of origin) os offer by_origin.1 e is in
    let entry : offer.origin ≡ by_session.0 = each-find (λ (o : Offer). o.session ≡ n → o.origin ≡ by_session.0) (is_offer_of origin) os offer by_session.1 e refl in
    filter-same (is_offer_of origin) (is_offer_by n) os
    (each-both (λ (o : Offer). o.origin ≡ origin → o.session ≡ by_origin.0) (λ (o : Offer). o.session ≡ n → o.origin ≡ by_session.0) (λ (o : Offer). is_offer_of origin o ≡ is_offer_by n o)
    (λ o one two. same-test o.origin origin o.session n (λ s. one s ∙ sym asker) (λ s. two s ∙ (sym entry ∙ is))) os by_origin.1 by_session.1)

pub settled-own : SettledIsOwn
settled-own pool h session legal = settled-at session (standing_of pool h) (history-stands pool h legal).held

-- the buffers of a session that is there
pub paid-found : (ports : List Port) (session : ℕ) (helds : List SessionBuffers) → Each (IsPaid ports) helds → IsThere (map id_of_session helds) session
    → length (buffers_of_session helds session) ≡ due_of_session ports session
paid-found ports session [] all there = absurd cc
paid-found ports session (h ∷ hs) all there = by (h.session == session) refl there (paid-found ports session hs all.1)
  where
    by : (b : Bool) → (h.session == session) ≡ b → (b || list_any (λ (k : ℕ). k == session) (map id_of_session hs)) ≡ true
        → (IsThere (map id_of_session hs) session → length (buffers_of_session hs session) ≡ due_of_session ports session)
        → length (buffers_of_session (h ∷ hs) session) ≡ due_of_session ports session
    by true t here rest = rw t (all.0 ∙ ap (due_of_session ports) (eqb-true h.session session t))
    by false t here rest = rw t (rest here)

pub buffers-due : BuffersAreDue
buffers-due pool h session legal there =
    let s = standing_of pool h in
    let k = (history-stands pool h legal).held in
    let ports = s.world.ports in
    paid-found ports session s.holdings.sessions k.dues (rw (k.session_ids) there)
    ∙ (sym (sum-map_same due_of due_of port_alone (λ p. refl) (filter (is_port_of session) ports)) ∙ ap (sum_by due_of) (map-filter port_alone (is_port_of session) ports))
