-- Where no session has an entry's offers, or a lease, there are none.
use Rattle.std.proofs.Common.{ℕ, zero, suc, ◌≡◌, ◌==◌, ◌&&◌, ◌||◌, not, Bool, true, false, cond, List, [], ◌∷◌, map, filter, find, flat_map, slice_get, get_or, position, length, ◌≤◌, arith, Option, Some, None, option_map, is_some, refl, sym, ◌∙◌, ap, subst}
use Rattle.std.specs.List.{AllByRecursion as Each, list_any}
use Rattle.std.proofs.lemmas.Option.{get_or_from_slice_get}
use Rattle.vale_batch.specs.Wants.{Wanted}
use Rattle.std.proofs.lemmas.Bool.{and_parts, eqb-true, eq-eqb, or_parts}
use Rattle.nm_types.specs.Names.{is_name}
use Rattle.nm_types.specs.declared.id.PortId.{PortId}
use Rattle.nm_types.specs.declared.id.SessionId.{SessionId}
use Rattle.nm_types.specs.declared.id.LeaseId.{LeaseId}
use Rattle.nm_types.proofs.Tests.{not_false, or_true}
use Rattle.vale_line.specs.Leased.{Leased}
use Rattle.vale_entry.specs.declared.entry.Ask.TheVariants.{Open, Grant, Done}
use Rattle.vale_entry.specs.World.{Port, Lot, Offer, is_session}
use Rattle.vale_entry.specs.Offers.{is_offer_of}
use Rattle.vale_entry.specs.Grant.{first_offer}
use Rattle.vale_entry.specs.Delivery.{is_lease as is_lease_lot, line_of, lease_at}
use Rattle.vale_entry.specs.Laws.{IsThere, IsOfferOf, IsLotOf, HasLeasesOf}
use Rattle.vale_entry.specs.Legal.{world_of, is_enabled, is_met, is_offer_next, fits_u32, IsLegal}
use Rattle.vale_entry.proofs.Each.{each-find, each-append}
use Rattle.vale_entry.proofs.ListLaws.{each-at, place-of}
use Rattle.vale_entry.proofs.Numbered.{world-numbered}
use Rattle.vale_own.specs.Asker.{asks, asker_of, is_asker, owner_of_lot, owner_of_offer}
use Rattle.vale_own.specs.Own.{HeldLot, own_of, lot_of_lease, is_offer_by}
use Rattle.vale_own.proofs.Asking.{own-tells}
use Rattle.vale_own.proofs.Reading.{offers-left}
use Rattle.vale_book.specs.Recorded.{Recorded, standing}
use Rattle.vale_serve.specs.declared.users.Sent.{Sent}
use Rattle.vale_serve.specs.declared.users.User.{User}
use Rattle.vale_serve.specs.Joined.{AreUsersOf}
use Rattle.vale_serve.specs.Users.{is_user, is_offered, is_sent_of, is_lease, has_lease, HasOffers, AreHeldAs, IsUser}
use Rattle.vale_serve.proofs.Asked.{any-user}
use Rattle.vale_book.proofs.Said.{and-second}
use Rattle.vale_serve.proofs.Completed.{asked}
use Rattle.vale_serve.proofs.Granted.{can-grant, mine-at, next-offer}
use Rattle.vale_serve.proofs.Places.{none-passes, found-at}
use Rattle.vale_serve.proofs.Sends.{as-many-wants, filter-passes}

-- none passes, and so not the one at a place
pub none-at : {X : Type 0} (test : X → Bool) (xs : List X) (i : ℕ) (x : X) → list_any test xs ≡ false → slice_get xs i ≡ Some x → test x ≡ false
none-at test [] i x none here = absurd cc
none-at test (y ∷ ys) zero x none here = let same : y ≡ x = cc in ap test (sym same) ∙ (or_parts (test y) (list_any test ys) none).0
none-at test (y ∷ ys) (suc i) x none here = none-at test ys i x (or_parts (test y) (list_any test ys) none).1 here

pub record UserOf (users : List User) (session : ℕ) : Type 0 where
  pub user : User
  pub place : ℕ
  pub here : slice_get users place ≡ Some user
  pub id_is : user.id.0 ≡ session

later-user : (u : User) (users : List User) (session : ℕ) → UserOf users session → UserOf (u ∷ users) session
later-user u users session f = record { user = f.user; place = suc f.place; here = f.here; id_is = f.id_is }

some-user : (users : List User) (session : ℕ) → list_any (is_user session) users ≡ true → UserOf users session
some-user [] session e = absurd cc
some-user (u ∷ us) session e = by (is_user session u) refl e (some-user us session)
  where
    by : (t : Bool) → is_user session u ≡ t → (t || list_any (is_user session) us) ≡ true → (list_any (is_user session) us ≡ true → UserOf us session) → UserOf (u ∷ us) session
    by true is e rest = record { user = u; place = zero; here = refl; id_is = eqb-true u.id.0 session is }
    by false is e rest = later-user u us session (rest e)

-- the user of a session that is there
pub user-of : (b : Recorded) (users : List User) (session : ℕ) → AreUsersOf b users → IsThere (standing b).world.sessions session → UserOf users session
user-of b users session k there = some-user users session (sym (any-user users session) ∙ (ap (list_any (λ s. s == session)) k.ids ∙ there))

-- ---- offers

first-left : (test : Offer → Bool) (os : List Offer) (o : Offer) → find test os ≡ Some o → (rest : List Offer) × (filter test os ≡ o ∷ rest)
first-left test [] o e = absurd cc
first-left test (y ∷ ys) o e = by (test y) e (first-left test ys o)
  where
    by : (t : Bool) → cond t (Some y) (find test ys) ≡ Some o → (find test ys ≡ Some o → (rest : List Offer) × (filter test ys ≡ o ∷ rest))
        → (rest : List Offer) × (cond t (y ∷ filter test ys) (filter test ys) ≡ o ∷ rest)
    by true e later = let same : y ≡ o = cc in (filter test ys, ap (λ (x : Offer). x ∷ filter test ys) same)
    by false e later = later e

has-sent : (origin : ℕ) (offers : List Offer) (sent : Option Sent) (o : Offer) (rest : List Offer) → HasOffers offers sent → offers ≡ o ∷ rest → o.origin ≡ origin → is_sent_of origin sent ≡ true
has-sent origin offers None o rest has is of = absurd (let wrong = sym has ∙ is in cc)
has-sent origin offers (Some sent) o rest are is of =
    let mine = subst (Each (λ (x : Offer). x.origin ≡ sent.offers.entry)) is are.of in
    eq-eqb sent.offers.entry origin (sym mine.0 ∙ of)

granted_by : (b : Recorded) (users : List User) (origin : ℕ) (to : PortId) (found : Option Offer) → AreUsersOf b users → position (is_offered origin) users ≡ None
    → first_offer (standing b).world origin ≡ found → is_met (is_offer_next to.0) found ≡ false
granted_by b users origin to None k none e = refl
granted_by b users origin to (Some offer) k none e =
    let w = world_of b.pool b.entries in
    let owned = each-find (IsOfferOf w.sessions) (is_offer_of origin) w.offers offer (world-numbered b.pool b.entries).offers_owned e in
    let u = user-of b users offer.session k owned in
    let first = first-left (is_offer_of origin) w.offers offer e in
    let own : (own_of u.user.id.0 (standing b)).offers ≡ offer ∷ first.0 =
    ap (λ (n : ℕ). (own_of n (standing b)).offers) u.id_is ∙ (sym (offers-left b.pool b.entries origin offer k.legal e) ∙ first.1) in
    let of = eqb-true offer.origin origin (place-of (is_offer_of origin) w.offers offer e).passes in
    let is = each-at (IsUser b) users u.place u.user k.each u.here in
    let on = has-sent origin (own_of u.user.id.0 (standing b)).offers u.user.sent offer first.0 is.offers own of in
    let off = none-at (is_offered origin) users u.place u.user (none-passes (is_offered origin) users none) u.here in
    absurd cc

pub none-granted : (b : Recorded) (users : List User) (origin : ℕ) (to : PortId) → AreUsersOf b users → position (is_offered origin) users ≡ None → is_enabled (standing b) (Grant origin to) ≡ false
none-granted b users origin to k none = granted_by b users origin to (first_offer (standing b).world origin) k none refl

-- ---- leases

has-held : (b : Recorded) (n : ℕ) (helds : List HeldLot) (leases : List Leased) → AreHeldAs b helds leases → is_some (find (is_lease_lot n) (map lot_of_lease helds)) ≡ true
    → list_any (is_lease n) leases ≡ true
has-held b n [] [] are e = absurd cc
has-held b n [] (l ∷ ls) are e = absurd are
has-held b n (h ∷ hs) [] are e = absurd are
has-held b n (h ∷ hs) (l ∷ ls) are e = by (h.0.number == n) refl e (has-held b n hs ls are.1)
  where
    by : (t : Bool) → (h.0.number == n) ≡ t → is_some (cond (t && not h.0.is_done) (Some h.0) (find (is_lease_lot n) (map lot_of_lease hs))) ≡ true
        → (is_some (find (is_lease_lot n) (map lot_of_lease hs)) ≡ true → list_any (is_lease n) ls ≡ true) → (is_lease n l || list_any (is_lease n) ls) ≡ true
    by true is e rest = ap (λ (t : Bool). t || list_any (is_lease n) ls) (eq-eqb l.id n (sym are.0.number ∙ eqb-true h.0.number n is))
    by false is e rest = ap (λ (t : Bool). is_lease n l || t) (rest e) ∙ or_true (is_lease n l)

each-lots : (sessions : List ℕ) (ports : List Port) → Each (HasLeasesOf sessions) ports → Each (IsLotOf sessions) (flat_map line_of ports)
each-lots sessions [] all = tt
each-lots sessions (p ∷ ps) all = each-append (IsLotOf sessions) p.line (flat_map line_of ps) all.0 (each-lots sessions ps all.1)

done_by : (b : Recorded) (users : List User) (id : LeaseId) (found : Option Lot) → AreUsersOf b users → position (has_lease id.0) users ≡ None
    → lease_at (standing b).world.ports id.0 ≡ found → is_some found ≡ false
done_by b users id None k none e = refl
done_by b users id (Some lot) k none e =
    let w = world_of b.pool b.entries in
    let place = place-of (is_lease_lot id.0) (flat_map line_of w.ports) lot e in
    let out = not_false lot.is_done (and_parts (lot.number == id.0) (not lot.is_done) place.passes).1 in
    let owned = each-find (IsLotOf w.sessions) (is_lease_lot id.0) (flat_map line_of w.ports) lot (each-lots w.sessions w.ports (world-numbered b.pool b.entries).leases_owned) e out in
    let u = user-of b users lot.session k owned in
    let asked : asks (standing b) u.user.id.0 (Done id) ≡ true =
    ap (λ (f : Option Lot). is_some f && is_asker (option_map owner_of_lot f) u.user.id.0) e ∙ eq-eqb lot.session u.user.id.0 (sym u.id_is) in
    let told = sym (own-tells b.pool b.entries u.user.id.0 (Done id) k.legal) ∙ asked in
    let is = each-at (IsUser b) users u.place u.user k.each u.here in
    let on = has-held b id.0 (own_of u.user.id.0 (standing b)).leases u.user.leases.items is.leases told in
    let off = none-at (has_lease id.0) users u.place u.user (none-passes (has_lease id.0) users none) u.here in
    absurd cc

pub none-done : (b : Recorded) (users : List User) (id : LeaseId) → AreUsersOf b users → position (has_lease id.0) users ≡ None → is_enabled (standing b) (Done id) ≡ false
none-done b users id k none = done_by b users id (lease_at (standing b).world.ports id.0) k none refl

-- ---- the session at a place that was found

pub record AtPlace (b : Recorded) (users : List User) (test : User → Bool) (place : ℕ) (user : User) : Type 0 where
  pub here : slice_get users place ≡ Some user
  pub is : IsUser b user
  pub passes : test user ≡ true

pub at-place : (b : Recorded) (users : List User) (test : User → Bool) (place : ℕ) (user : User) → AreUsersOf b users → position test users ≡ Some place → user ≡ get_or users place user
    → AtPlace b users test place user
at-place b users test place user k e is =
    let f = found-at test users place e in
    let same : f.it ≡ user = sym (get_or_from_slice_get users place f.it user f.here) ∙ sym is in
    subst (AtPlace b users test place) same (record { here = f.here; is = each-at (IsUser b) users place f.it k.each f.here; passes = f.passes })

first-want : (wants : List Wanted) → 1 ≤ length wants → (want : Wanted) × (slice_get wants 0 ≡ Some want)
first-want [] some = absurd (omega (arith, some))
first-want (w ∷ ws) some = (w, refl)

asker_by : (b : Recorded) (user : User) (origin : ℕ) (sent : Option Sent) → IsLegal b.pool b.entries → HasOffers (own_of user.id.0 (standing b)).offers sent → is_sent_of origin sent ≡ true
    → option_map owner_of_offer (first_offer (standing b).world origin) ≡ Some user.id.0
asker_by b user origin None legal has mine = absurd cc
asker_by b user origin (Some sent) legal are mine =
    let w = world_of b.pool b.entries in
    let own = own_of user.id.0 (standing b) in
    let entry = eqb-true sent.offers.entry origin mine in
    let k = can-grant b user sent legal are in
    let want = first-want sent.offers.wants k.some in
    let n = next-offer b sent k want.0 want.1 in
    let first = first-left (is_offer_of sent.offers.entry) w.offers n.offer n.first in
    let many = as-many-wants are.frames sent.offers.wants own.offers are.are in
    let some' = are.some in
    let at = mine-at b.pool b.entries user.id.0 sent.offers.entry own.offers legal refl (omega (arith, many, some')) are.of in
    let passes : Each (λ (o : Offer). is_offer_by user.id.0 o ≡ true) (n.offer ∷ first.0) =
    subst (Each (λ (o : Offer). is_offer_by user.id.0 o ≡ true)) (sym at ∙ first.1) (filter-passes (is_offer_by user.id.0) w.offers) in
    ap (λ (m : ℕ). option_map owner_of_offer (first_offer w m)) (sym entry) ∙ (ap (option_map owner_of_offer) n.first ∙ ap (λ (m : ℕ). Some m) (eqb-true n.offer.session user.id.0 passes.0))

pub asker-grant : (b : Recorded) (user : User) (origin : ℕ) → IsLegal b.pool b.entries → IsUser b user → is_offered origin user ≡ true
    → option_map owner_of_offer (first_offer (standing b).world origin) ≡ Some user.id.0
asker-grant b user origin legal is mine = asker_by b user origin user.sent legal is.offers mine

has-at : (n : ℕ) (leases : List Leased) → list_any (is_lease n) leases ≡ true → (place : ℕ) × (lease : Leased) × (slice_get leases place ≡ Some lease) × (lease.id ≡ n)
has-at n [] e = absurd cc
has-at n (l ∷ ls) e = by (is_lease n l) refl e (has-at n ls)
  where
    by : (t : Bool) → is_lease n l ≡ t → (t || list_any (is_lease n) ls) ≡ true
        → (list_any (is_lease n) ls ≡ true → (place : ℕ) × (lease : Leased) × (slice_get ls place ≡ Some lease) × (lease.id ≡ n))
        → (place : ℕ) × (lease : Leased) × (slice_get (l ∷ ls) place ≡ Some lease) × (lease.id ≡ n)
    by true is e rest = (zero, l, refl, eqb-true l.id n is)
    by false is e rest = let r = rest e in (suc r.0, r.1, r.2, r.3)

some-asker : (found : Option ℕ) (n : ℕ) → is_asker found n ≡ true → found ≡ Some n
some-asker None n e = absurd cc
some-asker (Some k) n e = ap (λ (m : ℕ). Some m) (eqb-true k n e)

pub asker-done : (b : Recorded) (user : User) (id : LeaseId) → IsLegal b.pool b.entries → IsUser b user → has_lease id.0 user ≡ true → asker_of (standing b) (Done id) ≡ Some user.id.0
asker-done b user id legal is mine =
    let h = has-at id.0 user.leases.items mine in
    some-asker (asker_of (standing b) (Done id)) user.id.0
    (and-second (is_enabled (standing b) (Done id)) (is_asker (asker_of (standing b) (Done id)) user.id.0) (asked b user id h.0 h.1 legal is h.2 h.3))

-- ---- openings

on-at : {X : Type 0} (test : X → Bool) (xs : List X) (i : ℕ) (x : X) → slice_get xs i ≡ Some x → test x ≡ true → list_any test xs ≡ true
on-at test [] i x here is = absurd cc
on-at test (y ∷ ys) zero x here is = let same : y ≡ x = cc in ap (λ (t : Bool). t || list_any test ys) (ap test same ∙ is)
on-at test (y ∷ ys) (suc i) x here is = ap (λ (t : Bool). test y || t) (on-at test ys i x here is) ∙ or_true (test y)

pub session-there : (b : Recorded) (users : List User) (place : ℕ) (user : User) → AreUsersOf b users → slice_get users place ≡ Some user → is_session (standing b).world user.id.0 ≡ true
session-there b users place user k here =
    ap (list_any (λ s. s == user.id.0)) (sym k.ids) ∙ (any-user users user.id.0 ∙ on-at (is_user user.id.0) users place user here (eq-eqb user.id.0 user.id.0 refl))

pub none-opened : (b : Recorded) (users : List User) (session : SessionId) (name : List ℕ) (tx rx extra : ℕ) → AreUsersOf b users → position (is_user session.0) users ≡ None
    → is_enabled (standing b) (Open session name tx rx extra) ≡ false
none-opened b users session name tx rx extra k none =
    let off : is_session (standing b).world session.0 ≡ false = ap (list_any (λ s. s == session.0)) (sym k.ids) ∙ (any-user users session.0 ∙ none-passes (is_user session.0) users none) in
    ap (λ (t : Bool). t && (is_name name && (fits_u32 tx && (fits_u32 rx && fits_u32 extra)))) off

pub same-session : (id session : SessionId) → (id.0 == session.0) ≡ true → id ≡ session
same-session id session e = ap (λ (n : ℕ). let s : SessionId = record { 0 = n } in s) (eqb-true id.0 session.0 e)
