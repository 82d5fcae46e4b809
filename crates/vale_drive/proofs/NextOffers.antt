-- The oldest offer is granted next, by the session that has it.
use Rattle.std.proofs.Common.{ℕ, ◌≡◌, ◌≤◌, ◌==◌, ◌||◌, not, Bool, true, false, cond, List, [], ◌∷◌, length, map, find, filter_map, slice_get, position, Option, Some, None, option_map, is_some, refl, sym, ◌∙◌, ap, arith}
use Rattle.std.specs.Prelude.{Ok}
use Rattle.std.specs.List.{AllByRecursion as Each}
use Rattle.std.proofs.lemmas.Bool.{eqb-true, eq-eqb, ne_eqb}
use Rattle.nm_types.specs.declared.id.PortId.{PortId}
use Rattle.vale_batch.specs.Wants.{Wanted}
use Rattle.vale_entry.specs.declared.entry.Ask.{Ask}
use Rattle.vale_entry.specs.declared.entry.Ask.TheVariants.{Grant}
use Rattle.vale_entry.specs.declared.entry.Reply.{Reply}
use Rattle.vale_entry.specs.World.{World, Offer}
use Rattle.vale_entry.specs.Offers.{is_offer_of}
use Rattle.vale_entry.specs.Grant.{first_offer}
use Rattle.vale_entry.specs.Holdings.{contains}
use Rattle.vale_entry.specs.Legal.{is_enabled, is_met, is_offer_next, IsLegal}
use Rattle.vale_entry.proofs.ListLaws.{each-at, place-of}
use Rattle.vale_own.specs.Asker.{owner_of_offer}
use Rattle.vale_own.specs.Own.{own_of}
use Rattle.vale_book.specs.Recorded.{Recorded, standing, after_outcome}
use Rattle.vale_serve.specs.declared.users.User.{User}
use Rattle.vale_serve.specs.declared.users.Sent.{Sent}
use Rattle.vale_serve.specs.Joined.{AreUsersOf}
use Rattle.vale_serve.specs.Serving.{IsServed}
use Rattle.vale_serve.specs.Users.{HasOffers, IsUser, is_offered, is_sent_of, is_next_to, is_sent_next, is_sent_some}
use Rattle.vale_serve.specs.Users.{offered_by}
use Rattle.vale_drive.specs.Turns.{HasGranted}
use Rattle.vale_drive.specs.Winding.{least, origin_of, grant_of, offers_ending, next_ending, IsNextMade}
use Rattle.vale_serve.proofs.Acting.{IsPlain}
use Rattle.vale_serve.proofs.Asked.{steps-of}
use Rattle.vale_serve.proofs.Granted.{can-grant, next-offer}
use Rattle.vale_drive.proofs.Least.{Below, ReadAt, least-same, least-in, least-none, read-at, at-read, none-read, read-none}
use Rattle.vale_serve.proofs.Places.{found-at, none-passes}
use Rattle.vale_serve.proofs.Sought.{none-granted, none-at, asker-grant}

-- ---- what is made

pub next-made : (b after : Recorded) (ask : Ask) (reply : Option Reply) → IsServed b after ask (Ok reply) → IsPlain ask → is_enabled (standing b) ask ≡ true
    → next_ending (standing b) ≡ Some ask → IsNextMade b after
next-made b after ask reply served plain enabled next =
    let st = steps-of b ask plain enabled in
    record { ask = ask; comes = next; made = st.makes; steps = st.is; is = served.1 ∙ ap (after_outcome b ask) st.is }

-- ---- who has offers

offered-sent : (n : ℕ) (sent : Option Sent) → is_sent_of n sent ≡ true → option_map (λ (s : Sent). s.offers.entry) sent ≡ Some n
offered-sent n None e = absurd cc
offered-sent n (Some sent) e = ap (λ (m : ℕ). Some m) (eqb-true sent.offers.entry n e)

sent-offered : (n : ℕ) (sent : Option Sent) → option_map (λ (s : Sent). s.offers.entry) sent ≡ Some n → is_sent_of n sent ≡ true
sent-offered n None e = absurd cc
sent-offered n (Some sent) e = let same : sent.offers.entry ≡ n = cc in eq-eqb sent.offers.entry n same

offered-of : (n : ℕ) (user : User) → is_offered n user ≡ true → offered_by user ≡ Some n
offered-of n user e = offered-sent n user.sent e

of-offered : (n : ℕ) (user : User) → offered_by user ≡ Some n → is_offered n user ≡ true
of-offered n user e = sent-offered n user.sent e

found-origin : (n : ℕ) (offers : List Offer) → is_some (find (is_offer_of n) offers) ≡ contains n (map origin_of offers)
found-origin n [] = refl
found-origin n (o ∷ os) = by (o.origin == n) (found-origin n os)
  where
    by : (t : Bool) → is_some (find (is_offer_of n) os) ≡ contains n (map origin_of os) → is_some (cond t (Some o) (find (is_offer_of n) os)) ≡ (t || contains n (map origin_of os))
    by true rest = refl
    by false rest = rest

some-mapped : {X Y : Type 0} (f : X → Y) (found : Option X) (y : Y) → option_map f found ≡ Some y → is_some found ≡ true
some-mapped f None y e = absurd cc
some-mapped f (Some x) y e = refl

-- an offer of this entry can be granted
first-next : (found : Option Offer) → is_some found ≡ true → (to : PortId) × (is_met (is_offer_next to.0) found ≡ true)
first-next None e = absurd cc
first-next (Some o) e = (record { 0 = o.to }, eq-eqb o.to o.to refl)

module _ (b : Recorded) (users : List User) (k : AreUsersOf b users) where
  has-user : (n : ℕ) (found : Option ℕ) → position (is_offered n) users ≡ found → is_some (first_offer (standing b).world n) ≡ true → Below n (filter_map offered_by users)
  has-user n None e there =
      let to = first-next (first_offer (standing b).world n) there in
      absurd (let on = to.1 in let off = none-granted b users n to.0 k e in cc)
  has-user n (Some place) e there =
      let f = found-at (is_offered n) users place e in
      record { number = n; few = omega arith; there = at-read offered_by users place f.it n f.here (offered-of n f.it f.passes) }

  has-world : (n : ℕ) → contains n (filter_map offered_by users) ≡ true → Below n (map origin_of (standing b).world.offers)
  has-world n e =
      let r : ReadAt offered_by users n = read-at offered_by users n e in
      let is = each-at (IsUser b) users r.place r.it k.each r.here in
      let asker = asker-grant b r.it n k.legal is (of-offered n r.it r.is) in
      record {
        number = n;
        few = omega arith;
        there = sym (found-origin n (standing b).world.offers) ∙ some-mapped owner_of_offer (first_offer (standing b).world n) r.it.id.0 asker;
      }

  pub offers-least : least (map origin_of (standing b).world.offers) ≡ least (filter_map offered_by users)
  offers-least =
      least-same (map origin_of (standing b).world.offers) (filter_map offered_by users)
      (λ n e. has-user n (position (is_offered n) users) refl (found-origin n (standing b).world.offers ∙ e)) has-world

-- ---- the oldest is granted

none-sent : (user : User) → offered_by user ≡ None → HasGranted user
none-sent user e = by user.sent e
  where
    by : (sent : Option Sent) → option_map (λ (s : Sent). s.offers.entry) sent ≡ None → is_some sent ≡ false
    by None e = refl
    by (Some sent) e = absurd cc

sent-none : (user : User) → HasGranted user → offered_by user ≡ None
sent-none user e = by user.sent e
  where
    by : (sent : Option Sent) → is_some sent ≡ false → option_map (λ (s : Sent). s.offers.entry) sent ≡ None
    by None e = refl
    by (Some sent) e = absurd cc

pub each-to : {X : Type 0} (P Q : X → Type 0) (xs : List X) → ((x : X) → P x → Q x) → Each P xs → Each Q xs
each-to P Q [] f all = tt
each-to P Q (x ∷ xs) f all = (f x all.0, each-to P Q xs f all.1)

pub none-offered : (users : List User) → least (filter_map offered_by users) ≡ None → Each HasGranted users
none-offered users e =
    each-to (λ (u : User). offered_by u ≡ None) HasGranted users none-sent (none-read offered_by users (least-none (filter_map offered_by users) e))

pub granted-all : (b : Recorded) (users : List User) → AreUsersOf b users → Each HasGranted users → least (map origin_of (standing b).world.offers) ≡ None
granted-all b users k all =
    offers-least b users k ∙ ap least (read-none offered_by users (each-to HasGranted (λ (u : User). offered_by u ≡ None) users sent-none all))

-- some session has offers of the oldest entry
pub some-offered : (users : List User) (n : ℕ) → least (filter_map offered_by users) ≡ Some n → position (is_offered n) users ≡ None → ⊥
some-offered users n e none =
    let r : ReadAt offered_by users n = read-at offered_by users n (least-in (filter_map offered_by users) n e) in
    let off = none-at (is_offered n) users r.place r.it (none-passes (is_offered n) users none) r.here in
    absurd (let on = of-offered n r.it r.is in cc)

sends-some : (offers : List Offer) (sent : Option Sent) (n : ℕ) → HasOffers offers sent → is_sent_of n sent ≡ true → is_sent_some sent ≡ true
sends-some offers None n has e = absurd cc
sends-some offers (Some sent) n has e =
    let some' = has.some in
    ap (λ (t : Bool). not t) (ne_eqb (length sent.offers.wants) 0 (λ none. absurd (omega (arith, none, some'))))

pub sends-next : (b : Recorded) (user : User) (n : ℕ) → IsUser b user → is_offered n user ≡ true → is_sent_some user.sent ≡ true
sends-next b user n is of = sends-some (own_of user.id.0 (standing b)).offers user.sent n is.offers of

first-want : (wants : List Wanted) → 1 ≤ length wants → (want : Wanted) × (slice_get wants 0 ≡ Some want)
first-want [] some' = absurd (omega (arith, some'))
first-want (w ∷ ws) some' = (w, refl)

grants_by : (b : Recorded) (user : User) (sent : Option Sent) (origin to : ℕ) → IsLegal b.pool b.entries → HasOffers (own_of user.id.0 (standing b)).offers sent
    → is_sent_of origin sent ≡ true → is_sent_next to sent ≡ true → is_met (is_offer_next to) (first_offer (standing b).world origin) ≡ true
grants_by b user None origin to legal has of next = absurd cc
grants_by b user (Some sent) origin to legal are of next =
    let k = can-grant b user sent legal are in
    let w = first-want sent.offers.wants k.some in
    let n = next-offer b sent k w.0 w.1 in
    let entry = eqb-true sent.offers.entry origin of in
    let want : w.0.to.0 ≡ to = eqb-true w.0.to.0 to (sym (ap (is_met (λ (x : Wanted). x.to.0 == to)) w.1) ∙ next) in
    ap (λ (m : ℕ). is_met (is_offer_next to) (first_offer (standing b).world m)) (sym entry)
    ∙ (ap (is_met (is_offer_next to)) n.first ∙ eq-eqb n.offer.to to (sym n.is.to ∙ want))

granted-asks : (w : World) (origin to : ℕ) (found : Option Offer) → first_offer w origin ≡ found → is_met (is_offer_next to) found ≡ true
    → option_map grant_of found ≡ Some (Grant origin (record { 0 = to }))
granted-asks w origin to None e next = absurd cc
granted-asks w origin to (Some offer) e next =
    let of : offer.origin ≡ origin = eqb-true offer.origin origin (place-of (is_offer_of origin) w.offers offer e).passes in
    let at : offer.to ≡ to = eqb-true offer.to to next in
    ap (λ (n : ℕ). Some (Grant n (record { 0 = offer.to }))) of ∙ ap (λ (n : ℕ). Some (Grant origin (record { 0 = n }))) at

pub grants-next : (b after : Recorded) (users : List User) (user : User) (origin : ℕ) (to : PortId) (reply : Option Reply) → AreUsersOf b users
    → least (filter_map offered_by users) ≡ Some origin → IsUser b user → is_offered origin user ≡ true → is_next_to to.0 user ≡ true
    → IsServed b after (Grant origin to) (Ok reply) → IsNextMade b after
grants-next b after users user origin to reply k first is of next served =
    let enabled = grants_by b user user.sent origin to.0 k.legal is.offers of next in
    next-made b after (Grant origin to) reply served (λ s. refl) enabled
    (ap (offers_ending (standing b)) (offers-least b users k ∙ first)
    ∙ granted-asks (standing b).world origin to.0 (first_offer (standing b).world origin) refl enabled)
