-- A session completes a lease.
use Rattle.std.proofs.Common.{ℕ, zero, suc, ◌≡◌, ◌≤◌, ◌<◌, ◌==◌, ◌&&◌, not, Bool, true, false, cond, List, [], ◌∷◌, length, map, filter, find, flat_map, slice_get, Option, Some, None, refl, sym, ◌∙◌, ap, subst, arith}
use Rattle.std.specs.Prelude.{vec_capacity}
use Rattle.std.specs.List.{AllByRecursion as Each, remove, zip}
use Rattle.std.proofs.lemmas.Bool.{and_parts, eqb-true, eq-eqb, ne_eqb}
use Rattle.nm_region.specs.Buffers.{indices_of}
use Rattle.nm_types.specs.declared.id.LeaseId.{LeaseId}
use Rattle.nm_types.specs.declared.id.SessionId.{SessionId}
use Rattle.vale_line.specs.Leased.{Leased}
use Rattle.vale_entry.specs.declared.entry.Ask.TheVariants.{Done}
use Rattle.vale_entry.specs.World.{Port}
use Rattle.vale_entry.specs.Holdings.{PortBuffers}
use Rattle.vale_entry.specs.Delivery.{is_lease as is_lease_lot}
use Rattle.vale_entry.specs.Legal.{step, is_enabled, IsLegal}
use Rattle.vale_entry.specs.Laws.{Rise}
use Rattle.vale_entry.proofs.Each.{each-append, each-weaker}
use Rattle.vale_entry.proofs.Enabled.{asks-answered}
use Rattle.vale_entry.proofs.ListLaws.{place-of}
use Rattle.vale_entry.proofs.Removals.{rise-filter}
use Rattle.vale_entry.proofs.Rising.{rise-slice_get}
use Rattle.vale_own.specs.Asker.{asks, asker_of, is_asker}
use Rattle.vale_own.specs.Own.{Own, HeldLot, own_of, leases_at, is_lease_of, lot_of_lease}
use Rattle.vale_own.specs.OwnEntries.{own_done, own_after_entry}
use Rattle.vale_own.proofs.Asking.{own-tells}
use Rattle.vale_own.proofs.Askers.{askers-make-steps}
use Rattle.vale_own.proofs.Lists.{filter-every}
use Rattle.vale_book.specs.BookView.{AreOf}
use Rattle.vale_book.specs.Offering.{IsFilledIn}
use Rattle.vale_book.specs.Recorded.{Recorded, standing, after_ask}
use Rattle.vale_book.specs.Leases.{is_held_as}
use Rattle.vale_book.proofs.FilledIn.{filled-in, find-mapped}
use Rattle.vale_book.proofs.Said.{Steps, and-first, and-second}
use Rattle.vale_serve.specs.declared.users.User.{User}
use Rattle.vale_serve.specs.Users.{HasOffers, AreSame, IsRoom, IsHeldAs, AreHeldAs, HasOwn, IsUser, number_of, wants_left}
use Rattle.vale_serve.proofs.Keeping.{IsLater, leases-later, rise-later, of-later, same-ports}
use Rattle.vale_serve.proofs.Acting.{later, acts, some-step}
use Rattle.vale_serve.proofs.Sends.{filter-passes}

-- ---- leases, one by one

pub leases-mine : (session : ℕ) (ats : List (Port × PortBuffers)) → Each (λ (h : HeldLot). is_lease_of session h ≡ true) (flat_map (leases_at session) ats)
leases-mine session [] = tt
leases-mine session (at ∷ ats) =
    each-append (λ (h : HeldLot). is_lease_of session h ≡ true) (leases_at session at) (flat_map (leases_at session) ats)
    (filter-passes (is_lease_of session) (zip at.0.line at.1.lots)) (leases-mine session ats)

pub record FoundHeld (b : Recorded) (helds : List HeldLot) (lease : Leased) : Type 0 where
  pub held : HeldLot
  pub found : find (is_held_as lease.id) helds ≡ Some held
  pub is : IsHeldAs b held lease

pub find-held : (b : Recorded) (session low high : ℕ) (helds : List HeldLot) (leases : List Leased) (k : ℕ) (lease : Leased) → AreHeldAs b helds leases
    → Rise low (map number_of helds) high → Each (λ (h : HeldLot). is_lease_of session h ≡ true) helds → slice_get leases k ≡ Some lease → FoundHeld b helds lease
find-held b session low high [] [] k lease are rise mine here = absurd cc
find-held b session low high [] (l ∷ ls) k lease are rise mine here = absurd are
find-held b session low high (h ∷ hs) [] k lease are rise mine here = absurd are
find-held b session low high (h ∷ hs) (l ∷ ls) zero lease are rise mine here =
    let same : l ≡ lease = cc in
    let is : IsHeldAs b h lease = subst (IsHeldAs b h) same are.0 in
    let open' = (and_parts (h.0.session == session) (not h.0.is_done) mine.0).1 in
    let number : (h.0.number == lease.id) ≡ true = eq-eqb h.0.number lease.id is.number in
    let hit : is_held_as lease.id h ≡ true = ap (λ (t : Bool). t && not h.0.is_done) number ∙ open' in
    record { held = h; found = ap (λ (t : Bool). cond t (Some h) (find (is_held_as lease.id) hs)) hit; is = is }
find-held b session low high (h ∷ hs) (l ∷ ls) (suc k) lease are rise mine here =
    let rest = find-held b session h.0.number high hs ls k lease are.1 rise.1 mine.1 here in
    let place = place-of (is_held_as lease.id) hs rest.held rest.found in
    let up = (rise-slice_get number_of h.0.number hs high place.place rest.held rise.1 place.here).0 in
    let number = rest.is.number in
    let miss : (h.0.number == lease.id) ≡ false = ne_eqb h.0.number lease.id (λ same. absurd (omega (arith, up, number, same))) in
    record {
      held = rest.held;
      found = ap (λ (t : Bool). cond (t && not h.0.is_done) (Some h) (find (is_held_as lease.id) hs)) miss ∙ rest.found;
      is = rest.is;
    }

abbrev stays : ℕ → HeldLot → Bool
stays n held = not (held.0.number == n)

above-all : (low high : ℕ) (xs : List HeldLot) → Rise low (map number_of xs) high → Each (λ (x : HeldLot). low < number_of x) xs
above-all low high [] rise = tt
above-all low high (x ∷ xs) rise =
    let first = rise.0 in
    (first, each-weaker (λ (y : HeldLot). number_of x < number_of y) (λ (y : HeldLot). low < number_of y) (λ y up. omega (arith, up, first)) xs (above-all (number_of x) high xs rise.1))

others : (low high n : ℕ) (xs : List HeldLot) → n ≤ low → Rise low (map number_of xs) high → Each (λ (x : HeldLot). stays n x ≡ true) xs
others low high n xs below rise =
    each-weaker (λ (x : HeldLot). low < number_of x) (λ (x : HeldLot). stays n x ≡ true)
    (λ x up. ap (λ (t : Bool). not t) (ne_eqb x.0.number n (λ same. absurd (omega (arith, up, same, below))))) xs (above-all low high xs rise)

lease-above : (b : Recorded) (low high : ℕ) (helds : List HeldLot) (leases : List Leased) (k : ℕ) (lease : Leased) → AreHeldAs b helds leases
    → Rise low (map number_of helds) high → slice_get leases k ≡ Some lease → low < lease.id
lease-above b low high [] [] k lease are rise here = absurd cc
lease-above b low high [] (l ∷ ls) k lease are rise here = absurd are
lease-above b low high (h ∷ hs) [] k lease are rise here = absurd are
lease-above b low high (h ∷ hs) (l ∷ ls) zero lease are rise here =
    let same : l ≡ lease = cc in let id = ap (λ (x : Leased). x.id) same in let number = are.0.number in let first = rise.0 in omega (arith, id, number, first)
lease-above b low high (h ∷ hs) (l ∷ ls) (suc k) lease are rise here =
    let rest = lease-above b h.0.number high hs ls k lease are.1 rise.1 here in let first = rise.0 in omega (arith, rest, first)

-- without the one of a number
held-less : (b : Recorded) (low high n : ℕ) (helds : List HeldLot) (leases : List Leased) (k : ℕ) (lease : Leased) → AreHeldAs b helds leases
    → Rise low (map number_of helds) high → slice_get leases k ≡ Some lease → lease.id ≡ n → AreHeldAs b (filter (stays n) helds) (remove leases k)
held-less b low high n [] [] k lease are rise here is = absurd cc
held-less b low high n [] (l ∷ ls) k lease are rise here is = absurd are
held-less b low high n (h ∷ hs) [] k lease are rise here is = absurd are
held-less b low high n (h ∷ hs) (l ∷ ls) zero lease are rise here is =
    let same : l ≡ lease = cc in
    let id = ap (λ (x : Leased). x.id) same in
    let mine = are.0.number in
    let number : (h.0.number == n) ≡ true = eq-eqb h.0.number n (mine ∙ (id ∙ is)) in
    let above : Each (λ (x : HeldLot). stays n x ≡ true) hs = others h.0.number high n hs (omega (arith, mine, id, is)) rise.1 in
    subst (λ (xs : List HeldLot). AreHeldAs b xs ls) (sym (ap (λ (t : Bool). cond (not t) (h ∷ filter (stays n) hs) (filter (stays n) hs)) number ∙ filter-every (stays n) hs above)) are.1
held-less b low high n (h ∷ hs) (l ∷ ls) (suc k) lease are rise here is =
    let rest = held-less b h.0.number high n hs ls k lease are.1 rise.1 here is in
    let up = lease-above b h.0.number high hs ls k lease are.1 rise.1 here in
    let miss : (h.0.number == n) ≡ false = ne_eqb h.0.number n (λ same. absurd (omega (arith, up, is, same))) in
    subst (λ (xs : List HeldLot). AreHeldAs b xs (l ∷ remove ls k)) (sym (ap (λ (t : Bool). cond (not t) (h ∷ filter (stays n) hs) (filter (stays n) hs)) miss)) (are.0, rest)

remove-few : {X : Type 0} (xs : List X) (k : ℕ) → length (remove xs k) ≤ length xs
remove-few [] zero = omega arith
remove-few [] (suc k) = omega arith
remove-few (x ∷ xs) zero = omega arith
remove-few (x ∷ xs) (suc k) = let rest = remove-few xs k in omega (arith, rest)

asker-same : (found : Option ℕ) (n m : ℕ) → found ≡ Some n → is_asker found m ≡ true → m ≡ n
asker-same None n m e t = absurd cc
asker-same (Some k) n m e t = let one : k ≡ n = cc in sym (eqb-true k m t) ∙ one

lease-named : (id : LeaseId) (n : ℕ) → n ≡ id.0 → id ≡ record { 0 = n }
lease-named id n e = ap (λ (m : ℕ). let x : LeaseId = record { 0 = m } in x) (sym e)

-- ---- what the session may complete

module _ (b : Recorded) (user : User) (id : LeaseId) (place : ℕ) (lease : Leased) (legal : IsLegal b.pool b.entries) (is : IsUser b user)
    (here : slice_get user.leases.items place ≡ Some lease) (number : lease.id ≡ id.0) where
  abbrev own : Own
  own = own_of user.id.0 (standing b)

  pub held-here : FoundHeld b (own_of user.id.0 (standing b)).leases lease
  held-here = find-held b user.id.0 0 (length b.entries) own.leases user.leases.items place lease is.leases is.rise
      (leases-mine user.id.0 (zip (standing b).world.ports (standing b).holdings.ports)) here

  pub asked : asks (standing b) user.id.0 (Done id) ≡ true
  asked = own-tells b.pool b.entries user.id.0 (Done id) legal
      ∙ find-mapped lot_of_lease (is_lease_lot id.0) own.leases held-here.held (subst (λ (n : ℕ). find (is_held_as n) own.leases ≡ Some held-here.held) number held-here.found)

  pub may-complete : is_enabled (standing b) (Done id) ≡ true
  may-complete = and-first (is_enabled (standing b) (Done id)) (is_asker (asker_of (standing b) (Done id)) user.id.0) asked

  pub steps : Steps b (Done id)
  steps = let made = some-step (step (standing b) (Done id)) (sym (asks-answered (standing b) (Done id)) ∙ may-complete) in record { makes = made.0; is = made.1 }

  pub lease-filled : IsFilledIn (standing b) lease
  lease-filled =
      filled-in b user.id.0 lease legal (subst (λ (n : LeaseId). is_enabled (standing b) (Done n) ≡ true) (lease-named id lease.id number) may-complete)
      (record { held = held-here.held; own = held-here.found; granted = held-here.is.granted; filled = held-here.is.frames })

  module _ (after : Recorded) (new : User) (grew : after ≡ after_ask b (Done id)) (same : new.id ≡ user.id) (sent : new.sent ≡ user.sent) (bufs : new.bufs ≡ user.bufs)
      (rooms : new.rooms ≡ user.rooms) (less : new.leases.items ≡ remove user.leases.items place) (capacity : vec_capacity user.leases ≤ vec_capacity new.leases) where
    pub completed-kept : IsUser after new
    completed-kept =
        let l : IsLater b after = later b after (Done id) grew in
        let whose : user.id.0 ≡ steps.makes.session = asker-same (asker_of (standing b) (Done id)) steps.makes.session user.id.0 (askers-make-steps (standing b) (Done id) steps.makes refl steps.is)
        (and-second (is_enabled (standing b) (Done id)) (is_asker (asker_of (standing b) (Done id)) user.id.0) asked) in
        let few = remove-few user.leases.items place in
        let long = ap (λ (ls : List Leased). length ls) less in
        let wants = ap wants_left sent in
        let room = is.lease_room in
        let has : HasOwn after (own_done id.0 own) new = record {
          offers = subst (λ x. HasOffers own.offers x) (sym sent) is.offers;
          leases = subst (λ (ls : List Leased). AreHeldAs after (filter (stays id.0) own.leases) ls) (sym less)
              (held-less after 0 (length b.entries) id.0 own.leases user.leases.items place lease (leases-later b after l own.leases user.leases.items is.leases) is.rise here number);
          rise = rise-later b after l (map number_of (filter (stays id.0) own.leases)) (rise-filter number_of (stays id.0) 0 own.leases (length b.entries) is.rise);
          buffers = subst (λ v. AreSame (indices_of v.items) own.buffers) (sym bufs) is.buffers;
          region_is = of-later b after l new.bufs.items (subst (λ v. AreOf b.region v.items) (sym bufs) is.region_is);
          lease_room = omega (arith, few, long, wants, room, capacity);
          rooms = subst (λ v. Each IsRoom v.items) (sym rooms) is.rooms;
          room_each = same-ports user new own.ports rooms is.room_each;
        } in
        acts b after (Done id) steps.makes new legal grew steps.is (ap (λ (i : SessionId). i.0) same ∙ whose)
        (subst (λ (n : ℕ). HasOwn after (own_after_entry (standing b) (Done id) steps.makes.reply (own_of n (standing b))) new) whose has)
