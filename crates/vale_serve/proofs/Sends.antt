-- A session sends: its offers are those of its entry.
use Rattle.std.proofs.Common.{ℕ, zero, suc, ◌≡◌, ◌≤◌, ◌+◌, ◌&&◌, Bool, true, false, cond, List, [], ◌∷◌, ◌++◌, length, map, filter, filter_map, take, slice_get, Option, Some, None, option_map, refl, sym, ◌∙◌, ap, subst, arith, length-append}
use Rattle.std.specs.Prelude.{vec_capacity, Vec}
use Rattle.std.specs.List.{AllByRecursion as Each, cons_option}
use Rattle.std.specs.Option.{option_map_or}
use Rattle.std.specs.declared.alloc.Global.{Global}
use Rattle.std.proofs.lemmas.Bool.{and_parts, eqb-true}
use Rattle.nm_types.specs.declared.fault.StepFault.TheVariants as faults
use Rattle.nm_types.specs.Frames.{Frame}
use Rattle.nm_types.specs.Names.{is_switch_port_name}
use Rattle.nm_types.specs.Sendable.{is_sendable}
use Rattle.nm_types.specs.declared.id.PortId.{PortId}
use Rattle.nm_types.specs.declared.id.SessionId.{SessionId}
use Rattle.nm_region.specs.Buffers.{Buffer, indices_of}
use Rattle.vale_batch.specs.Wants.{Wanted}
use Rattle.vale_line.specs.Leased.{Leased}
use Rattle.vale_entry.specs.declared.entry.Ask.TheVariants.{Send}
use Rattle.vale_entry.specs.declared.entry.Entry.{Entry}
use Rattle.vale_entry.specs.declared.entry.Reply.TheVariants.{Offered}
use Rattle.vale_entry.specs.World.{World, Port, Offer, open_port, is_settled, transmit_monitor}
use Rattle.vale_entry.specs.Offers.{is_offer_of, offer_to, wanted_frames}
use Rattle.vale_entry.specs.Legal.{Standing, step, reply_of, is_met, is_enabled, can_send, named_of, offers_of_send, IsLegal}
use Rattle.vale_entry.proofs.Each.{each-weaker}
use Rattle.vale_entry.proofs.Enabled.{asks-answered}
use Rattle.vale_entry.proofs.Worlds.{count-world_of}
use Rattle.vale_own.specs.Own.{Own, own_of}
use Rattle.vale_own.specs.OwnEntries.{own_sent, own_after_entry}
use Rattle.vale_parts.specs.Batches.{AreOffersOf, dests_wanted}
use Rattle.vale_parts.specs.Offering.{offers_at}
use Rattle.vale_parts.proofs.OffersKept.{offers_start}
use Rattle.vale_port.specs.Kept.{bytes_of}
use Rattle.vale_book.specs.BookView.{AreOf}
use Rattle.vale_book.specs.Offering.{OffersState, OffersStand}
use Rattle.vale_book.specs.Recorded.{Recorded, standing, entry_of, after_ask, after_outcome, IsRefusal}
use Rattle.vale_book.specs.Sending.{IsSent}
use Rattle.vale_book.specs.declared.asking.PortSeen.{PortSeen}
use Rattle.vale_serve.specs.declared.users.Sent.{Sent}
use Rattle.vale_serve.specs.declared.users.User.{User}
use Rattle.vale_serve.specs.Users.{HasOffers, AreHeldAs, AreSame, IsRoom, HasOwn, IsUser, IsAsker, HasSent, contents, sent_of, wants_left, number_of, is_settled_user}
use Rattle.vale_serve.proofs.Keeping.{IsLater, grown, step-follows, leases-later, rise-later, of-later, same-ports}
use Rattle.vale_serve.proofs.Acting.{Said, said, later, acts, mine-by, settled-user, settled-parts, some-step, no-memory}

-- whether it may send
pub can-send : (b : Recorded) (user : User) (at : PortId) (seen : PortSeen) (frames : List Frame) → IsLegal b.pool b.entries → IsUser b user
    → IsAsker user (open_port (standing b).world.ports at.0) seen
    → is_enabled (standing b) (Send at frames) ≡ (is_switch_port_name seen.name && (is_settled_user user && is_sendable frames))
can-send b user at seen frames legal is asker =
    let port = asker.port in
    ap (is_met (can_send (standing b).world frames)) asker.found_is
    ∙ (ap (λ (t : Bool). is_switch_port_name port.name && (t && is_sendable frames)) (ap (is_settled (standing b).world) asker.mine ∙ settled-user b user legal is)
    ∙ ap (λ (n : List ℕ). is_switch_port_name n && (is_settled_user user && is_sendable frames)) (sym asker.is_seen.name))

pub can-parts : (seen : PortSeen) (user : User) (frames : List Frame) → (is_switch_port_name seen.name && (is_settled_user user && is_sendable frames)) ≡ true
    → (is_settled_user user ≡ true) × (is_sendable frames ≡ true)
can-parts seen user frames e =
    let outer = and_parts (is_switch_port_name seen.name) (is_settled_user user && is_sendable frames) e in
    and_parts (is_settled_user user) (is_sendable frames) outer.1

pub send-refused : (b : Recorded) (user : User) (at : PortId) (seen : PortSeen) (frames : List Frame) → IsLegal b.pool b.entries → IsUser b user
    → IsAsker user (open_port (standing b).world.ports at.0) seen → (is_switch_port_name seen.name && (is_settled_user user && is_sendable frames)) ≡ true
    → IsRefusal b (Send at frames) faults.NoMemory
send-refused b user at seen frames legal is asker can =
    let ask = Send at frames in
    let enabled : is_enabled (standing b) ask ≡ true = can-send b user at seen frames legal is asker ∙ can in
    let made = some-step (step (standing b) ask) (sym (asks-answered (standing b) ask) ∙ enabled) in
    no-memory b ask made.0 made.1

-- ---- lists

pub bytes-more : (batch : List Frame) (i : ℕ) (bytes : List ℕ) → option_map (λ (f : Frame). f.bytes) (slice_get batch i) ≡ Some bytes
    → bytes_of (take (i + 1) batch) ≡ bytes_of (take i batch) ++ bytes ∷ []
bytes-more [] i bytes e = absurd cc
bytes-more (frame ∷ frames) zero bytes e = let same : frame.bytes ≡ bytes = cc in ap (λ (b : List ℕ). b ∷ []) same
bytes-more (frame ∷ frames) (suc i) bytes e =
    let next : suc i + 1 ≡ suc (i + 1) = omega arith in
    ap (λ (n : ℕ). bytes_of (take n (frame ∷ frames))) next ∙ ap (λ (all : List (List ℕ)). frame.bytes ∷ all) (bytes-more frames i bytes e)

pub length-filter_map : {X Y : Type 0} (f : X → Option Y) (xs : List X) → length (filter_map f xs) ≤ length xs
length-filter_map f [] = omega arith
length-filter_map {X} {Y} f (x ∷ xs) = by (f x) (length-filter_map f xs)
  where
    by : (found : Option Y) → length (filter_map f xs) ≤ length xs → length (cons_option found (filter_map f xs)) ≤ length (x ∷ xs)
    by None rest = omega (arith, rest)
    by (Some y) rest = omega (arith, rest)

pub as-many-wants : (frames : List Frame) (wants : List Wanted) (offers : List Offer) → AreOffersOf frames wants offers → length wants ≡ length offers
as-many-wants frames [] [] are = refl
as-many-wants frames [] (offer ∷ offers) are = absurd are
as-many-wants frames (want ∷ wants) [] are = absurd are
as-many-wants frames (want ∷ wants) (offer ∷ offers) are = ap suc (as-many-wants frames wants offers are.1)

pub filter-passes : {X : Type 0} (test : X → Bool) (xs : List X) → Each (λ x. test x ≡ true) (filter test xs)
filter-passes test [] = tt
filter-passes {X} test (x ∷ xs) = by (test x) refl (filter-passes test xs)
  where
    by : (b : Bool) → test x ≡ b → Each (λ y. test y ≡ true) (filter test xs) → Each (λ y. test y ≡ true) (cond b (x ∷ filter test xs) (filter test xs))
    by true t rest = (t, rest)
    by false t rest = rest

pub wants-left : (wants : List Wanted) (offers : OffersState) (kept : Vec (Vec ℕ Global) Global) → offers.wants ≡ wants → wants_left (sent_of wants offers kept) ≡ length wants
wants-left [] offers kept e = refl
wants-left (want ∷ wants) offers kept e = ap (λ (ws : List Wanted). length ws) e

-- ---- offers that were just made

none-offered : (frames : List Frame) (offers : List Offer) → AreOffersOf frames [] offers → offers ≡ []
none-offered frames [] are = refl
none-offered frames (offer ∷ offers) are = absurd are

pub fresh-offers : (s : Standing) (offers : OffersState) (kept : Vec (Vec ℕ Global) Global) (st : OffersStand s offers) → contents kept.items ≡ bytes_of st.frames
    → HasOffers (offers_at s.world offers.entry) (sent_of offers.wants offers kept)
fresh-offers s offers kept st bytes = by offers.wants refl st.are
  where
    by : (wants : List Wanted) → offers.wants ≡ wants → AreOffersOf st.frames wants (offers_at s.world offers.entry) → HasOffers (offers_at s.world offers.entry) (sent_of wants offers kept)
    by [] e are = none-offered st.frames (offers_at s.world offers.entry) are
    by (want ∷ wants) e are = record {
      some = let long = ap (λ (ws : List Wanted). length ws) e in omega (arith, long);
      frames = st.frames;
      bytes = bytes;
      are = st.are;
      of = each-weaker (λ (o : Offer). is_offer_of offers.entry o ≡ true) (λ (o : Offer). o.origin ≡ offers.entry) (λ o t. eqb-true o.origin offers.entry t) (offers_at s.world offers.entry)
          (filter-passes (is_offer_of offers.entry) s.world.offers);
      by = st.by;
    }

module _ (b after : Recorded) (user : User) (at : PortId) (port : Port) (frames : List Frame) (offers : OffersState)
    (legal : IsLegal b.pool b.entries) (is : IsUser b user) (here : open_port (standing b).world.ports at.0 ≡ Some port) (mine : port.session ≡ user.id.0)
    (settled : is_settled_user user ≡ true) (sendable : is_sendable frames ≡ true) (grew : after ≡ after_ask b (Send at frames))
    (told : option_map reply_of (step (standing b) (Send at frames)) ≡ Some (Offered offers.short offers.lone (dests_wanted offers.wants)))
    (sent : IsSent after frames offers) where
  pub s : Said b (Send at frames) (Offered offers.short offers.lone (dests_wanted offers.wants))
  s = said b (Send at frames) (Offered offers.short offers.lone (dests_wanted offers.wants)) told

  abbrev own : Own
  own = own_of user.id.0 (standing b)

  abbrev w : World
  w = (standing b).world

  e : Entry
  e = entry_of (Send at frames) s.made

  abbrev target : Own
  target = own_sent (standing b) frames own port

  same : after ≡ grown b (entry_of (Send at frames) s.made)
  same = grew ∙ ap (after_outcome b (Send at frames)) s.is

  number : offers.entry ≡ w.entry_count + 1
  number =
      let long = ap (λ (r : Recorded). length r.entries) same ∙ length-append b.entries (entry_of (Send at frames) s.made ∷ []) in
      let count = count-world_of b.pool b.entries in
      let entry = sent.entry in
      omega (arith, long, count, entry)

  -- the offers of the entry are all that it has
  theirs : offers_at (standing after).world offers.entry ≡ target.offers
  theirs =
      let none : own.offers ≡ [] = subst (HasOffers own.offers) (settled-parts user settled).0 is.offers in
      ap (offers_at (standing after).world) number
      ∙ (ap (λ (r : Recorded). offers_at (standing r).world (w.entry_count + 1)) same
      ∙ (offers_start b.pool b.entries (entry_of (Send at frames) s.made) (step-follows (standing b) (Send at frames) s.made s.is)
      ∙ (ap (λ (found : Option Port). option_map_or (λ (p : Port). offers_of_send w p frames) found []) here
      ∙ ap (λ (os : List Offer). os ++ offers_of_send w port frames) (sym none))))

  pub few-wants : length offers.wants ≤ length w.ports
  few-wants =
      let none : own.offers ≡ [] = subst (HasOffers own.offers) (settled-parts user settled).0 is.offers in
      let many = as-many-wants sent.stand.frames offers.wants (offers_at (standing after).world offers.entry) sent.stand.are in
      let them : length (offers_at (standing after).world offers.entry) ≡ length (offers_of_send w port frames) = ap (λ (os : List Offer). length os) (theirs ∙ ap (λ (os : List Offer). os ++ offers_of_send w port frames) none) in
      let few = length-filter_map (λ (p : Port). offer_to (w.entry_count + 1) port.session p.id (wanted_frames port (transmit_monitor w port.id) (named_of w port frames) p)) w.ports in
      omega (arith, many, them, few)

  module _ (new : User) (kept : Vec (Vec ℕ Global) Global) (bytes : contents kept.items ≡ bytes_of frames) (has : HasSent user offers kept new)
      (room : length user.leases.items + length w.ports ≤ vec_capacity user.leases) where
    own-target : HasOwn after target new
    own-target =
        let l : IsLater b after = later b after (Send at frames) grew in
        let leases = ap (λ v. length v.items) has.leases in
        let capacity = ap (λ v. vec_capacity v) has.leases in
        let wants = ap wants_left has.sent ∙ wants-left offers.wants offers kept refl in
        let few = few-wants in
        let fit : contents kept.items ≡ bytes_of sent.stand.frames = bytes ∙ ap bytes_of (sym sent.frames_are) in
        record {
          offers = subst (λ (x : Option Sent). HasOffers target.offers x) (sym has.sent)
              (subst (λ (os : List Offer). HasOffers os (sent_of offers.wants offers kept)) theirs
              (fresh-offers (standing after) offers kept sent.stand fit));
          leases = leases-later b after l own.leases new.leases.items (subst (λ (ls : List Leased). AreHeldAs b own.leases ls) (ap (λ v. v.items) (sym has.leases)) is.leases);
          rise = rise-later b after l (map number_of own.leases) is.rise;
          buffers = subst (λ (bufs : List Buffer). AreSame (indices_of bufs) own.buffers) (ap (λ v. v.items) (sym has.bufs)) is.buffers;
          region_is = of-later b after l new.bufs.items (subst (AreOf b.region) (ap (λ v. v.items) (sym has.bufs)) is.region_is);
          lease_room = omega (arith, room, leases, capacity, wants, few);
          rooms = subst (Each IsRoom) (ap (λ v. v.items) (sym has.rooms)) is.rooms;
          room_each = same-ports user new own.ports has.rooms is.room_each;
        }

    pub sent-kept : IsUser after new
    sent-kept =
        let whose : user.id.0 ≡ s.made.session = sym mine ∙ mine-by b (Send at frames) s.made (open_port w.ports at.0) port s.is refl refl here in
        acts b after (Send at frames) s.made new legal grew s.is (ap (λ (i : SessionId). i.0) has.id ∙ whose)
        (subst (λ (n : ℕ). HasOwn after (own_after_entry (standing b) (Send at frames) s.made.reply (own_of n (standing b))) new) whose
        (subst (λ (found : Option Port). HasOwn after (option_map_or (own_sent (standing b) frames own) found own) new) (sym here) own-target))
