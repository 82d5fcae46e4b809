-- Buffers of a session go, others come, and offers are made.
use Rattle.std.proofs.Common.{ℕ, ◌≡◌, ◌≤◌, ◌+◌, true, List, [], ◌∷◌, ◌++◌, length, map, take, Option, Some, None, is_some, refl, sym, ◌∙◌, ap, subst, arith, length-append}
use Rattle.std.specs.Prelude.{vec_capacity, Vec}
use Rattle.std.specs.List.{AllByRecursion as Each}
use Rattle.std.specs.declared.alloc.Global.{Global}
use Rattle.std.proofs.lemmas.List.{length-map}
use Rattle.nm_types.specs.Frames.{Frame}
use Rattle.nm_types.specs.declared.id.SessionId.{SessionId}
use Rattle.nm_region.specs.Buffers.{Buffer, indices_of}
use Rattle.vale_batch.specs.Wants.{Wanted}
use Rattle.vale_line.specs.Leased.{Leased}
use Rattle.vale_entry.specs.declared.entry.Ask.{Ask}
use Rattle.vale_entry.specs.declared.entry.Dest.{Dest}
use Rattle.vale_entry.specs.World.{Offer}
use Rattle.vale_entry.specs.Legal.{Standing, Outcome, step, kept_ask}
use Rattle.vale_entry.proofs.Counting.{count_of-append}
use Rattle.vale_entry.proofs.Each.{each-append}
use Rattle.vale_entry.proofs.Worlds.{count-world_of}
use Rattle.vale_own.specs.Own.{Own, own_of}
use Rattle.vale_parts.specs.Batches.{AreOffersOf, wants_monitored, dests_wanted, dest_wanted}
use Rattle.vale_parts.specs.Offering.{offers_at, offers_started}
use Rattle.vale_parts.proofs.OffersKept.{offers_start}
use Rattle.vale_port.specs.Kept.{bytes_of}
use Rattle.vale_book.specs.BookView.{AreOf, IsBufferOf}
use Rattle.vale_book.specs.Offering.{OffersState, OffersStand}
use Rattle.vale_book.specs.Recorded.{Recorded, standing, entry_of, after_ask, after_outcome}
use Rattle.vale_serve.specs.declared.users.Sent.{Sent}
use Rattle.vale_serve.specs.declared.users.User.{User}
use Rattle.vale_serve.specs.Buffers.{times}
use Rattle.vale_serve.specs.Exchange.{HasTakenOut, HasMore}
use Rattle.vale_serve.specs.Users.{HasOffers, AreHeldAs, AreSame, IsRoom, HasOwn, IsUser, HasSent, contents, sent_of, wants_left, number_of}
use Rattle.vale_serve.proofs.Keeping.{IsLater, grown, step-follows, leases-later, rise-later, of-later, same-ports}
use Rattle.vale_serve.proofs.Opens.{indices-append}
use Rattle.vale_serve.proofs.Sends.{fresh-offers, wants-left}
use Rattle.vale_entry.specs.Laws.{id_of_port}

-- ---- what a monitor is offered

pub few-monitored : (monitor : Option ℕ) (frames : List Frame) → length (wants_monitored monitor frames []) ≤ 1
few-monitored None frames = omega arith
few-monitored (Some monitor) [] = omega arith
few-monitored (Some monitor) (frame ∷ frames) = omega arith

pub monitored-some : (monitor : Option ℕ) (frames : List Frame) → 1 ≤ length (wants_monitored monitor frames []) → is_some monitor ≡ true
monitored-some None frames some = absurd (omega (arith, some))
monitored-some (Some monitor) frames some = refl

none-offered : (frames : List Frame) (wants : List Wanted) (offers : List Offer) → wants ≡ [] → AreOffersOf frames wants offers → offers ≡ []
none-offered frames [] [] e are = refl
none-offered frames [] (offer ∷ offers) e are = absurd are
none-offered frames (want ∷ wants) offers e are = absurd cc

-- copies of the frames are at hand where some are offered
pub fresh-some : (s : Standing) (offers : OffersState) (kept : Vec (Vec ℕ Global) Global) (st : OffersStand s offers) → (1 ≤ length offers.wants → contents kept.items ≡ bytes_of st.frames)
    → HasOffers (offers_at s.world offers.entry) (sent_of offers.wants offers kept)
fresh-some s offers kept st bytes = by offers.wants refl
  where
    by : (wants : List Wanted) → offers.wants ≡ wants → HasOffers (offers_at s.world offers.entry) (sent_of wants offers kept)
    by [] e = none-offered st.frames offers.wants (offers_at s.world offers.entry) e st.are
    by (want ∷ wants) e =
        let long = ap (λ (ws : List Wanted). length ws) e in
        subst (λ (ws : List Wanted). HasOffers (offers_at s.world offers.entry) (sent_of ws offers kept)) e (fresh-offers s offers kept st (bytes (omega (arith, long))))

-- the offers of the entry of an ask
pub theirs : (b after : Recorded) (ask : Ask) (made : Outcome) (number : ℕ) → step (standing b) ask ≡ Some made → after ≡ after_ask b ask → number ≡ length after.entries
    → offers_at (standing after).world number ≡ offers_started (standing b).world (kept_ask ask) made.reply
theirs b after ask made number is grew count =
    let e = entry_of ask made in
    let same : after ≡ grown b e = grew ∙ ap (after_outcome b ask) is in
    let long = ap (λ (r : Recorded). length r.entries) same ∙ length-append b.entries (e ∷ []) in
    let world = count-world_of b.pool b.entries in
    let next : number ≡ (standing b).world.entry_count + 1 = omega (arith, long, world, count) in
    ap (offers_at (standing after).world) next
    ∙ (ap (λ (r : Recorded). offers_at (standing r).world ((standing b).world.entry_count + 1)) same
    ∙ offers_start b.pool b.entries e (step-follows (standing b) ask made is))

pub take-whole : {X : Type 0} (xs : List X) → take (length xs) xs ≡ xs
take-whole [] = refl
take-whole (x ∷ xs) = ap (λ ys. x ∷ ys) (take-whole xs)

-- ---- what is in hand

pub more-more : (a b c : User) (xs ys : List Buffer) → HasMore a xs b → HasMore b ys c → HasMore a (xs ++ ys) c
more-more a b c xs ys one two = record {
  id = two.id ∙ one.id;
  leases = two.leases ∙ one.leases;
  sent = two.sent ∙ one.sent;
  rooms = two.rooms ∙ one.rooms;
  bufs = two.bufs ∙ (ap (λ (bs : List Buffer). bs ++ ys) one.bufs ∙ append-three a.bufs.items xs ys);
}
  where
    append-three : (xs ys zs : List Buffer) → (xs ++ ys) ++ zs ≡ xs ++ (ys ++ zs)
    append-three [] ys zs = refl
    append-three (x ∷ xs) ys zs = ap (λ (bs : List Buffer). x ∷ bs) (append-three xs ys zs)

-- buffers of the same numbers come back
pub back-own : (b : Recorded) (own : Own) (old held new : User) (named : List ℕ) (taken back : List Buffer) → HasOwn b own old → HasTakenOut old named taken held → HasMore held back new
    → indices_of back ≡ named → AreOf b.region back → HasOwn b own new
back-own b own old held new named taken back is out more same of =
    let leases = more.leases ∙ out.leases in
    let sent = more.sent ∙ out.sent in
    let rooms = more.rooms ∙ out.rooms in
    let long = ap (λ v. length v.items) leases in
    let capacity = ap (λ v. vec_capacity v) leases in
    let wants = ap wants_left sent in
    let room = is.lease_room in
    let bufs : indices_of new.bufs.items ≡ indices_of held.bufs.items ++ named =
    ap indices_of more.bufs ∙ (indices-append held.bufs.items back ∙ ap (λ (ns : List ℕ). indices_of held.bufs.items ++ ns) same) in
    record {
      offers = subst (HasOffers own.offers) (sym sent) is.offers;
      leases = subst (λ (ls : List Leased). AreHeldAs b own.leases ls) (ap (λ v. v.items) (sym leases)) is.leases;
      rise = is.rise;
      buffers = λ n.
          let left = out.bufs.times_are n in
          let here = is.buffers n in
          let all = ap (times n) bufs ∙ count_of-append n (indices_of held.bufs.items) named in
          omega (arith, left, here, all);
      region_is = subst (AreOf b.region) (sym more.bufs) (each-append (IsBufferOf b.region) held.bufs.items back (out.bufs.left_of b.region is.region_is) of);
      lease_room = omega (arith, long, capacity, wants, room);
      rooms = subst (Each IsRoom) (ap (λ v. v.items) (sym rooms)) is.rooms;
      room_each = same-ports old new own.ports rooms is.room_each;
    }

pub back-kept : (b : Recorded) (old held new : User) (named : List ℕ) (taken back : List Buffer) → IsUser b old → HasTakenOut old named taken held → HasMore held back new
    → indices_of back ≡ named → AreOf b.region back → IsUser b new
back-kept b old held new named taken back is out more same of =
    let id : old.id.0 ≡ new.id.0 = ap (λ (i : SessionId). i.0) (sym (more.id ∙ out.id)) in
    back-own b (own_of new.id.0 (standing b)) old held new named taken back (subst (λ (n : ℕ). HasOwn b (own_of n (standing b)) old) id is) out more same of

-- others come in their place, with offers
pub exchanged : (b after : Recorded) (own target : Own) (old held between new : User) (named : List ℕ) (taken more : List Buffer) (offers : OffersState) (kept : Vec (Vec ℕ Global) Global)
    → IsLater b after → HasOwn b own old → HasTakenOut old named taken held → HasMore held more between → HasSent between offers kept new
    → HasOffers target.offers (sent_of offers.wants offers kept) → length offers.wants ≤ 1 → length old.leases.items + 1 ≤ vec_capacity old.leases
    → target.leases ≡ own.leases → map id_of_port target.ports ≡ map id_of_port own.ports → AreSame (indices_of (held.bufs.items ++ more)) target.buffers → AreOf b.region more
    → HasOwn after target new
exchanged b after own target old held between new named taken more offers kept l is out came sent has few room leases-are ports buffers of =
    let leases = sent.leases ∙ (came.leases ∙ out.leases) in
    let rooms = sent.rooms ∙ (came.rooms ∙ out.rooms) in
    let bufs : new.bufs.items ≡ held.bufs.items ++ more = ap (λ v. v.items) sent.bufs ∙ came.bufs in
    let long = ap (λ v. length v.items) leases in
    let capacity = ap (λ v. vec_capacity v) leases in
    let wants = ap wants_left sent.sent ∙ wants-left offers.wants offers kept refl in
    record {
      offers = subst (λ (x : Option Sent). HasOffers target.offers x) (sym sent.sent) has;
      leases = rw leases-are (leases-later b after l own.leases new.leases.items (subst (λ (ls : List Leased). AreHeldAs b own.leases ls) (ap (λ v. v.items) (sym leases)) is.leases));
      rise = rw leases-are (rise-later b after l (map number_of own.leases) is.rise);
      buffers = subst (λ (bs : List Buffer). AreSame (indices_of bs) target.buffers) (sym bufs) buffers;
      region_is = of-later b after l new.bufs.items (subst (AreOf b.region) (sym bufs) (each-append (IsBufferOf b.region) held.bufs.items more (out.bufs.left_of b.region is.region_is) of));
      lease_room = omega (arith, long, capacity, wants, few, room);
      rooms = subst (Each IsRoom) (ap (λ v. v.items) (sym rooms)) is.rooms;
      room_each = same-ports old new own.ports rooms is.room_each ∙ sym ports;
    }

-- few ports are told of what is offered to a monitor
pub few-told : (dests : List Dest) (wants : List Wanted) → dests ≡ dests_wanted wants → length wants ≤ 1 → length dests ≤ 1
few-told dests wants told few = let long = ap (λ (ds : List Dest). length ds) told ∙ length-map wants dest_wanted in omega (arith, long, few)
