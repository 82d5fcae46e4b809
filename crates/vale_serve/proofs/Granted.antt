-- A session's offer is granted, and its lease filled.
use Rattle.std.proofs.Common.{ℕ, zero, suc, ◌≡◌, ◌≤◌, ◌<◌, ◌+◌, ◌-◌, nat_le, ◌==◌, ◌&&◌, not, Bool, true, false, cond, List, [], ◌∷◌, ◌++◌, length, map, filter, find, take, drop, slice_get, Option, Some, None, option_map, refl, sym, ◌∙◌, ap, subst, arith, append-nil, length-append}
use Rattle.std.specs.Prelude.{vec_capacity, sum, IfSome, IfNone}
use Rattle.std.specs.List.{list_all, AllByRecursion as Each, cons_option}
use Rattle.std.specs.Option.{option_map_or}
use Rattle.std.proofs.lemmas.Bool.{and_parts, leb-true, eqb-true, eq-eqb, ne_eqb}
use Rattle.std.proofs.lemmas.List.{length-map, map-append}
use Rattle.std.proofs.lemmas.Option.{slice_get-map, slice_get_within}
use Rattle.nm_types.specs.Frames.{Frame, slots_of, size_of_frames}
use Rattle.nm_types.specs.Limits.{most_frame_bytes}
use Rattle.nm_types.specs.Parts.{slots_of_bytes, cut_frames}
use Rattle.nm_types.specs.Sendable.{IsFrameBytes, is_frame}
use Rattle.nm_types.specs.declared.id.PortId.{PortId}
use Rattle.nm_types.specs.declared.id.SessionId.{SessionId}
use Rattle.nm_region.specs.Buffers.{Buffer, indices_of}
use Rattle.vale_batch.specs.Wants.{Wanted}
use Rattle.vale_line.specs.declared.got.Got.{Got}
use Rattle.vale_line.specs.Leased.{Leased}
use Rattle.vale_entry.specs.declared.entry.Ask.TheVariants.{Grant}
use Rattle.vale_entry.specs.declared.entry.Entry.{Entry}
use Rattle.vale_entry.specs.declared.entry.Reply.{Reply}
use Rattle.vale_entry.specs.World.{World, Port, Lot, Offer, open_port, space_of}
use Rattle.vale_entry.specs.Offers.{is_offer_of}
use Rattle.vale_entry.specs.Grant.{first_offer, granted_frames, given_at, longest_fitting, grant_reply_at}
use Rattle.vale_entry.specs.Legal.{Outcome, is_met, is_enabled, is_offer_next, grant_step, standing_of, IsLegal}
use Rattle.vale_entry.specs.Laws.{Rise}
use Rattle.vale_entry.specs.Holdings.{first_idle}
use Rattle.vale_line.specs.Gots.{buffers_of}
use Rattle.vale_entry.proofs.Each.{each-find, each-weaker, each-drop}
use Rattle.vale_entry.proofs.ListLaws.{place-of}
use Rattle.vale_entry.proofs.Rising.{rise-push, rise-within, rise-wider}
use Rattle.vale_entry.proofs.Worlds.{count-world_of}
use Rattle.vale_own.specs.Own.{Own, HeldLot, own_of, is_offer_by}
use Rattle.vale_own.specs.OwnEntries.{own_granted, own_after_entry, lease_of}
use Rattle.vale_own.proofs.OwnEntry.{own-entries}
use Rattle.vale_own.proofs.OneAsker.{entries-have-one-asker}
use Rattle.vale_own.proofs.Reading.{offers-left}
use Rattle.vale_parts.specs.Batches.{IsOfferOf, AreOffersOf}
use Rattle.vale_parts.specs.Offering.{offers_at, OffersAre}
use Rattle.vale_parts.proofs.OffersKept.{first_next}
use Rattle.vale_port.specs.Kept.{KeptFrames, bytes_of, kept_gots, world_frames}
use Rattle.vale_port.proofs.SeatTies.{sum-sizes}
use Rattle.vale_book.specs.BookView.{AreOf}
use Rattle.vale_book.specs.Offering.{OffersState, IsOfferBy, IsLeaseOf}
use Rattle.vale_book.specs.Recorded.{Recorded, standing, after_outcome, entry_of}
use Rattle.vale_book.specs.Leases.{WasGranted, is_held_as}
use Rattle.vale_serve.specs.declared.users.Sent.{Sent}
use Rattle.vale_serve.specs.declared.users.User.{User}
use Rattle.vale_serve.specs.Filling.{placed, frames_for, IsFillable}
use Rattle.vale_serve.specs.Granting.{CanGrant, IsLeased, HasGranted, AddsLease, listed, given_in}
use Rattle.vale_serve.specs.Users.{AreOffered, HasOffers, IsHeldAs, AreHeldAs, AreSame, IsRoom, HasOwn, IsUser, HasSent, contents, sent_of, wants_left, number_of, is_want_of, is_sent_of, is_sent_next, is_offered, is_next_to}
use Rattle.vale_serve.proofs.Keeping.{IsLater, step-follows, leases-later, of-later, same-ports}
use Rattle.vale_serve.proofs.Acting.{Said, said, later, acts}
use Rattle.vale_book.proofs.Said.{Steps}
use Rattle.vale_book.proofs.OffersHeld.{granted-at, filtered}
use Rattle.vale_book.proofs.LeasesHeld.{given-held}
use Rattle.vale_book.proofs.WholeFrames.{offer-whole}
use Rattle.vale_serve.proofs.Sends.{filter-passes, as-many-wants, wants-left}

-- ---- the offers of a session's entry are all that are of the entry

mine-found : (test other : Offer → Bool) (os : List Offer) (o : Offer) (rest : List Offer) → filter test os ≡ o ∷ rest → other o ≡ true → (x : Offer) × (find other os ≡ Some x)
mine-found test other [] o rest e hit = absurd cc
mine-found test other (y ∷ ys) o rest e hit = by (other y) refl (test y) refl e (mine-found test other ys o rest)
  where
    by : (b : Bool) → other y ≡ b → (t : Bool) → test y ≡ t → cond t (y ∷ filter test ys) (filter test ys) ≡ o ∷ rest
        → (filter test ys ≡ o ∷ rest → other o ≡ true → (x : Offer) × (find other ys ≡ Some x)) → (x : Offer) × (cond b (Some y) (find other ys) ≡ Some x)
    by true here t is e later = (y, refl)
    by false miss true is e later = let same : y ≡ o = cc in absurd (let yes = ap other same ∙ hit in cc)
    by false miss false is e later = later e hit

mine-asker : (session origin asker : ℕ) (os : List Offer) (o : Offer) (rest : List Offer) → filter (is_offer_by session) os ≡ o ∷ rest
    → Each (λ (x : Offer). x.origin ≡ origin → x.session ≡ asker) os → o.origin ≡ origin → o.session ≡ asker
mine-asker session origin asker [] o rest e all of = absurd cc
mine-asker session origin asker (y ∷ ys) o rest e all of = by (is_offer_by session y) e (λ f. mine-asker session origin asker ys o rest f all.1 of)
  where
    by : (b : Bool) → cond b (y ∷ filter (is_offer_by session) ys) (filter (is_offer_by session) ys) ≡ o ∷ rest
        → (filter (is_offer_by session) ys ≡ o ∷ rest → o.session ≡ asker) → o.session ≡ asker
    by true e later = let same : y ≡ o = cc in subst (λ (x : Offer). x.origin ≡ origin → x.session ≡ asker) same all.0 of
    by false e later = later e

pub mine-at : (pool : ℕ) (h : List Entry) (session origin : ℕ) (offers : List Offer) → IsLegal pool h
    → (own_of session (standing_of pool h)).offers ≡ offers → 1 ≤ length offers → Each (λ (o : Offer). o.origin ≡ origin) offers
    → offers_at (standing_of pool h).world origin ≡ offers
mine-at pool h session origin [] legal e some of = absurd (omega (arith, some))
mine-at pool h session origin (o ∷ rest) legal e some of =
    let w = (standing_of pool h).world in
    let found = mine-found (is_offer_by session) (is_offer_of origin) w.offers o rest e (eq-eqb o.origin origin of.0) in
    let one = entries-have-one-asker pool h origin in
    let passes = subst (Each (λ (x : Offer). is_offer_by session x ≡ true)) e (filter-passes (is_offer_by session) w.offers) in
    let mine : o.session ≡ session = eqb-true o.session session passes.0 in
    let asker = mine-asker session origin one.0 w.offers o rest e one.1 of.0 in
    let place = place-of (is_offer_of origin) w.offers found.0 found.1 in
    let whose : (found.0).session ≡ one.0 = each-find (λ (x : Offer). x.origin ≡ origin → x.session ≡ one.0) (is_offer_of origin) w.offers found.0 one.1 found.1 (eqb-true (found.0).origin origin place.passes) in
    offers-left pool h origin found.0 legal found.1 ∙ (ap (λ (n : ℕ). (own_of n (standing_of pool h)).offers) (whose ∙ (sym asker ∙ mine)) ∙ e)

-- so its next offer can be granted
pub can-grant : (b : Recorded) (user : User) (sent : Sent) → IsLegal b.pool b.entries → AreOffered (own_of user.id.0 (standing b)).offers sent → CanGrant b sent
can-grant b user sent legal are =
    let own = own_of user.id.0 (standing b) in
    let many = as-many-wants are.frames sent.offers.wants own.offers are.are in
    let some' = are.some in
    let at = mine-at b.pool b.entries user.id.0 sent.offers.entry own.offers legal refl (omega (arith, many, some')) are.of in
    record {
      legal = legal;
      stand = record { frames = are.frames; are = subst (AreOffersOf are.frames sent.offers.wants) (sym at) are.are; by = subst (Each (IsOfferBy sent.offers.session)) (sym at) are.by };
      some = are.some;
      bytes = are.bytes;
    }

-- ---- what is wanted next is there to be filled in

fitting-few : (room : ℕ) (frames : List Frame) → length (longest_fitting room frames) ≤ length frames
fitting-few room [] = omega arith
fitting-few room (frame ∷ frames) = by (nat_le (slots_of frame) room) (fitting-few (room - slots_of frame) frames)
  where
    by : (b : Bool) → length (longest_fitting (room - slots_of frame) frames) ≤ length frames
        → length (cond b (frame ∷ longest_fitting (room - slots_of frame) frames) []) ≤ length (frame ∷ frames)
    by true few = omega (arith, few)
    by false few = omega arith

fitting-first : (room : ℕ) (frames : List Frame) → longest_fitting room frames ≡ take (length (longest_fitting room frames)) frames
fitting-first room [] = refl
fitting-first room (frame ∷ frames) = by (nat_le (slots_of frame) room) (fitting-first (room - slots_of frame) frames)
  where
    by : (b : Bool) → longest_fitting (room - slots_of frame) frames ≡ take (length (longest_fitting (room - slots_of frame) frames)) frames
        → cond b (frame ∷ longest_fitting (room - slots_of frame) frames) [] ≡ take (length (cond b (frame ∷ longest_fitting (room - slots_of frame) frames) [])) (frame ∷ frames)
    by true rest = ap (λ (fs : List Frame). frame ∷ fs) rest
    by false rest = refl

get-within : {X : Type 0} (xs : List X) (i : ℕ) (x : X) → slice_get xs i ≡ Some x → i < length xs
get-within [] i x e = absurd cc
get-within (y ∷ ys) zero x e = omega arith
get-within (y ∷ ys) (suc i) x e = let rest = get-within ys i x e in omega (arith, rest)

cut : {X : Type 0} (x y : X) (xs ys : List X) → x ∷ xs ≡ y ∷ ys → (x ≡ y) × (xs ≡ ys)
cut x y xs ys e = (cc, cc)

places-there : (frames : List Frame) (places : List ℕ) (wanted : List Frame) → map (slice_get frames) places ≡ map (λ (f : Frame). Some f) wanted
    → Each (λ (p : ℕ). p < length frames) places
places-there frames [] wanted e = tt
places-there frames (p ∷ ps) [] e = absurd cc
places-there frames (p ∷ ps) (f ∷ fs) e =
    let parts = cut (slice_get frames p) (Some f) (map (slice_get frames) ps) (map (λ (g : Frame). Some g) fs) e in
    (slice_get_within frames p f parts.0, places-there frames ps fs parts.1)

as-many-places : (frames : List Frame) (places : List ℕ) (wanted : List Frame) → map (slice_get frames) places ≡ map (λ (f : Frame). Some f) wanted → length places ≡ length wanted
as-many-places frames places wanted e = sym (length-map places (slice_get frames)) ∙ (ap (λ (xs : List (Option Frame)). length xs) e ∙ length-map wanted (λ (f : Frame). Some f))

-- the frames at the first places are the first that are wanted
placed-first : (frames : List Frame) (places : List ℕ) (wanted : List Frame) (n : ℕ) → map (slice_get frames) places ≡ map (λ (f : Frame). Some f) wanted
    → placed (bytes_of frames) (take n places) ≡ bytes_of (take n wanted)
placed-first frames places wanted zero e = refl
placed-first frames [] [] (suc n) e = refl
placed-first frames [] (f ∷ fs) (suc n) e = absurd cc
placed-first frames (p ∷ ps) [] (suc n) e = absurd cc
placed-first frames (p ∷ ps) (f ∷ fs) (suc n) e =
    let parts = cut (slice_get frames p) (Some f) (map (slice_get frames) ps) (map (λ (g : Frame). Some g) fs) e in
    let here : slice_get (bytes_of frames) p ≡ Some f.bytes = slice_get-map (λ (g : Frame). g.bytes) frames p ∙ ap (option_map (λ (g : Frame). g.bytes)) parts.0 in
    ap (λ (found : Option (List ℕ)). cons_option found (placed (bytes_of frames) (take n ps))) here
    ∙ ap (λ (rest : List (List ℕ)). f.bytes ∷ rest) (placed-first frames ps fs n parts.1)

-- the offer that is granted next, with its want
pub record NextOffer (b : Recorded) (sent : Sent) (frames : List Frame) (want : Wanted) : Type 0 where
  pub offer : Offer
  pub first : first_offer (standing b).world sent.offers.entry ≡ Some offer
  pub is : IsOfferOf frames want offer

pub next-offer : (b : Recorded) (sent : Sent) (k : CanGrant b sent) (want : Wanted) → slice_get sent.offers.wants 0 ≡ Some want → NextOffer b sent k.stand.frames want
next-offer b sent k want here = by sent.offers.wants here k.stand.are
  where
    by : (wants : List Wanted) → slice_get wants 0 ≡ Some want → OffersAre (standing b).world sent.offers.entry k.stand.frames wants → NextOffer b sent k.stand.frames want
    by [] here are = absurd cc
    by (w ∷ ws) here are =
        let n = first_next (standing b).world sent.offers.entry k.stand.frames w ws are in
        let same : w ≡ want = cc in
        record { offer = n.offer; first = n.first; is = subst (λ (x : Wanted). IsOfferOf k.stand.frames x n.offer) same n.is }

sizes-bytes : (frames : List Frame) → map slots_of frames ≡ map slots_of_bytes (bytes_of frames)
sizes-bytes [] = refl
sizes-bytes (f ∷ fs) = ap (λ (ns : List ℕ). slots_of f ∷ ns) (sizes-bytes fs)

-- frames that are no longer than frames are, and the first of them
whole-bytes : (n : ℕ) (frames : List Frame) → list_all is_frame frames ≡ true → Each IsFrameBytes (bytes_of (take n frames))
whole-bytes zero frames whole = tt
whole-bytes (suc n) [] whole = tt
whole-bytes (suc n) (f ∷ fs) whole =
    let parts = and_parts (is_frame f) (list_all is_frame fs) whole in
    (leb-true (length f.bytes) most_frame_bytes parts.0, whole-bytes n fs parts.1)

pub fillable : (b : Recorded) (sent : Sent) (k : CanGrant b sent) (want : Wanted) (number : ℕ) (lease : Leased) → slice_get sent.offers.wants 0 ≡ Some want
    → ((offer : Offer) → first_offer (standing b).world sent.offers.entry ≡ Some offer → IsLeaseOf (standing b) b.region number offer lease)
    → IsFillable lease want.places (contents sent.frames.items)
fillable b sent k want number lease here gives =
    let n : NextOffer b sent k.stand.frames want = next-offer b sent k want here in
    let l = gives n.offer n.first in
    let given = longest_fitting (space_of l.seat.port) n.offer.frames in
    let sizes = ap (λ (ns : List ℕ). length ns) l.is.sizes ∙ length-map given slots_of in
    let slots = l.is.slots in
    let sum_is = ap sum l.is.sizes ∙ sum-sizes given in
    let none = ap (λ (gs : List Got). length gs) l.is.filled in
    let few = fitting-few (space_of l.seat.port) n.offer.frames in
    let many = as-many-places k.stand.frames want.places n.offer.frames n.is.places in
    let long : length (contents sent.frames.items) ≡ length k.stand.frames = ap (λ (fs : List (List ℕ)). length fs) k.bytes ∙ length-map k.stand.frames (λ (f : Frame). f.bytes) in
    let placed-are : frames_for lease want.places (contents sent.frames.items) ≡ bytes_of (take (length given) n.offer.frames) =
    ap (λ (fs : List (List ℕ)). frames_for lease want.places fs) k.bytes
    ∙ (placed-first k.stand.frames want.places n.offer.frames (length lease.sizes) n.is.places ∙ ap (λ (m : ℕ). bytes_of (take m n.offer.frames)) sizes) in
    let first = fitting-first (space_of l.seat.port) n.offer.frames in
    record {
      none = l.is.filled;
      sizes = l.is.sizes ∙ (sizes-bytes given ∙ (ap (λ (fs : List Frame). map slots_of_bytes (bytes_of fs)) first ∙ ap (map slots_of_bytes) (sym placed-are)));
      buffers = omega (arith, slots, sum_is, none);
      enough = omega (arith, sizes, few, many);
      there = subst (λ (m : ℕ). Each (λ (p : ℕ). p < m) want.places) (sym long) (places-there k.stand.frames want.places n.offer.frames n.is.places);
      few = subst (Each IsFrameBytes) (sym placed-are) (whole-bytes (length given) n.offer.frames (offer-whole b.pool b.entries sent.offers.entry n.offer k.legal n.first));
    }

-- ---- what the session has after the grant

held-append : (b : Recorded) (xs ys : List HeldLot) (ls ms : List Leased) → AreHeldAs b xs ls → AreHeldAs b ys ms → AreHeldAs b (xs ++ ys) (ls ++ ms)
held-append b [] ys [] ms one two = two
held-append b [] ys (l ∷ ls) ms one two = absurd one
held-append b (x ∷ xs) ys [] ms one two = absurd one
held-append b (x ∷ xs) ys (l ∷ ls) ms one two = (one.0, held-append b xs ys ls ms one.1 two)

one-less : (frames : List Frame) (wants : List Wanted) (offers : List Offer) → AreOffersOf frames wants offers → AreOffersOf frames (drop 1 wants) (drop 1 offers)
one-less frames [] [] are = tt
one-less frames [] (o ∷ os) are = absurd are
one-less frames (w ∷ ws) [] are = absurd are
one-less frames (w ∷ ws) (o ∷ os) are = are.1

no-offers : (frames : List Frame) (offers : List Offer) → AreOffersOf frames [] offers → offers ≡ []
no-offers frames [] are = refl
no-offers frames (o ∷ os) are = absurd are

-- the offers that are left are kept, if there are some
left-offers : (offers : List Offer) (sent : Sent) (are : AreOffered offers sent) → (left : OffersState) → left ≡ record sent.offers { wants = drop 1 sent.offers.wants }
    → HasOffers (drop 1 offers) (sent_of left.wants left sent.frames)
left-offers offers sent are left is = by left.wants refl
  where
    by : (wants : List Wanted) → left.wants ≡ wants → HasOffers (drop 1 offers) (sent_of wants left sent.frames)
    by [] e =
        let none : drop 1 sent.offers.wants ≡ [] = sym (ap (λ (o : OffersState). o.wants) is) ∙ e in
        no-offers are.frames (drop 1 offers) (subst (λ (ws : List Wanted). AreOffersOf are.frames ws (drop 1 offers)) none (one-less are.frames sent.offers.wants offers are.are))
    by (want ∷ wants) e = record {
      some = let long = ap (λ (ws : List Wanted). length ws) e in omega (arith, long);
      frames = are.frames;
      bytes = are.bytes;
      are = subst (λ (ws : List Wanted). AreOffersOf are.frames ws (drop 1 offers)) (sym (ap (λ (o : OffersState). o.wants) is)) (one-less are.frames sent.offers.wants offers are.are);
      of = subst (λ (n : ℕ). Each (λ (o : Offer). o.origin ≡ n) (drop 1 offers)) (sym (ap (λ (o : OffersState). o.entry) is)) (each-drop (λ (o : Offer). o.origin ≡ sent.offers.entry) 1 offers are.of);
      by = subst (λ (n : ℕ). Each (IsOfferBy n) (drop 1 offers)) (sym (ap (λ (o : OffersState). o.session) is)) (each-drop (IsOfferBy sent.offers.session) 1 offers are.by);
    }

-- a grant tells how many frames it gave
given-told : (found : Option Port) (frames : List Frame) → given_in (grant_reply_at found frames) ≡ length (given_at found frames)
given-told None frames = refl
given-told (Some port) frames = refl

no-frames : (frames : List Frame) → length frames ≡ 0 → frames ≡ []
no-frames [] e = refl
no-frames (f ∷ fs) e = absurd (omega (arith, e))

-- the lease that is found under a new number is the new one
last-held : (n session : ℕ) (helds : List HeldLot) (frames : List Frame) (bufs : List ℕ) (held : HeldLot) → Each (λ (h : HeldLot). h.0.number < n) helds
    → find (is_held_as n) (helds ++ lease_of n session frames bufs) ≡ Some held
    → (lease_of n session frames bufs ≡ held ∷ []) × (held.0.frames ≡ frames) × (held.0.number ≡ n)
last-held n session [] [] bufs held below e = absurd cc
last-held n session [] (f ∷ fs) bufs held below e =
    let lot : Lot = record { number = n; session = session; frames = f ∷ fs; is_done = false } in
    let found : Some (lot, bufs) ≡ Some held = sym (ap (λ (b : Bool). cond (b && true) (Some (lot, bufs)) None) (eq-eqb n n refl)) ∙ e in
    let same : (lot, bufs) ≡ held = held-same (lot, bufs) held found in
    (ap (λ (h : HeldLot). h ∷ []) same, ap (λ (h : HeldLot). h.0.frames) (sym same), ap (λ (h : HeldLot). h.0.number) (sym same))
  where
    held-same : (a c : HeldLot) → Some a ≡ Some c → a ≡ c
    held-same a c e = cc
last-held n session (h ∷ hs) frames bufs held below e =
    let low = below.0 in
    let miss : (h.0.number == n) ≡ false = ne_eqb h.0.number n (λ same. absurd (omega (arith, low, same))) in
    last-held n session hs frames bufs held below.1
    (sym (ap (λ (b : Bool). cond (b && not h.0.is_done) (Some h) (find (is_held_as n) (hs ++ lease_of n session frames bufs))) miss) ∙ e)

offer-same : (a c : Offer) → Some a ≡ Some c → a ≡ c
offer-same a c e = cc

given-first : (found : Option Port) (frames : List Frame) → given_at found frames ≡ take (length (given_at found frames)) frames
given-first None frames = refl
given-first (Some port) frames = fitting-first (space_of port) frames

kept-frames : (held : HeldLot) (given filled : Leased) (frames : List Frame) (bytes : List (List ℕ)) → indices_of given.empty ≡ held.1 → held.0.frames ≡ frames → bytes ≡ bytes_of frames
    → kept_gots filled.filled ≡ record { buffers = indices_of given.empty; parts = cut_frames bytes } → world_frames held.0 held.1 ≡ kept_gots filled.filled
kept-frames held given filled frames bytes buffers same all kept =
    ap (λ (ns : List ℕ). let x : KeptFrames = record { buffers = ns; parts = cut_frames (bytes_of held.0.frames) } in x) (sym buffers)
    ∙ (ap (λ (fs : List (List ℕ)). let x : KeptFrames = record { buffers = indices_of given.empty; parts = cut_frames fs } in x) (ap bytes_of same ∙ sym all) ∙ sym kept)

rise-more : (ls : List HeldLot) (n session high : ℕ) (frames : List Frame) (bufs : List ℕ) → Rise 0 (map number_of ls) high → high < n
    → Rise 0 (map number_of (ls ++ lease_of n session frames bufs)) n
rise-more ls n session high [] bufs rise up =
    subst (λ (xs : List HeldLot). Rise 0 (map number_of xs) n) (sym (append-nil ls)) (rise-wider 0 0 (map number_of ls) high n (omega arith) (omega (arith, up)) rise)
rise-more ls n session high (f ∷ fs) bufs rise up =
    subst (λ (ns : List ℕ). Rise 0 ns n) (sym (map-append number_of ls (lease_of n session (f ∷ fs) bufs))) (rise-push 0 (map number_of ls) high n up rise)

few-listed : (lease : Option Leased) → length (listed lease) ≤ 1
few-listed None = omega arith
few-listed (Some x) = omega arith

one-fewer : (wants : List Wanted) → 1 ≤ length wants → length (drop 1 wants) + 1 ≡ length wants
one-fewer [] some = absurd (omega (arith, some))
one-fewer (w ∷ ws) some = omega arith

module _ (b after : Recorded) (user mid new : User) (sent left : Sent) (reply : Reply) (lease : Option Leased)
    (legal : IsLegal b.pool b.entries) (is : IsUser b (record user { sent = Some sent })) (g : HasGranted b after sent left reply lease)
    (adds : AddsLease user lease mid) (has : HasSent mid left.offers left.frames new) where
  s : Said b (Grant sent.offers.entry g.to) reply
  s = said b (Grant sent.offers.entry g.to) reply g.said

  l : IsLater b after
  l = later b after (Grant sent.offers.entry g.to) g.made

  abbrev own : Own
  own = own_of user.id.0 (standing b)

  abbrev w : World
  w = (standing b).world

  offered : AreOffered own.offers sent
  offered = is.offers

  k : CanGrant b sent
  k = can-grant b user sent legal is.offers

  at : (offer : Offer) × (first_offer w sent.offers.entry ≡ Some offer) × (s.made ≡ grant_step (standing b) offer) × (offer.to ≡ g.to.0)
  at = granted-at (standing b) g.to.0 (first_offer w sent.offers.entry) s.made s.is

  abbrev offer : Offer
  offer = at.0

  theirs : offers_at w sent.offers.entry ≡ own.offers
  theirs =
      let many = as-many-wants offered.frames sent.offers.wants own.offers offered.are in
      let some' = offered.some in
      mine-at b.pool b.entries user.id.0 sent.offers.entry own.offers legal refl (omega (arith, many, some')) offered.of

  -- the offer is the session's, which is that of the offers
  mine : offer.session ≡ user.id.0
  mine =
      let passes = each-weaker (λ (o : Offer). is_offer_by user.id.0 o ≡ true) (λ (o : Offer). o.session ≡ user.id.0) (λ o t. eqb-true o.session user.id.0 t) own.offers
      (filter-passes (is_offer_by user.id.0) w.offers) in
      let all = filtered (λ (o : Offer). o.session ≡ user.id.0) (is_offer_of sent.offers.entry) w.offers (subst (Each (λ (o : Offer). o.session ≡ user.id.0)) (sym theirs) passes) in
      let place = place-of (is_offer_of sent.offers.entry) w.offers offer at.1 in
      each-find (λ (o : Offer). is_offer_of sent.offers.entry o ≡ true → o.session ≡ user.id.0) (is_offer_of sent.offers.entry) w.offers offer all at.1 place.passes

  asked : sent.offers.session ≡ user.id.0
  asked =
      let all = filtered (IsOfferBy sent.offers.session) (is_offer_of sent.offers.entry) w.offers k.stand.by in
      let place = place-of (is_offer_of sent.offers.entry) w.offers offer at.1 in
      sym (each-find (λ (o : Offer). is_offer_of sent.offers.entry o ≡ true → IsOfferBy sent.offers.session o) (is_offer_of sent.offers.entry) w.offers offer all at.1 place.passes) ∙ mine

  whose : user.id.0 ≡ s.made.session
  whose = sym (ap (λ (m : Outcome). m.session) at.2 ∙ mine)

  abbrev given : List Frame
  given = granted_frames w offer

  abbrev bufs : List ℕ
  bufs = first_idle offer.to (size_of_frames given) (standing b).holdings.ports

  abbrev target : Own
  target = own_granted (standing b) own offer

  count : length after.entries ≡ w.entry_count + 1
  count =
      let n = count-world_of b.pool b.entries in
      let long = ap (λ (r : Recorded). length r.entries) (g.made ∙ ap (after_outcome b (Grant sent.offers.entry g.to)) s.is) ∙ length-append b.entries (entry_of (Grant sent.offers.entry g.to) s.made ∷ []) in
      omega (arith, n, long)

  below : Each (λ (h : HeldLot). h.0.number < w.entry_count + 1) own.leases
  below =
      let n = count-world_of b.pool b.entries in
      each-weaker (λ (h : HeldLot). number_of h ≤ length b.entries) (λ (h : HeldLot). h.0.number < w.entry_count + 1) (λ h low. omega (arith, low, n)) own.leases
      (rise-within number_of 0 own.leases (length b.entries) is.rise)

  told : given_in reply ≡ length given
  told = ap given_in (sym s.reply_is ∙ ap (λ (m : Outcome). m.reply) at.2) ∙ given-told (open_port w.ports offer.to) offer.frames

  after-own : (own_of user.id.0 (standing after)).leases ≡ own.leases ++ lease_of (w.entry_count + 1) offer.session given bufs
  after-own =
      ap (λ (r : Recorded). (own_of user.id.0 (standing r)).leases) (g.made ∙ ap (after_outcome b (Grant sent.offers.entry g.to)) s.is)
      ∙ (ap (λ (o : Own). o.leases) (subst (λ (n : ℕ). own_of n (standing_of b.pool (b.entries ++ entry_of (Grant sent.offers.entry g.to) s.made ∷ [])) ≡ own_after_entry (standing b) (Grant sent.offers.entry g.to) s.made.reply (own_of n (standing b))) (sym whose)
      (own-entries b.pool b.entries (entry_of (Grant sent.offers.entry g.to) s.made) legal (step-follows (standing b) (Grant sent.offers.entry g.to) s.made s.is)))
      ∙ ap (λ (found : Option Offer). (option_map_or (own_granted (standing b) own) found own).leases) at.1)

  -- the new leases are those that the session was given
  new-leases : (x : Option Leased) → lease ≡ x → AreHeldAs after (lease_of (w.entry_count + 1) offer.session given bufs) (listed x)
  new-leases None e =
      let none : given_in reply ≡ 0 = subst (λ (x : Option Leased). IfNone x (given_in reply ≡ 0)) e g.none in
      let empty : given ≡ [] = no-frames given (sym told ∙ none) in
      subst (λ (fs : List Frame). AreHeldAs after (lease_of (w.entry_count + 1) offer.session fs bufs) []) (sym empty) tt
  new-leases (Some x) e =
      let leased : IsLeased b after sent x = subst (λ (y : Option Leased). IfSome y (IsLeased b after sent)) e g.leased in
      let steps : Steps b (Grant sent.offers.entry g.to) = record { makes = s.made; is = s.is } in
      let h = (given-held sent.offers g.to steps leased.given legal g.made k.some k.stand leased.gives).is in
      let lo = leased.gives offer at.1 in
      let number : leased.given.id ≡ w.entry_count + 1 = lo.is.id ∙ count in
      let found : find (is_held_as (w.entry_count + 1)) (own.leases ++ lease_of (w.entry_count + 1) offer.session given bufs) ≡ Some h.held =
      ap (find (is_held_as (w.entry_count + 1))) (sym (subst (λ (n : ℕ). (own_of n (standing after)).leases ≡ own.leases ++ lease_of (w.entry_count + 1) offer.session given bufs) (sym asked) after-own))
      ∙ (ap (λ (n : ℕ). find (is_held_as n) (own_of sent.offers.session (standing after)).leases) (sym number) ∙ h.own) in
      let last = last-held (w.entry_count + 1) offer.session own.leases given bufs h.held below found in
      let n : NextOffer b sent k.stand.frames leased.want = next-offer b sent k leased.want leased.first in
      let one : n.offer ≡ offer = offer-same n.offer offer (sym n.first ∙ at.1) in
      let first : given ≡ take (length given) offer.frames = given-first (open_port w.ports offer.to) offer.frames in
      let sizes : length leased.given.sizes ≡ length given = ap (λ (ns : List ℕ). length ns) h.sizes ∙ (length-map h.held.0.frames slots_of ∙ ap (λ (fs : List Frame). length fs) last.1) in
      let places : placed (contents sent.frames.items) (take (length leased.given.sizes) leased.want.places) ≡ bytes_of given =
      ap (λ (fs : List (List ℕ)). placed fs (take (length leased.given.sizes) leased.want.places)) k.bytes
      ∙ (placed-first k.stand.frames leased.want.places n.offer.frames (length leased.given.sizes) n.is.places
      ∙ (ap (λ (o : Offer). bytes_of (take (length leased.given.sizes) o.frames)) one
      ∙ (ap (λ (m : ℕ). bytes_of (take m offer.frames)) sizes ∙ ap bytes_of (sym first)))) in
      let held : IsHeldAs after h.held x = record {
        number = last.2 ∙ (sym number ∙ sym leased.filled.id);
        frames = kept-frames h.held leased.given x given (placed (contents sent.frames.items) (take (length leased.given.sizes) leased.want.places)) h.buffers last.1 places leased.filled.kept;
        granted = subst (λ (m : ℕ). WasGranted after.entries m x.to) (sym leased.filled.id) (subst (λ (m : ℕ). WasGranted after.entries leased.given.id m) (sym leased.filled.to) h.granted);
        full = leased.filled.full;
        empty = leased.filled.empty;
        region_is = of-later b after l (buffers_of x.filled) (leased.filled.region_is b.region lo.region_is);
      } in
      subst (λ (hs : List HeldLot). AreHeldAs after hs (x ∷ [])) (sym last.0) (held, tt)

  own-granted : HasOwn after target new
  own-granted =
      let items : new.leases.items ≡ user.leases.items ++ listed lease = ap (λ v. v.items) has.leases ∙ adds.leases in
      let long = ap (λ (ls : List Leased). length ls) items ∙ length-append user.leases.items (listed lease) in
      let few = few-listed lease in
      let capacity = ap (λ v. vec_capacity v) has.leases ∙ adds.capacity in
      let wants = ap wants_left has.sent ∙ wants-left left.offers.wants left.offers left.frames refl in
      let fewer = ap (λ (x : Sent). length x.offers.wants) g.left_is in
      let less = one-fewer sent.offers.wants offered.some in
      let room = is.lease_room in
      let n = count-world_of b.pool b.entries in
      let up : length b.entries < w.entry_count + 1 = omega (arith, n) in
      record {
        offers = subst (λ (x : Option Sent). HasOffers target.offers x) (sym has.sent)
            (subst (λ f. HasOffers (drop 1 own.offers) (sent_of left.offers.wants left.offers f)) (sym (ap (λ (x : Sent). x.frames) g.left_is))
            (left-offers own.offers sent offered left.offers (ap (λ (x : Sent). x.offers) g.left_is)));
        leases = subst (λ (ls : List Leased). AreHeldAs after (own.leases ++ lease_of (w.entry_count + 1) offer.session given bufs) ls) (sym items)
            (held-append after own.leases (lease_of (w.entry_count + 1) offer.session given bufs) user.leases.items (listed lease)
            (leases-later b after l own.leases user.leases.items is.leases) (new-leases lease refl));
        rise = subst (λ (m : ℕ). Rise 0 (map number_of (own.leases ++ lease_of (w.entry_count + 1) offer.session given bufs)) m) (sym count)
            (rise-more own.leases (w.entry_count + 1) offer.session (length b.entries) given bufs is.rise up);
        buffers = subst (λ (bs : List Buffer). AreSame (indices_of bs) own.buffers) (ap (λ v. v.items) (sym (has.bufs ∙ adds.bufs))) is.buffers;
        region_is = of-later b after l new.bufs.items (subst (AreOf b.region) (ap (λ v. v.items) (sym (has.bufs ∙ adds.bufs))) is.region_is);
        lease_room = omega (arith, long, few, capacity, wants, fewer, less, room);
        rooms = subst (Each IsRoom) (ap (λ v. v.items) (sym (has.rooms ∙ adds.rooms))) is.rooms;
        room_each = same-ports user new own.ports (has.rooms ∙ adds.rooms) is.room_each;
      }

  pub granted-kept : IsUser after new
  granted-kept =
      acts b after (Grant sent.offers.entry g.to) s.made new legal g.made s.is (ap (λ (i : SessionId). i.0) (has.id ∙ adds.id) ∙ whose)
      (subst (λ (n : ℕ). HasOwn after (own_after_entry (standing b) (Grant sent.offers.entry g.to) s.made.reply (own_of n (standing b))) new) whose
      (subst (λ (found : Option Offer). HasOwn after (option_map_or (own_granted (standing b) own) found own) new) (sym at.1) own-granted))

-- an offer that is not next is not granted
off-by : (b : Recorded) (user : User) (origin : ℕ) (to : PortId) (sent : Option Sent) → IsLegal b.pool b.entries → HasOffers (own_of user.id.0 (standing b)).offers sent
    → is_sent_of origin sent ≡ true → is_sent_next to.0 sent ≡ false → is_enabled (standing b) (Grant origin to) ≡ false
off-by b user origin to None legal offers mine other = absurd cc
off-by b user origin to (Some sent) legal are mine other =
    let k = can-grant b user sent legal are in
    let entry = eqb-true sent.offers.entry origin mine in
    let first = first-want sent.offers.wants k.some in
    let n = next-offer b sent k first.0 first.1 in
    let miss : (n.offer.to == to.0) ≡ false = sym (ap (λ (m : ℕ). m == to.0) n.is.to) ∙ (sym (ap (is_met (is_want_of to.0)) first.1) ∙ other) in
    ap (λ (m : ℕ). is_met (is_offer_next to.0) (first_offer (standing b).world m)) (sym entry) ∙ (ap (is_met (is_offer_next to.0)) n.first ∙ miss)
  where
    first-want : (wants : List Wanted) → 1 ≤ length wants → (want : Wanted) × (slice_get wants 0 ≡ Some want)
    first-want [] some = absurd (omega (arith, some))
    first-want (w ∷ ws) some = (w, refl)

pub grant-off : (b : Recorded) (user : User) (origin : ℕ) (to : PortId) → IsLegal b.pool b.entries → IsUser b user → is_offered origin user ≡ true → is_next_to to.0 user ≡ false
    → is_enabled (standing b) (Grant origin to) ≡ false
grant-off b user origin to legal is mine other = off-by b user origin to user.sent legal is.offers mine other
