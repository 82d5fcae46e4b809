-- The lease that a grant gives is the last of its session's own.
use Rattle.std.proofs.Common.{ℕ, zero, suc, ◌+◌, ◌-◌, ◌<◌, ◌≤◌, ◌≡◌, Bool, true, false, cond, not, ◌&&◌, ◌==◌, List, [], ◌∷◌, ◌++◌, length, find, flat_map, Option, Some, None, refl, sym, ◌∙◌, ap, subst, arith, slice_get, take, map, IfSome, length-append}
use Rattle.std.specs.List.{AllByRecursion as Each, zip}
use Rattle.std.specs.Prelude.{option_map}
use Rattle.std.specs.Option.{option_or, option_map_or}
use Rattle.std.proofs.lemmas.Bool.{and_parts, eqb-true, eq-eqb}
use Rattle.std.proofs.lemmas.List.{length-map}
use Rattle.std.proofs.lemmas.Option.{slice_get-map}
use Rattle.std.proofs.lemmas.List.Folds.{find-append}
use Rattle.nm_types.specs.declared.id.PortId.{PortId}
use Rattle.nm_types.specs.Frames.{Frame, slots_of, size_of_frames}
use Rattle.vale_entry.specs.declared.entry.Ask.TheVariants.{Grant}
use Rattle.vale_entry.specs.declared.entry.Entry.{Entry}
use Rattle.vale_entry.specs.World.{World, Port, Lot, Offer, is_open_at, space_of}
use Rattle.vale_entry.specs.Grant.{first_offer, given_at, granted_frames}
use Rattle.vale_entry.specs.Holdings.{PortBuffers, PortAgrees, PortsAgree, first_idle}
use Rattle.vale_entry.specs.Laws.{HasLotsUpTo, IsGrantedBy}
use Rattle.vale_entry.specs.Legal.{standing_of, session_and_reply, is_met, IsLegal}
use Rattle.vale_entry.proofs.Each.{each-append}
use Rattle.vale_entry.proofs.Removals.{each-filter}
use Rattle.vale_entry.proofs.ListLaws.{place-of}
use Rattle.vale_entry.proofs.Places.{first_idle-place}
use Rattle.vale_entry.proofs.Shares.{fitting-front}
use Rattle.vale_entry.proofs.HistoryPlaces.{helds-rise}
use Rattle.vale_entry.proofs.HistoryLaws.{history-stands}
use Rattle.vale_entry.proofs.Worlds.{count-world_of}
use Rattle.vale_own.specs.Own.{Own, HeldLot, own_of, leases_at, is_lease_of}
use Rattle.vale_own.specs.OwnEntries.{own_granted, own_after_entry, lease_of}
use Rattle.vale_own.proofs.OwnEntry.{own-entries}
use Rattle.vale_own.proofs.Sides.{each-zip}
use Rattle.vale_line.specs.declared.got.Got.{Got}
use Rattle.vale_line.specs.Gots.{frames_in}
use Rattle.vale_line.specs.Leased.{Leased, contents, count_of}
use Rattle.vale_batch.specs.Wants.{Wanted}
use Rattle.vale_parts.specs.Offering.{OffersAre, IsNext}
use Rattle.vale_parts.proofs.OffersKept.{first_next}
use Rattle.vale_port.specs.Kept.{bytes_of}
use Rattle.vale_steps.specs.Granting.{given_by}
use Rattle.vale_port.specs.Seat.{given_frames}
use Rattle.nm_region.specs.Regions.{AreOf}
use Rattle.vale_steps.specs.Offering.{OffersState, OffersStand}
use Rattle.vale_own.specs.Recorded.{Recorded, standing, after_ask, entry_of}
use Rattle.vale_book.specs.Leases.{StandOf, IsLeaseBy, IsHeldBy, IsHeldFor, is_grant_to, is_held_as}
use Rattle.vale_book.proofs.Said.{Steps, stored}
use Rattle.vale_book.proofs.OffersHeld.{Next, next-of, granted-at, granter}
use Rattle.vale_book.proofs.Placed.{get-last}

abbrev Below : ℕ → HeldLot → Type 0
Below count held = held.0.number ≤ count

-- no lease bears a number that is still to come
none-yet : (n count : ℕ) (held : List HeldLot) → count < n → Each (Below count) held → find (is_held_as n) held ≡ None
none-yet n count [] up all = refl
none-yet n count (z ∷ zs) up all = by (is_held_as n z) refl (none-yet n count zs up all.1)
  where
    by : (b : Bool) → is_held_as n z ≡ b → find (is_held_as n) zs ≡ None → cond b (Some z) (find (is_held_as n) zs) ≡ None
    by true t rest = let same = eqb-true z.0.number n (and_parts (z.0.number == n) (not z.0.is_done) t).0 in let low = all.0 in absurd (omega (arith, same, low, up))
    by false t rest = rest

leases-below : (session count : ℕ) (ports : List Port) (helds : List PortBuffers) → Each (HasLotsUpTo count) ports → Each (Below count) (flat_map (leases_at session) (zip ports helds))
leases-below session count [] helds all = tt
leases-below session count (p ∷ ps) [] all = tt
leases-below session count (p ∷ ps) (h ∷ hs) all =
    each-append (Below count) (leases_at session (p, h)) (flat_map (leases_at session) (zip ps hs))
    (each-filter (Below count) (is_lease_of session) (zip p.line h.lots) (each-zip (IsGrantedBy count) p.line h.lots all.0))
    (leases-below session count ps hs all.1)

agrees-at : (ports : List Port) (helds : List PortBuffers) (k : ℕ) (p : Port) (h : PortBuffers) → PortsAgree ports helds → slice_get ports k ≡ Some p → slice_get helds k ≡ Some h → PortAgrees p h
agrees-at [] helds k p h a here held = absurd cc
agrees-at (q ∷ qs) [] k p h a here held = absurd a
agrees-at (q ∷ qs) (i ∷ is) zero p h a here held = let one : q ≡ p = cc in let two : i ≡ h = cc in subst (PortAgrees p) two (subst (λ (x : Port). PortAgrees x i) one a.0)
agrees-at (q ∷ qs) (i ∷ is) (suc k) p h a here held = agrees-at qs is k p h a.1 here held

-- the lease of some frames, behind others
last-found : (n session : ℕ) (before : List HeldLot) (frames : List Frame) (buffers : List ℕ) → find (is_held_as n) before ≡ None → 1 ≤ length frames
    → find (is_held_as n) (before ++ lease_of n session frames buffers) ≡ Some (record { number = n; session = session; frames = frames; is_done = false }, buffers)
last-found n session before [] buffers none some = absurd (omega (arith, some))
last-found n session before (f ∷ fs) buffers none some =
    let lot : Lot = record { number = n; session = session; frames = f ∷ fs; is_done = false } in
    find-append (is_held_as n) before ((lot, buffers) ∷ [])
    ∙ (ap (λ (o : Option HeldLot). option_or o (find (is_held_as n) ((lot, buffers) ∷ []))) none
    ∙ ap (λ (b : Bool). cond (b && true) (Some (lot, buffers)) None) (eq-eqb n n refl))

-- the lease is held, for the first frames of the offer
pub record IsGivenHeld (b after : Recorded) (o : OffersState) (lease : Leased) : Type 0 where
  pub is : IsHeldBy after o.session lease
  pub frames_are : (offer : Offer) → first_offer (standing b).world o.entry ≡ Some offer → is.held.0.frames ≡ take (count_of lease) offer.frames

pub given-held : {b after : Recorded} (o : OffersState) (to : PortId) (steps : Steps b (Grant o.entry to)) (lease : Leased) → IsLegal b.pool b.entries → after ≡ after_ask b (Grant o.entry to)
    → 1 ≤ length o.wants → OffersStand (standing b) o → IsLeaseBy b o.entry (length after.entries) lease → IsGivenHeld b after o lease
given-held {b} {after} o to steps lease legal grown some st gives =
    let s = standing b in
    let n : Next s.world o = next-of s o some st in
    let at = granted-at s to.0 (first_offer s.world o.entry) steps.makes steps.is in
    let one : at.0 ≡ n.offer = let e = sym at.1 ∙ n.first in cc in
    let whose : steps.makes.session ≡ o.session = granter s o to steps.makes some st steps.is in
    let e : Entry = entry_of (Grant o.entry to) steps.makes in
    let l = gives n.offer n.first in
    let k = history-stands b.pool b.entries legal in
    let count = count-world_of b.pool b.entries in
    let more : after.entries ≡ b.entries ++ e ∷ [] = ap (λ (r : Recorded). r.entries) (stored steps grown) in
    let long : length after.entries ≡ s.world.entry_count + 1 = let long = ap length more ∙ length-append b.entries (e ∷ []) in omega (arith, long, count) in
    let number : lease.id ≡ s.world.entry_count + 1 = l.is.id ∙ long in
    let place = place-of (is_open_at n.offer.to) s.world.ports l.seat.port l.is_open in
    let port : l.seat.port.id ≡ n.offer.to = eqb-true l.seat.port.id n.offer.to (and_parts (l.seat.port.id == n.offer.to) (not l.seat.port.shutting) place.passes).0 in
    let frames = given_frames n.offer l.seat in
    let given : granted_frames s.world n.offer ≡ frames = ap (λ (found : Option Port). given_at found n.offer.frames) l.is_open in
    let agrees = agrees-at s.world.ports s.holdings.ports l.at.place l.seat.port l.seat.held k.held.ports_agree l.at.port_here l.at.held_here in
    let idle : first_idle n.offer.to (size_of_frames frames) s.holdings.ports ≡ take (size_of_frames frames) l.seat.held.idle =
    ap (λ (id : ℕ). first_idle id (size_of_frames frames) s.holdings.ports) (sym (agrees.id ∙ port))
    ∙ first_idle-place (size_of_frames frames) s.holdings.ports s.world.entry_count l.at.place l.seat.held (helds-rise b.pool b.entries legal) l.at.held_here in
    let own = own_of o.session s in
    let leases : (own_of o.session (standing after)).leases ≡ own.leases ++ lease_of (s.world.entry_count + 1) n.offer.session frames (take (size_of_frames frames) l.seat.held.idle) =
    ap (λ (r : Recorded). (own_of o.session (standing r)).leases) (stored steps grown)
    ∙ (ap (λ (own : Own). own.leases) (subst (λ (session : ℕ). own_of session (standing_of b.pool (b.entries ++ e ∷ [])) ≡ own_after_entry s (Grant o.entry to) e.reply (own_of session s)) whose
    (own-entries b.pool b.entries e legal (ap (option_map session_and_reply) steps.is)))
    ∙ (ap (λ (found : Option Offer). (option_map_or (own_granted s own) found own).leases) n.first
    ∙ (ap (λ (fs : List Frame). own.leases ++ lease_of (s.world.entry_count + 1) n.offer.session fs (first_idle n.offer.to (size_of_frames fs) s.holdings.ports)) given
    ∙ ap (λ (bufs : List ℕ). own.leases ++ lease_of (s.world.entry_count + 1) n.offer.session frames bufs) idle))) in
    let lot : Lot = record { number = s.world.entry_count + 1; session = n.offer.session; frames = frames; is_done = false } in
    let up : s.world.entry_count < s.world.entry_count + 1 = omega arith in
    let none = none-yet (s.world.entry_count + 1) s.world.entry_count own.leases up (leases-below o.session s.world.entry_count s.world.ports s.holdings.ports k.numbered.lots_within) in
    let found = last-found (s.world.entry_count + 1) n.offer.session own.leases frames (take (size_of_frames frames) l.seat.held.idle) none l.is.some in
    let place_of : lease.id - 1 ≡ length b.entries = omega (arith, number, count) in
    let unfilled : length (contents lease) ≡ 0 = ap (λ (gots : List Got). length (frames_in gots)) l.is.filled in
    let as_many = ap length l.is.sizes ∙ length-map frames slots_of in
    let count_is : count_of lease ≡ length frames = omega (arith, unfilled, as_many) in
    record {
      is = record {
        held = (lot, take (size_of_frames frames) l.seat.held.idle);
        own = ap (λ (m : ℕ). find (is_held_as m) (own_of o.session (standing after)).leases) number ∙ (ap (find (is_held_as (s.world.entry_count + 1))) leases ∙ found);
        granted = ap (is_met (is_grant_to lease.to)) (ap (λ (h : List Entry). slice_get h (lease.id - 1)) more ∙ (ap (slice_get (b.entries ++ e ∷ [])) place_of ∙ get-last b.entries e))
            ∙ eq-eqb to.0 lease.to (sym at.3 ∙ (ap (λ (x : Offer). x.to) one ∙ (sym port ∙ sym l.is.to)));
        sizes = l.is.sizes;
        buffers = l.is.buffers;
        none = l.is.filled;
        slots = l.is.slots;
        region_is = subst (λ (r : Recorded). AreOf r.region lease.empty) (sym (stored steps grown)) l.region_is;
      };
      frames_are = λ offer first.
          let same : n.offer ≡ offer = let e = sym n.first ∙ first in cc in
          fitting-front (space_of l.seat.port) n.offer.frames
          ∙ (ap (λ (k : ℕ). take k n.offer.frames) (sym count_is) ∙ ap (λ (x : Offer). take (count_of lease) x.frames) same);
    }

-- the frames at the places of a want
wanted-next : (w : World) (origin : ℕ) (frames : List Frame) (want : Wanted) (wants : List Wanted) → slice_get wants 0 ≡ Some want → OffersAre w origin frames wants → IsNext w origin frames want
wanted-next w origin frames want [] e are = absurd cc
wanted-next w origin frames want (x ∷ xs) e are = let same : x ≡ want = cc in subst (IsNext w origin frames) same (first_next w origin frames x xs are)

abbrev bytes_in : Frame → List ℕ
bytes_in f = f.bytes

bytes-there : (frames : List Frame) (k : ℕ) (places : List ℕ) (offered : List Frame) → map (slice_get frames) places ≡ map Some offered
    → map (slice_get (bytes_of frames)) (take k places) ≡ map Some (bytes_of (take k offered))
bytes-there frames zero places offered e = refl
bytes-there frames (suc k) [] [] e = refl
bytes-there frames (suc k) [] (o ∷ os) e = absurd cc
bytes-there frames (suc k) (p ∷ ps) [] e = absurd cc
bytes-there frames (suc k) (p ∷ ps) (o ∷ os) e =
    let one : slice_get frames p ≡ Some o = cc in
    let rest : map (slice_get frames) ps ≡ map Some os = cc in
    let here : slice_get (bytes_of frames) p ≡ Some o.bytes = slice_get-map bytes_in frames p ∙ ap (option_map bytes_in) one in
    ap (λ (x : Option (List ℕ)). x ∷ map (slice_get (bytes_of frames)) (take k ps)) here
    ∙ ap (λ (xs : List (Option (List ℕ))). Some o.bytes ∷ xs) (bytes-there frames k ps os rest)

held-for : (b after : Recorded) (o : OffersState) (lease : Leased) (want : Wanted) (frames : List Frame) → IsGivenHeld b after o lease → slice_get o.wants 0 ≡ Some want → StandOf (standing b) o frames
    → IsHeldFor after o.session lease (bytes_of frames) (take (count_of lease) want.places)
held-for b after o lease want frames given first of =
    let are : OffersAre (standing b).world o.entry frames o.wants = subst (λ (fs : List Frame). OffersAre (standing b).world o.entry fs o.wants) of.frames_are of.stand.are in
    let n = wanted-next (standing b).world o.entry frames want o.wants first are in
    record {
      is = given.is;
      frames_are = bytes-there frames (count_of lease) want.places n.offer.frames n.is.places
          ∙ ap (λ (fs : List Frame). map Some (bytes_of fs)) (sym (given.frames_are n.offer n.first));
    }

pub held-frames : {b after : Recorded} (o : OffersState) (to : PortId) (steps : Steps b (Grant o.entry to)) (P : List Frame → Type 0) (r : Option Leased) (given : ℕ) (want : Wanted) → IsLegal b.pool b.entries
    → after ≡ after_ask b (Grant o.entry to) → 1 ≤ length o.wants → ((frames : List Frame) → P frames → StandOf (standing b) o frames) → OffersStand (standing b) o
    → slice_get o.wants 0 ≡ Some want → given ≡ given_by r → IfSome r (IsLeaseBy b o.entry (length after.entries))
    → IfSome r (λ (lease : Leased). (frames : List Frame) → P frames → IsHeldFor after o.session lease (bytes_of frames) (take given want.places))
held-frames {b} {after} o to steps P None given want legal grown some now st first is lease = tt
held-frames {b} {after} o to steps P (Some lease) given want legal grown some now st first is gives =
    λ frames p. subst (λ (k : ℕ). IsHeldFor after o.session lease (bytes_of frames) (take k want.places)) (sym is)
    (held-for b after o lease want frames (given-held o to steps lease legal grown some st gives) first (now frames p))
