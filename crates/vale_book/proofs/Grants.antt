-- A grant: what it makes of a book.
use Rattle.std.proofs.Common.{ℕ, Bool, true, false, not, cond, ◌≡◌, ◌≤◌, ◌+◌, ◌-◌, ◌==◌, List, All, [], ◌∷◌, ◌++◌, drop, length, map, filter, find, slice_get, slice_set, Option, Some, None, option_map, IfSome, IfNone, IsSome, refl, sym, ◌∙◌, ap, subst, arith}
use Rattle.std.specs.List.{AllByRecursion as Each}
use Rattle.std.proofs.lemmas.Bool.{eq-eqb, eqb-true, ne_eqb, and_parts}
use Rattle.std.proofs.lemmas.List.{append-nil, length-map, length-append}
use Rattle.std.proofs.lemmas.Grind.{flat_map-append}
use Rattle.nm_types.specs.Frames.{Frame, slots_of, size_of_frames}
use Rattle.nm_types.specs.declared.id.PortId.{PortId}
use Rattle.nm_types.specs.declared.id.SessionId.{SessionId}
use Rattle.nm_types.proofs.Lists.{each-front, each-back}
use Rattle.nm_pool.specs.Free.{PoolState}
use Rattle.nm_count.specs.declared.tally.Tallied.{Tallied}
use Rattle.nm_count.specs.Tallies.{counts_of, tally_after_add}
use Rattle.vale_batch.specs.Wants.{Wanted}
use Rattle.vale_line.specs.Fitting.{IsFrameSize}
use Rattle.vale_line.specs.Leased.{Leased, contents, buffer_count}
use Rattle.vale_line.specs.Lines.{leased, granted_sizes, with_lease, held_gots, leases_of, opened_lot, gots_of, HeldLot}
use Rattle.vale_line.specs.Gots.{buffers_of, frames_in}
use Rattle.vale_line.specs.declared.got.Got.{Got}
use Rattle.vale_lease.specs.Leases.{is_there}
use Rattle.vale_entry.specs.declared.entry.Ask.TheVariants.{Grant}
use Rattle.vale_entry.specs.declared.entry.Reply.{Reply}
use Rattle.vale_entry.specs.declared.entry.Reply.TheVariants.{Shared}
use Rattle.vale_entry.specs.declared.entry.Entry.{Entry}
use Rattle.vale_entry.specs.World.{World, Port, Offer, open_port, is_open_at, changed_at}
use Rattle.vale_entry.specs.Counters.{count_shared}
use Rattle.vale_entry.specs.Grant.{first_offer, without_first, granted_frames, room_back, given_at, grant_reply, grant_reply_at, port_after_grant}
use Rattle.vale_entry.specs.Holdings.{PortBuffers, with_lot_buffers, changed_buffers}
use Rattle.vale_entry.specs.Legal.{Standing, Follows, reply_of, session_and_reply, standing_of, standing_after, world_of, grant_step, step}
use Rattle.vale_entry.specs.Offers.{is_offer_of}
use Rattle.vale_entry.specs.Stored.{Stored}
use Rattle.vale_entry.specs.Laws.{HasLotsUpTo, IsFrom}
use Rattle.vale_entry.proofs.Each.{each-find, changed_at-same, each-drop, each-append, each-take}
use Rattle.vale_entry.proofs.HistoryLaws.{numbers-rise}
use Rattle.vale_entry.proofs.ListLaws.{place-of, each-at, each-set}
use Rattle.vale_entry.proofs.Worlds.{count-world_of, standing-push}
use Rattle.vale_port.specs.Laws.{with_line}
use Rattle.vale_port.specs.Lists.{ArePortsOf, ChangesSeat, OfSeat, OfState, StandsAt}
use Rattle.vale_port.specs.Ports.{PortState, IsLeaseFor, sizes_of}
use Rattle.vale_port.specs.Seat.{Seat, seats_of, given_frames, seat_given}
use Rattle.vale_port.proofs.Lists.{new_is_new, seats-at}
use Rattle.vale_port.proofs.SeatTies.{sizes_are_frame_sizes}
use Rattle.vale_book.proofs.WholeFrames.{offer-whole}
use Rattle.vale_port.proofs.Places.{seat_change_is_change}
use Rattle.vale_parts.specs.Offering.{OffersAre, offers_at}
use Rattle.vale_parts.specs.Parts.{Parts, ArePartsAfter}
use Rattle.vale_parts.proofs.AllParts.{tables_stay}
use Rattle.vale_parts.proofs.OffersKept.{first_next, offers_follow}
use Rattle.vale_parts.proofs.CountsKept.{nothing_added, open_counted}
use Rattle.vale_parts.proofs.Additions.{additions_fit}
use Rattle.vale_parts.specs.Adding.{FitsIn}
use Rattle.vale_book.specs.declared.book.Book.TheInside.{Inside}
use Rattle.nm_region.specs.Regions.{IsBufferOf, AreOf}
use Rattle.vale_book.specs.BookView.{recorded, parts_in, number_of_session, HasBuffersOf, IsBook}
use Rattle.vale_own.specs.Recorded.{Recorded, standing, entry_of}
use Rattle.vale_steps.specs.Granting.{given_by, grant_entry, lease_id}
use Rattle.vale_steps.specs.Offering.{OffersState, OffersStand, IsOfferBy, IsLeaseOf}
use Rattle.vale_book.proofs.Moves.{Moves, before, owed-room, entries-few}
use Rattle.vale_book.proofs.Standing.{IsHere, ports-rising}

-- ---- the offer that is next

found-among : (test : Offer → Bool) (P : Offer → Type 0) (offers : List Offer) (offer : Offer) → find test offers ≡ Some offer → Each P (filter test offers) → P offer
found-among test P [] offer e all = absurd cc
found-among test P (o ∷ os) offer e all = by_test (test o) (found-among test P os offer) e all
  where
    by_test : (b : Bool) → (find test os ≡ Some offer → Each P (filter test os) → P offer) → cond b (Some o) (find test os) ≡ Some offer → Each P (cond b (o ∷ filter test os) (filter test os)) → P offer
    by_test true later e all = let same : o ≡ offer = cc in subst P same all.0
    by_test false later e all = later e all

some-offers : (test : Offer → Bool) (offers : List Offer) (offer : Offer) → find test offers ≡ Some offer → 1 ≤ length offers
some-offers test [] offer e = absurd cc
some-offers test (o ∷ os) offer e = omega arith

origin-is : (origin : ℕ) (offers : List Offer) (offer : Offer) → find (is_offer_of origin) offers ≡ Some offer → offer.origin ≡ origin
origin-is origin offers offer e = let at = place-of (is_offer_of origin) offers offer e in eqb-true offer.origin origin at.passes

pub record IsGrant (b : Inside) (entry session : ℕ) (want : Wanted) : Type 0 where
  pub offer : Offer
  pub first : first_offer (before b).world entry ≡ Some offer
  pub to : want.to.0 ≡ offer.to
  pub sizes : want.sizes ≡ sizes_of offer.frames
  pub by : offer.session ≡ session
  pub origin : offer.origin ≡ entry
  pub promised : 2 ≤ b.history.promised
  pub step_is : step (before b) (Grant entry want.to) ≡ Some (grant_step (before b) offer)

pub next-grant : (b : Inside) (entry session : ℕ) (want : Wanted) (wants : List Wanted) (frames : List Frame) → IsBook b
    → OffersAre (before b).world entry frames (want ∷ wants) → Each (IsOfferBy session) (offers_at (before b).world entry)
    → IsGrant b entry session want
next-grant b entry session want wants frames k are by =
    let next = first_next (before b).world entry frames want wants are in
    let some = some-offers (is_offer_of entry) (before b).world.offers next.offer next.first in
    let owed = k.stands.promised_is in
    let same : (next.offer.to == want.to.0) ≡ true = eq-eqb next.offer.to want.to.0 (sym next.is.to) in
    record {
      offer = next.offer;
      first = next.first;
      to = next.is.to;
      sizes = next.is.sizes;
      by = found-among (is_offer_of entry) (IsOfferBy session) (before b).world.offers next.offer next.first by;
      origin = origin-is entry (before b).world.offers next.offer next.first;
      promised = omega (arith, some, owed);
      step_is = rw (next.first, same) refl;
    }

-- ---- lots of a number that is new

pub number-new : (b : Inside) (place : ℕ) (port : Port) (p : PortState) → IsBook b → StandsAt (before b).world.ports (before b).holdings.ports b.ports.items place port
    → slice_get b.ports.items place ≡ Some p → is_there (length b.history.entries + 1) (leases_of p.line.lots) ≡ false
number-new b place port p k at here =
    let same : at.state ≡ p = some-same (sym at.state_here ∙ here) in
    let within = numbers-rise b.pool.buffers b.history.entries in
    let lots = each-at (HasLotsUpTo (length b.history.entries)) (before b).world.ports place port within.lots_within at.here in
    subst (λ (q : PortState). is_there (length b.history.entries + 1) (leases_of q.line.lots) ≡ false) same
    (new_is_new (record { port = port; held = at.held }) at.state (length b.history.entries) (length b.history.entries + 1) at.is_seat lots (omega arith))
  where
    some-same : {A : Type 0} {x y : A} → Some x ≡ Some y → x ≡ y
    some-same e = cc

-- ---- a port with a lease more

held-leased : (lots : List HeldLot) (id count : ℕ) → held_gots (lots ++ opened_lot (lease_id id) count ∷ []) ≡ held_gots lots
held-leased lots id count = flat_map-append gots_of lots (opened_lot (lease_id id) count ∷ []) ∙ append-nil (held_gots lots)

leased-of : (region id count : ℕ) (p : PortState) → HasBuffersOf region p → HasBuffersOf region (with_line (with_lease (lease_id id) count p.line) p)
leased-of region id count p of =
    let own = IsBufferOf region in
    rw held-leased (each-append own (drop count p.line.idle) (buffers_of (held_gots p.line.lots))
    (each-drop own count p.line.idle (each-front own p.line.idle (buffers_of (held_gots p.line.lots)) of))
    (each-back own p.line.idle (buffers_of (held_gots p.line.lots)) of))

some-same : {A : Type 0} {x y : A} → Some x ≡ Some y → x ≡ y
some-same e = cc

pub lines-granted : (region id : ℕ) (lease : Option Leased) (ps next : List PortState) (place : ℕ) (p : PortState) → Each (HasBuffersOf region) ps → slice_get ps place ≡ Some p
    → IfSome lease (λ (l : Leased). OfState (λ (q : PortState). next ≡ slice_set ps place (with_line (with_lease (lease_id id) (buffer_count l) q.line) q)) ps place)
    → IfNone lease (next ≡ ps) → Each (HasBuffersOf region) next
lines-granted region id None ps next place p all here some none = subst (Each (HasBuffersOf region)) (sym none) all
lines-granted region id (Some l) ps next place p all here some none =
    subst (Each (HasBuffersOf region)) (sym (some p here))
    (each-set (HasBuffersOf region) ps place (with_line (with_lease (lease_id id) (buffer_count l) p.line) p) all (leased-of region id (buffer_count l) p (each-at (HasBuffersOf region) ps place p all here)))

-- ---- a grant at an open port

open-id : (ports : List Port) (id : ℕ) (port : Port) → open_port ports id ≡ Some port → port.id ≡ id
open-id ports id port e =
    let at = place-of (is_open_at id) ports port e in
    eqb-true port.id id (and_parts (port.id == id) (not port.shutting) at.passes).0

abbrev port_after_grant_by : ℕ → ℕ → List Frame → Port → Port
port_after_grant_by session number frames port = port_after_grant number session frames port

abbrev seat_of : Port → PortBuffers → Seat
seat_of port held = record { port = port; held = held }

-- what holds of the seat at a place
pub here-holds : (b : Inside) (P : Seat → Type 0) (place : ℕ) (port : Port) (k : IsBook b) (at : StandsAt (before b).world.ports (before b).holdings.ports b.ports.items place port)
    → OfSeat P b.ports.items place → P (seat_of port at.held)
here-holds b P place port k at of =
    let are = ports-rising b.pool.buffers b.history.entries b k.stands in
    of (seats_of (before b).world.ports (before b).holdings.ports) (seat_of port at.held) are.stand
    (seats-at (before b).world.ports (before b).holdings.ports place port at.held at.here at.held_here)

given-as : (lease : Option Leased) (number : ℕ) (offer : Offer) (seat : Seat)
    → IfSome lease (λ (l : Leased). IsLeaseFor number offer seat l) → IfNone lease (given_frames offer seat ≡ []) → given_by lease ≡ length (given_frames offer seat)
given-as None number offer seat some none = sym (ap (λ (fs : List Frame). length fs) none)
given-as (Some l) number offer seat some none =
    let filled : length (contents l) ≡ 0 = ap (λ (gots : List Got). length (frames_in gots)) some.filled in
    let sizes : length l.sizes ≡ length (given_frames offer seat) = ap (λ (ns : List ℕ). length ns) some.sizes ∙ length-map (given_frames offer seat) slots_of in
    omega (arith, filled, sizes)

-- what the call says of its lease
pub record LeaseTells (b : Inside) (want : List ℕ) (place : ℕ) (lease : Option Leased) (new : List PortState) : Type 0 where
  pub seats : (offer : Offer) → want ≡ sizes_of offer.frames → ChangesSeat (seat_given (length b.history.entries + 1) offer) b.ports.items place new
  pub some : IfSome lease (λ (l : Leased). (offer : Offer) → want ≡ sizes_of offer.frames → OfSeat (λ (seat : Seat). IsLeaseFor (length b.history.entries + 1) offer seat l) b.ports.items place)
  pub none : IfNone lease ((offer : Offer) → want ≡ sizes_of offer.frames → OfSeat (λ (seat : Seat). given_frames offer seat ≡ []) b.ports.items place)

if-some : {X : Type 0} (o : Option X) (P Q : X → Type 0) → ((x : X) → P x → Q x) → IfSome o P → IfSome o Q
if-some None P Q f p = tt
if-some (Some x) P Q f p = f x p

if-none : {X : Type 0} (o : Option X) (P Q : Type 0) → (P → Q) → IfNone o P → IfNone o Q
if-none None P Q f p = f p
if-none (Some x) P Q f p = tt

-- a grant that its port can take some of
pub record IsShared (b : Inside) (entry session : ℕ) (want : Wanted) (place : ℕ) (port : Port) (lease : Option Leased) (given full : ℕ) : Type 0 where
  pub grant : IsGrant b entry session want
  pub at : StandsAt (before b).world.ports (before b).holdings.ports b.ports.items place port
  pub found : open_port (before b).world.ports want.to.0 ≡ Some port
  pub given_is : given ≡ length (given_frames grant.offer (seat_of port at.held))
  pub full_is : given + full ≡ length grant.offer.frames

pub shared-by : (b : Inside) (entry session : ℕ) (want : Wanted) (place : ℕ) (port : Port) (lease : Option Leased) (given full : ℕ) (new : List PortState)
    → IsBook b → IsGrant b entry session want → IsHere b.pool.buffers b.history.entries b (λ (all : List Port). open_port all want.to.0) place port
    → LeaseTells b want.sizes place lease new → given ≡ given_by lease → given + full ≡ length want.sizes
    → IsShared b entry session want place port lease given full
shared-by b entry session want place port lease given full new k g here tells given_is full_is =
    let number = length b.history.entries + 1 in
    let seat = seat_of port here.at.held in
    let same = given-as lease number g.offer seat
    (if-some lease _ (λ (l : Leased). IsLeaseFor number g.offer seat l) (λ l all. here-holds b (λ (s : Seat). IsLeaseFor number g.offer s l) place port k here.at (all g.offer g.sizes)) tells.some)
    (if-none lease _ (given_frames g.offer seat ≡ []) (λ all. here-holds b (λ (s : Seat). given_frames g.offer s ≡ []) place port k here.at (all g.offer g.sizes)) tells.none) in
    record {
      grant = g;
      at = here.at;
      found = here.found;
      given_is = given_is ∙ same;
      full_is = full_is ∙ (ap (λ (ns : List ℕ). length ns) g.sizes ∙ length-map g.offer.frames slots_of);
    }

granted-is : (w : World) (offer : Offer) (to : ℕ) (port : Port) (held : PortBuffers) → to ≡ offer.to → open_port w.ports to ≡ Some port → granted_frames w offer ≡ given_frames offer (seat_of port held)
granted-is w offer to port held same found =
    let found' : open_port w.ports offer.to ≡ Some port = subst (λ (n : ℕ). open_port w.ports n ≡ Some port) same found in
    ap (λ (o : Option Port). given_at o offer.frames) found'

pub reply-shared : (b : Inside) (entry session : ℕ) (want : Wanted) (place : ℕ) (port : Port) (lease : Option Leased) (given full : ℕ) (s : IsShared b entry session want place port lease given full)
    → grant_reply (before b).world s.grant.offer ≡ Shared given full 0
reply-shared b entry session want place port lease given full s =
    let offer = s.grant.offer in
    let found : open_port (before b).world.ports offer.to ≡ Some port = subst (λ (n : ℕ). open_port (before b).world.ports n ≡ Some port) s.grant.to s.found in
    let given_is = s.given_is in
    let full_is = s.full_is in
    let rest : length offer.frames - length (given_frames offer (seat_of port s.at.held)) ≡ full = omega (arith, given_is, full_is) in
    ap (λ (o : Option Port). grant_reply_at o offer.frames) found ∙ (ap (λ (n : ℕ). Shared (length (given_frames offer (seat_of port s.at.held))) n 0) rest ∙ ap (λ (n : ℕ). Shared n full 0) (sym given_is))

back-counted : (frames : List Frame) (given : ℕ) → length frames ≡ given → room_back frames ≡ cond (given == 0) 1 0
back-counted [] given e = ap (λ (n : ℕ). cond (n == 0) 1 0) e
back-counted (frame ∷ frames) given e = sym (ap (λ (b : Bool). cond b 1 0) (ne_eqb given 0 (λ none. omega (arith, e, none))))

abbrev session_id : ℕ → SessionId
session_id n = record { 0 = n }

pub entry-granted : (b : Inside) (entry session : ℕ) (by : SessionId) (want : Wanted) (given full gone : ℕ) (g : IsGrant b entry session want)
    → by.0 ≡ session → grant_reply (before b).world g.offer ≡ Shared given full gone
    → grant_entry by entry want.to given full gone ≡ entry_of (Grant entry want.to) (grant_step (before b) g.offer)
entry-granted b entry session by want given full gone g whose reply =
    let id : by ≡ session_id g.offer.session = ap session_id (whose ∙ sym g.by) in
    ap (λ (i : SessionId). grant_entry i entry want.to given full gone) id
    ∙ ap (λ (r : Reply). let e : Entry = record { session = session_id g.offer.session; ask = Grant entry want.to; reply = r } in e) (sym reply)

parts-granted : (s : Standing) (entry : ℕ) (to : PortId) (reply : Reply) (parts : Parts) (tally : List Tallied) → tally ≡ tally_after_add to.0 (count_shared reply) parts.tally
    → ArePartsAfter s.world s.holdings (Grant entry to) reply parts (record parts { tally = tally })
parts-granted s entry to reply parts tally added = record {
  names_next = refl;
  tables_wanted = tt;
  tables_next = sym (tables_stay s.world (Grant entry to) parts.tables refl);
  watches_next = λ port. refl;
  tally_next = added;
  free_next = refl;
}

-- what is kept beside the record, the ports and the tally
pub record IsBeside (b next : Inside) : Type 0 where
  pub sessions : next.sessions.items ≡ b.sessions.items
  pub parts : parts_in next ≡ record (parts_in b) { tally = next.tally }
  pub region : next.region ≡ b.region
  pub buffers : next.buffers ≡ b.buffers
  pub pool : next.pool ≡ b.pool

pub give-moves : (b next : Inside) (entry session : ℕ) (by : SessionId) (want : Wanted) (place : ℕ) (port : Port) (lease : Option Leased) (given full : ℕ)
    → IsBook b → (s : IsShared b entry session want place port lease given full) → by.0 ≡ session → IsBeside b next
    → next.history.entries ≡ b.history.entries ++ grant_entry by entry want.to given full 0 ∷ [] → next.history.limits ≡ b.history.limits
    → next.history.promised + 1 + cond (given == 0) 1 0 ≡ b.history.promised
    → LeaseTells b want.sizes place lease next.ports.items
    → next.tally ≡ tally_after_add want.to.0 (count_shared (Shared given full 0)) b.tally
    → Each (HasBuffersOf b.region.region) next.ports.items
    → Moves b next (Grant entry want.to) (grant_step (before b) s.grant.offer)
give-moves b next entry session by want place port lease given full k s whose beside entries limits promised tells tally lines =
    let w = (before b).world in
    let x = (before b).holdings in
    let g = s.grant in
    let reply = reply-shared b entry session want place port lease given full s in
    let number = count-world_of b.pool.buffers b.history.entries in
    let frames = granted-is w g.offer want.to.0 port s.at.held g.to s.found in
    let id : port.id ≡ g.offer.to = open-id w.ports want.to.0 port s.found ∙ g.to in
    let back : room_back (granted_frames w g.offer) ≡ cond (given == 0) 1 0 = back-counted (granted_frames w g.offer) given (ap (λ (fs : List Frame). length fs) frames ∙ sym s.given_is) in
    let change : ℕ → List Frame → Port → Port = port_after_grant_by g.offer.session in
    let ports : ArePortsOf (changed_at port.id (change (length b.history.entries + 1) (given_frames g.offer (seat_of port s.at.held))) w.ports)
    (changed_buffers port.id (with_lot_buffers (size_of_frames (given_frames g.offer (seat_of port s.at.held)))) x.ports) next.ports.items =
    seat_change_is_change w.ports x.ports b.ports.items next.ports.items place port s.at.held (seat_given (length b.history.entries + 1) g.offer)
    (change (length b.history.entries + 1) (given_frames g.offer (seat_of port s.at.held))) (with_lot_buffers (size_of_frames (given_frames g.offer (seat_of port s.at.held))))
    (ports-rising b.pool.buffers b.history.entries b k.stands) s.at.here s.at.held_here (tells.seats g.offer g.sizes) refl in
    record {
      step_is = g.step_is;
      entries = entries ∙ ap (λ (e : Entry). b.history.entries ++ e ∷ []) (entry-granted b entry session by want given full 0 g whose reply);
      limits = limits;
      promised = omega (arith, promised, back);
      room = owed-room b (Grant entry want.to) (grant_step (before b) g.offer) k refl g.step_is;
      sessions = ap (map number_of_session) beside.sessions ∙ k.stands.sessions_are;
      ports =
          subst (λ (n : ℕ). ArePortsOf (changed_at g.offer.to (change (n + 1) (granted_frames w g.offer)) w.ports) (changed_buffers g.offer.to (with_lot_buffers (size_of_frames (granted_frames w g.offer))) x.ports) next.ports.items) (sym number)
          (subst (λ (fs : List Frame). ArePortsOf (changed_at g.offer.to (change (length b.history.entries + 1) fs) w.ports) (changed_buffers g.offer.to (with_lot_buffers (size_of_frames fs)) x.ports) next.ports.items) (sym frames)
          (subst (λ (n : ℕ). ArePortsOf (changed_at n (change (length b.history.entries + 1) (given_frames g.offer (seat_of port s.at.held))) w.ports) (changed_buffers n (with_lot_buffers (size_of_frames (given_frames g.offer (seat_of port s.at.held)))) x.ports) next.ports.items) id ports));
      parts = subst (ArePartsAfter w x (Grant entry want.to) (grant_reply w g.offer) (parts_in b)) (sym beside.parts)
          (parts-granted (before b) entry want.to (grant_reply w g.offer) (parts_in b) next.tally (tally ∙ ap (λ (r : Reply). tally_after_add want.to.0 (count_shared r) b.tally) (sym reply)));
      region = beside.region;
      buffers = beside.buffers;
      free_are = subst (λ (p : PoolState). AreOf b.region.region p.free) (sym beside.pool) k.free_are;
      lines_are = lines;
    }

-- ---- a grant where the port is not open

pub record IsLost (b : Inside) (entry session : ℕ) (want : Wanted) : Type 0 where
  pub grant : IsGrant b entry session want
  pub none : open_port (before b).world.ports want.to.0 ≡ None

held-same : (id : ℕ) (helds : List PortBuffers) → changed_buffers id (with_lot_buffers 0) helds ≡ helds
held-same id [] = refl
held-same id (held ∷ helds) = by_test (held.port == id) (held-same id helds)
  where
    by_test : (b : Bool) → changed_buffers id (with_lot_buffers 0) helds ≡ helds → cond b (with_lot_buffers 0 held) held ∷ changed_buffers id (with_lot_buffers 0) helds ≡ held ∷ helds
    by_test true later = ap (λ (hs : List PortBuffers). held ∷ hs) later
    by_test false later = ap (λ (hs : List PortBuffers). held ∷ hs) later

pub reply-lost : (b : Inside) (entry session : ℕ) (want : Wanted) (l : IsLost b entry session want) → grant_reply (before b).world l.grant.offer ≡ Shared 0 0 (length want.sizes)
reply-lost b entry session want l =
    let offer = l.grant.offer in
    let none : open_port (before b).world.ports offer.to ≡ None = subst (λ (n : ℕ). open_port (before b).world.ports n ≡ None) l.grant.to l.none in
    let count : length want.sizes ≡ length offer.frames = ap (λ (ns : List ℕ). length ns) l.grant.sizes ∙ length-map offer.frames slots_of in
    ap (λ (o : Option Port). grant_reply_at o offer.frames) none ∙ ap (λ (n : ℕ). Shared 0 0 n) (sym count)

pub lose-moves : (b next : Inside) (entry session : ℕ) (by : SessionId) (want : Wanted) → IsBook b → (l : IsLost b entry session want) → by.0 ≡ session → IsBeside b next
    → next.history.entries ≡ b.history.entries ++ grant_entry by entry want.to 0 0 (length want.sizes) ∷ [] → next.history.limits ≡ b.history.limits
    → next.history.promised + 2 ≡ b.history.promised → next.ports.items ≡ b.ports.items → next.tally ≡ b.tally
    → Moves b next (Grant entry want.to) (grant_step (before b) l.grant.offer)
lose-moves b next entry session by want k l whose beside entries limits promised ports tally =
    let w = (before b).world in
    let x = (before b).holdings in
    let g = l.grant in
    let reply = reply-lost b entry session want l in
    let none : open_port w.ports g.offer.to ≡ None = subst (λ (n : ℕ). open_port w.ports n ≡ None) g.to l.none in
    let frames : granted_frames w g.offer ≡ [] = ap (λ (o : Option Port). given_at o g.offer.frames) none in
    let back : room_back (granted_frames w g.offer) ≡ 1 = ap room_back frames in
    let same : changed_at g.offer.to (port_after_grant_by g.offer.session (w.entry_count + 1) []) w.ports ≡ w.ports =
    changed_at-same g.offer.to (port_after_grant_by g.offer.session (w.entry_count + 1) []) (λ port. refl) w.ports in
    let nothing : tally_after_add want.to.0 (count_shared (grant_reply w g.offer)) b.tally ≡ b.tally =
    ap (λ (r : Reply). tally_after_add want.to.0 (count_shared r) b.tally) reply ∙ nothing_added b.tally want.to.0 in
    record {
      step_is = g.step_is;
      entries = entries ∙ ap (λ (e : Entry). b.history.entries ++ e ∷ []) (entry-granted b entry session by want 0 0 (length want.sizes) g whose reply);
      limits = limits;
      promised = omega (arith, promised, back);
      room = owed-room b (Grant entry want.to) (grant_step (before b) g.offer) k refl g.step_is;
      sessions = ap (map number_of_session) beside.sessions ∙ k.stands.sessions_are;
      ports =
          subst (λ (fs : List Frame). ArePortsOf (changed_at g.offer.to (port_after_grant_by g.offer.session (w.entry_count + 1) fs) w.ports) (changed_buffers g.offer.to (with_lot_buffers (size_of_frames fs)) x.ports) next.ports.items) (sym frames)
          (rw (same, held-same g.offer.to x.ports, ports) k.stands.ports_are);
      parts = subst (ArePartsAfter w x (Grant entry want.to) (grant_reply w g.offer) (parts_in b)) (sym beside.parts)
          (parts-granted (before b) entry want.to (grant_reply w g.offer) (parts_in b) next.tally (tally ∙ sym nothing));
      region = beside.region;
      buffers = beside.buffers;
      free_are = subst (λ (p : PoolState). AreOf b.region.region p.free) (sym beside.pool) k.free_are;
      lines_are = subst (Each (HasBuffersOf b.region.region)) (sym ports) k.lines_are;
    }

-- ---- the call

-- what the step over the ports says of a grant at the place of an open port
pub record GiveTells (b : Inside) (by : SessionId) (entry : ℕ) (want : Wanted) (place given full : ℕ) (lease : Option Leased) (history : Stored) (ports : List PortState) : Type 0 where
  pub given_is : given ≡ given_by lease
  pub full_is : given + full ≡ length want.sizes
  pub entries : history.entries ≡ b.history.entries ++ grant_entry by entry want.to given full 0 ∷ []
  pub promised : history.promised + 1 + cond (given == 0) 1 0 ≡ b.history.promised
  pub limits : history.limits ≡ b.history.limits
  pub tells : LeaseTells b want.sizes place lease ports
  pub leases : IfSome lease (λ (l : Leased). OfState (λ (p : PortState). l ≡ leased (lease_id (length b.history.entries + 1)) p.id (granted_sizes want.sizes p.line) p.line) b.ports.items place)
  pub lots : IfSome lease (λ (l : Leased). OfState (λ (p : PortState). ports ≡ slice_set b.ports.items place (with_line (with_lease (lease_id (length b.history.entries + 1)) (buffer_count l) p.line) p)) b.ports.items place)
  pub kept : IfNone lease (ports ≡ b.ports.items)

-- what a grant makes of a book, and what it answers
pub record IsGranted (b next : Inside) (entry : ℕ) (to : PortId) (given full gone : ℕ) (lease : Option Leased) : Type 0 where
  pub offer : Offer
  pub first : first_offer (before b).world entry ≡ Some offer
  pub moves : Moves b next (Grant entry to) (grant_step (before b) offer)
  pub reply : grant_reply (before b).world offer ≡ Shared given full gone
  pub given_is : given ≡ given_by lease
  pub leases : IfSome lease (λ (l : Leased). IsLeaseOf (before b) b.region.region (length b.history.entries + 1) offer l)

lease-of : (b : Inside) (entry session : ℕ) (want : Wanted) (place : ℕ) (port : Port) (given full : ℕ) (l : Leased) → IsBook b
    → (s : IsShared b entry session want place port (Some l) given full)
    → ((offer : Offer) → want.sizes ≡ sizes_of offer.frames → OfSeat (λ (seat : Seat). IsLeaseFor (length b.history.entries + 1) offer seat l) b.ports.items place)
    → OfState (λ (p : PortState). l ≡ leased (lease_id (length b.history.entries + 1)) p.id (granted_sizes want.sizes p.line) p.line) b.ports.items place
    → IsLeaseOf (before b) b.region.region (length b.history.entries + 1) s.grant.offer l
lease-of b entry session want place port given full l k s for is =
    let offer = s.grant.offer in
    let p = s.at.state in
    let of = each-at (HasBuffersOf b.region.region) b.ports.items place p k.lines_are s.at.state_here in
    let own = IsBufferOf b.region.region in
    let same = is p s.at.state_here in
    record {
      seat = seat_of port s.at.held;
      at = record { place = place; port_here = s.at.here; held_here = s.at.held_here };
      is_open = subst (λ (n : ℕ). open_port (before b).world.ports n ≡ Some port) s.grant.to s.found;
      is = here-holds b (λ (seat : Seat). IsLeaseFor (length b.history.entries + 1) offer seat l) place port k s.at (for offer s.grant.sizes);
      region_is = subst (λ (x : Leased). AreOf b.region.region x.empty) (sym same)
          (each-take own _ p.line.idle (each-front own p.line.idle (buffers_of (held_gots p.line.lots)) of));
    }

leases-of : (b : Inside) (entry session : ℕ) (want : Wanted) (place : ℕ) (port : Port) (given full : ℕ) (lease : Option Leased) → IsBook b
    → (s : IsShared b entry session want place port lease given full)
    → IfSome lease (λ (l : Leased). (offer : Offer) → want.sizes ≡ sizes_of offer.frames → OfSeat (λ (seat : Seat). IsLeaseFor (length b.history.entries + 1) offer seat l) b.ports.items place)
    → IfSome lease (λ (l : Leased). OfState (λ (p : PortState). l ≡ leased (lease_id (length b.history.entries + 1)) p.id (granted_sizes want.sizes p.line) p.line) b.ports.items place)
    → IfSome lease (λ (l : Leased). IsLeaseOf (before b) b.region.region (length b.history.entries + 1) s.grant.offer l)
leases-of b entry session want place port given full None k s for is = tt
leases-of b entry session want place port given full (Some l) k s for is = lease-of b entry session want place port given full l k s for is

pub give-call : (b next : Inside) (by : SessionId) (entry : ℕ) (want : Wanted) (place : ℕ) (port : Port) (given full : ℕ) (lease : Option Leased) → IsBook b
    → IsGrant b entry by.0 want → IsHere b.pool.buffers b.history.entries b (λ (all : List Port). open_port all want.to.0) place port
    → GiveTells b by entry want place given full lease next.history next.ports.items → IsBeside b next
    → next.tally ≡ tally_after_add want.to.0 (count_shared (Shared given full 0)) b.tally
    → IsGranted b next entry want.to given full 0 lease
unfolding shared-by
give-call b next by entry want place port given full lease k g here t beside tally =
    let s = shared-by b entry by.0 want place port lease given full next.ports.items k g here t.tells t.given_is t.full_is in
    record {
      offer = g.offer;
      first = g.first;
      moves = give-moves b next entry by.0 by want place port lease given full k s refl beside t.entries t.limits t.promised t.tells tally
          (lines-granted b.region.region (length b.history.entries + 1) lease b.ports.items next.ports.items place here.at.state k.lines_are here.at.state_here t.lots t.kept);
      reply = reply-shared b entry by.0 want place port lease given full s;
      given_is = t.given_is;
      leases = leases-of b entry by.0 want place port given full lease k s t.tells.some t.leases;
    }

pub lose-call : (b next : Inside) (by : SessionId) (entry : ℕ) (want : Wanted) (lease : Option Leased) → IsBook b → (g : IsGrant b entry by.0 want)
    → open_port (before b).world.ports want.to.0 ≡ None → IfSome lease (λ (l : Leased). ⊥) → IsBeside b next
    → next.history.entries ≡ b.history.entries ++ grant_entry by entry want.to 0 0 (length want.sizes) ∷ [] → next.history.limits ≡ b.history.limits
    → next.history.promised + 2 ≡ b.history.promised → next.ports.items ≡ b.ports.items → next.tally ≡ b.tally
    → IsGranted b next entry want.to 0 0 (length want.sizes) lease
lose-call b next by entry want lease k g gone none beside entries limits promised ports tally =
    let l : IsLost b entry by.0 want = record { grant = g; none = gone } in
    record {
      offer = g.offer;
      first = g.first;
      moves = lose-moves b next entry by.0 by want k l refl beside entries limits promised ports tally;
      reply = reply-lost b entry by.0 want l;
      given_is = no-lease lease none;
      leases = no-leases _ lease none;
    }
  where
    no-lease : (lease : Option Leased) → IfSome lease (λ (l : Leased). ⊥) → 0 ≡ given_by lease
    no-lease None none = refl
    no-lease (Some l) none = absurd none

    no-leases : (P : Leased → Type 0) (lease : Option Leased) → IfSome lease (λ (l : Leased). ⊥) → IfSome lease P
    no-leases P None none = tt
    no-leases P (Some l) none = absurd none

abbrev with_want : Wanted → OffersState → OffersState
with_want want v = record v { wants = want ∷ v.wants }

-- the offers, as the call found them, and the want that it took out
-- what a grant knows of its offers once the next want is taken out
pub record Known : Type 0 where
  pub entry : ℕ
  pub session : SessionId
  pub rest : OffersState

abbrev pub known_seen : Known → OffersState
known_seen i = record i.rest { entry = i.entry; session = i.session.0 }

abbrev pub known : ℕ → SessionId → OffersState → Known
known entry session rest = record { entry = entry; session = session; rest = rest }

pub known-is : (entry : ℕ) (session : SessionId) (rest : OffersState) → entry ≡ rest.entry → session.0 ≡ rest.session → known_seen (known entry session rest) ≡ rest
known-is entry session rest one two = rw (one, two) refl

pub grant-by : (b : Inside) (r : Recorded) (o rest : OffersState) (i : Known) (want : Wanted) → IsBook b → recorded b ≡ r → OffersStand (standing r) o
    → o ≡ record rest { wants = want ∷ rest.wants } → known_seen i ≡ rest → IsGrant b i.entry i.session.0 want
grant-by b r o rest i want k view stand out seen =
    let now : OffersStand (before b) o = subst (λ (v : Recorded). OffersStand (standing v) o) (sym view) stand in
    let found : OffersState = record (known_seen i) { wants = want ∷ (known_seen i).wants } in
    let same : o ≡ found = out ∙ ap (λ (v : OffersState). with_want want v) (sym seen) in
    let all : OffersStand (before b) found = subst (OffersStand (before b)) same now in
    next-grant b i.entry i.session.0 want (known_seen i).wants all.frames k all.are all.by

pub entry-is : (o rest : OffersState) (i : Known) (want : Wanted) → o ≡ record rest { wants = want ∷ rest.wants } → known_seen i ≡ rest → o.entry ≡ i.entry
entry-is o rest i want out seen = ap (λ (v : OffersState). v.entry) out ∙ ap (λ (v : OffersState). v.entry) (sym seen)

-- ---- what the calls ask for

pub sizes-fit : (b : Inside) (entry session : ℕ) (want : Wanted) → IsBook b → IsGrant b entry session want → All IsFrameSize want.sizes
sizes-fit b entry session want k g =
    subst (All IsFrameSize) (sym g.sizes) (sizes_are_frame_sizes g.offer.frames (offer-whole b.pool.buffers b.history.entries entry g.offer k.stands.legal g.first))

pub counted-there : (b : Inside) (id : ℕ) (port : Port) → IsBook b → open_port (before b).world.ports id ≡ Some port → IsSome (counts_of b.tally id)
counted-there b id port k found = rw (open_counted b.pool.buffers b.history.entries b.tally id port k.stands.legal k.stands.parts_are.counts_are found) refl

-- an entry that follows what stands before it
abbrev pub granted_entry : SessionId → ℕ → PortId → ℕ → ℕ → Entry
granted_entry by entry to given full = grant_entry by entry to given full 0

pub counts-fit : (b : Inside) (by : SessionId) (entry : ℕ) (want : Wanted) (place : ℕ) (port : Port) (lease : Option Leased) (given full : ℕ) → IsBook b
    → (s : IsShared b entry by.0 want place port lease given full) → FitsIn b.tally want.to.0 (count_shared (Shared given full 0))
counts-fit b by entry want place port lease given full k s =
    let g = s.grant in
    let reply = reply-shared b entry by.0 want place port lease given full s in
    let follows : Follows (before b) (granted_entry by entry want.to given full) =
    subst (λ (e : Entry). Follows (before b) e) (sym (entry-granted b entry by.0 by want given full 0 g refl reply))
    (ap (option_map session_and_reply) g.step_is) in
    additions_fit b.pool.buffers b.history.entries (granted_entry by entry want.to given full) b.tally k.pool_fits.1 k.stands.legal follows (entries-few b k) k.stands.parts_are.counts_are

told_by : (s : Standing) (region entry count : ℕ) (offer : Offer) (lease : Option Leased) → first_offer s.world entry ≡ Some offer
    → IfSome lease (λ (l : Leased). IsLeaseOf s region count offer l)
    → IfSome lease (λ (l : Leased). (other : Offer) → first_offer s.world entry ≡ Some other → IsLeaseOf s region count other l)
told_by s region entry count offer None first is = tt
told_by s region entry count offer (Some l) first is = λ other same. subst (λ (o : Offer). IsLeaseOf s region count o l) (some-same (sym first ∙ same)) is

-- what the call answers of its lease
pub leases-told : (b next : Inside) (entry : ℕ) (to : PortId) (given full gone : ℕ) (lease : Option Leased) (made : IsGranted b next entry to given full gone lease)
    → IfSome lease (λ (l : Leased). (offer : Offer) → first_offer (before b).world entry ≡ Some offer → IsLeaseOf (before b) b.region.region (length (recorded next).entries) offer l)
leases-told b next entry to given full gone lease made =
    let count : length next.history.entries ≡ length b.history.entries + 1 = ap (λ (h : List Entry). length h) made.moves.entries ∙ length-append b.history.entries (entry_of (Grant entry to) (grant_step (before b) made.offer) ∷ []) in
    rw count (told_by (before b) b.region.region entry (length b.history.entries + 1) made.offer lease made.first made.leases)

pub reply-told : (b next : Inside) (entry : ℕ) (to : PortId) (given full gone : ℕ) (lease : Option Leased) (made : IsGranted b next entry to given full gone lease)
    → option_map reply_of (step (before b) (Grant entry to)) ≡ Some (Shared given full gone)
reply-told b next entry to given full gone lease made = ap (option_map reply_of) made.moves.step_is ∙ ap (λ (r : Reply). Some r) made.reply

-- the offers without the want that was taken out
pub offers-taken : (o rest : OffersState) (i : Known) (want : Wanted) → o ≡ record rest { wants = want ∷ rest.wants } → known_seen i ≡ rest
    → rest ≡ record { entry = i.entry; session = o.session; short = o.short; lone = o.lone; wants = drop 1 o.wants }
offers-taken o rest i want out seen = rw (out, ← seen) refl

-- ---- the offers that are left

less-is : (P : Offer → Type 0) (test : Offer → Bool) (granted : ℕ) (o : Offer) (os : List Offer) (first : Bool) → is_offer_of granted o ≡ first
    → Each P (cond first (filter test os) (cond (test o) (o ∷ filter test (without_first granted os)) (filter test (without_first granted os)))) → Each P (filter test (without_first granted (o ∷ os)))
less-is P test granted o os true is all = rw is all
less-is P test granted o os false is all = rw is all

less-by : (P : Offer → Type 0) (test : Offer → Bool) (granted : ℕ) (o : Offer) (os : List Offer) (first passes : Bool) → Each P (cond passes (o ∷ filter test os) (filter test os))
    → (Each P (filter test os) → Each P (filter test (without_first granted os)))
    → Each P (cond first (filter test os) (cond passes (o ∷ filter test (without_first granted os)) (filter test (without_first granted os))))
less-by P test granted o os true true all later = all.1
less-by P test granted o os true false all later = all
less-by P test granted o os false true all later = (all.0, later all.1)
less-by P test granted o os false false all later = later all

each-less : (P : Offer → Type 0) (test : Offer → Bool) (granted : ℕ) (offers : List Offer) → Each P (filter test offers) → Each P (filter test (without_first granted offers))
each-less P test granted [] all = tt
each-less P test granted (o ∷ os) all =
    less-is P test granted o os (is_offer_of granted o) refl (less-by P test granted o os (is_offer_of granted o) (test o) all (each-less P test granted os))

-- the offers without the one that was granted stand once it is
pub left-stand : (b next : Inside) (r : Recorded) (o rest : OffersState) (i : Known) (want : Wanted) (given full gone : ℕ) (lease : Option Leased) → IsBook b → recorded b ≡ r → OffersStand (standing r) o
    → o ≡ record rest { wants = want ∷ rest.wants } → known_seen i ≡ rest → IsGranted b next i.entry want.to given full gone lease → next.pool ≡ b.pool
    → OffersStand (standing (recorded next)) rest
left-stand b next r o rest i want given full gone lease k view stand out seen made pool =
    let n = b.pool.buffers in
    let h = b.history.entries in
    let w = (before b).world in
    let now : OffersStand (before b) o = subst (λ (v : Recorded). OffersStand (standing v) o) (sym view) stand in
    let found : OffersState = record (known_seen i) { wants = want ∷ (known_seen i).wants } in
    let all : OffersStand (before b) found = subst (OffersStand (before b)) (out ∙ ap (λ (v : OffersState). with_want want v) (sym seen)) now in
    let entry : Entry = entry_of (Grant i.entry want.to) (grant_step (before b) made.offer) in
    let follows : Follows (before b) entry = ap (option_map session_and_reply) made.moves.step_is in
    let origin : made.offer.origin ≡ i.entry = origin-is i.entry w.offers made.offer made.first in
    let within : made.offer.origin ≤ length h = each-find (IsFrom (length h)) (is_offer_of i.entry) w.offers made.offer (numbers-rise n h).offers_within made.first in
    let count = count-world_of n h in
    let are = offers_follow n h entry i.entry all.frames found.wants follows (omega (arith, origin, within, count)) all.are in
    let same : (i.entry == i.entry) ≡ true = eq-eqb i.entry i.entry refl in
    let left : OffersAre (world_of n (h ++ entry ∷ [])) i.entry all.frames (known_seen i).wants =
    subst (λ (t : Bool). OffersAre (world_of n (h ++ entry ∷ [])) i.entry all.frames (cond t (drop 1 found.wants) found.wants)) same are in
    let after : standing_of n (h ++ entry ∷ []) ≡ standing_after (before b) entry (Some (grant_step (before b) made.offer)) =
    standing-push n h entry ∙ ap (standing_after (before b) entry) made.moves.step_is in
    let by : Each (IsOfferBy i.session.0) (offers_at (world_of n (h ++ entry ∷ [])) i.entry) =
    subst (λ (s : Standing). Each (IsOfferBy i.session.0) (offers_at s.world i.entry)) (sym after)
    (each-less (IsOfferBy i.session.0) (is_offer_of i.entry) made.offer.origin w.offers all.by) in
    let size : next.pool.buffers ≡ n = ap (λ (p : PoolState). p.buffers) pool in
    let here : standing (recorded next) ≡ standing_of n (h ++ entry ∷ []) = rw (made.moves.entries, size) refl in
    let stands : OffersStand (standing_of n (h ++ entry ∷ [])) (known_seen i) = record { frames = all.frames; are = left; by = by } in
    subst (OffersStand (standing (recorded next))) seen (subst (λ (s : Standing). OffersStand s (known_seen i)) (sym here) stands)

-- the want that was taken out was the first
pub first-want : (o rest : OffersState) (want : Wanted) → o ≡ record rest { wants = want ∷ rest.wants } → slice_get o.wants 0 ≡ Some want
first-want o rest want out = ap (λ (v : OffersState). slice_get v.wants 0) out
