-- Each entry of a legal history fits its fields: its numbers are those of entries, of buffers of
-- the pool, of counters, or such as an ask may bear.
use Rattle.std.specs.List.{AllByRecursion as Each, list_all}
use Rattle.std.proofs.Common.{ℕ, ◌+◌, ◌*◌, ◌^◌, ◌<◌, ◌≤◌, ◌≡◌, Bool, true, false, cond, not, ◌&&◌, ◌==◌, nat_lt, List, [], ◌∷◌, ◌++◌, find, length, flat_map, sum_by, Option, Some, None, subst, arith, length-append}
use Rattle.std.proofs.lemmas.Bool.{and_parts, leb-true, ltb-true, eqb-true, not-true}
use Rattle.std.proofs.lemmas.List.{length-map}
use Rattle.std.proofs.lemmas.List.Sums.{count_by-le-length, sum_by-cons}
use Rattle.nm_types.specs.Limits.{most_batch}
use Rattle.nm_types.specs.Frames.{Frame, slots_of}
use Rattle.nm_types.proofs.Sizes.{length-size}
use Rattle.nm_types.specs.Names.{is_monitor_name}
use Rattle.nm_types.specs.SyncFaults.{is_check_fault}
use Rattle.nm_types.specs.declared.fault.OpenFault.{OpenFault}
use Rattle.nm_types.specs.declared.fault.OpenFault.TheVariants.{BadSize, SwitchesFull, PortsFull, NameTaken, NoBuffers}
use Rattle.nm_types.specs.declared.fault.SyncFault.{SyncFault}
use Rattle.nm_types.specs.declared.fault.SyncFault.TheVariants as faults
use Rattle.nm_types.specs.declared.id.Counts.{Counts}
use Rattle.nm_types.specs.declared.id.PortId.{PortId}
use Rattle.vale_entry.specs.declared.entry.Ask.{Ask}
use Rattle.vale_entry.specs.declared.entry.Dest.{Dest}
use Rattle.vale_entry.specs.declared.entry.Item.{Item}
use Rattle.vale_entry.specs.declared.entry.Reply.{Reply}
use Rattle.vale_entry.specs.declared.entry.Reply.TheVariants.{Gave}
use Rattle.vale_entry.specs.declared.entry.Entry.{Entry}
use Rattle.vale_entry.specs.World.{World, Port, Offer, PortCounts, transmit_monitor, receive_monitor, Watch as Watcher, is_open_at, open_port, space_of, free_count, due_of, size_of_line}
use Rattle.vale_entry.specs.Learning.{is_short}
use Rattle.vale_entry.specs.Lookup.{is_lone}
use Rattle.vale_entry.specs.Offers.{offers_of, dest_of, dests_of, is_offer_of, wanted_frames, monitored_frames}
use Rattle.nm_types.specs.Openings.{finds_switches_full, finds_ports_full, finds_name_taken, open_refusal as names_refusal}
use Rattle.vale_entry.specs.Opening.{are_sizes, names_of, refusal_or_room, open_refusal}
use Rattle.vale_entry.specs.Grant.{grant_reply_at}
use Rattle.vale_entry.specs.Delivery.{is_lease, line_of, frames_of_lot, delivered_frames}
use Rattle.vale_entry.specs.Closing.{is_shutting_at, unread_count}
use Rattle.vale_entry.specs.Monitors.{is_open_as, is_watch_at}
use Rattle.vale_entry.specs.Pipe.{frame_of_item, indices_of, frames_of_items}
use Rattle.vale_entry.specs.Holdings.{SessionBuffers, contains, are_distinct, holds_all, buffers_of_session}
use Rattle.vale_entry.specs.Counters.{counts_of}
use Rattle.vale_entry.specs.Fits.{FitsU64, FitsItem, FitsEntry, u64_widths, DestFits, RefusalFits, FaultFits, ReplyFits, CountsFits}
use Rattle.vale_entry.specs.Legal.{Standing, standing_of, named_of, has_ring, fits_u32, fits_fault, unchanged, IsLegal, Follows}
use Rattle.vale_entry.specs.Laws.{IsThere, IsGrantedBy, IsLotOf, is_monitor_open, IsWatch, LegalHistoriesFit}
use Rattle.vale_entry.proofs.Each.{each-append, each-map, each-weaker, each-find, each-offered}
use Rattle.vale_entry.proofs.ListLaws.{place-of, each-at, sum-flat_map}
use Rattle.vale_entry.proofs.Counting.{contains-count}
use Rattle.vale_entry.proofs.Freeing.{held-bounds}
use Rattle.vale_entry.proofs.Holding.{at_session, times_held, Held}
use Rattle.vale_entry.proofs.Senders.{there-below}
use Rattle.vale_entry.proofs.Shares.{fitting-few}
use Rattle.vale_entry.proofs.Watched.{any-each}
use Rattle.vale_entry.proofs.Within.{IsPortWithin, found-within, ports-within, wanted-few, monitored-few, length-named, delivered-few, sent-few, kept-few, IsShortOffer, IsUnder, IsPortUnder, AreWithin, history-within}
use Rattle.vale_entry.proofs.Worlds.{count-world_of}
use Rattle.vale_entry.proofs.Told.{history-by}
use Rattle.vale_entry.proofs.HistoryLaws.{Stands, stands-own, pool-small}
use Rattle.vale_entry.proofs.Follows.{EachKind, Left, entry_made, IsQuiet, Receives, by_sync, by_get, refused_open, resets, finds_no_peer, finds_no_target, finds_watched, counts, follows-by}

-- Numbers of a refusal, of a fault and of a chain.

abbrev FitsRefused : Option OpenFault → Type 0
FitsRefused None = Unit {0}
FitsRefused (Some fault) = RefusalFits u64_widths fault

name-fits : (sizes switches ports name : Bool)
    → FitsRefused
    (cond (not sizes) (Some BadSize)
    (cond switches (Some SwitchesFull)
    (cond ports (Some PortsFull) (cond name (Some NameTaken) None))))
name-fits false switches ports name = tt
name-fits true true ports name = tt
name-fits true false true name = tt
name-fits true false false true = tt
name-fits true false false false = tt

room-fits :
    (refusal : Option OpenFault) (want have : ℕ) → FitsU64 want → FitsU64 have → FitsRefused refusal
    → FitsRefused (refusal_or_room refusal want have)
room-fits (Some fault) want have one two fits = fits
room-fits None want have one two fits = by_room (nat_lt have want)
  where
    by_room : (b : Bool) → FitsRefused (cond b (Some (NoBuffers want have)) None)
    by_room true = (one, two)
    by_room false = tt

small-fits : (n : ℕ) → fits_u32 n ≡ true → n < 4294967296
small-fits n e = ltb-true n 4294967296 e

small : (n : ℕ) → fits_u32 n ≡ true → FitsU64 n
small n e = let less = small-fits n e in omega (arith, less)

refusal-fits :
    (w : World) (name : List ℕ) (tx rx extra : ℕ) (fault : OpenFault)
    → open_refusal w name tx rx extra ≡ Some fault
    → fits_u32 tx ≡ true → fits_u32 rx ≡ true → fits_u32 extra ≡ true → w.pool < 4294967296
    → RefusalFits u64_widths fault
refusal-fits w name tx rx extra fault e one two three pool =
    let a = small-fits tx one in
    let b = small-fits rx two in
    let c = small-fits extra three in
    let have : free_count w ≤ w.pool = omega arith in
    let all : FitsRefused (open_refusal w name tx rx extra) = room-fits
    (names_refusal (names_of w.ports) name tx rx extra) (tx + rx + extra) (free_count w)
    (omega (arith, a, b, c)) (omega (arith, pool, have))
    (name-fits (are_sizes name tx rx extra) (finds_switches_full (names_of w.ports) name)
    (finds_ports_full (names_of w.ports) name) (finds_name_taken (names_of w.ports) name)) in
    subst FitsRefused e all

pair-fits : (a b : ℕ) → (fits_u32 a && fits_u32 b) ≡ true → FitsU64 a × FitsU64 b
pair-fits a b e =
    let parts = and_parts (fits_u32 a) (fits_u32 b) e in (small a parts.0, small b parts.1)

three-fit :
    (a b c : ℕ) → (fits_u32 a && (fits_u32 b && fits_u32 c)) ≡ true
    → FitsU64 a × FitsU64 b × FitsU64 c
three-fit a b c e =
    let parts = and_parts (fits_u32 a) (fits_u32 b && fits_u32 c) e in
    let rest = pair-fits b c parts.1 in
    (small a parts.0, rest.0, rest.1)

fault-fits : (fault : SyncFault) → fits_fault fault ≡ true → FaultFits u64_widths fault
fault-fits (faults.HeadOut head from to) e = three-fit head from to e
fault-fits (faults.CurOut cur from to) e = three-fit cur from to e
fault-fits (faults.Indirect slot) e = small slot e
fault-fits (faults.IndexOut slot idx) e = pair-fits slot idx e
fault-fits (faults.NotHeld slot idx) e = pair-fits slot idx e
fault-fits (faults.Doubled slot idx) e = pair-fits slot idx e
fault-fits (faults.Unannounced slot idx was) e = three-fit slot idx was e
fault-fits (faults.LongLen slot len) e =
    let parts = and_parts (fits_u32 slot) (nat_lt len (2 ^ 16)) e in
    let short = ltb-true len (2 ^ 16) parts.1 in
    (small slot parts.0, omega (arith, short))
fault-fits (faults.Fragment slot) e = small slot e
fault-fits _ e = tt

-- Buffers that a session holds.

held_by : (b session : ℕ) (held : SessionBuffers) (others : List SessionBuffers) (mine : Bool)
    → (contains b (buffers_of_session others session) ≡ true → 1 ≤ sum_by (at_session b) others)
    → contains b (cond mine held.buffers (buffers_of_session others session)) ≡ true
    → 1 ≤ sum_by (at_session b) (held ∷ others)
held_by b session held others true later e =
    let here = contains-count b held.buffers e in
    let sum = sum_by-cons (at_session b) held others in
    omega (arith, here, sum)
held_by b session held others false later e =
    let rest = later e in
    let sum = sum_by-cons (at_session b) held others in
    omega (arith, rest, sum)

held-some :
    (b session : ℕ) (helds : List SessionBuffers)
    → contains b (buffers_of_session helds session) ≡ true → 1 ≤ sum_by (at_session b) helds
held-some b session [] e = absurd cc
held-some b session (held ∷ others) e =
    held_by b session held others (held.session == session) (held-some b session others) e

buffer-fits :
    (s : Standing) (session b : ℕ) → Held s → s.world.pool < 4294967296
    → contains b (buffers_of_session s.holdings.sessions session) ≡ true → FitsU64 b
buffer-fits s session b held pool e =
    let some = held-some b session s.holdings.sessions e in
    let bounds =
    held-bounds s.world.pool b (times_held b s.holdings) (held.parted b) (omega (arith, some)) in
    let high = bounds.1 in
    omega (arith, high, pool)

all-fit : (s : Standing) (session : ℕ) (bs : List ℕ) → Held s → s.world.pool < 4294967296
    → list_all (λ b. contains b (buffers_of_session s.holdings.sessions session)) bs ≡ true
    → Each FitsU64 bs
all-fit s session [] held pool e = tt
all-fit s session (b ∷ bs) held pool e =
    let parts =
    and_parts (contains b (buffers_of_session s.holdings.sessions session))
    (list_all (λ b. contains b (buffers_of_session s.holdings.sessions session)) bs) e in
    (buffer-fits s session b held pool parts.0, all-fit s session bs held pool parts.1)

buffers-fit :
    (s : Standing) (session : ℕ) (bs : List ℕ) → Held s → s.world.pool < 4294967296
    → holds_all s.holdings session bs ≡ true → Each FitsU64 bs
buffers-fit s session bs held pool e =
    all-fit s session bs held pool
    (and_parts (list_all (λ b. contains b (buffers_of_session s.holdings.sessions session)) bs)
    (are_distinct bs) e).0

items-fit : (items : List Item) → Each FitsU64 (indices_of items) → Each FitsItem items
items-fit [] all = tt
items-fit (item ∷ items) all = (all.0, items-fit items all.1)

-- Destinations, lots and counters.

abbrev HasDest : Offer → Type 0
HasDest offer = DestFits u64_widths (dest_of offer)

each-flat :
    {X Y : Type 0} (P : Y → Type 0) (f : X → List Y) (xs : List X) → Each (λ x. Each P (f x)) xs
    → Each P (flat_map f xs)
each-flat P f [] all = tt
each-flat P f (x ∷ xs) all = each-append P (f x) (flat_map f xs) all.0 (each-flat P f xs all.1)

unread-few : (port : Port) → unread_count port ≤ size_of_line port.line
unread-few port =
    let each = length-size (flat_map frames_of_lot port.line) in
    let sum = sum-flat_map slots_of frames_of_lot port.line in
    omega (arith, each, sum)

counts_fit : (bound : ℕ) (c : Counts) → bound < 2 ^ 64 → IsUnder bound c → CountsFits u64_widths c
counts_fit bound c few k =
    let a =
    k.sent in let b = k.short in let d = k.lone in let e = k.given in let f = k.full in let g =
    k.read in (
      omega (arith, few, a),
      omega (arith, few, b),
      omega (arith, few, d),
      omega (arith, few, e),
      omega (arith, few, f),
      omega (arith, few, g),
    )

counters-fit :
    (bound id : ℕ) (cs : List PortCounts) → bound < 2 ^ 64 → Each (IsPortUnder bound) cs
    → CountsFits u64_widths (counts_of cs id)
counters-fit bound id [] few all =
    (omega arith, omega arith, omega arith, omega arith, omega arith, omega arith)
counters-fit bound id (c ∷ cs) few all = by_test (c.port == id) (counters-fit bound id cs few all.1)
  where
    by_test :
        (b : Bool) → CountsFits u64_widths (counts_of cs id)
        → CountsFits u64_widths (cond b c.counts (counts_of cs id))
    by_test true rest = counts_fit bound c.counts few all.0
    by_test false rest = rest

shared-fits :
    (found : Option Port) (frames : List Frame) → length frames < 4294967296
    → ReplyFits u64_widths (grant_reply_at found frames)
shared-fits None frames few = (omega arith, omega arith, omega (arith, few))
shared-fits (Some port) frames few =
    let fits = fitting-few (space_of port) frames in
    (omega (arith, few, fits), omega (arith, few), omega arith)

-- Each kind of entry.

abbrev Fitting : Entry → Standing → Type 0
Fitting e left = FitsEntry e

module _ (s : Standing) (stands : Stands s.world.pool s) (pool : s.world.pool < 4294967296)
    (few : s.world.entry_count + 1 < 4294967296) (within : AreWithin s.world) where
  abbrev w : World
  w = s.world

  id : (n : ℕ) → n ≤ w.entry_count → FitsU64 n
  id n under = omega (arith, under, few)

  port :
      (test : Port → Bool) (p : Port) → find test w.ports ≡ Some p
      → IsPortWithin w.entry_count w.pool p
  port test p e = found-within s test p stands.numbered stands.roomy e

  open-at :
      (at : PortId) (p : Port) → open_port w.ports at.0 ≡ Some p → FitsU64 p.session × FitsU64 at.0
  open-at at p e =
      let here = port (is_open_at at.0) p e in
      let place = place-of (is_open_at at.0) w.ports p e in
      let same : p.id ≡ at.0 =
      eqb-true p.id at.0 (and_parts (p.id == at.0) (not p.shutting) place.passes).0 in
      (id p.session here.session, subst FitsU64 same (id p.id here.id))

  session-fits : (session : ℕ) → IsThere w.sessions session → FitsU64 session
  session-fits session there =
      id session (there-below w.sessions w.entry_count session stands.numbered.sessions_rise there)

  made-fit :
      (session : ℕ) (wanted : Port → List Frame) → ((p : Port) → length (wanted p) < 4294967296)
      → Each (DestFits u64_widths) (dests_of (offers_of (w.entry_count + 1) session wanted w.ports))
  made-fit session wanted short =
      each-map HasDest (DestFits u64_widths) dest_of (λ offer here. here)
      (offers_of (w.entry_count + 1) session wanted w.ports)
      (each-offered HasDest (w.entry_count + 1) session wanted w.ports
      (each-weaker (λ (p : Port). p.id ≤ w.entry_count)
      (λ (p : Port). FitsU64 p.id × FitsU64 (length (wanted p)))
      (λ p under. let size = short p in (id p.id under, omega (arith, size))) w.ports
      (ports-within s stands.numbered)))

  watching :
      (watch : Watcher) (target : ℕ) → find (is_watch_at target) w.watches ≡ Some watch
      → FitsU64 watch.monitor
  watching watch target e =
      let here : IsWatch w.ports watch =
      each-find (IsWatch w.ports) (is_watch_at target) w.watches watch stands.watched.each e in
      let some =
      any-each (is_monitor_open watch.monitor) (λ (p : Port). p.id ≤ w.entry_count) w.ports
      (ports-within s stands.numbered) here.monitor in
      let opens =
      and_parts (is_open_at watch.monitor some.x) (is_monitor_name some.x.name) some.passes in
      let same : some.x.id ≡ watch.monitor =
      eqb-true some.x.id watch.monitor
      (and_parts (some.x.id == watch.monitor) (not some.x.shutting) opens.0).0 in
      subst FitsU64 same (id some.x.id some.holds)

  quiet :
      (ask : Ask) (session : ℕ) (reply : Reply) → IsQuiet s ask session reply
      → FitsEntry (entry_made ask (unchanged s session reply))
  quiet _ _ _ (refused_open session name tx rx extra fault can e) = (
    session-fits session.0 can.here,
    (small tx can.tx_fits, small rx can.rx_fits, small extra can.extra_fits),
    refusal-fits w name tx rx extra fault e can.tx_fits can.rx_fits can.extra_fits pool,
  )
  quiet _ _ _ (resets at side fault p e can) =
      let here = open-at at p e in
      let parts = and_parts (has_ring side p) (is_check_fault fault && fits_fault fault) can in (
        here.0,
        (here.1, fault-fits fault (and_parts (is_check_fault fault) (fits_fault fault) parts.1).1),
        tt,
      )
  quiet _ _ _ (finds_no_peer at offered p e less gone) =
      let here = open-at at p e in
      let bound = leb-true offered most_batch less in
      (here.0, (here.1, omega (arith, bound)), tt)
  quiet _ _ _ (finds_no_target at target sides p e can none) =
      let here = open-at at p e in (here.0, here.1, tt)
  quiet _ _ _ (finds_watched at target sides p found watch e can there some) =
      let here = open-at at p e in (here.0, here.1, watching watch found.id some)
  quiet _ _ _ (counts at p e) =
      let here = open-at at p e in (
        here.0,
        here.1,
        counters-fit (w.entry_count * 4294967296) p.id w.counts (omega (arith, few))
            within.counted,
      )

  received :
      (ask : Ask) (at : PortId) (back : List ℕ) (session count : ℕ) (to : List Dest)
      → Receives ask at back → FitsU64 session → FitsU64 at.0 → Each FitsU64 back → FitsU64 count
      → Each (DestFits u64_widths) to
      → FitsEntry (record { session = record { 0 = session }; ask = ask; reply = Gave count to })
  received _ _ _ session count to (by_sync at back) mine here buffers n dests =
      (mine, (here, buffers), (n, dests))
  received _ _ _ session count to (by_get at back) mine here buffers n dests =
      (mine, (here, buffers), (n, dests))

  kinds : EachKind s (Left s Fitting)
  kinds = record {
    enters = λ user fits. (omega (arith, few), ltb-true user 18446744073709551616 fits, tt);
    quiet = quiet;
    opens =
        λ session name tx rx extra can refusal. (
          session-fits session.0 can.here,
          (small tx can.tx_fits, small rx can.rx_fits, small extra can.extra_fits),
          tt,
        );
    sends = λ from frames p e can settled.
        let here = open-at from p e in
        let batch = sent-few w frames p can in
        let named = named_of w p frames in
        let count = length-named w.ports p w.pairs frames in
        let short = count_by-le-length is_short frames in
        let alone = count_by-le-length (is_lone w.ports p) named in (
          here.0,
          here.1,
          (
            omega (arith, batch, short),
            omega (arith, batch, count, alone),
            made-fit p.session (wanted_frames p (transmit_monitor w p.id) named)
                (λ q.
                let fewer = wanted-few p (transmit_monitor w p.id) named q in omega
                (arith, batch, count, fewer)),
          ),
        );
    grants = λ origin to offer first same.
        let mine = each-find IsShortOffer (is_offer_of origin) w.offers offer within.offers first in
        let goes =
        each-find (λ (o : Offer). o.to ≤ w.entry_count) (is_offer_of origin) w.offers offer
        stands.numbered.offers_to first in
        let from =
        each-find (λ (o : Offer). o.origin ≤ w.entry_count) (is_offer_of origin) w.offers offer
        stands.numbered.offers_within first in
        let owner =
        each-find (λ (o : Offer). IsThere w.sessions o.session) (is_offer_of origin) w.offers offer
        stands.numbered.offers_owned first in
        let is : offer.origin ≡ origin =
        eqb-true offer.origin origin (place-of (is_offer_of origin) w.offers offer first).passes in (
          session-fits offer.session owner,
          (subst FitsU64 is (id offer.origin from), subst FitsU64 same (id offer.to goes)),
          shared-fits (open_port w.ports offer.to) offer.frames mine,
        );
    completes = λ lease lot e.
        let place = place-of (is_lease lease.0) (flat_map line_of w.ports) lot e in
        let tests = and_parts (lot.number == lease.0) (not lot.is_done) place.passes in
        let number =
        each-at (IsGrantedBy w.entry_count) (flat_map line_of w.ports) place.place lot
        (each-flat (IsGrantedBy w.entry_count) line_of w.ports stands.numbered.lots_within)
        place.here in
        let owner =
        each-at (IsLotOf w.sessions) (flat_map line_of w.ports) place.place lot
        (each-flat (IsLotOf w.sessions) line_of w.ports stands.numbered.leases_owned) place.here in (
          session-fits lot.session (owner (not-true lot.is_done tests.1)),
          subst FitsU64
              (eqb-true lot.number lease.0 tests.0) (id lot.number number),
          tt,
        );
    receives = λ ask at back p receives e can.
        let here = open-at at p e in
        let line = (port (is_open_at at.0) p e).line in
        let less = delivered-few p in
        received ask at back p.session (length (delivered_frames p)) _ receives here.0 here.1
        (buffers-fit s p.session back stands.held pool can.held) (omega (arith, line, less, pool))
        (made-fit p.session (monitored_frames (receive_monitor w p.id) (delivered_frames p))
        (λ q.
        let fewer = monitored-few (receive_monitor w p.id) (delivered_frames p) q in omega
        (arith, line, less, fewer, pool)));
    puts = λ at offered items p peer e can found.
        let here = open-at at p e in
        let batch = leb-true offered most_batch can.few in
        let kept = kept-few s offered items p peer can found in
        let size = length-map items frame_of_item in (
          here.0,
          (here.1, omega (arith, batch)),
          (
            items-fit items (buffers-fit s p.session (indices_of items) stands.held pool can.held),
            made-fit p.session (monitored_frames (transmit_monitor w p.id) (frames_of_items items))
                (λ q.
                let fewer = monitored-few (transmit_monitor w p.id) (frames_of_items items) q in omega
                (arith, kept, size, fewer)),
          ),
        );
    watches = λ at target sides p found e can there none.
        let here = open-at at p e in
        (here.0, here.1, id found.id (port (is_open_as target) found there).id);
    shuts = λ at p e settled. let here = open-at at p e in (here.0, here.1, tt);
    finishes = λ at bufs chain p fits e can out.
        let here = port (is_shutting_at at.0) p e in
        let place = place-of (is_shutting_at at.0) w.ports p e in
        let same : p.id ≡ at.0 =
        eqb-true p.id at.0 (and_parts (p.id == at.0) p.shutting place.passes).0 in
        let parts = and_parts (length bufs == due_of p) (holds_all s.holdings p.session bufs) can in
        let found = pair-fits chain.found chain.astray fits in
        let less = unread-few p in
        let line = here.line in (
          id p.session here.session,
          (
            subst FitsU64 same (id p.id here.id),
            buffers-fit s p.session bufs stands.held pool parts.1,
            found.0,
            found.1,
          ),
          omega (arith, less, line, pool),
        );
    leaves = λ session can. (session-fits session.0 can.found, tt, tt);
  }

pub legal-fits : LegalHistoriesFit
legal-fits pool h legal small =
    history-by pool (λ (h : List Entry). length h < 2 ^ 32 → Each FitsEntry h) keeps (λ few. tt) h
    legal
  where
    keeps :
        (h : List Entry) (e : Entry) → IsLegal pool h → Follows (standing_of pool h) e
        → (length h < 2 ^ 32 → Each FitsEntry h) → length (h ++ e ∷ []) < 2 ^ 32
        → Each FitsEntry (h ++ e ∷ [])
    keeps h e legal follows k few =
        let s = standing_of pool h in
        let more = length-append h (e ∷ []) in
        let count = count-world_of pool h in
        each-append FitsEntry h (e ∷ []) (k (omega (arith, few, more))) (
          follows-by s Fitting e follows
              (kinds s (stands-own pool h legal) (pool-small pool h legal small) (omega (arith, few, more, count)) (history-within pool h legal small)),
          tt,
        )
