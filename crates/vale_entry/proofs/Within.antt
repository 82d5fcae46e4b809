-- What a legal history counts stays within bounds: an offer has no more frames than a batch or the
-- pool; each entry counts less than 2^32 at a port.
use Rattle.std.specs.List.{AllByRecursion as Each, list_all}
use Rattle.std.proofs.Common.{ℕ, ◌+◌, ◌-◌, ◌*◌, ◌^◌, ◌<◌, ◌≤◌, ◌≡◌, Bool, true, false, cond, not, ◌&&◌, ◌==◌, nat_le, List, [], ◌∷◌, ◌++◌, map, filter, find, length, min, sum_by, count_by, Option, Some, None, refl, sym, ◌∙◌, ap, subst, arith, slice_get, le_trans}
use Rattle.std.proofs.lemmas.Bool.{and_parts, leb-true}
use Rattle.std.proofs.lemmas.List.{length-map}
use Rattle.std.proofs.lemmas.List.Sums.{count_by-le-length}
use Rattle.nm_types.specs.Limits.{most_batch}
use Rattle.nm_types.specs.Frames.{Frame, size_of_frames}
use Rattle.nm_types.specs.Sendable.{is_sendable, fit_slots}
use Rattle.nm_types.specs.Names.{is_switch_port_name}
use Rattle.nm_types.specs.Counters.{zero_counts, sum_of_counts}
use Rattle.nm_types.specs.declared.id.Counts.{Counts}
use Rattle.nm_types.specs.declared.id.PortId.{PortId}
use Rattle.nm_types.proofs.Sizes.{length-size}
use Rattle.vale_entry.specs.declared.entry.Ask.{Ask}
use Rattle.vale_entry.specs.declared.entry.Ask.TheVariants.{Enter, Open, Send, Grant, Done, Shut, Finish, Leave, PutKept, Watch}
use Rattle.vale_entry.specs.declared.entry.Dest.{Dest}
use Rattle.vale_entry.specs.declared.entry.Item.{Item}
use Rattle.vale_entry.specs.declared.entry.Reply.{Reply}
use Rattle.vale_entry.specs.declared.entry.Reply.TheVariants.{Offered, Gave}
use Rattle.vale_entry.specs.declared.entry.Entry.{Entry}
use Rattle.vale_entry.specs.World.{World, Port, Pair, Offer, transmit_monitor, receive_monitor, PortCounts, is_settled, open_port, is_open_at, size_of_line, buffers_of, space_of}
use Rattle.vale_entry.specs.Learning.{is_short, learned}
use Rattle.vale_entry.specs.Lookup.{Named, named_frames, is_lone}
use Rattle.vale_entry.specs.Offers.{offers_of, dests_of, is_wanted_at, frame_of, wanted_frames, wanted_if, monitored_frames, is_monitor, is_offer_of}
use Rattle.vale_entry.specs.Grant.{grant_reply_at}
use Rattle.vale_entry.specs.Delivery.{delivered_frames}
use Rattle.vale_entry.specs.Pipe.{peer_of, taken_count, frame_of_item, frames_of_items, puts_to_port}
use Rattle.vale_entry.specs.Counters.{counts_if, count_sent, count_shared, count_gave_at, counted_in, with_counted}
use Rattle.vale_entry.specs.Legal.{Standing, Outcome, standing_of, world_of, named_of, can_send, offers_of_send, offers_of_sync, unchanged, enter_step, open_step_by, send_step, grant_step, done_step, sync_step, put_step, watch_step, shut_step, finish_step, leave_step, IsLegal, Follows}
use Rattle.vale_entry.specs.Laws.{id_of_port, IsThere, IsPortOf}
use Rattle.vale_entry.proofs.Each.{each-append, each-map, each-all, each-find, each-offered, each-without_first}
use Rattle.vale_entry.proofs.ListLaws.{place-of, each-at, sum-at}
use Rattle.vale_entry.proofs.Rising.{rise-within}
use Rattle.vale_entry.proofs.Removals.{each-filter}
use Rattle.vale_entry.proofs.Senders.{there-below}
use Rattle.vale_entry.proofs.Shares.{fitting-few}
use Rattle.vale_entry.proofs.Roomy.{HasRoom, Roomy, delivered-size}
use Rattle.vale_entry.proofs.Numbered.{Numbered}
use Rattle.vale_entry.proofs.Worlds.{standing-push}
use Rattle.vale_entry.proofs.Told.{history-by}
use Rattle.vale_entry.proofs.HistoryLaws.{Stands, stands-own, pool-small}
use Rattle.vale_entry.proofs.CountersKept.{moved-quiet, moved-read}
use Rattle.vale_entry.proofs.Follows.{EachKind, Left, entry_made, IsQuiet, Receives, by_sync, by_get, refused_open, resets, finds_no_peer, finds_no_target, finds_watched, counts, CanKeep, follows-by}

-- Ports.

-- a port's numbers, after so many entries and with a pool of so many buffers
pub record IsPortWithin (count pool : ℕ) (port : Port) : Type 0 where
  pub id : port.id ≤ count
  pub session : port.session ≤ count
  pub ring : port.rx ≤ pool
  pub line : size_of_line port.line ≤ pool

pub ports-within :
    (s : Standing) → Numbered s → Each (λ (p : Port). p.id ≤ s.world.entry_count) s.world.ports
ports-within s n = rise-within id_of_port 0 s.world.ports s.world.entry_count n.ports_rise

pub port-within :
    (s : Standing) (i : ℕ) (port : Port) → Numbered s → Roomy s
    → slice_get s.world.ports i ≡ Some port
    → IsPortWithin s.world.entry_count s.world.pool port
port-within s i port n roomy e =
    let w = s.world in
    let owned : IsThere w.sessions port.session =
    each-at (IsPortOf w.sessions) w.ports i port n.ports_owned e in
    let room : HasRoom port = each-at HasRoom w.ports i port roomy.roomy e in
    let fits = room.fits in
    let whole : buffers_of port ≤ sum_by buffers_of w.ports = sum-at buffers_of w.ports i port e in
    let all = roomy.within in
    record {
      id = each-at (λ (p : Port). p.id ≤ w.entry_count) w.ports i port (ports-within s n) e;
      session = there-below w.sessions w.entry_count port.session n.sessions_rise owned;
      ring = omega (arith, whole, all);
      line = omega (arith, fits, whole, all);
    }

pub found-within :
    (s : Standing) (test : Port → Bool) (port : Port) → Numbered s → Roomy s
    → find test s.world.ports ≡ Some port
    → IsPortWithin s.world.entry_count s.world.pool port
found-within s test port n roomy e =
    let p = place-of test s.world.ports port e in
    port-within s p.place port n roomy p.here

-- Frames.

length-filter : {X : Type 0} (test : X → Bool) (xs : List X) → length (filter test xs) ≤ length xs
length-filter test [] = omega arith
length-filter test (x ∷ xs) = by_test (test x) (length-filter test xs)
  where
    by_test :
        (b : Bool) → length (filter test xs) ≤ length xs
        → length (cond b (x ∷ filter test xs) (filter test xs)) ≤ length (x ∷ xs)
    by_test true rest = omega (arith, rest)
    by_test false rest = omega (arith, rest)

pub length-named : (ports : List Port) (sender : Port) (pairs : List Pair) (frames : List Frame)
    → length (named_frames ports sender pairs frames) ≡ length frames
length-named ports sender pairs [] = refl
length-named ports sender pairs (frame ∷ frames) =
    let rest = length-named ports sender (learned sender pairs frame) frames in omega (arith, rest)

pub wanted-few :
    (sender : Port) (monitor : Option ℕ) (named : List Named) (port : Port)
    → length (wanted_frames sender monitor named port) ≤ length named
wanted-few sender monitor named port =
    let size = length-map (filter (is_wanted_at sender monitor port) named) frame_of in
    let few = length-filter (is_wanted_at sender monitor port) named in
    omega (arith, size, few)

pub monitored-few :
    (monitor : Option ℕ) (frames : List Frame) (port : Port)
    → length (monitored_frames monitor frames port) ≤ length frames
monitored-few monitor frames port = by_test (is_monitor monitor port)
  where
    by_test : (b : Bool) → length (wanted_if b frames) ≤ length frames
    by_test true = omega arith
    by_test false = omega arith

pub delivered-few : (port : Port) → length (delivered_frames port) ≤ size_of_line port.line
delivered-few port =
    let sizes = delivered-size port in
    let each = length-size (delivered_frames port) in
    omega (arith, sizes, each)

pub sent-few :
    (w : World) (frames : List Frame) (port : Port) → can_send w frames port ≡ true
    → length frames ≤ most_batch
sent-few w frames port can =
    let named =
    and_parts (is_switch_port_name port.name) (is_settled w port.session && is_sendable frames) can
    in
    let settled = and_parts (is_settled w port.session) (is_sendable frames) named.1 in
    leb-true (length frames) most_batch
    (and_parts (nat_le (length frames) most_batch)
    (fit_slots most_batch frames) settled.1).0

pub kept-few :
    (s : Standing) (offered : ℕ) (items : List Item) (port peer : Port)
    → CanKeep s offered items port
    → peer_of s.world.ports port ≡ Some peer → length items ≤ most_batch
kept-few s offered items port peer can found =
    let taken : length items ≡ min offered (space_of peer) =
    can.taken ∙ ap (λ (o : Option Port). taken_count o offered) found in
    let few = leb-true offered most_batch can.few in
    omega (arith, taken, few)

-- Offers.

abbrev pub IsShortOffer : Offer → Type 0
IsShortOffer offer = length offer.frames < 4294967296

pub offers-short :
    (origin session : ℕ) (wanted : Port → List Frame) (ports : List Port)
    → ((p : Port) → length (wanted p) < 4294967296)
    → Each IsShortOffer (offers_of origin session wanted ports)
offers-short origin session wanted ports few =
    each-offered IsShortOffer origin session wanted ports (each-all _ few ports)

-- Counters.

pub record IsUnder (bound : ℕ) (c : Counts) : Type 0 where
  pub sent : c.sent ≤ bound
  pub short : c.short ≤ bound
  pub lone : c.lone ≤ bound
  pub given : c.given ≤ bound
  pub full : c.full ≤ bound
  pub read : c.read ≤ bound

under-zero : (bound : ℕ) → IsUnder bound zero_counts
under-zero bound =
    let low : 0 ≤ bound = omega arith in
    record { sent = low; short = low; lone = low; given = low; full = low; read = low }

under-sum :
    (one two : ℕ) (c more : Counts) → IsUnder one c → IsUnder two more
    → IsUnder (one + two) (sum_of_counts c more)
under-sum one two c more a b =
    record {
      sent = omega (arith, a.sent, b.sent);
      short = omega (arith, a.short, b.short);
      lone = omega (arith, a.lone, b.lone);
      given = omega (arith, a.given, b.given);
      full = omega (arith, a.full, b.full);
      read = omega (arith, a.read, b.read);
    }

under-if : (bound : ℕ) (b : Bool) (c : Counts) → IsUnder bound c → IsUnder bound (counts_if b c)
under-if bound true c k = k
under-if bound false c k = under-zero bound

-- one entry counts less than 2^32 at a port
abbrev IsCountedWithin : World → Entry → Type 0
IsCountedWithin w e = (port : ℕ) → IsUnder 4294967295 (counted_in port w e)

shared-under :
    (found : Option Port) (frames : List Frame) → length frames < 4294967296
    → IsUnder 4294967295 (count_shared (grant_reply_at found frames))
shared-under None frames few = under-zero 4294967295
shared-under (Some port) frames few =
    let fits = fitting-few (space_of port) frames in
    record {
      sent = omega arith;
      short = omega arith;
      lone = omega arith;
      given = omega (arith, fits, few);
      full = omega (arith, few);
      read = omega arith;
    }

under-sent : (n : ℕ) → n ≤ most_batch → IsUnder most_batch (record zero_counts { sent = n })
under-sent n few = record {
  sent = few;
  short = omega arith;
  lone = omega arith;
  given = omega arith;
  full = omega arith;
  read = omega arith;
}

under-given : (n : ℕ) → n ≤ most_batch → IsUnder (2 ^ 32 - 1 - most_batch) (record zero_counts { given = n })
under-given n few = record {
  sent = omega arith;
  short = omega arith;
  lone = omega arith;
  given = omega (arith, few);
  full = omega arith;
  read = omega arith;
}

put-under : (n : ℕ) (one two : Bool) → n ≤ most_batch
    → IsUnder 4294967295
    (sum_of_counts (counts_if one (record zero_counts { sent = n }))
    (counts_if two (record zero_counts { given = n })))
put-under n one two few =
    under-sum most_batch (2 ^ 32 - 1 - most_batch) _ _
    (under-if most_batch one (record zero_counts { sent = n }) (under-sent n few))
    (under-if (2 ^ 32 - 1 - most_batch) two (record zero_counts { given = n }) (under-given n few))

sent-under : (frames : List Frame) (lone : ℕ) (to : List Dest) → length frames ≤ most_batch → lone ≤ most_batch
    → IsUnder 4294967295 (count_sent frames (Offered (count_by is_short frames) lone to))
sent-under frames lone to few alone =
    let short = count_by-le-length is_short frames in
    record {
      sent = omega (arith, few);
      short = omega (arith, few, short);
      lone = omega (arith, alone);
      given = omega arith;
      full = omega arith;
      read = omega arith;
    }

gave-under :
    (n pool : ℕ) (to : List Dest) → n ≤ pool → pool < 4294967296
    → IsUnder 4294967295 (count_gave_at (Gave n to))
gave-under n pool to few small =
    record {
      sent = omega arith;
      short = omega arith;
      lone = omega arith;
      given = omega arith;
      full = omega arith;
      read = omega (arith, few, small);
    }

nothing-under :
    (w : World) (ask : Ask) (session : ℕ) (reply : Reply) (s : Standing)
    → IsQuiet s ask session reply → IsCountedWithin w (entry_made ask (unchanged s session reply))
nothing-under w _ _ _ s (refused_open session name tx rx extra fault can e) port =
    under-zero 4294967295
nothing-under w _ _ _ s (resets at side fault found can e) port = under-zero 4294967295
nothing-under w _ _ _ s (finds_no_peer at offered found e few gone) port =
    under-sum 0 4294967295 _ _ (under-if 0 (at.0 == port) zero_counts (under-zero 0))
    (under-if 4294967295 (puts_to_port w.ports at.0 port) zero_counts (under-zero 4294967295))
nothing-under w _ _ _ s (finds_no_target at target sides found can e none) port =
    under-zero 4294967295
nothing-under w _ _ _ s (finds_watched at target sides found target_port watch e can there some)
    port =
    under-zero 4294967295
nothing-under w _ _ _ s (counts at found e) port = under-zero 4294967295

read-under :
    (w : World) (ask : Ask) (at : PortId) (back : List ℕ) (made : Outcome) → Receives ask at back
    → IsUnder 4294967295 (count_gave_at made.reply)
    → IsCountedWithin w (entry_made ask made)
read-under w _ _ _ made (by_sync at back) k port =
    under-if 4294967295 (at.0 == port) (count_gave_at made.reply) k
read-under w _ _ _ made (by_get at back) k port =
    under-if 4294967295 (at.0 == port) (count_gave_at made.reply) k

abbrev pub IsPortUnder : ℕ → PortCounts → Type 0
IsPortUnder bound counted = IsUnder bound counted.counts

counts-under :
    (w : World) (e : Entry) (cs : List PortCounts) → IsCountedWithin w e
    → Each (IsPortUnder (w.entry_count * 4294967296)) cs
    → Each (IsPortUnder ((w.entry_count + 1) * 4294967296)) (map (with_counted w e) cs)
counts-under w e cs k all =
    each-map (IsPortUnder (w.entry_count * 4294967296))
    (IsPortUnder ((w.entry_count + 1) * 4294967296)) (with_counted w e)
    (λ c here.
    wider (w.entry_count * 4294967296 + 4294967295) ((w.entry_count + 1) * 4294967296) _
    (omega arith)
    (under-sum (w.entry_count * 4294967296) 4294967295 c.counts (counted_in c.port w e) here
    (k c.port))) cs all
  where
    wider : (low high : ℕ) (c : Counts) → low ≤ high → IsUnder low c → IsUnder high c
    wider low high c more a =
        record {
          sent = le_trans a.sent more;
          short = le_trans a.short more;
          lone = le_trans a.lone more;
          given = le_trans a.given more;
          full = le_trans a.full more;
          read = le_trans a.read more;
        }

-- What every legal history keeps.

pub record AreWithin (w : World) : Type 0 where
  pub offers : Each IsShortOffer w.offers
  pub counted : Each (IsPortUnder (w.entry_count * 4294967296)) w.counts

abbrev Keeps : Entry → Standing → Type 0
Keeps e left = AreWithin left.world

module _ (s : Standing) (stands : Stands s.world.pool s) (small : s.world.pool < 4294967296)
    (k : AreWithin s.world) where
  abbrev w : World
  w = s.world

  abbrev more : ℕ
  more = (s.world.entry_count + 1) * 4294967296

  still :
      (e : Entry) → IsCountedWithin w e → Each (IsPortUnder more) (map (with_counted w e) w.counts)
  still e few = counts-under w e w.counts few k.counted

  -- an entry that only counts, and that leaves the offers
  only :
      (e : Entry) (cs : List PortCounts) → cs ≡ map (with_counted w e) w.counts
      → IsCountedWithin w e → (left : World)
      → left.entry_count ≡ w.entry_count + 1 → left.offers ≡ w.offers → left.counts ≡ cs
      → AreWithin left
  only e cs is few left count offers counted = record {
    offers = rw offers k.offers;
    counted = rw (count, counted, is) (still e few);
  }

  none : (e : Entry) → ((port : ℕ) → counted_in port w e ≡ zero_counts) → IsCountedWithin w e
  none e is port = rw (is port) (under-zero 4294967295)

  -- an entry that makes offers
  offering :
      (e : Entry) (cs : List PortCounts) → cs ≡ map (with_counted w e) w.counts
      → IsCountedWithin w e → (session : ℕ) (wanted : Port → List Frame)
      → ((p : Port) → length (wanted p) < 4294967296) → (left : World)
      → left.entry_count ≡ w.entry_count + 1
      → left.offers ≡ w.offers ++ offers_of (w.entry_count + 1) session wanted w.ports
      → left.counts ≡ cs → AreWithin left
  offering e cs is counted session wanted few left count offers sums = record {
    offers =
        rw offers
        (each-append IsShortOffer w.offers (offers_of (w.entry_count + 1) session wanted w.ports)
        k.offers
        (offers-short (w.entry_count + 1) session wanted w.ports few));
    counted = rw (count, sums, is) (still e counted);
  }

  kinds : EachKind s (Left s Keeps)
  kinds = record {
    enters =
        λ user fits. only (entry_made (Enter user) (enter_step s)) _ refl
        (λ port. under-zero 4294967295) _ refl refl refl;
    quiet = λ ask session reply quiet.
        let e : Entry = entry_made ask (unchanged s session reply) in
        only e _
        (moved-quiet s (w.entry_count + 1) ask session reply (map (with_counted w e) w.counts) quiet)
        (nothing-under w ask session reply s quiet) _ refl refl refl;
    opens = λ session name tx rx extra can refusal.
        let e : Entry =
        entry_made (Open session name tx rx extra) (open_step_by None s session.0 name tx rx extra)
        in
        record {
          offers = k.offers;
          counted =
              each-append (IsPortUnder more) (map (with_counted w e) w.counts) _
              (still e (λ port. under-zero 4294967295)) (under-zero more, tt);
        };
    sends = λ from frames port e can settled.
        let few = sent-few w frames port can in
        let named = named_of w port frames in
        let count = length-named w.ports port w.pairs frames in
        let alone = count_by-le-length (is_lone w.ports port) named in
        let counted =
        sent-under frames (count_by (is_lone w.ports port) named)
        (dests_of (offers_of_send w port frames)) few (omega (arith, few, count, alone)) in
        offering (entry_made (Send from frames) (send_step s frames port)) _ refl
        (λ at. under-if 4294967295 (from.0 == at) _ counted) port.session
        (wanted_frames port (transmit_monitor w port.id) named)
        (λ p.
        let fewer = wanted-few port (transmit_monitor w port.id) named p in omega
        (arith, few, count, fewer)) _ refl refl refl;
    grants = λ origin to offer first same.
        let mine = each-find IsShortOffer (is_offer_of origin) w.offers offer k.offers first in
        let e : Entry = entry_made (Grant origin to) (grant_step s offer) in
        record {
          offers = each-without_first IsShortOffer offer.origin w.offers k.offers;
          counted =
              still e
              (λ port.
              under-if 4294967295 (to.0 == port) _
              (shared-under (open_port w.ports offer.to) offer.frames mine));
        };
    completes =
        λ lease lot e. only (entry_made (Done lease) (done_step s lease.0 lot)) _ refl
        (λ port. under-zero 4294967295) _ refl refl refl;
    receives = λ ask at back port receives e can.
        let made : Outcome = sync_step s back port in
        let x : Entry = entry_made ask made in
        let within = found-within s (is_open_at at.0) port stands.numbered stands.roomy e in
        let line = within.line in
        let few = delivered-few port in
        offering x _
        (moved-read (w.entry_count + 1) ask at back made.reply (map (with_counted w x) w.counts)
        receives)
        (read-under w ask at back made receives
        (gave-under (length (delivered_frames port)) w.pool (dests_of (offers_of_sync w port))
        (omega (arith, line, few)) small)) port.session
        (monitored_frames (receive_monitor w port.id) (delivered_frames port))
        (λ p.
        let fewer = monitored-few (receive_monitor w port.id) (delivered_frames port) p in omega
        (arith, line, few, fewer, small)) _ refl refl refl;
    puts = λ at offered items port peer e can found.
        let few = kept-few s offered items port peer can found in
        let size = length-map items frame_of_item in
        offering (entry_made (PutKept at offered) (put_step s items port peer)) _ refl
        (λ p. put-under (length items) (at.0 == p) (puts_to_port w.ports at.0 p) few) port.session
        (monitored_frames (transmit_monitor w port.id) (frames_of_items items))
        (λ p.
        let fewer = monitored-few (transmit_monitor w port.id) (frames_of_items items) p in omega
        (arith, few, size, fewer)) _ refl refl refl;
    watches =
        λ at target sides port found e can there missing.
        only (entry_made (Watch at target sides) (watch_step s sides port found)) _ refl
        (λ p. under-zero 4294967295) _ refl refl refl;
    shuts =
        λ at port e settled. only (entry_made (Shut at) (shut_step s port)) _ refl
        (λ p. under-zero 4294967295) _ refl refl refl;
    finishes = λ at bufs chain port fits e can out.
        let x : Entry = entry_made (Finish at bufs chain) (finish_step s bufs port) in
        record {
          offers = k.offers;
          counted =
              each-filter (IsPortUnder more) (λ (c : PortCounts). not (c.port == at.0))
              (map (with_counted w x) w.counts) (still x (λ p. under-zero 4294967295));
        };
    leaves =
        λ session can. only (entry_made (Leave session) (leave_step s session.0)) _ refl
        (λ p. under-zero 4294967295) _ refl refl refl;
  }

pub history-within :
    (pool : ℕ) (h : List Entry) → IsLegal pool h → pool < 4294967296 → AreWithin (world_of pool h)
history-within pool h legal small =
    history-by pool (λ (h : List Entry). AreWithin (world_of pool h)) keeps
    (record { offers = tt; counted = tt }) h legal
  where
    keeps :
        (h : List Entry) (e : Entry) → IsLegal pool h → Follows (standing_of pool h) e
        → AreWithin (world_of pool h) → AreWithin (world_of pool (h ++ e ∷ []))
    keeps h e legal follows k =
        let s = standing_of pool h in
        subst (λ (t : Standing). AreWithin t.world) (sym (standing-push pool h e))
        (follows-by s Keeps e follows (kinds s (stands-own pool h legal) (pool-small pool h legal small) k))
