-- No sum of counters passes 2^64 - 1: an entry counts at most as many frames of a kind at a port as a pool has buffers.
use Rattle.std.proofs.Common.{ℕ, Bool, true, false, cond, not, min, ◌≡◌, ◌≤◌, ◌<◌, ◌+◌, ◌-◌, ◌*◌, List, [], ◌∷◌, ◌++◌, length, map, filter, count_by, Option, Some, None, refl, sym, ◌∙◌, ap, subst, arith, ◌==◌, ◌&&◌, nat_le}
use Rattle.std.specs.List.{AllByRecursion as Each, list_all, cons_option}
use Rattle.std.proofs.lemmas.Bool.{and_parts, leb-true}
use Rattle.std.proofs.lemmas.List.{length-map}
use Rattle.std.proofs.lemmas.List.Sums.{length-filter}
use Rattle.nm_types.specs.Limits.{most_batch, most_pool}
use Rattle.nm_types.specs.Frames.{Frame, slots_of, size_of_frames}
use Rattle.nm_types.specs.Names.{is_switch_port_name}
use Rattle.nm_types.proofs.Sizes.{length-size}
use Rattle.nm_types.specs.Sendable.{is_sendable, is_frame}
use Rattle.nm_types.specs.declared.id.PortId.{PortId}
use Rattle.nm_types.specs.declared.id.Counts.{Counts}
use Rattle.nm_types.specs.Counters.{zero_counts, sum_of_counts, SumFits}
use Rattle.vale_entry.specs.declared.entry.Ask.{Ask}
use Rattle.vale_entry.specs.declared.entry.Ask.TheVariants.{Enter, Open, Send, Grant, Done, Sync, Get, Reset, Shut, Finish, Leave, PutKept, Watch, Stat}
use Rattle.vale_entry.specs.declared.entry.Reply.{Reply}
use Rattle.vale_entry.specs.declared.entry.Reply.TheVariants.{Made, Refused, PeerGone, NoTarget, Watched, Counted}
use Rattle.vale_entry.specs.declared.entry.Item.{Item}
use Rattle.vale_entry.specs.declared.entry.Entry.{Entry}
use Rattle.vale_entry.specs.World.{World, Port, Pair, PortCounts, Offer, open_port, transmit_monitor, receive_monitor, is_settled, buffers_of, space_of}
use Rattle.vale_entry.specs.Learning.{is_short, learned}
use Rattle.vale_entry.specs.Lookup.{named_frames, is_lone}
use Rattle.vale_entry.specs.Offers.{offers_of, offer_to, is_monitor, is_wanted_at, wanted_frames, wanted_if, monitored_frames, frame_of}
use Rattle.vale_entry.specs.Grant.{longest_fitting, grant_reply_at, first_offer}
use Rattle.vale_entry.specs.Delivery.{delivered_frames}
use Rattle.vale_entry.specs.Pipe.{frame_of_item, frames_of_items, taken_count, peer_of, puts_to_port}
use Rattle.vale_entry.specs.Counters.{counts_if, with_counted, counted_in, count_sent, count_shared, count_gave_at}
use Rattle.vale_entry.specs.Counters.{counts_of as world_counts}
use Rattle.vale_entry.specs.Legal.{Standing, after, standing_of, world_of, Follows, IsLegal, unchanged, enter_step, open_step_by, send_step, grant_step, done_step, sync_step, put_step, watch_step, shut_step, finish_step, leave_step, can_send, named_of, recorded_step}
use Rattle.vale_entry.proofs.ListLaws.{each-at, sum-at}
use Rattle.vale_entry.proofs.Each.{each-map, each-append, each-find, each-weaker, each-without_first}
use Rattle.vale_entry.proofs.Removals.{each-filter}
use Rattle.vale_entry.proofs.Places.{open-place}
use Rattle.vale_entry.proofs.Worlds.{standing-push, count-world_of, count-standing_after}
use Rattle.vale_entry.proofs.Numbered.{Numbered}
use Rattle.vale_entry.proofs.Roomy.{HasRoom, Roomy, delivered-size}
use Rattle.vale_entry.proofs.Told.{history-by}
use Rattle.vale_entry.proofs.HistoryLaws.{history-stands}
use Rattle.vale_entry.proofs.Follows.{EachKind, Left, entry_made, CanKeep, IsQuiet, refused_open, resets, finds_no_peer, finds_no_target, finds_watched, counts, Receives, by_sync, by_get, follows-by}
use Rattle.vale_parts.specs.CountLaws.{FitsAt, SumsFit}

-- ---- bounds

record IsWithin (most : ℕ) (c : Counts) : Type 0 where
  sent : c.sent ≤ most
  short : c.short ≤ most
  lone : c.lone ≤ most
  given : c.given ≤ most
  full : c.full ≤ most
  read : c.read ≤ most

within_zero : (most : ℕ) → IsWithin most zero_counts
within_zero most = record { sent = omega arith; short = omega arith; lone = omega arith; given = omega arith; full = omega arith; read = omega arith }

within_sum : (a b : ℕ) (c d : Counts) → IsWithin a c → IsWithin b d → IsWithin (a + b) (sum_of_counts c d)
within_sum a b c d one two = record {
  sent = (let x = one.sent in let y = two.sent in omega (arith, x, y));
  short = (let x = one.short in let y = two.short in omega (arith, x, y));
  lone = (let x = one.lone in let y = two.lone in omega (arith, x, y));
  given = (let x = one.given in let y = two.given in omega (arith, x, y));
  full = (let x = one.full in let y = two.full in omega (arith, x, y));
  read = (let x = one.read in let y = two.read in omega (arith, x, y));
}

within_if : (most : ℕ) (b : Bool) (c : Counts) → IsWithin most c → IsWithin most (counts_if b c)
within_if most true c is = is
within_if most false c is = within_zero most

-- ---- lengths

length_filter : {X : Type 0} (test : X → Bool) (xs : List X) → length (filter test xs) ≤ length xs
length_filter test [] = omega arith
length_filter test (x ∷ xs) = by_test (test x) (length_filter test xs)
  where
    by_test : (b : Bool) → length (filter test xs) ≤ length xs → length (cond b (x ∷ filter test xs) (filter test xs)) ≤ length (x ∷ xs)
    by_test true rest = omega (arith, rest)
    by_test false rest = omega (arith, rest)

count_few : {X : Type 0} (test : X → Bool) (xs : List X) → count_by test xs ≤ length xs
count_few test xs = let same = length-filter test xs in let few = length_filter test xs in omega (arith, same, few)

length_named : (ports : List Port) (sender : Port) (pairs : List Pair) (frames : List Frame) → length (named_frames ports sender pairs frames) ≡ length frames
length_named ports sender pairs [] = refl
length_named ports sender pairs (f ∷ fs) = let rest = length_named ports sender (learned sender pairs f) fs in omega (arith, rest)

length_fitting : (room : ℕ) (frames : List Frame) → length (longest_fitting room frames) ≤ length frames
length_fitting room [] = omega arith
length_fitting room (f ∷ fs) = by_test (nat_le (slots_of f) room) (length_fitting (room - slots_of f) fs)
  where
    by_test : (b : Bool) → length (longest_fitting (room - slots_of f) fs) ≤ length fs → length (cond b (f ∷ longest_fitting (room - slots_of f) fs) []) ≤ length (f ∷ fs)
    by_test true rest = omega (arith, rest)
    by_test false rest = omega arith

-- ---- offers

abbrev IsFew : Offer → Type 0
IsFew offer = length offer.frames ≤ most_pool

few_by : (origin session to : ℕ) (frames : List Frame) (offers : List Offer) → length frames ≤ most_pool → Each IsFew offers → Each IsFew (cons_option (offer_to origin session to frames) offers)
few_by origin session to [] offers few all = all
few_by origin session to (f ∷ fs) offers few all = (few, all)

offers_few : (origin session : ℕ) (wanted : Port → List Frame) → ((port : Port) → length (wanted port) ≤ most_pool) → (ports : List Port) → Each IsFew (offers_of origin session wanted ports)
offers_few origin session wanted few [] = tt
offers_few origin session wanted few (p ∷ ps) = few_by origin session p.id (wanted p) (offers_of origin session wanted ps) (few p) (offers_few origin session wanted few ps)

monitored_few : (monitor : Option ℕ) (frames : List Frame) → length frames ≤ most_pool → (port : Port) → length (monitored_frames monitor frames port) ≤ most_pool
monitored_few monitor frames few port = by_test (is_monitor monitor port)
  where
    by_test : (b : Bool) → length (wanted_if b frames) ≤ most_pool
    by_test true = few
    by_test false = omega arith

-- ---- an entry

module _ (s : Standing) (n : Numbered s) (room : Roomy s) (low : s.world.pool ≤ most_pool) (few : Each IsFew s.world.offers) (within : Each (λ (c : PortCounts). IsWithin (most_pool * s.world.entry_count) c.counts) s.world.counts) where
  abbrev w : World
  w = s.world

  abbrev IsLow : PortCounts → Type 0
  IsLow counted = IsWithin (most_pool * (w.entry_count + 1)) counted.counts

  abbrev IsLittle : Entry → Type 0
  IsLittle e = (port : ℕ) → IsWithin most_pool (counted_in port w e)

  record Bounded (e : Entry) (left : Standing) : Type 0 where
    little : IsLittle e
    offers : Each IsFew left.world.offers
    counted : Each IsLow left.world.counts

  lows : (e : Entry) → IsLittle e → Each IsLow (map (with_counted w e) w.counts)
  lows e little =
      each-map (λ (c : PortCounts). IsWithin (most_pool * w.entry_count) c.counts) IsLow (with_counted w e)
      (λ c here. let sum : most_pool * w.entry_count + most_pool ≡ most_pool * (w.entry_count + 1) = omega arith in
      subst (λ (m : ℕ). IsWithin m (with_counted w e c).counts) sum (within_sum (most_pool * w.entry_count) most_pool c.counts (counted_in c.port w e) here (little c.port))) w.counts within

  nothing : (e : Entry) → ((port : ℕ) → counted_in port w e ≡ zero_counts) → IsLittle e
  nothing e none port = subst (IsWithin most_pool) (sym (none port)) (within_zero most_pool)

  -- frames that a sync gives lie in the port's ring
  delivered_few : (id : ℕ) (port : Port) → open_port w.ports id ≡ Some port → length (delivered_frames port) ≤ most_pool
  delivered_few id port e =
      let place = open-place w.ports w.entry_count id port n.ports_rise e in
      let roomy = (each-at HasRoom w.ports place.place port room.roomy place.here).fits in
      let own = sum-at buffers_of w.ports place.place port place.here in
      let all = room.within in
      let sizes = delivered-size port in
      let slots = length-size (delivered_frames port) in
      omega (arith, roomy, own, all, sizes, slots, low)

  sent_few : (frames : List Frame) (port : Port) → can_send w frames port ≡ true → length frames ≤ most_pool
  sent_few frames port can =
      let one = and_parts (is_switch_port_name port.name) (is_settled w port.session && is_sendable frames) can in
      let two = and_parts (is_settled w port.session) (is_sendable frames) one.1 in
      let three = and_parts (nat_le (length frames) most_batch) (nat_le (size_of_frames frames) most_batch && list_all is_frame frames) two.1 in
      let most = leb-true (length frames) most_batch three.0 in
      omega (arith, most)

  items_few : (offered : ℕ) (items : List Item) (port peer : Port) → CanKeep s offered items port → peer_of w.ports port ≡ Some peer → length items ≤ most_pool
  items_few offered items port peer can found =
      let taken : length items ≡ min offered (space_of peer) = can.taken ∙ ap (λ (o : Option Port). taken_count o offered) found in
      let most = leb-true offered most_batch can.few in
      omega (arith, taken, most)

  send_little : (from : PortId) (frames : List Frame) (port : Port) → length frames ≤ most_pool → IsLittle (entry_made (Send from frames) (send_step s frames port))
  send_little from frames port most at =
      let short = count_few is_short frames in
      let named = length_named w.ports port w.pairs frames in
      let lone = count_few (is_lone w.ports port) (named_of w port frames) in
      within_if most_pool (from.0 == at) (count_sent frames (send_step s frames port).reply) (record {
        sent = most;
        short = omega (arith, short, most);
        lone = omega (arith, lone, named, most);
        given = omega arith;
        full = omega arith;
        read = omega arith;
      })

  shared_little : (found : Option Port) (frames : List Frame) → length frames ≤ most_pool → IsWithin most_pool (count_shared (grant_reply_at found frames))
  shared_little None frames most = within_zero most_pool
  shared_little (Some port) frames most =
      let fitting = length_fitting (space_of port) frames in
      record { sent = omega arith; short = omega arith; lone = omega arith; given = omega (arith, fitting, most); full = omega (arith, most); read = omega arith }

  read_within : (count : ℕ) → count ≤ most_pool → IsWithin most_pool (record zero_counts { read = count })
  read_within count most = record { sent = omega arith; short = omega arith; lone = omega arith; given = omega arith; full = omega arith; read = most }

  put_within : (b c : Bool) (count : ℕ) → count ≤ most_pool → IsWithin most_pool (sum_of_counts (counts_if b (record zero_counts { sent = count })) (counts_if c (record zero_counts { given = count })))
  put_within true true count most = record { sent = omega (arith, most); short = omega arith; lone = omega arith; given = omega (arith, most); full = omega arith; read = omega arith }
  put_within true false count most = record { sent = omega (arith, most); short = omega arith; lone = omega arith; given = omega arith; full = omega arith; read = omega arith }
  put_within false true count most = record { sent = omega arith; short = omega arith; lone = omega arith; given = omega (arith, most); full = omega arith; read = omega arith }
  put_within false false count most = record { sent = omega arith; short = omega arith; lone = omega arith; given = omega arith; full = omega arith; read = omega arith }

  gone_within : (b c : Bool) → IsWithin most_pool (sum_of_counts (counts_if b zero_counts) (counts_if c zero_counts))
  gone_within true true = within_zero most_pool
  gone_within true false = within_zero most_pool
  gone_within false true = within_zero most_pool
  gone_within false false = within_zero most_pool

  still : (e : Entry) (offers : List Offer) → IsLittle e → Each IsFew offers → (left : Standing) → left.world.offers ≡ offers → left.world.counts ≡ map (with_counted w e) w.counts → Bounded e left
  still e offers little all left same counted = record {
    little = little;
    offers = subst (Each IsFew) (sym same) all;
    counted = subst (Each IsLow) (sym counted) (lows e little);
  }

  quiet : (ask : Ask) (session : ℕ) (reply : Reply) → IsQuiet s ask session reply → Left s Bounded ask (unchanged s session reply)
  quiet _ _ _ (refused_open session name tx rx extra fault can e) =
      let x = entry_made (Open session name tx rx extra) (unchanged s session.0 (Refused fault)) in still x w.offers (nothing x (λ p. refl)) few _ refl refl
  quiet _ _ _ (resets at side fault port e can) = let x = entry_made (Reset at side fault) (unchanged s port.session Made) in still x w.offers (nothing x (λ p. refl)) few _ refl refl
  quiet _ _ _ (finds_no_peer at offered port e few_offered gone) =
      let x = entry_made (PutKept at offered) (unchanged s port.session PeerGone) in still x w.offers (λ p. gone_within (at.0 == p) (puts_to_port w.ports at.0 p)) few _ refl refl
  quiet _ _ _ (finds_no_target at target sides port e can none) = let x = entry_made (Watch at target sides) (unchanged s port.session NoTarget) in still x w.offers (nothing x (λ p. refl)) few _ refl refl
  quiet _ _ _ (finds_watched at target sides port found watch e can there some) =
      let x = entry_made (Watch at target sides) (unchanged s port.session (Watched (record { 0 = watch.monitor }))) in still x w.offers (nothing x (λ p. refl)) few _ refl refl
  quiet _ _ _ (counts at port e) =
      let x = entry_made (Stat at) (unchanged s port.session (Counted (world_counts w.counts port.id))) in still x w.offers (nothing x (λ p. refl)) few _ refl refl

  more : (origin session : ℕ) (wanted : Port → List Frame) → ((port : Port) → length (wanted port) ≤ most_pool) → Each IsFew (w.offers ++ offers_of origin session wanted w.ports)
  more origin session wanted all = each-append IsFew w.offers (offers_of origin session wanted w.ports) few (offers_few origin session wanted all w.ports)

  wanted_few : (frames : List Frame) (port : Port) → length frames ≤ most_pool → (p : Port) → length (wanted_frames port (transmit_monitor w port.id) (named_of w port frames) p) ≤ most_pool
  wanted_few frames port most p =
      let kept = length_filter (is_wanted_at port (transmit_monitor w port.id) p) (named_of w port frames) in
      let mapped = length-map (filter (is_wanted_at port (transmit_monitor w port.id) p) (named_of w port frames)) frame_of in
      let named = length_named w.ports port w.pairs frames in
      omega (arith, kept, mapped, named, most)

  read : (ask : Ask) (at : PortId) (back : List ℕ) (port : Port) → Receives ask at back → length (delivered_frames port) ≤ most_pool → Left s Bounded ask (sync_step s back port)
  read _ _ _ port (by_sync at back) most =
      let x = entry_made (Sync at back) (sync_step s back port) in
      still x _ (λ p. within_if most_pool (at.0 == p) (count_gave_at (sync_step s back port).reply) (read_within (length (delivered_frames port)) most))
      (more (w.entry_count + 1) port.session (monitored_frames (receive_monitor w port.id) (delivered_frames port)) (monitored_few (receive_monitor w port.id) (delivered_frames port) most)) _ refl refl
  read _ _ _ port (by_get at back) most =
      let x = entry_made (Get at back) (sync_step s back port) in
      still x _ (λ p. within_if most_pool (at.0 == p) (count_gave_at (sync_step s back port).reply) (read_within (length (delivered_frames port)) most))
      (more (w.entry_count + 1) port.session (monitored_frames (receive_monitor w port.id) (delivered_frames port)) (monitored_few (receive_monitor w port.id) (delivered_frames port) most)) _ refl refl

  grant : (origin : ℕ) (to : PortId) (offer : Offer) → first_offer w origin ≡ Some offer → Left s Bounded (Grant origin to) (grant_step s offer)
  grant origin to offer first =
      let x = entry_made (Grant origin to) (grant_step s offer) in
      let most = each-find IsFew (λ (o : Offer). o.origin == origin) w.offers offer few first in
      still x _ (λ p. within_if most_pool (to.0 == p) (count_shared (grant_step s offer).reply) (shared_little (open_port w.ports offer.to) offer.frames most))
      (each-without_first IsFew offer.origin w.offers few) _ refl refl

  put : (at : PortId) (offered : ℕ) (items : List Item) (port peer : Port) → length items ≤ most_pool → Left s Bounded (PutKept at offered) (put_step s items port peer)
  put at offered items port peer most =
      let x = entry_made (PutKept at offered) (put_step s items port peer) in
      let size = length-map items frame_of_item in
      let frames : length (frames_of_items items) ≤ most_pool = omega (arith, size, most) in
      still x _ (λ p. put_within (at.0 == p) (puts_to_port w.ports at.0 p) (length items) most)
      (more (w.entry_count + 1) port.session (monitored_frames (transmit_monitor w port.id) (frames_of_items items)) (monitored_few (transmit_monitor w port.id) (frames_of_items items) frames)) _ refl refl

  opened : (x : Entry) (id : ℕ) → IsLittle x → (left : Standing) → left.world.offers ≡ w.offers → left.world.counts ≡ map (with_counted w x) w.counts ++ (record { port = id; counts = zero_counts }) ∷ [] → Bounded x left
  opened x id little left same counted = record {
    little = little;
    offers = subst (Each IsFew) (sym same) few;
    counted = subst (Each IsLow) (sym counted) (each-append IsLow (map (with_counted w x) w.counts) ((record { port = id; counts = zero_counts }) ∷ []) (lows x little) (within_zero (most_pool * (w.entry_count + 1)), tt));
  }

  finished : (x : Entry) (at : ℕ) → IsLittle x → (left : Standing) → left.world.offers ≡ w.offers → left.world.counts ≡ filter (λ (c : PortCounts). not (c.port == at)) (map (with_counted w x) w.counts) → Bounded x left
  finished x at little left same counted = record {
    little = little;
    offers = subst (Each IsFew) (sym same) few;
    counted = subst (Each IsLow) (sym counted) (each-filter IsLow (λ (c : PortCounts). not (c.port == at)) (map (with_counted w x) w.counts) (lows x little));
  }

  kinds : EachKind s (Left s Bounded)
  kinds = record {
    enters = λ user fits. (let x = entry_made (Enter user) (enter_step s) in still x w.offers (nothing x (λ p. refl)) few _ refl refl);
    quiet = quiet;
    opens = λ session name tx rx extra can refusal.
        (let x = entry_made (Open session name tx rx extra) (open_step_by None s session.0 name tx rx extra) in opened x (w.entry_count + 1) (nothing x (λ p. refl)) _ refl refl);
    sends = λ from frames port e can settled.
        (let x = entry_made (Send from frames) (send_step s frames port) in
        let most = sent_few frames port can in
        still x _ (send_little from frames port most) (more (w.entry_count + 1) port.session (wanted_frames port (transmit_monitor w port.id) (named_of w port frames)) (wanted_few frames port most)) _ refl refl);
    grants = λ origin to offer first same. grant origin to offer first;
    completes = λ lease lot e. (let x = entry_made (Done lease) (done_step s lease.0 lot) in still x w.offers (nothing x (λ p. refl)) few _ refl refl);
    receives = λ ask at back port receives e can. read ask at back port receives (delivered_few at.0 port e);
    puts = λ at offered items port peer e can found. put at offered items port peer (items_few offered items port peer can found);
    watches = λ at target sides port found e can there none. (let x = entry_made (Watch at target sides) (watch_step s sides port found) in still x w.offers (nothing x (λ p. refl)) few _ refl refl);
    shuts = λ at port e settled. (let x = entry_made (Shut at) (shut_step s port) in still x w.offers (nothing x (λ p. refl)) few _ refl refl);
    finishes = λ at bufs chain port fits e can out. (let x = entry_made (Finish at bufs chain) (finish_step s bufs port) in finished x at.0 (nothing x (λ p. refl)) _ refl refl);
    leaves = λ session can. (let x = entry_made (Leave session) (leave_step s session.0) in still x w.offers (nothing x (λ p. refl)) few _ refl refl);
  }

  bounded : (e : Entry) → Follows s e → Bounded e (after s e)
  bounded e follows = follows-by s Bounded e follows kinds

  fits_by : (n : ℕ) (c d : Counts) → n < 4294967296 → IsWithin (most_pool * n) c → IsWithin most_pool d → SumFits c d
  fits_by n c d most one two = record {
    sent = (let x = one.sent in let y = two.sent in omega (arith, most, x, y));
    short = (let x = one.short in let y = two.short in omega (arith, most, x, y));
    lone = (let x = one.lone in let y = two.lone in omega (arith, most, x, y));
    given = (let x = one.given in let y = two.given in omega (arith, most, x, y));
    full = (let x = one.full in let y = two.full in omega (arith, most, x, y));
    read = (let x = one.read in let y = two.read in omega (arith, most, x, y));
  }

  fits : (e : Entry) → Follows s e → w.entry_count < 4294967296 → Each (FitsAt w e) w.counts
  fits e follows most =
      let b = bounded e follows in
      each-weaker (λ (c : PortCounts). IsWithin (most_pool * w.entry_count) c.counts) (FitsAt w e) (λ c here. fits_by w.entry_count c.counts (counted_in c.port w e) most here (b.little c.port)) w.counts within

-- ---- every legal history

record AreBounded (w : World) : Type 0 where
  offers_few : Each IsFew w.offers
  counts_low : Each (λ (c : PortCounts). IsWithin (most_pool * w.entry_count) c.counts) w.counts

pool_low : (pool : ℕ) (h : List Entry) → pool ≤ most_pool → IsLegal pool h → (world_of pool h).pool ≤ most_pool
pool_low pool h low legal = subst (λ (n : ℕ). n ≤ most_pool) (sym (history-stands pool h legal).pool_is) low

history_bounded : (pool : ℕ) → pool ≤ most_pool → (h : List Entry) → IsLegal pool h → AreBounded (world_of pool h)
history_bounded pool low h legal = history-by pool (λ (h : List Entry). AreBounded (world_of pool h)) keeps (record { offers_few = tt; counts_low = tt }) h legal
  where
    keeps : (h : List Entry) (e : Entry) → IsLegal pool h → Follows (standing_of pool h) e → AreBounded (world_of pool h) → AreBounded (world_of pool (h ++ e ∷ []))
    keeps h e legal follows k =
        let s = standing_of pool h in
        let stands = history-stands pool h legal in
        let b = bounded s stands.numbered stands.roomy (pool_low pool h low legal) k.offers_few k.counts_low e follows in
        let next = standing-push pool h e in
        let count : (after s e).world.entry_count ≡ s.world.entry_count + 1 = count-standing_after s e (recorded_step s e.ask e.reply) in
        subst (λ (t : Standing). AreBounded t.world) (sym next) (record {
          offers_few = b.offers;
          counts_low = subst (λ (m : ℕ). Each (λ (c : PortCounts). IsWithin (most_pool * m) c.counts) (after s e).world.counts) (sym count) b.counted;
        })

pub sums_fit : SumsFit
sums_fit pool h e low legal follows most =
    let s = standing_of pool h in
    let stands = history-stands pool h legal in
    let k = history_bounded pool low h legal in
    let count = count-world_of pool h in
    fits s stands.numbered stands.roomy (pool_low pool h low legal) k.offers_few k.counts_low e follows (omega (arith, most, count))
