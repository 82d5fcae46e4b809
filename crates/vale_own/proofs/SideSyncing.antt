-- The syncs of a side are asks that its session may make.
use Rattle.std.proofs.Common.{ℕ, zero, suc, ◌+◌, ◌<◌, ◌≤◌, ◌≡◌, Bool, true, false, cond, ◌&&◌, ◌||◌, nat_le, nat_lt, List, [], ◌∷◌, map, take, length, Option, Some, None, is_some, refl, sym, ◌∙◌, ap, arith, inl, inr}
use Rattle.std.specs.List.{AllByRecursion as Each, list_all}
use Rattle.std.proofs.lemmas.Bool.{cases_Bool, and_parts, eqb-true}
use Rattle.std.proofs.lemmas.Bool.Decides.{nat_tests}
use Rattle.std.proofs.lemmas.List.{length-map}
use Rattle.nm_types.specs.Limits.{most_batch, most_extra, most_ring}
use Rattle.nm_types.proofs.Tests.{less_true}
use Rattle.nm_types.specs.Frames.{size_of_frames}
use Rattle.nm_types.specs.Sendable.{is_sendable}
use Rattle.nm_types.specs.declared.name.Kind.{Kind}
use Rattle.nm_types.specs.declared.name.Kind.TheVariants.{Vale, Master, Slave, Monitor}
use Rattle.nm_types.specs.Names.{is_name, is_switch_port_name, is_pipe_name, is_monitor_name, is_switch_port_kind, is_pipe_kind, is_monitor_kind, kind_of}
use Rattle.nm_types.specs.declared.id.Side.{Side}
use Rattle.nm_types.specs.declared.id.Side.TheVariants.{Tx, Rx}
use Rattle.nm_types.specs.declared.fault.SyncFault.{SyncFault}
use Rattle.nm_types.specs.SyncFaults.{is_check_fault}
use Rattle.nm_types.specs.Positions.{dist, pushed_slots}
use Rattle.nm_types.specs.Slots.{Pushed, pushed_frames}
use Rattle.nm_types.specs.OwnPorts.{OwnRing, OwnPort, OwnState, Arrival, bytes_at, named_of, slot_in, port_with_id, pushed_at, pushed_in, is_whole, refusal_in}
use Rattle.nm_types.specs.OwnSyncs.{offered_slots, own_after_receive, own_after_put}
use Rattle.nm_types.proofs.RingSteps.{dist-below, length-slots_from}
use Rattle.nm_types.proofs.Sizes.{length-size}
use Rattle.nm_types.proofs.CheckFaults.{refusal-is_check}
use Rattle.nm_types.proofs.JoinedFrames.{passed-sent}
use Rattle.vale_entry.specs.declared.entry.Ask.TheVariants.{Send, Sync, Put, Get}
use Rattle.vale_entry.specs.declared.entry.Entry.{Entry}
use Rattle.vale_entry.specs.declared.entry.Item.{Item}
use Rattle.vale_entry.specs.World.{Port, open_port}
use Rattle.vale_entry.specs.Arrivals.{blank_arrival}
use Rattle.vale_entry.specs.OwnCalls.{or_reset, item_at, offered_items, tx_call, back_in, rx_call}
use Rattle.vale_entry.specs.Opening.{is_ring_size}
use Rattle.vale_entry.specs.Pipe.{indices_of, is_pipe_item}
use Rattle.vale_entry.specs.Legal.{standing_of, fits_fault}
use Rattle.vale_entry.proofs.Counting.{count_of}
use Rattle.vale_entry.proofs.Each.{each-weaker}
use Rattle.vale_own.specs.Own.{Own, own_of, is_settled_own}
use Rattle.vale_own.specs.OwnAsks.{holds_own, may_ask}
use Rattle.vale_own.specs.Side.{is_shut, size_if, port_of_side, IsPending, IsSoundPort}
use Rattle.vale_own.specs.SideAsks.{HasSide, RefusalFits, TransmitMayBeAsked, ReceiveMayBeAsked}
use Rattle.vale_own.proofs.SidePlaces.{tx-sound}
use Rattle.vale_own.proofs.SideExchange.{sync-fits, sync-passes}
use Rattle.vale_own.proofs.SideOffers.{exchanged-ring, offered-pending, total-few}
use Rattle.vale_own.proofs.SideMoves.{Moved}
use Rattle.vale_own.proofs.SideReceives.{back-few, received-moved}
use Rattle.vale_own.proofs.SidePuts.{offered-count, put-moved}
use Rattle.vale_own.proofs.SideAsking.{once-side, holds-side, port-sized, own-open, port-sound}

-- a name is a switch port's, a pipe end's or a monitor's
switch-or-monitor : (name : List ℕ) → is_name name ≡ true → is_pipe_name name ≡ false → (is_switch_port_name name || is_monitor_name name) ≡ true
unfolding is_name is_switch_port_name is_pipe_name is_monitor_name
switch-or-monitor name named not-pipe = by (kind_of name) named not-pipe
  where
    by : (o : Option Kind) → is_some o ≡ true → is_pipe_kind o ≡ false → (is_switch_port_kind o || is_monitor_kind o) ≡ true
    by None some other = absurd cc
    by (Some Vale) some other = refl
    by (Some Master) some other = absurd cc
    by (Some Slave) some other = absurd cc
    by (Some Monitor) some other = refl

-- what refuses a sync is one of the checks
sync-check : (side : Side) (s : OwnState) (p : OwnPort) (r : OwnRing) (fault : SyncFault) → refusal_in side s p r ≡ Some fault → is_check_fault fault ≡ true
sync-check side s p r fault e = refusal-is_check side (is_whole p) s.pool (named_of s) r.ring (pushed_in side r) fault e

fault-fits : (o : Option SyncFault) (fault : SyncFault) → RefusalFits o → o ≡ Some fault → fits_fault fault ≡ true
fault-fits None fault fits e = absurd cc
fault-fits (Some f) fault fits e = let is : f ≡ fault = cc in ap fits_fault (sym is) ∙ fits

below-true : (a b : ℕ) → a ≤ b → nat_le a b ≡ true
below-true a b le = grind (arith, nat_tests)

taken-short : (n : ℕ) (xs : List ℕ) → length (take n xs) ≤ n
taken-short zero xs = omega arith
taken-short (suc n) [] = omega arith
taken-short (suc n) (x ∷ xs) = let rest = taken-short n xs in omega (arith, rest)

module _ (pool : ℕ) (past : List Entry) (session : ℕ) (shut : Option ℕ) (side : OwnState) (k : HasSide pool past session shut side) (p : OwnPort) (found : port_with_id side p.id.0 ≡ Some p) (stays : is_shut shut p.id.0 ≡ false) (settled : is_settled_own (own_of session (standing_of pool past)) ≡ true) where
  abbrev own : Own
  own = own_of session (standing_of pool past)

  abbrev port : Port
  port = port_of_side session shut p

  -- a receive sync
  received : (pipe : Bool) → is_pipe_name p.name ≡ pipe → refusal_in Rx side p p.rx ≡ None → may_ask session own (cond pipe (Get p.id (back_in p)) (Sync p.id (back_in p))) ≡ true
  received pipe name passes = by pipe name
    where
      sound-p : IsSoundPort p
      sound-p = port-sound pool past session shut side k p found

      room : length p.rx.held + 0 < p.rx.ring.size
      room = let held = sound-p.rx.held in let below = dist-below p.rx.ring.size p.rx.ring.accepted_head p.rx.ring.last_tail sound-p.rx.positions.accepted in omega (arith, held, below)

      moves : Moved side (own_after_receive p.id.0 [] side) (back_in p) []
      moves = received-moved p.id.0 side p k.of.sound (once-side pool past session shut side k) found passes [] room

      held : holds_own own (back_in p) ≡ true
      held = holds-side pool past session shut side k (back_in p) moves.less

      few : nat_le (length (back_in p)) (length p.rx.held) ≡ true
      few =
          let names = length-map (pushed_in Rx p.rx) (λ (x : Pushed). x.slot.buf_idx) in
          let slots = length-map (pushed_slots p.rx.ring p.rx.ring.head) (pushed_at Rx p.rx) in
          let less = back-few p.id.0 side p k.of.sound (once-side pool past session shut side k) found passes [] room in
          below-true (length (back_in p)) (length p.rx.held) (omega (arith, names, slots, less))

      open-is : open_port own.ports p.id.0 ≡ Some port
      open-is = own-open pool past session shut side k p found stays

      by : (b : Bool) → is_pipe_name p.name ≡ b → may_ask session own (cond b (Get p.id (back_in p)) (Sync p.id (back_in p))) ≡ true
      by true is = rw (open-is, is, settled, few, held) refl
      by false is =
          let kind = switch-or-monitor p.name (port-sized pool past session shut side k p found).0 is in
          rw (open-is, kind, settled, few, held) refl

  pub asked-rx : RefusalFits (refusal_in Rx side p p.rx) → may_ask session own (rx_call side p) ≡ true
  asked-rx fits = by (refusal_in Rx side p p.rx) refl
    where
      by : (o : Option SyncFault) → refusal_in Rx side p p.rx ≡ o → may_ask session own (or_reset o p.id Rx (cond (is_pipe_name p.name) (Get p.id (back_in p)) (Sync p.id (back_in p)))) ≡ true
      by None passes = received (is_pipe_name p.name) refl passes
      by (Some fault) refused =
          let check = sync-check Rx side p p.rx fault refused in
          let numbers = fault-fits (refusal_in Rx side p p.rx) fault fits refused in
          rw (own-open pool past session shut side k p found stays, check, numbers) refl

  -- a transmit sync
  module _ (r : OwnRing) (has : p.tx ≡ Some r) where
    size-is : size_if p.tx ≡ r.ring.size
    size-is = ap size_if has

    sizes : (2 ≤ r.ring.size) × (r.ring.size ≤ most_ring)
    sizes = let is = (tx-sound p r (port-sound pool past session shut side k p found) has).positions in (is.is_size.0, is.is_size.1)

    -- so it is no monitor's
    not-monitor : is_monitor_name p.name ≡ false
    not-monitor = elim (cases_Bool (is_monitor_name p.name)) [
      | inl monitor ↦ absurd (let first = (and_parts _ (is_ring_size p.rx.ring.size && nat_le (length p.extra) most_extra) (port-sized pool past session shut side k p found).1).0 in
          let none : size_if p.tx ≡ 0 = eqb-true (size_if p.tx) 0 (rw monitor at first) in
          let long = sizes.0 in let same = size-is in omega (arith, none, long, same))
      | inr other ↦ other
    ]

    is-switch : is_pipe_name p.name ≡ false → is_switch_port_name p.name ≡ true
    is-switch not-pipe = by (is_switch_port_name p.name) (sym (ap (λ (b : Bool). is_switch_port_name p.name || b) not-monitor) ∙ switch-or-monitor p.name (port-sized pool past session shut side k p found).0 not-pipe)
      where
        by : (b : Bool) → (b || false) ≡ true → b ≡ true
        by true e = refl
        by false e = absurd cc

    module _ (passes : refusal_in Tx side p r ≡ None) where
      pushed-few : length (pushed_slots r.ring r.ring.head) ≤ most_batch
      pushed-few =
          let is = (tx-sound p r (port-sound pool past session shut side k p found) has).positions in
          let below = dist-below r.ring.size r.ring.accepted_head r.ring.head is.accepted in
          let count = length-slots_from r.ring.size r.ring.accepted_head (dist r.ring.size r.ring.accepted_head r.ring.head) in
          let most = sizes.1 in
          omega (arith, below, count, most)

      sendable : is_sendable (pushed_frames (bytes_at side) (pushed_in Tx r)) ≡ true
      sendable =
          let frames = pushed_frames (bytes_at side) (pushed_in Tx r) in
          let sent = passed-sent (bytes_at side) (is_whole p) side.pool (named_of side) (pushed_in Tx r) (sync-passes Tx side p r passes) in
          let within = sent.within in
          let two = length-map (pushed_slots r.ring r.ring.head) (pushed_at Tx r) in
          let least = length-size frames in
          let few = pushed-few in
          let count = below-true (length frames) most_batch (omega (arith, within, two, few, least)) in
          let slots = below-true (size_of_frames frames) most_batch (omega (arith, within, two, few)) in
          rw (count, slots, sent.fit) refl

      -- all that a put offers
      abbrev offered : List Item
      offered = offered_items side r

      abbrev came : List Arrival
      came = map (λ (at : ℕ). blank_arrival 0) (offered_slots r)

      came-length : length came ≡ length (offered_slots r)
      came-length = length-map (offered_slots r) (λ (at : ℕ). blank_arrival 0)

      offers : Moved side (own_after_put p.id.0 came side) (indices_of (take (length came) offered)) came
      offers = put-moved p.id.0 side p r k.of.sound (once-side pool past session shut side k) found has passes came (let same = came-length in omega (arith, same))

      take-all : (n : ℕ) (xs : List Item) → length xs ≤ n → take n xs ≡ xs
      take-all zero [] le = refl
      take-all zero (x ∷ xs) le = absurd (omega (arith, le))
      take-all (suc n) [] le = refl
      take-all (suc n) (x ∷ xs) le = ap (λ (ys : List Item). x ∷ ys) (take-all n xs (omega (arith, le)))

      offered-length : length offered ≡ length (offered_slots r)
      offered-length = length-map (offered_slots r) (item_at side r)

      offered-held : holds_own own (indices_of offered) ≡ true
      offered-held =
          let all : take (length came) offered ≡ offered = (let one = came-length in let two = offered-length in take-all (length came) offered (omega (arith, one, two))) in
          holds-side pool past session shut side k (indices_of offered) (λ b.
          let same = ap (λ (xs : List Item). count_of b (indices_of xs)) all in
          let less = offers.less b in
          omega (arith, same, less))

      offered-fit : list_all is_pipe_item offered ≡ true
      offered-fit =
          over (offered_slots r)
          (each-weaker (IsPending (exchanged-ring p.id.0 side p r k.of.sound (once-side pool past session shut side k) found has passes)) (λ (at : ℕ). (slot_in Tx r at).len ≤ 2048) (λ at is. is.fits) (offered_slots r)
          (offered-pending p.id.0 side p r k.of.sound (once-side pool past session shut side k) found has passes))
        where
          over : (ats : List ℕ) → Each (λ (at : ℕ). (slot_in Tx r at).len ≤ 2048) ats → list_all is_pipe_item (map (item_at side r) ats) ≡ true
          over [] all = refl
          over (at ∷ ats) all =
              let bytes = bytes_at side (slot_in Tx r at).buf_idx in
              let here : is_pipe_item (item_at side r at) ≡ true = (let short = taken-short (slot_in Tx r at).len bytes in let len = all.0 in let fits = below-true (length (take (slot_in Tx r at).len bytes)) 2048 (omega (arith, short, len)) in rw fits refl) in
              let rest = over ats all.1 in
              rw (here, rest) refl

      offered-few : nat_le (length offered) most_batch ≡ true
      offered-few =
          let is = (tx-sound p r (port-sound pool past session shut side k p found) has).positions in
          let count = offered-count p.id.0 side p r k.of.sound (once-side pool past session shut side k) found has passes came (let same = came-length in omega (arith, same)) in
          let few = total-few r.ring is (sync-fits Tx side p r passes) in
          let same = offered-length in
          let most = sizes.1 in
          below-true (length offered) most_batch (omega (arith, count, few, same, most))

      sent : may_ask session own (cond (is_pipe_name p.name) (Put p.id offered) (Send p.id (pushed_frames (bytes_at side) (pushed_in Tx r)))) ≡ true
      sent = by (is_pipe_name p.name) refl
        where
          by : (b : Bool) → is_pipe_name p.name ≡ b → may_ask session own (cond b (Put p.id offered) (Send p.id (pushed_frames (bytes_at side) (pushed_in Tx r)))) ≡ true
          by true is = rw (own-open pool past session shut side k p found stays, is, settled, offered-fit, offered-held, offered-few) refl
          by false is = rw (own-open pool past session shut side k p found stays, is-switch is, settled, sendable) refl

    asked-tx : RefusalFits (refusal_in Tx side p r) → may_ask session own (tx_call side p r) ≡ true
    asked-tx fits = by (refusal_in Tx side p r) refl
      where
        by : (o : Option SyncFault) → refusal_in Tx side p r ≡ o → may_ask session own (or_reset o p.id Tx (cond (is_pipe_name p.name) (Put p.id (offered_items side r)) (Send p.id (pushed_frames (bytes_at side) (pushed_in Tx r))))) ≡ true
        by None passes = sent passes
        by (Some fault) refused =
            let check = sync-check Tx side p r fault refused in
            let numbers = fault-fits (refusal_in Tx side p r) fault fits refused in
            let ring : nat_lt 0 (size_if p.tx) ≡ true = (let same = size-is in let long = sizes.0 in less_true 0 (size_if p.tx) (omega (arith, same, long))) in
            rw (own-open pool past session shut side k p found stays, ring, check, numbers) refl

pub transmit-asked : TransmitMayBeAsked
transmit-asked pool past session shut side p r k settled is has fits = asked-tx pool past session shut side k p is.0 is.1 settled r has fits

pub receive-asked : ReceiveMayBeAsked
receive-asked pool past session shut side p k settled is fits = asked-rx pool past session shut side k p is.0 is.1 settled fits
