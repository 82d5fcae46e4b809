-- Pushes whose buffers are lent out, on either side of a port.
use Rattle.std.proofs.Common.{ℕ, nat_le, ◌≡◌, ◌<◌, ◌≤◌, true, List, map, length, drop, reverse, Some, sym, ◌∙◌, ap, subst, arith}
use Rattle.std.specs.Prelude.{is_some, IsSome}
use Rattle.std.proofs.lemmas.List.{length-map}
use Rattle.std.proofs.lemmas.Bool.Decides.{nat_tests}
use Rattle.std.proofs.lemmas.Option.{same_Some}
use Rattle.nm_types.specs.Limits.{most_ring}
use Rattle.nm_types.specs.declared.id.PortId.{PortId}
use Rattle.nm_types.specs.declared.id.Side.{Side}
use Rattle.nm_types.specs.declared.id.Side.TheVariants.{Tx, Rx}
use Rattle.nm_types.specs.OwnPorts.{bytes_at}
use Rattle.nm_types.specs.Positions.{IsRing, FitsRing, slots_from}
use Rattle.nm_types.proofs.RingSteps.{dist-below, length-slots_from}
use Rattle.nm_region.specs.Buffers.{Buffer, indices_of}
use Rattle.nm_hold.specs.Holds.{HoldState, index_at}
use Rattle.nm_own.specs.declared.lending.LentSide.{LentSide}
use Rattle.nm_port.specs.declared.port.UserPort.{UserPort}
use Rattle.nm_port.specs.RingSlots.{RingSlots}
use Rattle.nm_port.specs.Regions.{SideState, side_seen}
use Rattle.nm_port.specs.Own.{own_seen, slots_at}
use Rattle.nm_port.specs.Sides.{place_on, number_at}
use Rattle.nm_port.specs.Closing.{AreTaken, bytes_of_buffers}
use Rattle.nm_port.specs.Exchanges.{pushed_count_of, user_place, CanExchange, AreExchanged}
use Rattle.nm_port.specs.Lending.{AreNamedAs, AreOut, AreSwapped, place_of_run}
use Rattle.nm_own.specs.Kept.{IsKept}
use Rattle.nm_own.specs.LentSides.{IsLent, first_lent, lent_count_of, unnamed_count, lent_run, lent_places, lent_number, lent_buffers}
use Rattle.nm_own.proofs.Tests.{some_of}
use Rattle.nm_own.proofs.Closing.{out_behind, out_indices, out_bytes}
use Rattle.nm_own.proofs.Passing.{Passes, passes_of, ring_is, positions_fit}
use Rattle.nm_own.proofs.Pushed.{can_exchange as put_can_exchange}
use Rattle.nm_own.proofs.GivenBack.{can_exchange as back_can_exchange, back_count, numbers_are}
use Rattle.nm_own.proofs.LentTx.{first_within, few_offered, offered_held, offered_flags, offered_number, numbers_go}

all_named : (k : ℕ) → nat_le 0 k ≡ true
all_named k = grind (arith, nat_tests)

-- a ring's push has fewer slots than the ring
few_pushed : (r : RingSlots) → IsRing r.ring → pushed_count_of r < r.ring.size
few_pushed r is = dist-below r.ring.size r.ring.accepted_head r.ring.head is.accepted

-- the slots whose buffers a push lends, and the buffers in their places once it is exchanged
pub record PushLends (h : HoldState) (ports : List UserPort) (side : Side) (id : PortId) (r : RingSlots) : Type 0 where
  pub can : CanExchange h id r
  pub number : lent_number side id.0 (own_seen h ports) ≡ lent_count_of side r
  pub within : first_lent side r < r.ring.size
  pub few : lent_count_of side r < r.ring.size
  pub pushed : pushed_count_of r ≤ lent_count_of side r
  pub held : (h1 : HoldState) → AreExchanged h h1 id r (pushed_count_of r) → (k : ℕ) → k < lent_count_of side r → IsSome (index_at h1 (place_of_run (lent_run side id r) k))
  pub named : (h1 : HoldState) → AreExchanged h h1 id r (pushed_count_of r) → (k : ℕ) → k < lent_count_of side r → AreNamedAs (nat_le (unnamed_count side r) k) h1 (place_of_run (lent_run side id r) k)
  pub numbers : (h1 : HoldState) → AreExchanged h h1 id r (pushed_count_of r) → map (number_at h1) (lent_places side id r) ≡ lent_buffers side id.0 (own_seen h ports)

pub push_lends : (h : HoldState) (ports : List UserPort) (side : Side) (id : PortId) (p : UserPort) (r : RingSlots) → Passes h ports side id p r → PushLends h ports side id r
push_lends h ports Tx id p r x = record {
  can = put_can_exchange h ports id p r x;
  number = offered_number h ports id p r x;
  within = first_within h ports id p r x;
  few = few_offered h ports id p r x;
  pushed = omega arith;
  held = λ h1 exchange k below. offered_held h ports id p r x h1 exchange k;
  named = λ h1 exchange k below. offered_flags h ports id p r x h1 exchange k below;
  numbers = λ h1 exchange. numbers_go h ports id p r x h1 exchange;
}
push_lends h ports Rx id p r x =
    let is = ring_is h ports Rx id p r x in
    let can = back_can_exchange h ports id p r x in
    record {
      can = can;
      number = back_count h ports id p r x;
      within = is.accepted;
      few = few_pushed r is;
      pushed = omega arith;
      held = λ h1 exchange k below. some_of (index_at h1 (user_place id r k)) (ap is_some (exchange.names k below));
      named = λ h1 exchange k below. rw (all_named k) (exchange.there (user_place id r k) (can.there k below));
      numbers = λ h1 exchange. numbers_are h ports id p r x h1 exchange;
    }

-- what is taken out of their places
module _ (h : HoldState) (ports : List UserPort) (side : Side) (id : PortId) (r : RingSlots) (x : PushLends h ports side id r) (h1 h2 : HoldState) (exchange : AreExchanged h h1 id r (pushed_count_of r)) (before after : List Buffer)
    (taken : AreTaken h1 h2 (lent_places side id r) before after) where
  pub indices_lent : indices_of (drop (length before) after) ≡ lent_buffers side id.0 (own_seen h ports)
  indices_lent = out_indices taken (lent_buffers side id.0 (own_seen h ports)) (x.numbers h1 exchange)

  pub bytes_lent : bytes_of_buffers (drop (length before) after) ≡ map (bytes_at (own_seen h ports)) (lent_buffers side id.0 (own_seen h ports))
  bytes_lent = out_bytes taken h ports exchange.bufs (lent_buffers side id.0 (own_seen h ports)) (x.numbers h1 exchange)

  pub count_lent : length (drop (length before) after) ≡ lent_count_of side r
  count_lent =
      let slots = slots_from r.ring.size (first_lent side r) (lent_count_of side r) in
      ap (λ (bs : List Buffer). length bs) (out_behind taken) ∙ (sym (length-map taken.out (λ (b : Buffer). b.index)) ∙ (ap (λ (is : List ℕ). length is) taken.indices
      ∙ (length-map (lent_places side id r) (number_at h1)
      ∙ (length-map slots (place_on r.side id) ∙ length-slots_from r.ring.size (first_lent side r) (lent_count_of side r)))))

-- what was lent of a ring
pub record LentWith (side : Side) (id : PortId) (l : LentSide) (r : RingSlots) (s : SideState) (lent : List Buffer) : Type 0 where
  pub was : HoldState
  pub exchanged : HoldState
  pub p : UserPort
  pub passes : Passes was l.ports.items side id p r
  pub seen : s ≡ side_seen was l.ports.items
  pub kept : IsKept (record { hold = was; ports = l.ports; marks = l.marks })
  pub exchange : AreExchanged was exchanged id r (pushed_count_of r)
  pub swapped : AreSwapped was id r (reverse l.replaced.items) exchanged
  pub few : length l.replaced.items ≤ pushed_count_of r
  pub lent_count : length lent ≡ lent_count_of side r
  pub out : AreOut exchanged (lent_run side id r) (unnamed_count side r) (reverse lent) l.hold

module _ (side : Side) (id : PortId) (s : SideState) (lent : List Buffer) (l : LentSide) (x : IsLent side id s lent l) where
  pub lent_of : LentWith side id l x.r s lent
  lent_of =
      let p = passes_of (record { hold = x.was; ports = l.ports; marks = l.marks }) side id x.r x.kept x.ring x.passes in
      record { was = x.was; exchanged = x.exchanged; p = p.0; passes = p.1; seen = x.seen; kept = x.kept; exchange = x.exchange; swapped = x.swapped; few = x.few; lent_count = x.lent_count; out = x.out }

  pub lent_with : (r : RingSlots) → slots_at side l.ports.items id.0 ≡ Some r → LentWith side id l r s lent
  lent_with r at = subst (λ (t : RingSlots). LentWith side id l t s lent) (same_Some x.r r (sym x.ring ∙ at)) lent_of

  -- as many buffers are lent as the push names
  pub lent_length : length lent ≡ lent_number side id.0 s.own
  lent_length =
      let w = lent_of in
      w.lent_count
      ∙ (sym (push_lends w.was l.ports.items side id w.p x.r w.passes).number
      ∙ ap (λ (o : SideState). lent_number side id.0 o.own) (sym w.seen))

-- the ring, and how many buffers are lent of it
pub record IsLentRing (side : Side) (l : LentSide) (r : RingSlots) (lent : List Buffer) : Type 0 where
  pub ring : IsRing r.ring
  pub fits : FitsRing r.ring r.ring.head r.ring.cur
  pub within : first_lent side r < r.ring.size
  pub few_slots : length lent < r.ring.size
  pub few : length lent ≤ most_ring
  pub few_replaced : length l.replaced.items ≤ most_ring

pub lent_ring : (side : Side) (id : PortId) (l : LentSide) (r : RingSlots) (s : SideState) (lent : List Buffer) → LentWith side id l r s lent → IsLentRing side l r lent
lent_ring side id l r s lent w =
    let ring = ring_is w.was l.ports.items side id w.p r w.passes in
    let lends = push_lends w.was l.ports.items side id w.p r w.passes in
    let few_slots = lends.few in
    let most = ring.is_size.1 in
    let pushed = few_pushed r ring in
    record {
      ring = ring;
      fits = positions_fit w.was l.ports.items side id w.p r w.passes;
      within = lends.within;
      few_slots = omega (arith, few_slots, w.lent_count);
      few = omega (arith, few_slots, most, w.lent_count);
      few_replaced = omega (arith, pushed, most, w.few);
    }
