use Rattle.std.proofs.Common.{ℕ, ◌≡◌, ◌<◌, ◌≤◌, ◌-◌, ◌∙◌, false, true, List, map, length, drop, reverse, Some, refl, sym, ap, arith}
use Rattle.std.specs.Prelude.{IsSome}
use Rattle.std.specs.Vec.{with_items}
use Rattle.std.proofs.lemmas.List.{length-map}
use Rattle.nm_types.specs.declared.id.PortId.{PortId}
use Rattle.nm_types.specs.declared.id.Side.TheVariants.{Tx}
use Rattle.nm_types.specs.declared.place.Place.TheVariants as place
use Rattle.nm_region.specs.Buffers.{Buffer}
use Rattle.nm_types.specs.Positions.{RingState, step_on}
use Rattle.nm_hold.specs.Holds.{HoldState, index_at, IsHold}
use Rattle.nm_port.specs.Regions.{SideState}
use Rattle.nm_port.specs.Own.{own_seen, slots_at, port_changed_if}
use Rattle.nm_port.specs.Puts.{offered_slot, cleared, ring_taken}
use Rattle.nm_port.specs.Exchanges.{AreRenamed, pushed_count_of, tx_places}
use Rattle.nm_port.specs.Lending.{AreOut}
use Rattle.nm_own.specs.LentSides.{pending_count_of, offered_count_of}
use Rattle.nm_own.proofs.KeptPorts.{changed_over}
use Rattle.nm_own.proofs.Passing.{positions_fit}
use Rattle.nm_own.proofs.Pushed.{can_accept}
use Rattle.nm_own.specs.LentOffers.{IsLentOffers}
use Rattle.nm_own.proofs.LentSides.{LentWith, lent_of, lent_with, lent_ring}
use Rattle.nm_own.proofs.TakenLent.{enough, few_back, few_places, few_taken, few_kernel, went, comes, comes_hold, filled_now, kept_now, own_now, region_now}
use Rattle.nm_own.proofs.lend_offers.LentOffers.taken.Goals as goal
use Rattle.nm_own.proofs.lend_offers.LentOffers.taken.Goals.{After-clear_all, After-put_slots, In-Some}

-- what was lent of the ring that was found
lent_there : (c : In-Some) → LentWith Tx c.args.self.port c.args.self.lent c.in-Some.ring.now c.requires.0 c.requires.1.0
lent_there c = lent_with Tx c.args.self.port c.requires.0 c.requires.1.0 c.args.self.lent c.requires.1.1.lends c.in-Some.ring.now (sym (rw (c.in-Some.is, c.deref.ensures.value) at c.ring_at.ensures))

-- the buffers that came, all their bytes cleared
came_cleared : (c : After-clear_all) → (with_items c.args.came c.clear_all.new.bufs).items ≡ map cleared c.args.came.items
came_cleared c = changed_over c.args.came cleared c.clear_all.new.bufs (rw c.deref_mut.ensures.value at c.clear_all.ensures)

pub overflow_cast-taken : goal.overflow_cast-taken
overflow_cast-taken c =
    let can = c.requires.1.1 in
    let few = (lent_ring Tx c.args.self.port c.args.self.lent can.lends.r c.requires.0 c.requires.1.0 (lent_of Tx c.args.self.port c.requires.0 c.requires.1.0 c.args.self.lent can.lends)).few in
    omega (arith, c.len-taken.ensures, c.args.came.ok.0, can.few, few)

pub pushed-accepted-requires : goal.pushed-accepted-requires
pushed-accepted-requires c =
    let w = lent_there (goal.at.pushed-accepted-requires c).In-Some in
    (positions_fit w.was c.args.self.lent.ports.items Tx c.args.self.port w.p c.in-Some.ring.now w.passes).head_within

pub put_slots-requires-clause-few : goal.put_slots-requires-clause-few
put_slots-requires-clause-few c =
    let can = c.requires.1.1 in
    let w = lent_there (goal.at.put_slots-requires-clause-few c).In-Some in
    few_back c.args.self c.in-Some.ring.now c.requires.0 c.requires.1.0 w c.args.rest.now.items c.args.came.items can.back can.few

pub put_slots-requires-clause-out : goal.put_slots-requires-clause-out
put_slots-requires-clause-out c =
    let can = c.requires.1.1 in
    let w = lent_there (goal.at.put_slots-requires-clause-out c).In-Some in
    let x = went c.args.self c.in-Some.ring.now c.requires.0 c.requires.1.0 w c.args.rest.now.items c.args.came.items can.back can.few in
    let taken : c.len-taken.result ≡ length c.args.came.items = c.len-taken.ensures ∙ c.args.came.ok.0 in
    rw (c.side-side.ensures, c.size-size.ensures.size, c.ring.ensures.ring, c.saturating_sub-unnamed.ensures, c.pending-first.ensures.count, c.pending-first.ensures.first, taken) ((x.0, x.1.1))

pub put_slots-requires-in-Some-clause-few : goal.put_slots-requires-in-Some-clause-few
put_slots-requires-in-Some-clause-few c =
    let can = c.requires.1.1 in
    let a = goal.at.put_slots-requires-in-Some-clause-few c in
    let w = lent_there a.In-Some in
    let few = few_taken c.args.self c.in-Some.ring.now c.requires.0 c.requires.1.0 w c.args.rest.now.items c.args.came.items can.back can.few in
    let number : length (with_items c.args.came c.clear_all.new.bufs).items ≡ length c.args.came.items = ap (λ (b : List Buffer). length b) (came_cleared a.After-clear_all) ∙ length-map c.args.came.items cleared in
    omega (arith, few, number)

-- the buffers of the other frames are back, and those that came can be put
record Back (c : After-put_slots) : Type 0 where
  there : slots_at Tx c.args.self.lent.ports.items c.args.self.port.0 ≡ Some c.in-Some.ring.now
  w : LentWith Tx c.args.self.port c.args.self.lent c.in-Some.ring.now c.requires.0 c.requires.1.0
  enough : length c.args.came.items ≤ offered_count_of c.in-Some.ring.now
  back : (h : HoldState) → AreOut h (record { id = c.args.self.port; side = c.in-Some.ring.now.side; size = c.in-Some.ring.now.ring.size; first = step_on c.in-Some.ring.now.ring.size (offered_slot c.in-Some.ring.now.ring) (length c.args.came.items) }) (pending_count_of c.in-Some.ring.now - length c.args.came.items) (reverse c.args.rest.now.items) c.args.self.lent.hold → c.put_slots.new.hold ≡ h
  new : HoldState
  is_new : IsHold new
  filled : (at : ℕ) → at < c.in-Some.ring.now.ring.size → IsSome (index_at new (place.Tx c.args.self.port at))
  comes_in : AreOut new (record { id = c.args.self.port; side = c.in-Some.ring.now.side; size = c.in-Some.ring.now.ring.size; first = offered_slot c.in-Some.ring.now.ring }) (pending_count_of c.in-Some.ring.now) (reverse (map cleared c.args.came.items)) c.put_slots.new.hold
  out : AreOut new (record { id = c.args.self.port; side = c.side-side.result; size = c.size-size.result; first = c.pending-first.result.0 }) c.pending-first.result.1 (reverse (with_items c.args.came c.clear_all.new.bufs).items) c.put_slots.new.hold

back : (c : After-put_slots) → Back c
back c =
    let can = c.requires.1.1 in
    let there : slots_at Tx c.args.self.lent.ports.items c.args.self.port.0 ≡ Some c.in-Some.ring.now = sym (rw (c.in-Some.is, c.deref.ensures.value) at c.ring_at.ensures) in
    let w = lent_with Tx c.args.self.port c.requires.0 c.requires.1.0 c.args.self.lent can.lends c.in-Some.ring.now there in
    let came = changed_over c.args.came cleared c.clear_all.new.bufs (rw c.deref_mut.ensures.value at c.clear_all.ensures) in
    let taken : c.len-taken.result ≡ length c.args.came.items = c.len-taken.ensures ∙ c.args.came.ok.0 in
    let x = went c.args.self c.in-Some.ring.now c.requires.0 c.requires.1.0 w c.args.rest.now.items c.args.came.items can.back can.few in
    let hold : c.put_slots.new.hold ≡ x.0 = c.put_slots.ensures.back x.0 (rw (c.side-side.ensures, c.size-size.ensures.size, c.ring.ensures.ring, c.saturating_sub-unnamed.ensures, c.pending-first.ensures.count, c.pending-first.ensures.first, taken) x.1.1) in
    let y = comes c.args.self c.in-Some.ring.now c.requires.0 c.requires.1.0 w c.args.rest.now.items c.args.came.items can.back can.few can.new can.once in
    record {
      there = there;
      w = w;
      enough = enough c.args.self c.in-Some.ring.now c.requires.0 c.requires.1.0 w c.args.rest.now.items c.args.came.items can.back can.few;
      back = λ h out. c.put_slots.ensures.back h (rw (c.side-side.ensures, c.size-size.ensures.size, c.ring.ensures.ring, c.saturating_sub-unnamed.ensures, c.pending-first.ensures.count, c.pending-first.ensures.first, taken) out);
      new = y.0;
      is_new = comes_hold c.args.self c.in-Some.ring.now c.requires.0 c.requires.1.0 w c.args.rest.now.items c.args.came.items can.back can.few can.new can.once;
      filled = filled_now c.args.self c.in-Some.ring.now c.requires.0 c.requires.1.0 w c.args.rest.now.items c.args.came.items can.back can.few can.new can.once;
      comes_in = rw hold y.1;
      out = rw (c.side-side.ensures, c.size-size.ensures.size, c.ring.ensures.ring, c.pending-first.ensures.count, c.pending-first.ensures.first, hold, came) y.1;
    }

pub put_slots-requires-in-Some-clause-out : goal.put_slots-requires-in-Some-clause-out
put_slots-requires-in-Some-clause-out c = let b = back (goal.at.put_slots-requires-in-Some-clause-out c).After-put_slots in (b.new, b.out)

pub name_slots-requires-clause-hold : goal.name_slots-requires-clause-hold
name_slots-requires-clause-hold c =
    let b = back (goal.at.name_slots-requires-clause-hold c).After-put_slots in
    rw (c.put_slots-in-Some.ensures.back b.new b.out) b.is_new

pub name_slots-requires-clause-held : goal.name_slots-requires-clause-held
name_slots-requires-clause-held c at below =
    let b = back (goal.at.name_slots-requires-clause-held c).After-put_slots in
    let size : c.size-size.result ≡ c.in-Some.ring.now.ring.size = c.size-size.ensures.size ∙ ap (λ (ring : RingState). ring.size) c.ring.ensures.ring in
    rw (c.put_slots-in-Some.ensures.back b.new b.out) (b.filled at (rw (← size) below))

pub name_slots-requires-in-Some-clause-count : goal.name_slots-requires-in-Some-clause-count
name_slots-requires-in-Some-clause-count c =
    let can = c.requires.1.1 in
    let w = lent_there (goal.at.name_slots-requires-in-Some-clause-count c).In-Some in
    let size : c.size-size.result ≡ c.in-Some.ring.now.ring.size = c.size-size.ensures.size ∙ ap (λ (ring : RingState). ring.size) c.ring.ensures.ring in
    let taken : c.len-taken.result ≡ length c.args.came.items = c.len-taken.ensures ∙ c.args.came.ok.0 in
    rw (size, taken) (few_places c.args.self c.in-Some.ring.now c.requires.0 c.requires.1.0 w c.args.rest.now.items c.args.came.items can.back can.few)

pub name_slots-requires-in-Some-clause-held : goal.name_slots-requires-in-Some-clause-held
name_slots-requires-in-Some-clause-held c at below =
    let b = back (goal.at.name_slots-requires-in-Some-clause-held c).After-put_slots in
    let size : c.size-size.result ≡ c.in-Some.ring.now.ring.size = c.size-size.ensures.size ∙ ap (λ (ring : RingState). ring.size) c.ring.ensures.ring in
    rw (c.name_slots.ensures.same (place.Tx c.args.self.port at), c.put_slots-in-Some.ensures.back b.new b.out) (b.filled at (rw (← size) below))

pub take_at-requires : goal.take_at-requires
take_at-requires c =
    let can = c.requires.1.1 in
    let w = lent_there (goal.at.take_at-requires c).In-Some in
    let taken : c.len-taken.result ≡ length c.args.came.items = c.len-taken.ensures ∙ c.args.came.ok.0 in
    rw (c.deref_mut-2.ensures.value, taken) (can_accept w.was c.args.self.lent.ports.items c.args.self.port w.p c.in-Some.ring.now w.passes (length c.args.came.items) (few_kernel c.args.self c.in-Some.ring.now c.requires.0 c.requires.1.0 w c.args.rest.now.items c.args.came.items can.back can.few))

-- what was done, whatever was lent
record Step (c : goal.After-ports-3-1) : Type 0 where
  pushed : AreRenamed c.put_slots-in-Some.new.hold c.name_slots.new.hold false (tx_places c.args.self.port c.in-Some.ring.now.ring.size c.in-Some.ring.now.ring.accepted_head (pushed_count_of c.in-Some.ring.now))
  freed : AreRenamed c.name_slots.new.hold c.name_slots-in-Some.new.hold true (tx_places c.args.self.port c.in-Some.ring.now.ring.size c.in-Some.ring.now.ring.last_tail (length (map cleared c.args.came.items)))
  ports : (with_items c.args.self.lent.ports c.take_at.new.ports).items ≡ map (port_changed_if c.args.self.port.0 Tx (λ (of : PortId). ring_taken c.name_slots-in-Some.new.hold c.args.self.port (length (map cleared c.args.came.items)))) c.args.self.lent.ports.items

step : (c : goal.After-ports-3-1) → Step c
step c =
    let number : c.len-taken.result ≡ length (map cleared c.args.came.items) = c.len-taken.ensures ∙ (c.args.came.ok.0 ∙ sym (length-map c.args.came.items cleared)) in
    let change = port_changed_if c.args.self.port.0 Tx (λ (of : PortId). ring_taken c.name_slots-in-Some.new.hold c.args.self.port (length (map cleared c.args.came.items))) in
    record {
      pushed = rw (c.pushed-accepted.ensures.count, c.pushed-accepted.ensures.first, c.size-size.ensures.size, c.ring.ensures.ring) at c.name_slots.ensures;
      freed = rw (c.size-size.ensures.size, c.ring.ensures.ring, c.tail-tail.ensures.tail, c.ring-in-Some.ensures.ring, c.ring-in-Some.ensures.slots.ring.one_tail, number) at c.name_slots-in-Some.ensures;
      ports = changed_over c.args.self.lent.ports change c.take_at.new.ports (rw (c.deref_mut-2.ensures.value, number) at c.take_at.ensures);
    }

pub invariant_of-result : goal.invariant_of-result
invariant_of-result c =
    let can = c.requires.1.1 in
    let b = back (goal.at.invariant_of-result c).After-put_slots in
    let put = c.put_slots-in-Some.ensures.back b.new b.out in
    let t = step c in
    let x = went c.args.self c.in-Some.ring.now c.requires.0 c.requires.1.0 b.w c.args.rest.now.items c.args.came.items can.back can.few in
    kept_now c.args.self c.in-Some.ring.now c.requires.0 c.requires.1.0 b.w c.args.rest.now.items c.args.came.items can.back can.few c.put_slots.new.hold c.put_slots-in-Some.new.hold c.name_slots.new.hold c.name_slots-in-Some.new.hold
    (b.back x.0 x.1.1) (rw put b.comes_in) (rw put b.is_new) t.pushed t.freed _ refl t.ports refl

-- whatever was lent, the buffers of the frames taken are out of the hold to which those of the others are back
record Gone (c : After-put_slots) (s : SideState) (lent : List Buffer) (back_are : c.args.rest.now.items ≡ drop (length c.args.came.items) lent) : Type 0 where
  w : LentWith Tx c.args.self.port c.args.self.lent c.in-Some.ring.now s lent
  few : length c.args.came.items ≤ length lent
  put : c.put_slots.new.hold ≡ (went c.args.self c.in-Some.ring.now s lent w c.args.rest.now.items c.args.came.items back_are few).0

gone : (c : After-put_slots) (s : SideState) (lent : List Buffer) (lends : IsLentOffers s lent c.args.self) (back_are : c.args.rest.now.items ≡ drop (length c.args.came.items) lent) → Gone c s lent back_are
gone c s lent lends back_are =
    let b = back c in
    let w = lent_with Tx c.args.self.port s lent c.args.self.lent lends c.in-Some.ring.now b.there in
    let few : length c.args.came.items ≤ length lent = omega (arith, b.enough, w.lent_count) in
    let x = went c.args.self c.in-Some.ring.now s lent w c.args.rest.now.items c.args.came.items back_are few in
    record { w = w; few = few; put = b.back x.0 x.1.1 }

pub returns-clause-own : goal.returns-clause-own
returns-clause-own c s lent lends back_are =
    let a = (goal.at.returns-clause-own c).After-put_slots in
    let g = gone a s lent lends back_are in
    let b = back a in
    let put = c.put_slots-in-Some.ensures.back b.new b.out in
    let t = step c in
    ap (own_seen c.name_slots-in-Some.new.hold) t.ports
    ∙ own_now c.args.self c.in-Some.ring.now s lent g.w c.args.rest.now.items c.args.came.items back_are g.few c.put_slots.new.hold c.put_slots-in-Some.new.hold c.name_slots.new.hold c.name_slots-in-Some.new.hold
    g.put (rw put b.comes_in) (rw put b.is_new) t.pushed t.freed

pub returns-clause-region : goal.returns-clause-region
returns-clause-region c s lent lends back_are region of are =
    let a = (goal.at.returns-clause-region c).After-put_slots in
    let g = gone a s lent lends back_are in
    let b = back a in
    let put = c.put_slots-in-Some.ensures.back b.new b.out in
    let t = step c in
    region_now c.args.self c.in-Some.ring.now s lent g.w c.args.rest.now.items c.args.came.items back_are g.few c.put_slots.new.hold c.put_slots-in-Some.new.hold c.name_slots.new.hold c.name_slots-in-Some.new.hold
    g.put (rw put b.comes_in) (rw put b.is_new) t.pushed t.freed region of are
