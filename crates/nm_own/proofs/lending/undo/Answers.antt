use Rattle.std.proofs.Common.{◌≡◌, ◌∙◌, sym, ap, subst}
use Rattle.nm_hold.specs.Holds.{HoldState}
use Rattle.nm_port.specs.Regions.{SideState, side_seen}
use Rattle.nm_own.specs.Kept.{IsKept}
use Rattle.nm_own.specs.LentSides.{IsLent}
use Rattle.nm_own.proofs.LentSides.{LentWith, IsLentRing, lent_with, lent_ring}
use Rattle.nm_own.proofs.lending.undo.Goals as goal
use Rattle.nm_own.proofs.lending.undo.Goals.{In-Some, After-put_slots}

-- what was lent of the ring that was found
lent_there : (c : In-Some) (s : SideState) → IsLent c.args.side c.args.port s c.args.bufs.now.items c.args.lent → LentWith c.args.side c.args.port c.args.lent c.in-Some.ring.now s c.args.bufs.now.items
lent_there c s x = lent_with c.args.side c.args.port s c.args.bufs.now.items c.args.lent x c.in-Some.ring.now (sym (rw (c.in-Some.is, c.deref.ensures.value) at c.ring_at.ensures))

there : (c : In-Some) → LentWith c.args.side c.args.port c.args.lent c.in-Some.ring.now c.requires.0 c.args.bufs.now.items
there c = lent_there c c.requires.0 c.requires.1

its_ring : (c : In-Some) → IsLentRing c.args.side c.args.lent c.in-Some.ring.now c.args.bufs.now.items
its_ring c = lent_ring c.args.side c.args.port c.args.lent c.in-Some.ring.now c.requires.0 c.args.bufs.now.items (there c)

pub lent_slots-first-requires : goal.lent_slots-first-requires
lent_slots-first-requires c = (its_ring (goal.at.lent_slots-first-requires c).In-Some).fits.head_within

pub put_slots-requires-clause-first : goal.put_slots-requires-clause-first
put_slots-requires-clause-first c =
    rw (c.size-size.ensures.size, c.ring.ensures.ring, c.lent_slots-first.ensures.first) (its_ring (goal.at.put_slots-requires-clause-first c).In-Some).within

pub put_slots-requires-clause-few : goal.put_slots-requires-clause-few
put_slots-requires-clause-few c = (its_ring (goal.at.put_slots-requires-clause-few c).In-Some).few

pub put_slots-requires-clause-out : goal.put_slots-requires-clause-out
put_slots-requires-clause-out c =
    let w = there (goal.at.put_slots-requires-clause-out c).In-Some in
    (w.exchanged, rw (c.side.ensures, c.size-size.ensures.size, c.ring.ensures.ring, c.lent_slots-first.ensures.unnamed, c.lent_slots-first.ensures.first) w.out)

-- the buffers are back in their places
put_back : (c : After-put_slots) (s : SideState) (w : LentWith c.args.side c.args.port c.args.lent c.in-Some.ring.now s c.args.bufs.now.items) → c.put_slots.new.hold ≡ w.exchanged
put_back c s w = c.put_slots.ensures.back w.exchanged (rw (c.side.ensures, c.size-size.ensures.size, c.ring.ensures.ring, c.lent_slots-first.ensures.unnamed, c.lent_slots-first.ensures.first) w.out)

pub exchange_back-requires-clause-ring : goal.exchange_back-requires-clause-ring
exchange_back-requires-clause-ring c = (its_ring (goal.at.exchange_back-requires-clause-ring c).In-Some).ring

pub exchange_back-requires-clause-head : goal.exchange_back-requires-clause-head
exchange_back-requires-clause-head c = (its_ring (goal.at.exchange_back-requires-clause-head c).In-Some).fits.head_within

pub exchange_back-requires-clause-few : goal.exchange_back-requires-clause-few
exchange_back-requires-clause-few c = (its_ring (goal.at.exchange_back-requires-clause-few c).In-Some).few_replaced

pub exchange_back-requires-clause-swapped : goal.exchange_back-requires-clause-swapped
exchange_back-requires-clause-swapped c =
    let a = goal.at.exchange_back-requires-clause-swapped c in
    let w = there a.In-Some in
    (w.was, rw (put_back a.After-put_slots c.requires.0 w) w.swapped)

pub invariant_of-result : goal.invariant_of-result
invariant_of-result c =
    let a = goal.at.invariant_of-result c in
    let w = there a.In-Some in
    let was = c.exchange_back.ensures w.was (rw (put_back a.After-put_slots c.requires.0 w) w.swapped) in
    subst (λ (h : HoldState). IsKept (record { hold = h; ports = c.args.lent.ports; marks = c.args.lent.marks })) (sym was) w.kept

pub returns : goal.returns
returns c = record {
  own = λ s x. (let a = goal.at.returns c in
      let w = lent_there a.In-Some s x in
      let was = c.exchange_back.ensures w.was (rw (put_back a.After-put_slots s w) w.swapped) in
      ap (λ (h : HoldState). side_seen h c.args.lent.ports.items) was ∙ sym w.seen);
  none = c.put_slots.ensures.bufs;
  capacity = c.put_slots.ensures.capacity;
}
