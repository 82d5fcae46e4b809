use Rattle.std.proofs.Common.{ℕ, ◌≡◌, ◌++◌, ◌∷◌, ◌∙◌, true, set, take, Some, if◌then◌else◌, refl, sym, ap}
use Rattle.nm_types.specs.declared.place.Place.{Place}
use Rattle.nm_types.specs.declared.place.Place.TheVariants as place
use Rattle.nm_types.specs.Places.{is_same_place}
use Rattle.nm_types.specs.Buffers.{IsBufferIndex, cleared_but}
use Rattle.nm_types.specs.OwnPorts.{Arrival}
use Rattle.nm_region.specs.Buffers.{Buffer}
use Rattle.nm_hold.specs.Offsets.{has_place}
use Rattle.nm_hold.specs.Holds.{buffers_of, index_at, standing_at, with_cell}
use Rattle.nm_port.specs.declared.port.UserPort.{UserPort}
use Rattle.nm_port.specs.RingSlots.{RingSlots}
use Rattle.nm_port.specs.Own.{own_seen}
use Rattle.nm_port.specs.Filling.{placed}
use Rattle.nm_own.specs.Opening.{IsNew}
use Rattle.nm_port.specs.Receives.{ring_published, own_with_arrival}
use Rattle.nm_port.specs.Regions.{SideState}
use Rattle.nm_port.proofs.Regions.{of_seen, holds_added}
use Rattle.nm_own.proofs.OnePort.{kept_with}
use Rattle.nm_own.proofs.Published.{Receives, belongs, empty, others, with_frame, changes, received_is_seen}
use Rattle.nm_own.proofs.ReceivedAt.{within, receives_here, set_there}
use Rattle.nm_own.proofs.Readied.{away_of}
use Rattle.nm_own.proofs.RxPlaces.{with_rx}
use Rattle.nm_own.proofs.own.OwnSide.receive_at.Goals as goal
use Rattle.nm_own.proofs.own.OwnSide.receive_at.Goals.{After-index_mut, After-publish-slot}

pub index_mut-requires : goal.index_mut-requires
index_mut-requires c = within c.self.inside c.self.invariant c.args.self.now c.self.view_is c.args.port c.args.at c.requires.place c.requires.room

-- the port has a free slot, at its tail
receives : (c : After-index_mut) → Receives c.self.inside.hold c.self.inside.ports.items c.args.port c.index_mut.result.now c.index_mut.result.now.rx
receives c = receives_here c.self.inside c.self.invariant c.args.self.now c.self.view_is c.args.port c.args.at c.requires.place c.requires.room c.index_mut.result.now c.index_mut.ensures.value

at_tail : (c : After-publish-slot) → c.publish-slot.result ≡ c.index_mut.result.now.rx.ring.last_tail
at_tail c = c.publish-slot.ensures.slot

pub publish-slot-requires-clause-side : goal.publish-slot-requires-clause-side
publish-slot-requires-clause-side c = (receives (goal.at.publish-slot-requires-clause-side c).After-index_mut).room.side

pub publish-slot-requires-clause-fits : goal.publish-slot-requires-clause-fits
publish-slot-requires-clause-fits c = (receives (goal.at.publish-slot-requires-clause-fits c).After-index_mut).room.fits

pub publish-slot-requires-clause-accepted : goal.publish-slot-requires-clause-accepted
publish-slot-requires-clause-accepted c = (receives (goal.at.publish-slot-requires-clause-accepted c).After-index_mut).room.accepted

pub publish-slot-requires-clause-room : goal.publish-slot-requires-clause-room
publish-slot-requires-clause-room c = (receives (goal.at.publish-slot-requires-clause-room c).After-index_mut).room.free

pub add_received-requires-clause-belongs : goal.add_received-requires-clause-belongs
add_received-requires-clause-belongs c =
    let h = c.self.inside.hold in
    let to = goal.at.add_received-requires-clause-belongs c in
    ap (λ (n : ℕ). has_place h.ports (place.Rx c.args.port n)) (at_tail to.After-publish-slot) ∙ belongs h c.self.inside.ports.items c.args.port c.index_mut.result.now c.index_mut.result.now.rx (receives to.After-index_mut)

pub add_received-requires-clause-empty : goal.add_received-requires-clause-empty
add_received-requires-clause-empty c =
    let h = c.self.inside.hold in
    let to = goal.at.add_received-requires-clause-empty c in
    ap (λ (n : ℕ). index_at h (place.Rx c.args.port n)) (at_tail to.After-publish-slot) ∙ empty h c.self.inside.ports.items c.args.port c.index_mut.result.now c.index_mut.result.now.rx (receives to.After-index_mut)

pub add_received-requires-clause-apart : goal.add_received-requires-clause-apart
add_received-requires-clause-apart c =
    let o = c.self.inside in
    let new_index : IsNew (own_seen o.hold o.ports.items) c.args.buf.index = rw (← c.self.view_is) at c.requires.new in
    let number : c.clear_behind.new.buf.index ≡ c.args.buf.index = ap (λ (b : Buffer). b.index) c.clear_behind.ensures.cleared in
    ap (standing_at o.hold) number ∙ away_of o.hold o.ports.items c.args.buf.index c.self.invariant.whole new_index.1

-- what is known once the frame is published
record Step (c : goal.After-add_received) : Type 0 where
  receives : Receives c.self.inside.hold c.self.inside.ports.items c.args.port c.index_mut.result.now c.index_mut.result.now.rx
  cleared : c.clear_behind.new.buf.bytes ≡ cleared_but (take c.args.len c.args.buf.bytes)
  number : c.clear_behind.new.buf.index ≡ c.args.buf.index
  index : IsBufferIndex (buffers_of c.self.inside.hold) c.clear_behind.new.buf.index
  cell : c.add_received.new.self ≡ with_cell c.self.inside.hold c.clear_behind.new.buf.index (Some (placed (place.Rx c.args.port c.index_mut.result.now.rx.ring.last_tail) true c.clear_behind.new.buf))
  places : (q : Place) → index_at c.add_received.new.self q ≡ (if is_same_place (place.Rx c.args.port c.index_mut.result.now.rx.ring.last_tail) q then Some c.clear_behind.new.buf.index else index_at c.self.inside.hold q)

step : (c : goal.After-add_received) → Step c
step c =
    let o = c.self.inside in
    let p = c.index_mut.result.now in
    let tail : c.publish-slot.result ≡ p.rx.ring.last_tail = c.publish-slot.ensures.slot in
    let new_index : IsNew (own_seen o.hold o.ports.items) c.args.buf.index = rw (← c.self.view_is) at c.requires.new in
    let number : c.clear_behind.new.buf.index ≡ c.args.buf.index = ap (λ (b : Buffer). b.index) c.clear_behind.ensures.cleared in
    record {
      receives = receives_here o c.self.invariant c.args.self.now c.self.view_is c.args.port c.args.at c.requires.place c.requires.room c.index_mut.result.now c.index_mut.ensures.value;
      cleared = ap (λ (b : Buffer). b.bytes) c.clear_behind.ensures.cleared;
      number = number;
      index = rw number new_index.0;
      cell = rw (← tail) c.add_received.ensures.cell;
      places = rw (← tail) c.add_received.ensures.places;
    }

-- the port that has the frame, and the ports with it
abbrev framed : (c : goal.After-add_received) → UserPort
framed c = with_frame c.self.inside.hold c.self.inside.ports.items c.args.port c.index_mut.result.now c.index_mut.result.now.rx (step c).receives c.add_received.new.self c.clear_behind.new.buf (take c.args.len c.args.buf.bytes) c.args.len c.args.rest (step c).cleared c.requires.len c.clear_behind.ensures.size (step c).index (step c).cell (step c).places c.add_received.ensures.hold

ports_are : (c : goal.After-add_received) → set c.self.inside.ports.items c.args.at (with_rx c.index_mut.result.now c.publish-slot.new.self)
    ≡ (others c.self.inside.hold c.self.inside.ports.items c.args.port c.index_mut.result.now c.index_mut.result.now.rx (step c).receives).before
    ++ framed c ∷ (others c.self.inside.hold c.self.inside.ports.items c.args.port c.index_mut.result.now c.index_mut.result.now.rx (step c).receives).behind
ports_are c =
    let p = c.index_mut.result.now in
    let moved : c.publish-slot.new.self ≡ ring_published c.clear_behind.new.buf.index c.args.len c.args.rest p.rx = c.publish-slot.ensures.ring ∙ ap (λ (n : ℕ). ring_published n c.args.len c.args.rest p.rx) (c.index.ensures ∙ sym (step c).number) in
    ap (λ (r : RingSlots). set c.self.inside.ports.items c.args.at (with_rx p r)) moved
    ∙ set_there c.self.inside c.self.invariant c.args.self.now c.self.view_is c.args.port c.args.at c.requires.place c.requires.room p (step c).receives (framed c)

pub invariant_of-self : goal.invariant_of-self
invariant_of-self c =
    let s = step c in
    let h = c.self.inside.hold in
    let ports = c.self.inside.ports.items in
    let p = c.index_mut.result.now in
    let buf = c.clear_behind.new.buf in
    let frame = take c.args.len c.args.buf.bytes in
    kept_with c.self.inside _ c.args.port p (framed c) c.self.invariant s.receives.has.same_id (others h ports c.args.port p p.rx s.receives)
    (changes h ports c.args.port p p.rx s.receives c.add_received.new.self buf frame c.args.len c.args.rest s.cleared c.requires.len c.clear_behind.ensures.size s.index s.cell s.places c.add_received.ensures.hold c.self.invariant.whole) (ports_are c) refl

pub returns : goal.returns
returns c =
    let s = step c in
    let h = c.self.inside.hold in
    let p = c.index_mut.result.now in
    let frame = take c.args.len c.args.buf.bytes in
    record {
      own = ap (own_seen c.add_received.new.self) (ports_are c)
          ∙ (received_is_seen h c.self.inside.ports.items c.args.port p p.rx s.receives c.add_received.new.self c.clear_behind.new.buf frame c.args.len c.args.rest s.cleared c.requires.len c.clear_behind.ensures.size s.index s.cell s.places c.add_received.ensures.hold
          ∙ (ap (λ (i : ℕ). let came : Arrival = record { buffer = i; bytes = frame; rest = c.args.rest } in own_with_arrival c.args.port.0 (own_seen h c.self.inside.ports.items) came) s.number
          ∙ ap (λ (o : SideState). let came : Arrival = record { buffer = c.args.buf.index; bytes = frame; rest = c.args.rest } in own_with_arrival c.args.port.0 o.own came) c.self.view_is));
      region = λ region of own. holds_added region h c.add_received.new.self c.clear_behind.new.buf.index _ s.cell (ap (λ (b : Buffer). b.region) c.clear_behind.ensures.cleared ∙ own) (of_seen region h c.self.inside.ports.items c.args.self.now c.self.view_is of);
    }
