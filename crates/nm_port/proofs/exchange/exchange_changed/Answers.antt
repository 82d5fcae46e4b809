use Rattle.std.proofs.Common.{◌≡◌, ◌<◌, refl, arith}
use Rattle.nm_port.specs.RingSlots.{slot_at}
use Rattle.nm_port.specs.Exchanges.{pushed_count_of, user_position, user_place}
use Rattle.nm_port.proofs.Pushes.{user_at}
use Rattle.nm_port.proofs.Exchanged.{held_now, named_now, exchanged_next}
use Rattle.nm_port.proofs.exchange.exchange_changed.Goals as goal

pub user_slot-requires : goal.user_slot-requires
user_slot-requires c = user_at c.args.ring.now.ring _ _ _ _ c.loop-k.k c.size-size.ensures.size c.ring.ensures.ring c.pushed-first.ensures.first c.pushed-first.ensures.count c.requires.ring c.requires.can.fits c.loop-k-test.true

pub exchange-requires-clause-held : goal.exchange-requires-clause-held
exchange-requires-clause-held c =
    rw (c.place_on.ensures, c.side-side.ensures, c.pushed-first.ensures.first, c.size-size.ensures.size, c.ring.ensures.ring)
    (held_now c.args.hold.now c.loop-k.hold c.loop-k.hold c.args.port c.args.ring.now c.loop-k.k c.requires.ring c.requires.can c.loop-k.invariant (omega (arith, c.loop-k-test.true, c.pushed-first.ensures.count)))

pub exchange-requires-clause-named : goal.exchange-requires-clause-named
exchange-requires-clause-named c =
    rw (c.user_slot.ensures, c.pushed-first.ensures.first, c.size-size.ensures.size, c.ring.ensures.ring)
    (named_now c.args.hold.now c.loop-k.hold c.loop-k.hold c.args.port c.args.ring.now c.loop-k.k c.requires.ring c.requires.can c.loop-k.invariant (omega (arith, c.loop-k-test.true, c.pushed-first.ensures.count)))

-- the place of the next slot, and the buffer that it names
record Next (c : goal.After-exchange) : Type 0 where
  below : c.loop-k.k < pushed_count_of c.args.ring.now
  place : c.place_on.result ≡ user_place c.args.port c.args.ring.now c.loop-k.k
  names : c.user_slot.result ≡ slot_at c.args.ring.now (user_position c.args.ring.now c.loop-k.k)

next : (c : goal.After-exchange) → Next c
next c = record {
  below = omega (arith, c.loop-k-test.true, c.pushed-first.ensures.count);
  place = rw (c.place_on.ensures, c.side-side.ensures, c.pushed-first.ensures.first, c.size-size.ensures.size, c.ring.ensures.ring) refl;
  names = rw (c.user_slot.ensures, c.pushed-first.ensures.first, c.size-size.ensures.size, c.ring.ensures.ring) refl;
}

pub loop-k-preserved : goal.loop-k-preserved
loop-k-preserved c =
    let n = next c in
    let places = rw (n.place, n.names) at c.exchange.ensures.places in
    let named = rw (n.place, n.names) at c.exchange.ensures.named in
    exchanged_next c.args.hold.now c.loop-k.hold c.exchange.new.self c.args.port c.args.ring.now c.loop-k.k c.requires.ring c.requires.can c.loop-k.invariant n.below
    places c.exchange.ensures.all named c.exchange.ensures.ports c.exchange.ensures.hold
