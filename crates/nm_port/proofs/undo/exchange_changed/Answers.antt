use Rattle.std.proofs.Common.{ℕ, ◌≡◌, ◌∙◌, ◌∷◌, ◌+◌, ◌<◌, [], length, List, Some, refl, ap, arith, length-append}
use Rattle.std.specs.Vec.{vec_capacity}
use Rattle.nm_hold.specs.Holds.{index_at}
use Rattle.nm_port.specs.RingSlots.{slot_at}
use Rattle.nm_port.specs.Sides.{name_at}
use Rattle.nm_port.specs.Exchanges.{pushed_count_of, user_position, user_place}
use Rattle.nm_port.specs.Lending.{AreChanged}
use Rattle.nm_port.proofs.Pushes.{user_at}
use Rattle.nm_port.proofs.Exchanged.{held_now, named_now, exchanged_next}
use Rattle.nm_port.proofs.Undoing.{one_more_change}
use Rattle.nm_port.proofs.undo.exchange_changed.Goals as goal

pub index_in-requires : goal.index_in-requires
index_in-requires c =
    rw (c.place_on-place.ensures, c.side-side.ensures, c.pushed-first.ensures.first, c.size-size.ensures.size, c.ring.ensures.ring)
    (held_now c.args.hold.now c.loop-k.hold c.loop-k.hold c.args.port c.args.ring.now c.loop-k.k c.requires.ring c.requires.can c.loop-k.invariant.0 (omega (arith, c.loop-k-test.true, c.pushed-first.ensures.count)))

pub user_slot-requires : goal.user_slot-requires
user_slot-requires c = user_at c.args.ring.now.ring _ _ _ _ c.loop-k.k c.size-size.ensures.size c.ring.ensures.ring c.pushed-first.ensures.first c.pushed-first.ensures.count c.requires.ring c.requires.can.fits c.loop-k-test.true

pub exchange-requires-clause-named : goal.exchange-requires-clause-named
exchange-requires-clause-named c =
    rw (c.user_slot.ensures, c.pushed-first.ensures.first, c.size-size.ensures.size, c.ring.ensures.ring)
    (named_now c.args.hold.now c.loop-k.hold c.loop-k.hold c.args.port c.args.ring.now c.loop-k.k c.requires.ring c.requires.can c.loop-k.invariant.0 (omega (arith, c.loop-k-test.true, c.pushed-first.ensures.count)))

pub loop-k-preserved : goal.loop-k-preserved
loop-k-preserved c =
    let h = c.args.hold.now in
    let now = c.loop-k.hold in
    let new = c.exchange.new.self in
    let id = c.args.port in
    let r = c.args.ring.now in
    let k = c.loop-k.k in
    let inv = c.loop-k.invariant in
    let below : k < pushed_count_of r = omega (arith, c.loop-k-test.true, c.pushed-first.ensures.count) in
    let place : c.place_on-place.result ≡ user_place id r k = rw (c.place_on-place.ensures, c.side-side.ensures, c.pushed-first.ensures.first, c.size-size.ensures.size, c.ring.ensures.ring) refl in
    let names : c.user_slot.result ≡ slot_at r (user_position r k) = rw (c.user_slot.ensures, c.pushed-first.ensures.first, c.size-size.ensures.size, c.ring.ensures.ring) refl in
    let places = rw (place, names) at c.exchange.ensures.places in
    let named = rw (place, names) at c.exchange.ensures.named in
    let stood : index_at now (user_place id r k) ≡ Some c.index_in.result = rw place at c.index_in.ensures in
    let exchanged = exchanged_next h now new id r k c.requires.ring c.requires.can inv.0 below places c.exchange.ensures.all named c.exchange.ensures.ports c.exchange.ensures.hold in
    let change : AreChanged now new (user_place id r k) (name_at r (user_position r k)) c.index_in.result =
    record {
      stood = stood;
      named = inv.0.there (user_place id r k) (c.requires.can.there k below) c.index_in.result stood;
      names_named = named_now h now now id r k c.requires.ring c.requires.can inv.0 below;
      places = places;
      names = λ i. named c.index_in.result i stood;
      bufs = c.exchange.ensures.all;
      ports = c.exchange.ensures.ports;
      is_hold = inv.0.is_hold;
    } in
    let swapped = one_more_change h now new id r c.loop-k.was.items k c.index_in.result inv.2 inv.1 change in
    let count : length c.push_reserved.new.self.items ≡ k + 1 = ap (λ (xs : List ℕ). length xs) c.push_reserved.ensures.items ∙ (length-append c.loop-k.was.items (c.index_in.result ∷ []) ∙ ap (λ (n : ℕ). n + 1) inv.2) in
    let room : vec_capacity c.push_reserved.new.self ≡ vec_capacity c.args.was.now = c.push_reserved.ensures.capacity ∙ inv.3 in
    (exchanged, rw c.push_reserved.ensures.items swapped, count, room)
