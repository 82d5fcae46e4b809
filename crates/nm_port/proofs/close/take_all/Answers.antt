use Rattle.std.proofs.Common.{◌≡◌, ◌<◌, ◌+◌, ◌∷◌, [], length, List, if◌then◌else◌, None, ap, ◌∙◌, arith, length-append}
use Rattle.std.specs.Vec.{vec_capacity}
use Rattle.nm_types.specs.declared.place.Place.{Place}
use Rattle.nm_types.specs.Places.{is_same_place}
use Rattle.nm_region.specs.Buffers.{Buffer}
use Rattle.nm_hold.specs.Holds.{index_at}
use Rattle.nm_port.specs.Closing.{place_count, held_place, held_places}
use Rattle.nm_port.proofs.Taking.{still_held, not_yet, taken_next, held_more}
use Rattle.nm_port.proofs.close.take_all.Goals as goal

pub remove-requires : goal.remove-requires
remove-requires c =
    let below : c.loop-k.k < place_count c.args.port.now = omega (arith, c.loop-k-test.true, c.place_count-k-end.ensures) in
    rw c.held_place.ensures (still_held c.args.hold.now c.loop-k.hold c.args.port.now c.loop-k.k c.args.back.now.items c.loop-k.back.items c.loop-k.invariant.0 c.requires.ring (c.requires.held c.loop-k.k below))

pub loop-k-preserved : goal.loop-k-preserved
loop-k-preserved c =
    let p = c.args.port.now in
    let k = c.loop-k.k in
    let inv = c.loop-k.invariant in
    let index : (q : Place) → index_at c.remove.new.self q ≡ (if is_same_place (held_place p k) q then None else index_at c.loop-k.hold q) = rw (← c.held_place.ensures) c.remove.ensures.places in
    let taken = taken_next c.args.hold.now c.loop-k.hold c.remove.new.self (held_places p k) c.args.back.now.items c.loop-k.back.items (held_place p k) c.remove.result inv.0 (not_yet p k c.requires.ring)
    (rw (← c.held_place.ensures) c.remove.ensures.index) c.remove.ensures.buffer c.remove.ensures.cell index c.remove.ensures.hold in
    let count : length c.push_reserved.new.self.items ≡ length c.loop-k.back.items + 1 = ap (λ (xs : List Buffer). length xs) c.push_reserved.ensures.items ∙ length-append c.loop-k.back.items (c.remove.result ∷ []) in
    let room : vec_capacity c.push_reserved.new.self ≡ vec_capacity c.args.back.now = c.push_reserved.ensures.capacity ∙ inv.1 in
    (rw (held_more p k, c.push_reserved.ensures.items) taken, room, omega (arith, count, inv.2))
