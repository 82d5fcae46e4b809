use Rattle.std.proofs.Common.{◌<◌, ◌≤◌, ap, arith}
use Rattle.nm_types.specs.Positions.{RingState}
use Rattle.nm_types.proofs.RingSteps.{step_on-below}
use Rattle.nm_port.specs.Puts.{ring_taken}
use Rattle.nm_port.proofs.SlotLists.{accepted_then, still_fits, still_room}
use Rattle.nm_port.proofs.take.take_out.Goals as goal

pub name_held-requires-clause-side : goal.name_held-requires-clause-side
name_held-requires-clause-side c = rw c.accept_push.ensures c.requires.side

pub name_held-requires-clause-first : goal.name_held-requires-clause-first
name_held-requires-clause-first c =
    let ring = c.args.ring.now.ring in
    let tail : ring.last_tail < ring.size = omega (arith, c.requires.is_ring.within, c.requires.is_ring.one_tail) in
    rw (c.accept_push.ensures, c.pending-first.ensures.first) (step_on-below ring.size ring.last_tail 1 tail)

pub name_held-requires-clause-count : goal.name_held-requires-clause-count
name_held-requires-clause-count c =
    let few : c.args.taken ≤ c.args.ring.now.ring.size = omega (arith, c.requires.few) in
    rw c.accept_push.ensures few

pub move_tail-requires-clause-side : goal.move_tail-requires-clause-side
move_tail-requires-clause-side c = rw (c.name_held.ensures, c.accept_push.ensures) c.requires.side

pub move_tail-requires-clause-fits : goal.move_tail-requires-clause-fits
move_tail-requires-clause-fits c = rw (c.name_held.ensures, c.accept_push.ensures) (still_fits c.args.ring.now.ring c.requires.is_ring c.requires.fits)

pub move_tail-requires-clause-taken : goal.move_tail-requires-clause-taken
move_tail-requires-clause-taken c = rw (c.name_held.ensures, c.accept_push.ensures) (still_room c.args.ring.now.ring c.args.taken c.requires.is_ring c.requires.few)

pub returns : goal.returns
returns c =
    rw (c.move_tail.ensures, c.name_held.ensures, c.accept_push.ensures, c.pending-first.ensures.first)
    (ap (λ (ring : RingState). record (ring_taken c.args.hold.now c.args.id c.args.taken c.args.ring.now) { ring = ring }) (accepted_then c.args.ring.now.ring c.args.taken))
