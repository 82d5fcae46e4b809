use Rattle.std.proofs.Common.{ap}
use Rattle.nm_types.specs.Positions.{RingState}
use Rattle.nm_port.specs.Exchanges.{ring_pushed_out}
use Rattle.nm_port.proofs.SlotLists.{accepted_then, still_fits, still_room}
use Rattle.nm_port.proofs.slot_ring.SlotRing.push_out.Goals as goal

pub move_tail-requires-clause-fits : goal.move_tail-requires-clause-fits
move_tail-requires-clause-fits c = rw c.accept_push.ensures (still_fits c.args.self.now.ring c.requires.is_ring c.requires.fits)

pub move_tail-requires-clause-taken : goal.move_tail-requires-clause-taken
move_tail-requires-clause-taken c = rw c.accept_push.ensures (still_room c.args.self.now.ring c.args.taken c.requires.is_ring c.requires.few)

pub returns : goal.returns
returns c = rw (c.move_tail.ensures, c.accept_push.ensures) (ap (λ (ring : RingState). record (ring_pushed_out c.args.taken c.args.self.now) { ring = ring }) (accepted_then c.args.self.now.ring c.args.taken))
