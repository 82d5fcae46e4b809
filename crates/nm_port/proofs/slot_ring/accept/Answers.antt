use Rattle.std.proofs.Common.{arith}
use Rattle.nm_port.proofs.SlotLists.{accepted_none, accepted_ring}
use Rattle.nm_port.proofs.slot_ring.accept.Goals as goal

pub returns : goal.returns
returns c =
    let ring = c.args.ring.now in
    let is = c.tail-tail.ensures.ring in
    record {
      accepted = rw (c.advance.ensures, c.head-head.ensures, c.cur-cur.ensures, c.tail-tail.ensures.tail) (accepted_none ring is);
      ring = rw (c.advance.ensures, c.head-head.ensures, c.cur-cur.ensures, c.tail-tail.ensures.tail) (accepted_ring ring ring.tail is c.requires.head_within (omega (arith, is.within)));
    }
