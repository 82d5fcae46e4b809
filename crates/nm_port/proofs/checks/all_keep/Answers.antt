use Rattle.nm_types.proofs.Tests.{false_true}
use Rattle.nm_hold.specs.Holds.{AreNumbers}
use Rattle.nm_port.proofs.Keeping.{kept_passes}
use Rattle.nm_port.proofs.checks.all_keep.Goals as goal

pub returns-then-is_plain_on : goal.returns-then-is_plain_on
returns-then-is_plain_on c e whole named well =
    let h = c.args.hold.now in
    let r = c.args.ring.now in
    let numbers = c.in-Some.numbers.now in
    let numbered : AreNumbers h r.side c.args.port numbers = rw (c.in-Some.is, c.side.ensures) at c.numbers.ensures.numbers in
    kept_passes h c.args.port r numbers c.ring_matches.ensures.ring.ring c.requires.fits numbered c.requires.named (c.ring_matches.ensures.keeps e) c.numbers.ensures.hold (c.is_plain_on.ensures c.if-is_plain_on.true) whole named well

pub returns-in-None : goal.returns-in-None
returns-in-None c e whole named well = false_true e
