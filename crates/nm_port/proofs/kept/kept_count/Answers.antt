use Rattle.nm_hold.specs.Holds.{AreNumbers}
use Rattle.nm_port.proofs.Unmoved.{kept_exchanged}
use Rattle.nm_port.proofs.kept.kept_count.Goals as goal

pub returns-in-Some-clause-exchanged : goal.returns-in-Some-clause-exchanged
returns-in-Some-clause-exchanged c =
    let h = c.args.hold.now in
    let r = c.args.ring.now in
    let numbers = c.in-Some.numbers.now in
    let numbered : AreNumbers h r.side c.args.port numbers = rw (c.in-Some.is, c.side.ensures) at c.numbers.ensures.numbers in
    kept_exchanged h c.args.port r c.requires.ring c.requires.can numbers numbered c.count_kept.result c.count_kept.ensures.few c.count_kept.ensures.kept
