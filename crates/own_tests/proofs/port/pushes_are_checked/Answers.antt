use Rattle.std.proofs.Common.{◌≡◌, false, replicate, rules}
use Rattle.own_tests.proofs.port.pushes_are_checked.Goals as goal

pub check_all-requires : goal.check_all-requires
check_all-requires g c =
    let marks : c.in-Ok-Ok-Ok.marks ≡ replicate 66 false = search rules in
    rw c.loop-at.invariant.pool marks
