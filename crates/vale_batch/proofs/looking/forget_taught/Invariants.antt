use Rattle.std.proofs.Common.{◌≡◌}
use Rattle.std.specs.Vec.{vec_len}
use Rattle.vale_batch.specs.Looking.{untaught_all}
use Rattle.vale_batch.proofs.looking.forget_taught.Given as goal

abbrev pub invariant-loop-taught : goal.invariant-loop-taught
invariant-loop-taught l = untaught_all l.table l.taughts.items ≡ untaught_all l.fn.table l.fn.taughts.items

abbrev pub decreases-loop-taught : goal.decreases-loop-taught
decreases-loop-taught l = vec_len l.taughts
