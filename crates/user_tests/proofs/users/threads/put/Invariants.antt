use Rattle.std.proofs.Common.{◌≡◌}
use Rattle.user_tests.proofs.users.threads.put.Given as goal

abbrev pub invariant-loop : goal.invariant-loop
invariant-loop l = l.session.fabric ≡ l.fn.session.fabric
