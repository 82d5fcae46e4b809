use Rattle.std.proofs.Common.{◌≡◌}
use Rattle.user_tests.proofs.users.threads.send_all.Given as goal

abbrev pub invariant-loop : goal.invariant-loop
invariant-loop g l = l.user.session.fabric ≡ l.fn.user.session.fabric
