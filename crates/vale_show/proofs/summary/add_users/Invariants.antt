use Rattle.std.proofs.Common.{◌≡◌, ◌++◌, take, flat_map}
use Rattle.vale_show.specs.Summary.{user_line}
use Rattle.vale_show.proofs.summary.add_users.Given as goal

abbrev pub invariant-loop-user : goal.invariant-loop-user
invariant-loop-user l =
    l.page.bytes ≡ l.fn.page.bytes ++ flat_map user_line (take l.user-index l.users)
