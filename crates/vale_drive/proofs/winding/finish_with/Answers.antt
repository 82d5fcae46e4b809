use Rattle.std.proofs.Common.{◌≤◌}
use Rattle.vale_serve.specs.Users.{most_due}
use Rattle.vale_drive.proofs.NextPorts.{due-small}
use Rattle.vale_drive.proofs.winding.finish_with.Goals as goal

pub finish_by-requires-clause-space : goal.finish_by-requires-clause-space
finish_by-requires-clause-space c =
    let small : c.args.seen.due ≤ most_due = due-small c.args.book.now c.requires.owner.user c.args.port c.args.seen c.requires.users.legal c.requires.owner.asker in
    small
