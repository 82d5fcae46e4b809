use Rattle.std.proofs.Common.{refl, sym, ◌∙◌}
use Rattle.vale_drive.proofs.NextLeases.{all-quiet, completes-next}
use Rattle.vale_drive.proofs.winding.complete_first.Goals as goal

pub returns-in_default-clause-turn : goal.returns-in_default-clause-turn
returns-in_default-clause-turn c =
    let e = rw c.deref.ensures.value at (sym c.oldest_lease.ensures ∙ c.in_default.is) in
    (refl, all-quiet c.args.users.now.items c.requires.granted e)

pub returns-clause-turn : goal.returns-clause-turn
returns-clause-turn c =
    let first = rw c.deref.ensures.value at (sym c.oldest_lease.ensures ∙ c.in-Some.is) in
    completes-next c.args.book.now c.done_at.new.book c.args.users.now.items c.in-Some.lease c.done_at.result c.requires.users c.requires.granted first c.done_at.ensures.served
