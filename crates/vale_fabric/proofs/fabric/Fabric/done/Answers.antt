use Rattle.std.proofs.Common.{refl}
use Rattle.vale_fabric.proofs.Acting.{goes-now, answers-now}
use Rattle.vale_fabric.proofs.FilledNow.{may-fill, filled-now}
use Rattle.vale_fabric.proofs.Lent.{as-lent}
use Rattle.vale_book.proofs.Said.{done-said}
use Rattle.vale_fabric.proofs.Making.{enabled-now}
use Rattle.vale_fabric.proofs.fabric.Fabric.done.Goals as goal

pub done-requires-clause-filled : goal.done-requires-clause-filled
done-requires-clause-filled g c =
    let taken = (as-lent c.deref_mut.ensures.value c.take-book.ensures.taken) in
    filled-now taken (enabled-now (may-fill taken c.requires.may) taken) c.requires.may

pub give-requires-clause-goes : goal.give-requires-clause-goes
give-requires-clause-goes g c =
    let taken = (as-lent c.deref_mut.ensures.value c.take-book.ensures.taken) in
    goes-now taken (may-fill taken c.requires.may) refl tt c.done.ensures.made c.done.ensures.room

pub returns-clause-made : goal.returns-clause-made
returns-clause-made g c =
    let taken = (as-lent c.deref_mut.ensures.value c.take-book.ensures.taken) in
    answers-now taken c.give.ensures.back (may-fill taken c.requires.may) tt done-said c.done.ensures.made c.done.ensures.room
