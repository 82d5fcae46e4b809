use Rattle.std.proofs.Common.{refl}
use Rattle.vale_fabric.proofs.Acting.{goes-now, answers-now}
use Rattle.vale_fabric.proofs.Lent.{as-lent}
use Rattle.vale_book.proofs.Said.{leave-said}
use Rattle.vale_fabric.proofs.Making.{enabled-now}
use Rattle.vale_fabric.proofs.fabric.Fabric.leave.Goals as goal

pub leave-requires : goal.leave-requires
leave-requires g c = enabled-now c.requires.may (as-lent c.deref_mut.ensures.value c.take-book.ensures.taken)

pub give-requires-clause-goes : goal.give-requires-clause-goes
give-requires-clause-goes g c = goes-now (as-lent c.deref_mut.ensures.value c.take-book.ensures.taken) c.requires.may refl tt c.leave.ensures.made c.leave.ensures.room

pub returns-clause-made : goal.returns-clause-made
returns-clause-made g c = answers-now (as-lent c.deref_mut.ensures.value c.take-book.ensures.taken) c.give.ensures.back c.requires.may tt leave-said c.leave.ensures.made c.leave.ensures.room
