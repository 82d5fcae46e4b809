use Rattle.vale_fabric.specs.Fabrics.{fixed_in}
use Rattle.vale_fabric.proofs.Lent.{few-entries}
use Rattle.vale_fabric.proofs.fabric.Fabric.give.Goals as goal

pub leave-requires-clause-few : goal.leave-requires-clause-few
leave-requires-clause-few c = few-entries c.args.book.value (fixed_in c.args.self.now) c.requires.goes.fixed_is c.args.self.now.few c.requires.goes.legal
