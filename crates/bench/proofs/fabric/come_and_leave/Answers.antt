use Rattle.vale_fabric.proofs.Comers.{may-leave}
use Rattle.bench.proofs.fabric.come_and_leave.Goals as goal

pub leave-requires-clause-may : goal.leave-requires-clause-may
leave-requires-clause-may g c = may-leave c.in-Ok.session c.in-Ok.ensures.id c.in-Ok.ensures.made.makes
