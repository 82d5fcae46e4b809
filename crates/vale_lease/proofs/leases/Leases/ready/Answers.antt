use Rattle.std.proofs.Common.{arith}
use Rattle.vale_lease.proofs.leases.Leases.ready.Goals as goal

pub ready_slots-requires : goal.ready_slots-requires
ready_slots-requires c =
    let within = c.self.invariant.0.within in
    let few = c.self.invariant.0.few in
    omega arith
