use Rattle.std.proofs.Common.{ℕ, ◌+◌, ◌%◌, ◌^◌, ap}
use Rattle.vale_gen.specs.Load.{number_behind}
use Rattle.vale_gen.proofs.workload.Workload.new.Goals as goal

pub invariant_of-result : goal.invariant_of-result
unfolding number_behind
invariant_of-result c = (c.in_ok-port_name.ensures, ap (λ (user : ℕ). (c.args.n + user) % 2 ^ 64) c.from.ensures)
