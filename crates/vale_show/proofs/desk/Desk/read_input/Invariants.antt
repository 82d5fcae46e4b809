use Rattle.std.proofs.Common.{◌≡◌}
use Rattle.vale_show.proofs.desk.Desk.read_input.Given as goal

abbrev pub invariant-tries : goal.invariant-tries
invariant-tries g l = (l.self.files ≡ l.fn.self.files) × (l.self.faults ≡ l.fn.self.faults)
