use Rattle.std.proofs.Common.{rules}
use Rattle.vale_entry.specs.Closing.{is_shutting_at}
use Rattle.vale_port.specs.Ports.{is_shutting_state}
use Rattle.vale_port.proofs.Lookups.{place-some, place-none, same-shutting}
use Rattle.vale_port.proofs.ports.shutting_port.Goals as goal

pub returns-clause-some : goal.returns-clause-some
returns-clause-some c = place-some (is_shutting_state c.args.id.0) (is_shutting_at c.args.id.0) (same-shutting c.args.id.0) c.args.ports.now c.place_of_shutting.result (search rules)

pub returns-clause-none : goal.returns-clause-none
returns-clause-none c = place-none (is_shutting_state c.args.id.0) (is_shutting_at c.args.id.0) (same-shutting c.args.id.0) c.args.ports.now c.place_of_shutting.result (search rules)
