use Rattle.std.proofs.Common.{rules}
use Rattle.vale_entry.specs.World.{is_open_at}
use Rattle.vale_port.specs.Ports.{is_open_state}
use Rattle.vale_port.proofs.Lookups.{place-some, place-none, same-open}
use Rattle.vale_port.proofs.ports.offered_port.Goals as goal

pub returns-clause-some : goal.returns-clause-some
returns-clause-some c = place-some (is_open_state c.args.to.0) (is_open_at c.args.to.0) (same-open c.args.to.0) c.args.ports.now c.open_place_by_halves.result (search rules)

pub returns-clause-none : goal.returns-clause-none
returns-clause-none c = place-none (is_open_state c.args.to.0) (is_open_at c.args.to.0) (same-open c.args.to.0) c.args.ports.now c.open_place_by_halves.result (search rules)
