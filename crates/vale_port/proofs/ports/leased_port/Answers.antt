use Rattle.std.proofs.Common.{rules, ◌≡◌}
use Rattle.std.specs.Prelude.{position}
use Rattle.vale_entry.specs.Delivered.{has_id}
use Rattle.vale_port.specs.Ports.{is_state_of}
use Rattle.vale_port.proofs.Lookups.{place-some, place-none, same-id}
use Rattle.vale_port.proofs.ports.leased_port.Goals as goal

pub returns-clause-some : goal.returns-clause-some
returns-clause-some c =
    let id = c.args.lease.now.to in
    let is : c.place_by_halves.result ≡ position (is_state_of id) c.args.ports.now = search rules in
    place-some (is_state_of id) (has_id id) (same-id id) c.args.ports.now c.place_by_halves.result is

pub returns-clause-none : goal.returns-clause-none
returns-clause-none c =
    let id = c.args.lease.now.to in
    let is : c.place_by_halves.result ≡ position (is_state_of id) c.args.ports.now = search rules in
    place-none (is_state_of id) (has_id id) (same-id id) c.args.ports.now c.place_by_halves.result is
