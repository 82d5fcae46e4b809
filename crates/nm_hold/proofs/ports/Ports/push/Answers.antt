use Rattle.std.proofs.Common.{ℕ, ◌≡◌, nat_eq, if◌then◌else◌, length, Some, rules}
use Rattle.std.specs.HashMap.{get}
use Rattle.nm_hold.proofs.Finding.{present-push, indexed-push}
use Rattle.nm_hold.proofs.ports.Ports.push.Goals as goal

pub invariant_of-self : goal.invariant_of-self
invariant_of-self c =
    let rows = c.self.inside.rows.items in
    let index = get nat_eq c.self.inside.indices in
    let new = get nat_eq c.insert.new.self in
    let none = rw (← c.self.view_is) at c.requires.new in
    let put : (port : ℕ) → new port ≡ (if nat_eq c.args.table.places.port.0 port then Some (length rows) else index port) = (λ port. search rules) in
    rw c.push_reserved.ensures.items (indexed-push rows c.args.table index new c.self.invariant none put)

pub returns-clause-tables : goal.returns-clause-tables
returns-clause-tables c = rw (← c.self.view_is, c.push_reserved.ensures.items) (present-push c.self.inside.rows.items c.args.table)
