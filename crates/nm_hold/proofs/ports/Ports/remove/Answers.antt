use Rattle.std.proofs.Common.{ℕ, ◌≡◌, nat_eq, if◌then◌else◌, Some, None, sym, arith, rules}
use Rattle.std.specs.HashMap.{get}
use Rattle.nm_hold.proofs.Finding.{within_rows, apart-indexed, no_index, without-absent, without-row, indexed-without}
use Rattle.nm_hold.proofs.ports.Ports.remove.Goals.{in-Some-1, in-None-1}
use Rattle.nm_hold.proofs.ports.Ports.remove.Goals as goal

pub index_mut-requires : goal.index_mut-requires
index_mut-requires c =
    let index : get nat_eq c.self.inside.indices c.args.port.0 ≡ Some c.in-Some.at = search rules in
    let within = within_rows c.self.inside.rows.items c.in-Some.at c.args.port.0 (c.self.invariant.there c.in-Some.at c.args.port.0 index) in
    omega (arith, within)

pub invariant_of-self : goal.invariant_of-self
invariant_of-self c =
    let index = get nat_eq c.self.inside.indices in
    let new = get nat_eq c.remove.new.self in
    let there : index c.args.port.0 ≡ Some c.in-Some.at = search rules in
    let gone : (other : ℕ) → new other ≡ (if nat_eq c.args.port.0 other then None else index other) = (λ other. search rules) in
    indexed-without c.self.inside.rows.items c.in-Some.at c.args.port.0 index new c.self.invariant there gone

pub returns-in-Some-clause-tables : goal.returns-in-Some-clause-tables
returns-in-Some-clause-tables c =
    let rows = c.self.inside.rows.items in
    let index = get nat_eq c.self.inside.indices in
    let there : index c.args.port.0 ≡ Some c.in-Some.at = search rules in
    let row = c.self.invariant.there c.in-Some.at c.args.port.0 there in
    let without = without-row rows c.in-Some.at c.args.port.0 (apart-indexed rows index c.self.invariant) row in
    elim c.match-index_mut.branch [
      | in-Some-1 w ↦ rw (w.self-is, ← c.self.view_is) without
      | in-None-1 w ↦ rw (w.self-is, ← c.self.view_is) without
    ]

pub returns-in_default-clause-tables : goal.returns-in_default-clause-tables
returns-in_default-clause-tables c =
    let rows = c.self.inside.rows.items in
    let none : get nat_eq c.self.inside.indices c.args.port.0 ≡ None = search rules in
    rw (← c.self.view_is) (sym (without-absent rows c.args.port.0 (no_index rows (get nat_eq c.self.inside.indices) c.args.port.0 c.self.invariant none)))
