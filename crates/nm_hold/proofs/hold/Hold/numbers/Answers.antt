use Rattle.std.proofs.Common.{ℕ, Some, None, sym, ◌∙◌, ap}
use Rattle.nm_hold.proofs.Finding.{found_is_table}
use Rattle.nm_hold.proofs.Shown.{stored_shown}
use Rattle.nm_hold.proofs.Slotted.{slots_are, size_found}
use Rattle.nm_hold.proofs.hold.Hold.numbers.Goals as goal

pub slots-requires : goal.slots-requires
slots-requires c =
    let found = rw c.in-Some.is at c.table.ensures.table in
    found_is_table c.self.inside.ports.tables c.args.port.0 c.in-Some.table.now c.self.invariant.tables (sym found)

pub returns-in-Some-clause-count : goal.returns-in-Some-clause-count
returns-in-Some-clause-count c =
    let found = rw c.in-Some.is at c.table.ensures.table in
    rw (← c.self.view_is) (ap (λ (n : ℕ). Some n) c.slots.ensures.count ∙ size_found c.self.inside.ports.tables c.args.side c.args.port.0 (Some c.in-Some.table.now) found)

pub returns-in-None-clause-count : goal.returns-in-None-clause-count
returns-in-None-clause-count c =
    let found = rw c.in-None.is at c.table.ensures.table in
    rw (← c.self.view_is) (size_found c.self.inside.ports.tables c.args.side c.args.port.0 None found)

pub returns-in-Some-clause-numbers : goal.returns-in-Some-clause-numbers
returns-in-Some-clause-numbers c =
    let inv = c.self.invariant in
    let found = rw c.in-Some.is at c.table.ensures.table in
    rw (← c.self.view_is, c.slots.ensures.slots) (slots_are c.self.inside.cells c.self.inside.ports.tables c.args.side c.args.port c.in-Some.table.now inv.tied inv.once (sym found))

pub returns-in-Some-clause-hold : goal.returns-in-Some-clause-hold
returns-in-Some-clause-hold c = rw (← c.self.view_is) (stored_shown c.self.inside c.self.invariant)

pub returns-in-None-clause-hold : goal.returns-in-None-clause-hold
returns-in-None-clause-hold c = rw (← c.self.view_is) (stored_shown c.self.inside c.self.invariant)
