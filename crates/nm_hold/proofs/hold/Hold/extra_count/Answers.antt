use Rattle.std.proofs.Common.{Some, None}
use Rattle.nm_hold.proofs.Shown.{extra_of-tables, stored_shown}
use Rattle.nm_hold.proofs.hold.Hold.extra_count.Goals as goal

pub returns-in-Some-clause-hold : goal.returns-in-Some-clause-hold
returns-in-Some-clause-hold c = rw (← c.self.view_is) (stored_shown c.self.inside c.self.invariant)

pub returns-in-None-clause-hold : goal.returns-in-None-clause-hold
returns-in-None-clause-hold c = rw (← c.self.view_is) (stored_shown c.self.inside c.self.invariant)

pub returns-in-Some-clause-extras : goal.returns-in-Some-clause-extras
returns-in-Some-clause-extras c =
    let tables = c.self.inside.ports.tables in
    let found = rw c.in-Some.is at c.table.ensures.table in
    rw (← c.self.view_is) (extra_of-tables c.args.port.0 tables (Some c.in-Some.table.now) found)

pub returns-in-None-clause-extras : goal.returns-in-None-clause-extras
returns-in-None-clause-extras c =
    let tables = c.self.inside.ports.tables in
    let found = rw c.in-None.is at c.table.ensures.table in
    rw (← c.self.view_is) (extra_of-tables c.args.port.0 tables None found)
