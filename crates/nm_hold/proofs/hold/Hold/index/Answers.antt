use Rattle.std.proofs.Common.{◌≡◌, ◌<◌, ap, sym, ◌∙◌, arith}
use Rattle.nm_hold.specs.Tables.{number_at}
use Rattle.nm_hold.proofs.Tied.{number_if, number_if-some, held-number}
use Rattle.nm_hold.proofs.Shown.{stored_shown}
use Rattle.nm_hold.proofs.hold.Hold.index.Goals as goal

pub returns-then-idx-eq0-clause-index : goal.returns-then-idx-eq0-clause-index
returns-then-idx-eq0-clause-index c =
    let held = held-number c.self.inside.cells c.self.inside.ports.tables c.args.place c.self.invariant.tied in
    let number = c.number-idx.ensures in
    let none : number_at c.self.inside.ports.tables c.args.place ≡ 0 = sym number ∙ c.if-idx-eq0.true in
    rw (← c.self.view_is) (sym (held ∙ ap number_if none))

pub returns-else-idx-eq0-clause-index : goal.returns-else-idx-eq0-clause-index
returns-else-idx-eq0-clause-index c =
    let held = held-number c.self.inside.cells c.self.inside.ports.tables c.args.place c.self.invariant.tied in
    let number = c.number-idx.ensures in
    let some : 0 < c.number-idx.result = omega arith in
    rw (← c.self.view_is) (sym (held ∙ (ap number_if (sym number) ∙ number_if-some c.number-idx.result some)))

pub returns-then-idx-eq0-clause-hold : goal.returns-then-idx-eq0-clause-hold
returns-then-idx-eq0-clause-hold c = rw (← c.self.view_is) (stored_shown c.self.inside c.self.invariant)

pub returns-else-idx-eq0-clause-hold : goal.returns-else-idx-eq0-clause-hold
returns-else-idx-eq0-clause-hold c = rw (← c.self.view_is) (stored_shown c.self.inside c.self.invariant)
