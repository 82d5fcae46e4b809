use Rattle.std.proofs.Common.{sym, ◌∙◌}
use Rattle.nm_types.specs.Names.{switch_of}
use Rattle.vale_steps.proofs.NamedTables.{found-table}
use Rattle.vale_book.proofs.shutting.forget_on_switch.Goals as goal

pub returns-in-Some-clause-switch : goal.returns-in-Some-clause-switch
returns-in-Some-clause-switch c = λ named.
    let at = found-table (switch_of c.args.name.now) c.args.tables.now.items c.in-Some.place (sym (rw c.deref.ensures.value at c.table_of.ensures) ∙ c.in-Some.is) in
    record { place = c.in-Some.place; table = at.table; here = at.here; its = at.its; is = c.forget_at.ensures at.table at.here }
