use Rattle.std.proofs.Common.{◌≡◌, ◌++◌, ◌∷◌, [], Some, ap, ◌∙◌, sym, subst, position}
use Rattle.vale_steps.specs.declared.tables.NamedTable.{NamedTable}
use Rattle.vale_steps.specs.OpenParts.{is_vacant, StillTables, StillFew}
use Rattle.vale_steps.proofs.OpenTables.{given-there, given-kept, added-there, added-kept}
use Rattle.vale_steps.proofs.TableCounts.{added-few, given-few}
use Rattle.vale_steps.proofs.opening.add_table.Goals as goal

found : (c : goal.After-tables-1) → position (is_vacant c.args.ports.now) c.args.tables.now.items ≡ Some c.in-Some.at
found c = ap (position (is_vacant c.args.ports.now)) (sym c.deref.ensures.value) ∙ (sym c.vacant_table.ensures ∙ c.in-Some.is)

pub returns-in-Some-clause-there : goal.returns-in-Some-clause-there
returns-in-Some-clause-there c =
    given-there c.args.ports.now c.args.tables.now.items c.in-Some.at c.index_mut.result.now c.args.name.now (found c) c.index_mut.ensures.value

pub returns-in-Some-clause-kept : goal.returns-in-Some-clause-kept
returns-in-Some-clause-kept c =
    given-kept c.args.ports.now c.args.tables.now.items c.in-Some.at c.index_mut.result.now c.args.name.now (found c) c.index_mut.ensures.value c.requires.none

fresh : goal.After-push_reserved → NamedTable
fresh c = record { label = c.args.name.now; table = c.in_ok-table-in-None.table }

pushed : (c : goal.After-push_reserved) → c.push_reserved.new.self.items ≡ c.args.tables.now.items ++ fresh c ∷ []
unfolding fresh
pushed c = c.push_reserved.ensures.items ∙ ap (λ items. items ++ fresh c ∷ []) c.reserve.ensures.items

pub returns-in_ok-reserve-in-None-clause-there : goal.returns-in_ok-reserve-in-None-clause-there
unfolding fresh
returns-in_ok-reserve-in-None-clause-there c = rw (pushed c) (added-there c.args.tables.now.items (fresh c))

pub returns-in_ok-reserve-in-None-clause-kept : goal.returns-in_ok-reserve-in-None-clause-kept
unfolding fresh
returns-in_ok-reserve-in-None-clause-kept c =
    subst (StillTables c.args.ports.now c.args.tables.now.items) (sym (pushed c)) (added-kept c.args.ports.now c.args.tables.now.items (fresh c) c.in_ok-table-in-None.ensures c.requires.none)

pub returns-in-Some-clause-few : goal.returns-in-Some-clause-few
returns-in-Some-clause-few c = λ named. given-few c.args.name.now c.args.ports.now c.args.tables.now.items c.in-Some.at (record { label = c.args.name.now; table = c.index_mut.result.now.table })

pub returns-in_ok-reserve-in-None-clause-few : goal.returns-in_ok-reserve-in-None-clause-few
unfolding fresh
returns-in_ok-reserve-in-None-clause-few c = λ named.
    let none = ap (position (is_vacant c.args.ports.now)) (sym c.deref.ensures.value) ∙ (sym c.vacant_table.ensures ∙ c.in-None.is) in
    subst (StillFew c.args.name.now c.args.ports.now c.args.tables.now.items) (sym (pushed c)) (added-few c.args.name.now c.args.ports.now c.args.tables.now.items (fresh c) named none c.requires.none)
