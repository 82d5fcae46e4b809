use Rattle.std.proofs.Common.{ap, ◌∙◌, sym, is_some, position, not}
use Rattle.nm_types.specs.Names.{switch_of}
use Rattle.vale_steps.specs.NamedTables.{is_for_switch}
use Rattle.vale_steps.proofs.OpenTables.{seen-found}
use Rattle.vale_steps.proofs.opening.place_table.Goals as goal
use Rattle.vale_steps.proofs.opening.place_table.Goals.{else-is_switch_port-via-then-is_switch_port+else-is_none, else-is_switch_port-via-else-is_switch_port}

pub add_table-requires : goal.add_table-requires
add_table-requires c =
    let switch = switch_of c.args.name.now in
    record {
      none = seen-found switch c.args.tables.now.items
          ∙ (ap (λ tables. is_some (position (is_for_switch switch) tables)) (sym c.deref.ensures.value)
          ∙ (ap is_some (sym c.table_of.ensures) ∙ (c.is_none.ensures ∙ ap not c.if-is_none.true)));
    }

pub returns-else-is_switch_port-clause-there : goal.returns-else-is_switch_port-clause-there
returns-else-is_switch_port-clause-there c =
    let switch = switch_of c.args.name.now in
    elim c.else-is_switch_port.branch [
      | else-is_switch_port-via-then-is_switch_port+else-is_none w ↦ λ named.
          seen-found switch c.args.tables.now.items
          ∙ (ap (λ tables. is_some (position (is_for_switch switch) tables)) (sym w.deref.ensures.value)
          ∙ (ap is_some (sym w.table_of.ensures) ∙ (w.is_none.ensures ∙ ap not w.if-is_none.false)))
      | else-is_switch_port-via-else-is_switch_port w ↦ λ named. let wrong = sym named ∙ (sym c.is_switch_port.ensures ∙ w.if-is_switch_port.false) in absurd cc
    ]
