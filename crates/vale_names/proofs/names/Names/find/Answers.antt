use Rattle.std.proofs.Common.{◌≡◌, ◌∙◌, sym, ap, Some, true, inl, inr}
use Rattle.nm_types.specs.Names.{is_pipe_name}
use Rattle.vale_names.proofs.PortLemmas.{vale_is_switch_port, master_is_pipe, slave_is_pipe, monitor_is_monitor}
use Rattle.vale_names.proofs.NameLemmas.{names_find_switch, names_find_pipe, names_find_monitor, are_names}
use Rattle.vale_names.proofs.names.Names.find.Goals as goal

pub find_on_switch-requires-clause-kind : goal.find_on_switch-requires-clause-kind
find_on_switch-requires-clause-kind c = vale_is_switch_port c.args.name.now (c.kind.ensures ∙ ap Some c.in-Vale.is)

pub returns-in-Vale-clause-port : goal.returns-in-Vale-clause-port
returns-in-Vale-clause-port c =
    let kind = vale_is_switch_port c.args.name.now (c.kind.ensures ∙ ap Some c.in-Vale.is) in
    let told = names_find_switch c.self.inside.switches c.self.inside.pipes c.self.inside.monitors c.args.name.now c.self.invariant kind in
    rw (← c.self.view_is) (c.find_on_switch.ensures ∙ sym told)

pub returns-in-Master-clause-port : goal.returns-in-Master-clause-port
returns-in-Master-clause-port c =
    let kind : is_pipe_name c.args.name.now ≡ true = elim c.in-Master.is [
      | inl is ↦ master_is_pipe c.args.name.now (c.kind.ensures ∙ ap Some is)
      | inr is ↦ slave_is_pipe c.args.name.now (c.kind.ensures ∙ ap Some is)
    ] in
    let told = names_find_pipe c.self.inside.switches c.self.inside.pipes c.self.inside.monitors c.args.name.now c.self.invariant kind in
    rw (← c.self.view_is) (c.find.ensures ∙ sym told)

pub returns-in-Monitor-clause-port : goal.returns-in-Monitor-clause-port
returns-in-Monitor-clause-port c =
    let kind = monitor_is_monitor c.args.name.now (c.kind.ensures ∙ ap Some c.in-Monitor.is) in
    let told = names_find_monitor c.self.inside.switches c.self.inside.pipes c.self.inside.monitors c.args.name.now c.self.invariant kind in
    rw (← c.self.view_is) (c.find-in-Monitor.ensures ∙ sym told)

pub returns-in-Vale-clause-names : goal.returns-in-Vale-clause-names
returns-in-Vale-clause-names c = rw (← c.self.view_is) (are_names c.self.inside.switches c.self.inside.pipes c.self.inside.monitors c.self.invariant)

pub returns-in-Master-clause-names : goal.returns-in-Master-clause-names
returns-in-Master-clause-names c = rw (← c.self.view_is) (are_names c.self.inside.switches c.self.inside.pipes c.self.inside.monitors c.self.invariant)

pub returns-in-Monitor-clause-names : goal.returns-in-Monitor-clause-names
returns-in-Monitor-clause-names c = rw (← c.self.view_is) (are_names c.self.inside.switches c.self.inside.pipes c.self.inside.monitors c.self.invariant)
