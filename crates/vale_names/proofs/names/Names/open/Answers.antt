use Rattle.std.proofs.Common.{◌≡◌, ◌∙◌, sym, ap, List, Option, Some, None, Result, MatchResult, true, inl, inr}
use Rattle.std.proofs.lemmas.Result.{on_ok_weaker}
use Rattle.nm_types.specs.Names.{is_switch_port_name, is_pipe_name, is_monitor_name}
use Rattle.nm_types.specs.declared.fault.OpenFault.{OpenFault}
use Rattle.vale_names.specs.Ports.{names_of}
use Rattle.nm_types.specs.Openings.{open_refusal}
use Rattle.vale_names.specs.declared.switch.Switch.{Switch}
use Rattle.vale_names.specs.Groups.{PortGroup}
use Rattle.vale_names.specs.Switches.{ports_on}
use Rattle.vale_names.specs.Named.{all_ports, AreNamed}
use Rattle.vale_names.proofs.PortLemmas.{joins_behind, joins_before, vale_is_switch_port, master_is_pipe, slave_is_pipe, monitor_is_monitor}
use Rattle.vale_names.proofs.NameLemmas.{names_refuse_switch, names_refuse_pipe, names_refuse_monitor, sized, told_as, named_switch, named_pipe, named_monitor, are_names}
use Rattle.vale_names.proofs.PortRules.{name_refusal}
use Rattle.vale_names.proofs.names.Names.open.Goals as goal
use Rattle.vale_names.proofs.names.Names.open.Goals.{After-kind, After-open, After-open-in-Monitor, After-open_on_switch, In-Master, In-Monitor, In-Vale}

-- the kind of the name
switch_name : (c : In-Vale) → is_switch_port_name c.args.name.now ≡ true
switch_name c = vale_is_switch_port c.args.name.now (c.kind.ensures ∙ ap Some c.in-Vale.is)

pipe_name : (c : In-Master) → is_pipe_name c.args.name.now ≡ true
pipe_name c = let name = c.args.name.now in elim c.in-Master.is [
  | inl is ↦ master_is_pipe name (c.kind.ensures ∙ ap Some is)
  | inr is ↦ slave_is_pipe name (c.kind.ensures ∙ ap Some is)
]

monitor_name : (c : In-Monitor) → is_monitor_name c.args.name.now ≡ true
monitor_name c = monitor_is_monitor c.args.name.now (c.kind.ensures ∙ ap Some c.in-Monitor.is)

-- what is told of a refusal, once the sizes fit
told : (c : After-kind) (s : List Switch) (p m : PortGroup) (r : Result (Unit {0}) OpenFault) (refusal : Option OpenFault) → all_ports s p m ≡ c.args.self.now → name_refusal (all_ports s p m) c.args.name.now ≡ refusal
    → MatchResult r (λ _. refusal ≡ None) (λ fault. refusal ≡ Some fault)
    → MatchResult r (λ _. open_refusal (names_of c.args.self.now) c.args.name.now c.args.tx c.args.rx c.args.extra ≡ None) (λ fault. open_refusal (names_of c.args.self.now) c.args.name.now c.args.tx c.args.rx c.args.extra ≡ Some fault)
told c s p m r refusal seen is said =
    rw (← seen) (told_as r _ refusal (sized (all_ports s p m) c.args.name.now c.args.tx c.args.rx c.args.extra (sym c.are_sizes.ensures ∙ c.if-not-are_sizes.false) ∙ is) said)

-- the names once the port is opened
on_switch : (c : After-open_on_switch) → is_switch_port_name c.args.name.now ≡ true → AreNamed c.open_on_switch.new.places c.self.inside.pipes c.self.inside.monitors
on_switch c kind =
    named_switch c.self.inside.switches c.open_on_switch.new.places c.self.inside.pipes c.self.inside.monitors c.args.name.now c.args.id c.open_on_switch.result c.self.invariant kind
    c.open_on_switch.ensures.places c.open_on_switch.auto.places c.open_on_switch.ensures.refusal c.open_on_switch.ensures.joined c.open_on_switch.ensures.err

as_pipe : (c : After-open) → is_pipe_name c.args.name.now ≡ true → AreNamed c.self.inside.switches c.open.new.self c.self.inside.monitors
as_pipe c kind =
    named_pipe c.self.inside.switches c.self.inside.pipes c.open.new.self c.self.inside.monitors c.args.name.now c.args.id c.open.result c.self.invariant kind
    (c.open.ensures.most, c.open.ensures.refusal, c.open.ensures.joined, c.open.ensures.err)

as_monitor : (c : After-open-in-Monitor) → is_monitor_name c.args.name.now ≡ true → AreNamed c.self.inside.switches c.self.inside.pipes c.open-in-Monitor.new.self
as_monitor c kind =
    named_monitor c.self.inside.switches c.self.inside.pipes c.self.inside.monitors c.open-in-Monitor.new.self c.args.name.now c.args.id c.open-in-Monitor.result c.self.invariant kind
    (c.open-in-Monitor.ensures.most, c.open-in-Monitor.ensures.refusal, c.open-in-Monitor.ensures.joined, c.open-in-Monitor.ensures.err)

pub open_on_switch-requires-clause-kind : goal.open_on_switch-requires-clause-kind
open_on_switch-requires-clause-kind c = switch_name (goal.at.open_on_switch-requires-clause-kind c).In-Vale

pub invariant_of-self : goal.invariant_of-self
invariant_of-self c = let at = goal.at.invariant_of-self c in on_switch at.After-open_on_switch (switch_name at.In-Vale)

pub returns-in-Vale-clause-names : goal.returns-in-Vale-clause-names
returns-in-Vale-clause-names c =
    let at = goal.at.returns-in-Vale-clause-names c in
    on_ok_weaker c.open_on_switch.result (λ joined. are_names _ _ _ (on_switch at.After-open_on_switch (switch_name at.In-Vale))) c.open_on_switch.ensures.joined

pub invariant_of-self-in-Master : goal.invariant_of-self-in-Master
invariant_of-self-in-Master c = let at = goal.at.invariant_of-self-in-Master c in as_pipe at.After-open (pipe_name at.In-Master)

pub returns-in-Master-clause-names : goal.returns-in-Master-clause-names
returns-in-Master-clause-names c =
    let at = goal.at.returns-in-Master-clause-names c in
    on_ok_weaker c.open.result (λ joined. are_names _ _ _ (as_pipe at.After-open (pipe_name at.In-Master))) c.open.ensures.joined

pub invariant_of-self-in-Monitor : goal.invariant_of-self-in-Monitor
invariant_of-self-in-Monitor c = let at = goal.at.invariant_of-self-in-Monitor c in as_monitor at.After-open-in-Monitor (monitor_name at.In-Monitor)

pub returns-in-Monitor-clause-names : goal.returns-in-Monitor-clause-names
returns-in-Monitor-clause-names c =
    let at = goal.at.returns-in-Monitor-clause-names c in
    on_ok_weaker c.open-in-Monitor.result (λ joined. are_names _ _ _ (as_monitor at.After-open-in-Monitor (monitor_name at.In-Monitor))) c.open-in-Monitor.ensures.joined

pub returns-in-Vale-clause-refusal : goal.returns-in-Vale-clause-refusal
returns-in-Vale-clause-refusal c =
    let at = goal.at.returns-in-Vale-clause-refusal c in
    told at.After-kind c.self.inside.switches c.self.inside.pipes c.self.inside.monitors c.open_on_switch.result _ c.self.view_is (names_refuse_switch _ _ _ c.args.name.now c.self.invariant (switch_name at.In-Vale)) c.open_on_switch.ensures.refusal

pub returns-in-Master-clause-refusal : goal.returns-in-Master-clause-refusal
returns-in-Master-clause-refusal c =
    let at = goal.at.returns-in-Master-clause-refusal c in
    told at.After-kind c.self.inside.switches c.self.inside.pipes c.self.inside.monitors c.open.result _ c.self.view_is (names_refuse_pipe _ _ _ c.args.name.now c.self.invariant (pipe_name at.In-Master)) c.open.ensures.refusal

pub returns-in-Monitor-clause-refusal : goal.returns-in-Monitor-clause-refusal
returns-in-Monitor-clause-refusal c =
    let at = goal.at.returns-in-Monitor-clause-refusal c in
    told at.After-kind c.self.inside.switches c.self.inside.pipes c.self.inside.monitors c.open-in-Monitor.result _ c.self.view_is (names_refuse_monitor _ _ _ c.args.name.now c.self.invariant (monitor_name at.In-Monitor)) c.open-in-Monitor.ensures.refusal

pub returns-in-Master-clause-opened : goal.returns-in-Master-clause-opened
returns-in-Master-clause-opened c =
    rw (← c.self.view_is) (on_ok_weaker c.open.result (λ joins. joins_behind (ports_on c.self.inside.switches) _ _ _ (joins_before c.self.inside.pipes.ports _ c.open.new.self.ports c.self.inside.monitors.ports joins)) c.open.ensures.joined)

pub returns-in-Monitor-clause-opened : goal.returns-in-Monitor-clause-opened
returns-in-Monitor-clause-opened c =
    rw (← c.self.view_is) (on_ok_weaker c.open-in-Monitor.result (λ joins. joins_behind (ports_on c.self.inside.switches) _ _ _ (joins_behind c.self.inside.pipes.ports c.self.inside.monitors.ports _ c.open-in-Monitor.new.self.ports joins)) c.open-in-Monitor.ensures.joined)
