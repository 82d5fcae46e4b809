use Rattle.std.proofs.Common.{◌≡◌, ◌∙◌, sym, ap, true, Option}
use Rattle.std.specs.Prelude.{option_map}
use Rattle.vale_names.specs.declared.port.NamedPort.{NamedPort}
use Rattle.vale_names.specs.Ports.{is_open_as}
use Rattle.vale_names.proofs.GroupLemmas.{ports_of, find_here}
use Rattle.vale_names.proofs.group.open_port_of.Goals as goal

pub returns-then-is_open_as : goal.returns-then-is_open_as
returns-then-is_open_as c =
    let passes : is_open_as c.args.name.now c.in-Some.port.now ≡ true = sym c.is_open_as.ensures ∙ c.if-is_open_as.true in
    let here = find_here (is_open_as c.args.name.now) c.in-Some.port.now (ports_of c.next.new.self) passes in
    let same = rw c.in-Some.ensures.steps at c.loop-port.invariant.2 in
    ap (λ (o : Option NamedPort). option_map (λ (p : NamedPort). p.id) o) (sym here ∙ same)
