use Rattle.std.proofs.Common.{◌≡◌, ◌∙◌, sym, true}
use Rattle.vale_names.specs.Ports.{has_name}
use Rattle.vale_names.proofs.GroupLemmas.{ports_of, any_here}
use Rattle.vale_names.proofs.group.is_taken.Goals as goal

pub returns-then-has_name : goal.returns-then-has_name
returns-then-has_name c =
    let passes : has_name c.args.name.now c.in-Some.port.now ≡ true = sym c.has_name.ensures ∙ c.if-has_name.true in
    let here = any_here (has_name c.args.name.now) c.in-Some.port.now (ports_of c.next.new.self) passes in
    let same = rw c.in-Some.ensures.steps at c.loop-port.invariant.2 in
    sym here ∙ same
