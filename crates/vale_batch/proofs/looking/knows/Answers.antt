use Rattle.std.proofs.Common.{◌≡◌, Some, sym, ap, ◌∙◌, rules}
use Rattle.nm_types.specs.declared.id.PortId.{PortId}
use Rattle.vale_batch.proofs.Teaching.{known-learned, same-port}
use Rattle.vale_batch.proofs.looking.knows.Goals as goal

pub returns-in-Some : goal.returns-in-Some
returns-in-Some c = λ yes.
    let number : c.in-Some.found.0 ≡ c.args.port.0 = search rules in
    let found = sym c.find.ensures.found ∙ c.in-Some.is in
    known-learned c.args.table.now c.args.address c.args.port (found ∙ ap (λ (p : PortId). Some p) (same-port c.in-Some.found c.args.port number))
