use Rattle.std.proofs.Common.{position, is_some, ap, ◌∙◌}
use Rattle.vale_serve.specs.Users.{is_lease}
use Rattle.vale_serve.proofs.Places.{some-passes}
use Rattle.vale_serve.proofs.completing.has_lease.Goals as goal

pub returns : goal.returns
returns c =
    c.is_some.ensures
    ∙ (ap is_some (c.place_of.ensures ∙ ap (position (is_lease c.args.id.0)) c.deref.ensures.value)
    ∙ some-passes (is_lease c.args.id.0) c.args.user.now.leases.items)
