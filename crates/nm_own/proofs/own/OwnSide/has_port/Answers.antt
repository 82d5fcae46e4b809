use Rattle.std.proofs.Common.{◌≡◌, ◌∙◌, Option, Some, None, refl, ap}
use Rattle.std.specs.Prelude.{is_some}
use Rattle.std.specs.Option.{option_copied}
use Rattle.std.specs.Borrow.{Bor}
use Rattle.nm_port.specs.Own.{port_at}
use Rattle.nm_own.proofs.Closing.{port_is_there}
use Rattle.nm_own.proofs.own.OwnSide.has_port.Goals as goal

is_copied : {T : Type 0} (o : Option (Bor T)) → is_some o ≡ is_some (option_copied o)
is_copied None = refl
is_copied (Some x) = refl

pub returns : goal.returns
returns c =
    let there : option_copied c.port_at.result ≡ port_at c.self.inside.ports.items c.args.port.0 = rw c.deref.ensures.value at c.port_at.ensures in
    rw (← c.self.view_is)
    (c.is_some.ensures ∙ (is_copied c.port_at.result ∙ (ap is_some there ∙ port_is_there c.self.inside.hold c.self.inside.ports.items c.args.port.0)))
