use Rattle.std.proofs.Common.{◌≡◌, Some, None, refl, sym}
use Rattle.nm_own.specs.PortNames.{port_named}
use Rattle.nm_own.proofs.PortNames.{name_found, lacks_name}
use Rattle.nm_own.proofs.own.OwnSide.port_named.Goals as goal

pub returns-in-Some : goal.returns-in-Some
returns-in-Some c =
    let there : port_named c.self.inside.ports.items c.args.name.now ≡ Some c.in-Some.port.now = sym (rw (c.in-Some.is, c.deref.ensures.value) at c.find_port.ensures) in
    rw (← c.self.view_is, name_found c.self.inside.hold c.self.inside.ports.items c.args.name.now c.in-Some.port.now there) refl

pub returns-in-None : goal.returns-in-None
returns-in-None c =
    let none : None ≡ port_named c.self.inside.ports.items c.args.name.now = rw (c.in-None.is, c.deref.ensures.value) at c.find_port.ensures in
    rw (← c.self.view_is, lacks_name c.self.inside.hold c.self.inside.ports.items c.args.name.now (sym none)) refl
