use Rattle.std.proofs.Common.{refl, sym}
use Rattle.nm_own.proofs.Closing.{port_found}
use Rattle.nm_port.proofs.PortOut.{lacks_port}
use Rattle.nm_own.proofs.own.OwnSide.is_whole.Goals as goal

pub returns-in-Some : goal.returns-in-Some
returns-in-Some c = rw (← c.self.view_is, port_found c.self.inside.hold c.self.inside.ports.items c.args.port.0 c.in-Some.own.now (sym (rw (c.in-Some.is, c.deref.ensures.value) at c.port_at.ensures))) c.is_pipe.ensures

pub returns-in-None : goal.returns-in-None
returns-in-None c = rw (← c.self.view_is, lacks_port c.self.inside.hold c.self.inside.ports.items c.args.port.0 (sym (rw (c.in-None.is, c.deref.ensures.value) at c.port_at.ensures))) refl
