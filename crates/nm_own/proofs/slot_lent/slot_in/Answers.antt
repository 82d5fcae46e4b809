use Rattle.std.proofs.Common.{◌≡◌, Some, None, refl, sym, ap, inr}
use Rattle.std.specs.Prelude.{slice_get}
use Rattle.std.specs.declared.vec.Vec.{Vec}
use Rattle.std.specs.declared.alloc.Global.{Global}
use Rattle.nm_port.specs.declared.port.UserPort.{UserPort}
use Rattle.nm_own.proofs.SlotsLent.{lends_in, lends_not, found_there, none_found}
use Rattle.nm_own.proofs.slot_lent.slot_in.Goals as goal

found : (c : goal.After-slot_of_port) → slice_get c.args.ports.now.items c.args.index ≡ Some c.in-Some.port.now
found c = found_there c.args.ports.now c.args.index c.get_mut.result c.in-Some.port c.in-Some.is c.get_mut.ensures.variant c.get_mut.ensures.value

none : (c : goal.After-ports-1) → slice_get c.args.ports.now.items c.args.index ≡ None
none c = none_found c.args.ports.now c.args.index c.get_mut.result c.in-None.is c.get_mut.ensures.variant

pub returns-in-Some : goal.returns-in-Some
returns-in-Some c = (
  lends_in c.args.ports.now c.args.index c.in-Some.port.now c.args.side c.args.at _ (found c),
  record { writes_back = tt; slot = rw (found c) c.slot_of_port.ensures.slot },
)

pub returns-in-None : goal.returns-in-None
returns-in-None c = (
  ap (λ (ports : Vec UserPort Global). inr ports) (sym (lends_not c.args.ports.now c.args.index (none c))),
  record { writes_back = tt; slot = rw (none c) refl },
)
