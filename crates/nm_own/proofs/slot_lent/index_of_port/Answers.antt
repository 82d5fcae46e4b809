use Rattle.std.proofs.Common.{◌∙◌, sym}
use Rattle.nm_port.proofs.PortOut.{found_at, missed_at}
use Rattle.nm_own.proofs.slot_lent.index_of_port.Goals as goal

pub returns-in-Some : goal.returns-in-Some
returns-in-Some c = found_at c.args.id.0 c.args.ports.now c.in-Some.index (sym c.place_of_port.ensures ∙ c.in-Some.is)

pub returns-in-None : goal.returns-in-None
returns-in-None c = missed_at c.args.id.0 c.args.ports.now (sym c.place_of_port.ensures ∙ c.in-None.is)
