use Rattle.std.proofs.Common.{refl}
use Rattle.nm_port.proofs.fill.clear.Goals as goal

pub returns-in-Slots : goal.returns-in-Slots
returns-in-Slots c = rw (c.clear_behind.ensures, c.in-Slots.is) refl

pub returns-in-Extras : goal.returns-in-Extras
returns-in-Extras c = rw (c.link.ensures, c.clear_behind.ensures, c.in-Extras.is) refl
