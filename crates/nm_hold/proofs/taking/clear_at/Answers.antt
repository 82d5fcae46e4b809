use Rattle.std.proofs.Common.{refl}
use Rattle.nm_hold.proofs.taking.clear_at.Goals as goal

pub returns-in-Some-clause-row : goal.returns-in-Some-clause-row
returns-in-Some-clause-row c = rw (c.in-Some.is, c.replace.ensures.after) refl
