use Rattle.std.proofs.Common.{◌≡◌, length}
use Rattle.nm_types.specs.Parts.{parts_of}
use Rattle.nm_types.specs.OwnEdits.{with_parts}
use Rattle.nm_own.proofs.own.OwnSide.put_parts.Given as goal

abbrev pub invariant-loop-rest : goal.invariant-loop-rest
invariant-loop-rest l = (with_parts l.port.0 (parts_of l.rest) l.self.own ≡ with_parts l.port.0 (parts_of l.bytes) l.fn.self.own) × (l.self.regions ≡ l.fn.self.regions)

abbrev pub decreases-loop-rest : goal.decreases-loop-rest
decreases-loop-rest l = length l.rest
