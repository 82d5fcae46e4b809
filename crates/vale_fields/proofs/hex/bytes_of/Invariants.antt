use Rattle.std.proofs.Common.{◌≡◌, ◌++◌, length}
use Rattle.vale_fields.specs.Fields.{bytes_of}
use Rattle.vale_fields.proofs.hex.bytes_of.Given as goal

abbrev pub invariant-loop-rest : goal.invariant-loop-rest
invariant-loop-rest l = l.bytes.items ++ bytes_of l.rest ≡ bytes_of l.digits

abbrev pub decreases-loop-rest : goal.decreases-loop-rest
decreases-loop-rest l = length l.rest
