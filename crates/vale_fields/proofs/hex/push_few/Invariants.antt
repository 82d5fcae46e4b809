use Rattle.std.proofs.Common.{◌≡◌, ◌*◌, ◌++◌, drop}
use Rattle.vale_fields.specs.Fields.{bytes_of}
use Rattle.vale_fields.proofs.hex.push_few.Given as goal

abbrev pub invariant-loop-k : goal.invariant-loop-k
invariant-loop-k l = l.bytes.items ++ bytes_of (drop (2 * l.k) l.digits) ≡ l.initial.bytes.items ++ bytes_of l.digits
