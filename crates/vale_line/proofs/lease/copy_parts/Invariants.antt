use Rattle.std.proofs.Common.{◌≡◌, ◌+◌, ◌++◌, length, take, drop}
use Rattle.vale_line.specs.Gots.{copied_parts, held_parts}
use Rattle.vale_line.proofs.lease.copy_parts.Given as goal

abbrev pub invariant-loop-k : goal.invariant-loop-k
invariant-loop-k l = record {
  copied : take (l.at + l.k) l.gots.items ++ copied_parts (held_parts (drop l.k l.from)) (drop (l.at + l.k) l.gots.items)
      ≡ take l.at l.fn.gots.items ++ copied_parts (held_parts l.from) (drop l.at l.fn.gots.items);
  len : length l.gots.items ≡ length l.fn.gots.items;
}
