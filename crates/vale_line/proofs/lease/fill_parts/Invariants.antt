use Rattle.std.proofs.Common.{◌≡◌, ◌+◌, ◌-◌, ◌++◌, length, take, drop}
use Rattle.nm_frag.specs.Parts.{first_parts, parts_of}
use Rattle.vale_line.specs.Gots.{written_parts}
use Rattle.vale_line.proofs.lease.fill_parts.Given as goal

abbrev pub invariant-loop-k : goal.invariant-loop-k
invariant-loop-k l = record {
  written : take (l.at + l.k) l.gots.items ++ written_parts (first_parts (l.count - l.k) l.rest) (drop (l.at + l.k) l.gots.items)
      ≡ take l.at l.fn.gots.items ++ written_parts (parts_of l.bytes) (drop l.at l.fn.gots.items);
  len : length l.gots.items ≡ length l.fn.gots.items;
}
