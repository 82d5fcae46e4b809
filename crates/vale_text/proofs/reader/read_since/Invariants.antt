use Rattle.std.proofs.Common.{◌≡◌, ◌≤◌, ◌+◌, length, sum_by}
use Rattle.vale_text.specs.Reading.{IsReadTo, listed_in}
use Rattle.vale_text.proofs.reader.read_since.Given as goal

abbrev pub invariant-loop-line : goal.invariant-loop-line
invariant-loop-line l = record {
  read : IsReadTo l.fn.oldest l.start.version l.start.pool l.fn.bytes l.entries.items l.rest;
  number : l.at ≡ length l.entries.items + 2;
  room : l.at + length l.rest ≤ length l.fn.bytes + 1;
  listed : sum_by listed_in l.entries.items + l.left ≡ 134217728;
}

abbrev pub decreases-loop-line : goal.decreases-loop-line
decreases-loop-line l = length l.rest
