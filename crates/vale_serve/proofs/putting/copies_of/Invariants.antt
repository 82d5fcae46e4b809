use Rattle.std.proofs.Common.{◌≡◌, ◌≤◌, take, length}
use Rattle.std.specs.Vec.{vec_capacity}
use Rattle.vale_serve.proofs.putting.copies_of.Given as goal

abbrev pub invariant-loop-item : goal.invariant-loop-item
invariant-loop-item l = record {
  made : l.items.items ≡ take l.item-index l.offered;
  count : length l.items.items ≡ l.item-index;
  room : length l.offered ≤ vec_capacity l.items;
}
