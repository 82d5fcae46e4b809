use Rattle.std.proofs.Common.{◌≡◌, ◌≤◌, ◌*◌, take, length}
use Rattle.std.specs.Vec.{vec_capacity}
use Rattle.vale_entry.proofs.ItemBytes.{bytes_of_items}
use Rattle.vale_steps.specs.Putting.{items_of}
use Rattle.vale_steps.proofs.putting.items_of.Given as goal

abbrev pub invariant-loop-i : goal.invariant-loop-i
invariant-loop-i l = record {
  made : l.items.items ≡ items_of (take l.i l.gots);
  count : length l.items.items ≡ l.i;
  room : length l.gots ≤ vec_capacity l.items;
  size : bytes_of_items l.items.items ≤ 2048 * l.i;
}
