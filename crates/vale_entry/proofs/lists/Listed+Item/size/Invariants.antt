use Rattle.std.proofs.Common.{◌≡◌, ◌+◌, drop}
use Rattle.vale_entry.proofs.ItemBytes.{bytes_of_items}
use Rattle.vale_entry.proofs.lists.Listed+Item.size.Given as goal

abbrev pub invariant-loop-i : goal.invariant-loop-i
invariant-loop-i l = l.total + bytes_of_items (drop l.i l.self-inside.items.items) ≡ bytes_of_items l.self-inside.items.items
