use Rattle.std.proofs.Common.{◌≡◌, map, take}
use Rattle.vale_fields.proofs.lists.items_read.Given as goal

abbrev pub invariant-loop-part : goal.invariant-loop-part
invariant-loop-part g l = l.items.items ≡ map g.T.Listed.item_of (take l.part-index (map (λ w. w.now) l.part-items))
