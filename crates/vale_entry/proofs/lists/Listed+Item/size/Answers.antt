use Rattle.std.proofs.Common.{◌<◌, length, arith, ap, ℕ}
use Rattle.vale_entry.proofs.ItemBytes.{bytes_of_items, item_bytes-more}
use Rattle.vale_entry.proofs.lists.Listed+Item.size.Goals as goal

pub overflow_add-total : goal.overflow_add-total
overflow_add-total c =
    let inside : c.loop-i.i < length c.self.inside.items.items = omega (arith, c.loop-i-test.true, c.len-i-end.ensures) in
    let more = item_bytes-more c.self.inside.items.items c.loop-i.i c.index.result.now inside c.index.ensures in
    let here = ap (length {A = ℕ}) c.bytes.ensures in
    let all = ap bytes_of_items c.self.view_is in
    omega (arith, more, here, all, c.loop-i.invariant, c.requires)

pub loop-i-preserved : goal.loop-i-preserved
loop-i-preserved c =
    let inside : c.loop-i.i < length c.self.inside.items.items = omega (arith, c.loop-i-test.true, c.len-i-end.ensures) in
    let more = item_bytes-more c.self.inside.items.items c.loop-i.i c.index.result.now inside c.index.ensures in
    let here = ap (length {A = ℕ}) c.bytes.ensures in
    omega (arith, more, here, c.loop-i.invariant)
