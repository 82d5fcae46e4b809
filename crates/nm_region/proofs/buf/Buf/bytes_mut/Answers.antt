use Rattle.std.proofs.Common.{length, take, drop, ◌++◌}
use Rattle.nm_region.proofs.Marks.{marked-lent, kept-full, placed-still}
use Rattle.nm_region.proofs.buf.Buf.bytes_mut.Goals as goal

pub invariant_of-self-lent : goal.invariant_of-self-lent
invariant_of-self-lent c = λ w.
    let part = c.fill.new.part in
    let n = length part.items in
    let size = c.fill.ensures.size in
    let mark = marked-lent part.items w n size size in
    kept-full 2048 c.self.inside.index (take n (w ++ drop (length w) part.items)) part.at mark.size mark
    (placed-still c.self.inside.index part.at c.self.inside.part.at c.fill.ensures.place c.self.invariant.place)
