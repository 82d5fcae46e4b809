use Rattle.std.proofs.Common.{sym, arith, false}
use Rattle.nm_port.proofs.Blanks.{mark_set, mark_none}
use Rattle.nm_port.proofs.marks.Marks.unmark.Goals as goal

pub returns-then-idx-len : goal.returns-then-idx-len
returns-then-idx-len c =
    let m = c.self.inside in
    rw (← c.self.view_is) (sym (mark_set m.count c.args.idx false m.marks.items (omega arith)))

pub returns-else-idx-len : goal.returns-else-idx-len
returns-else-idx-len c =
    let m = c.self.inside in
    rw (← c.self.view_is) (sym (mark_none m.count c.args.idx m.marks.items (omega arith)))
