use Rattle.std.proofs.Common.{sym, arith, rules}
use Rattle.nm_port.proofs.Blanks.{mark_put}
use Rattle.nm_port.proofs.marks.Marks.mark.Goals as goal

pub returns-then-idx-self : goal.returns-then-idx-self
returns-then-idx-self c =
    let m = c.self.inside in
    rw (← c.self.view_is) (sym (mark_put m.count c.args.idx c.saturating_sub-missing.result m.marks.items c.push_blanks.new.marks.items (omega arith) c.self.invariant.within (search rules) c.push_blanks.ensures.items))
