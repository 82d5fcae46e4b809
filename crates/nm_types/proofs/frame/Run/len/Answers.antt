use Rattle.std.proofs.Common.{sym, ◌∙◌}
use Rattle.nm_types.proofs.Places.{frames_long}
use Rattle.nm_types.proofs.frame.Run.len.Goals as goal

pub returns : goal.returns
returns c = rw (← c.self.view_is) (c.len.ensures ∙ (c.self.inside.ends.ok.0 ∙ sym (frames_long c.self.inside.bytes.items c.self.inside.ends.items c.self.inside.marks.items 0)))
