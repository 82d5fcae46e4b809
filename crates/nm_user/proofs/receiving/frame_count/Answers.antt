use Rattle.std.proofs.Common.{[], sym, ◌∙◌}
use Rattle.vale_line.proofs.FrameLemmas.{count-frames}
use Rattle.nm_user.proofs.receiving.frame_count.Goals as goal

pub returns : goal.returns
returns c = c.count_lasts.ensures ∙ sym (count-frames [] c.args.gots.now)
