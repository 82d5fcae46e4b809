use Rattle.vale_entry.proofs.Counts.{replies-count}
use Rattle.vale_entry.proofs.laws.replies_count_frames.Goals as goal

pub returns : goal.returns
returns c = replies-count
