use Rattle.vale_entry.proofs.LinesOfFrames.{lines-have_frames}
use Rattle.vale_entry.proofs.laws.lines_have_frames.Goals as goal

pub returns : goal.returns
returns c = lines-have_frames
