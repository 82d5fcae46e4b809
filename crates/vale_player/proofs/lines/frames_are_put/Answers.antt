use Rattle.vale_player.proofs.lines.frames_are_put.Goals as goal
use Rattle.vale_player.proofs.LineLaws.{frames-put}

pub returns : goal.returns
returns c = frames-put
