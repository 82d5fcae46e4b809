use Rattle.vale_player.proofs.lines.files_are_saved.Goals as goal
use Rattle.vale_player.proofs.LineLaws.{files-saved}

pub returns : goal.returns
returns c = files-saved
