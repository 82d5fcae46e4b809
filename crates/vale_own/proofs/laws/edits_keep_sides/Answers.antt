use Rattle.vale_own.proofs.SideEditing.{edits-keep}
use Rattle.vale_own.proofs.laws.edits_keep_sides.Goals as goal

pub returns : goal.returns
returns c = edits-keep
