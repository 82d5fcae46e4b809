use Rattle.std.proofs.Common.{ap, ◌∙◌}
use Rattle.vale_captures.specs.Inputs.{records_in as found_in}
use Rattle.vale_captures.proofs.Names.{records-same}
use Rattle.vale_player.proofs.own_lines.records_played.Goals as goal

pub returns : goal.returns
returns c = c.records.ensures ∙ (ap (found_in c.args.inputs.now) c.as_str.ensures ∙ records-same c.args.inputs.now c.args.file.now)
