use Rattle.std.proofs.Common.{◌∙◌, Some, sym, ap}
use Rattle.std.specs.Option.{option_copied}
use Rattle.vale_act.proofs.KeptNotes.{noted-keeps}
use Rattle.vale_act.proofs.outputs.Notes.add_act.Goals as goal

pub output_of-requires : goal.output_of-requires
output_of-requires c =
    noted-keeps (Some c.args.self.now.kept.now) c.args.self.now.saves.now c.in-Save.file c.in-Some.save.now (sym c.save_of.ensures ∙ ap option_copied c.in-Some.is) c.requires
