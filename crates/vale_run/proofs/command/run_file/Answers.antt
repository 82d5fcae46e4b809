use Rattle.std.proofs.Common.{Option, sym, subst}
use Rattle.nm_io.specs.Files.{Files}
use Rattle.nm_types.specs.declared.limits.TheConstants.Limits.{VERSION_2}
use Rattle.vale_captures.specs.Inputs.{HasContents}
use Rattle.vale_run.proofs.Since.{ends-since}
use Rattle.vale_run.proofs.command.run_file.Goals as goal

pub returns-in-Ok-clause-ends : goal.returns-in-Ok-clause-ends
returns-in-Ok-clause-ends g c =
    let told : HasContents (g.S.Shelf.files c.args.shelf.now) c.args.name.now c.deref.result.now =
    subst (HasContents (g.S.Shelf.files c.args.shelf.now) c.args.name.now)
    (sym c.deref.ensures.value) c.in-Ok.ensures.ok in
    ends-since g.S.Shelf g.K.Sink c.args.shelf.now c.read_all.new.shelf c.run_script.new.shelf
    c.args.out.now c.run_script.new.out VERSION_2 c.args.name.now c.run_script.result
    c.read_all.ensures.files c.read_all.ensures.reads_later c.read_all.ensures.appends_later
    (c.run_script.ensures.ends c.args.name.now
    (subst (λ (files : Option Files). HasContents files c.args.name.now c.deref.result.now)
    (sym c.read_all.ensures.files) told))
