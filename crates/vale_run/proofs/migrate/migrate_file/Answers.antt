use Rattle.vale_run.specs.Run.{Io, io_of}
use Rattle.vale_run.proofs.Migrating.{ends-text, migrates-unread}
use Rattle.vale_run.proofs.migrate.migrate_file.Goals as goal

pub returns-in-Ok-clause-ends : goal.returns-in-Ok-clause-ends
returns-in-Ok-clause-ends g c =
    let io : Io = io_of g.S.Shelf g.K.Sink c.args.shelf.now c.read_all.new.shelf c.args.out.now
    c.migrate_text.new.out in
    ends-text io c.args.name.now c.in-Ok.bytes.items c.migrate_text.result c.in-Ok.ensures.ok
    c.in-Ok.ensures.short c.migrate_text.ensures.ends c.read_all.ensures.files
