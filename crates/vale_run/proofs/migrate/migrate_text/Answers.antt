use Rattle.vale_run.proofs.Migrating.{ends-wrote, ends-blamed}
use Rattle.vale_run.proofs.migrate.migrate_text.Goals as goal

pub returns-in-Ok-clause-ends : goal.returns-in-Ok-clause-ends
returns-in-Ok-clause-ends g c =
    let text = c.in-Ok.text in
    ends-wrote c.args.bytes.items c.args.name.now
    (g.K.Sink.faults c.args.out.now, g.K.Sink.faults c.write_text.new.out)
    (g.K.Sink.holds c.args.out.now) (g.K.Sink.holds c.write_text.new.out) text.version text.pool
    text.entries.items text.free c.write_text.result c.in-Ok.ensures.ok c.write_text.ensures.wrote
