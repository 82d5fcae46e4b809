use Rattle.nm_types.specs.Names.{switch_of}
use Rattle.vale_port.specs.Ports.{open_ids}
use Rattle.vale_steps.proofs.SmallWants.{classified-small}
use Rattle.vale_steps.proofs.sending.send.Goals as goal

pub record-requires-clause-small : goal.record-requires-clause-small
record-requires-clause-small c =
    classified-small c.args.port c.args.table.now c.args.batch.now (open_ids (switch_of c.args.name.now) c.args.ports.now) _ c.requires.sendable c.in_ok-classes.ensures.wants
