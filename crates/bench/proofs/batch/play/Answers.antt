use Rattle.std.proofs.Common.{◌∙◌}
use Rattle.bench.proofs.Ports.{rising_ports}
use Rattle.bench.proofs.batch.play.Goals as goal

pub classify_often-requires-clause-ports : goal.classify_often-requires-clause-ports
classify_often-requires-clause-ports g c = rising_ports c.deref.result.now 16 (c.deref.ensures.value ∙ c.in-Ok-Ok-Ok.ensures')
