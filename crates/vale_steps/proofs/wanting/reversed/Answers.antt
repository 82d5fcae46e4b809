use Rattle.vale_steps.proofs.MonitoredWants.{reversed-seen}
use Rattle.vale_steps.proofs.wanting.reversed.Goals as goal

pub returns-clause-wants : goal.returns-clause-wants
returns-clause-wants c = reversed-seen c.args.wants.items c.reverse.new.self.items c.reverse.ensures.items
