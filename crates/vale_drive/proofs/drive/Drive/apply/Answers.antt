use Rattle.vale_drive.proofs.Served.{legal-served}
use Rattle.vale_drive.proofs.drive.Drive.apply.Goals as goal

pub invariant_of-self : goal.invariant_of-self
invariant_of-self c = record {
  users_are = c.serve.ensures.kept;
  legal = legal-served c.self.inside.book c.serve.new.book c.args.ask.now c.serve.result c.self.invariant.legal c.serve.ensures.served;
}
