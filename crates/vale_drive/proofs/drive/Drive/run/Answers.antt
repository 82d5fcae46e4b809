use Rattle.vale_drive.proofs.drive.Drive.run.Goals as goal

pub invariant_of-self : goal.invariant_of-self
invariant_of-self c = record { users_are = c.run_each.ensures.users; legal = c.run_each.ensures.legal }
