use Rattle.vale_parts.proofs.BatchWants.{batches_named, lone_frames, looked_up_sendable}
use Rattle.vale_parts.proofs.laws.batches_are_named.Goals as goal

pub returns-clause-named : goal.returns-clause-named
returns-clause-named c = batches_named

pub returns-clause-lone : goal.returns-clause-lone
returns-clause-lone c = lone_frames

pub returns-clause-sendable : goal.returns-clause-sendable
returns-clause-sendable c = looked_up_sendable
