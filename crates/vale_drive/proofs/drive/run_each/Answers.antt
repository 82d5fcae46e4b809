use Rattle.std.proofs.Common.{◌≡◌}
use Rattle.std.proofs.lemmas.Result.{err_from_is_err_and}
use Rattle.nm_types.specs.declared.fault.StepFault.{StepFault}
use Rattle.vale_book.proofs.LegalRecords.{legal-after}
use Rattle.vale_drive.specs.Running.{IsStopped}
use Rattle.vale_drive.proofs.Served.{made-next, stopped-at}
use Rattle.vale_drive.proofs.drive.run_each.Goals as goal

pub returns-in_err-serve-clause-stopped : goal.returns-in_err-serve-clause-stopped
returns-in_err-serve-clause-stopped c =
    let e = err_from_is_err_and c.from_residual.result c.from_residual.ensures.1 in
    let fault : StepFault = c.in_err-serve.field-0.0 in
    let served = c.in_err-serve.ensures.served in
    let same : e.0 ≡ fault = e.2 in
    let stopped : IsStopped c.args.book.now c.serve.new.book c.args.asks.now fault =
    stopped-at c.args.book.now c.loop-ask.book c.serve.new.book c.args.asks.now c.loop-ask.ask-index c.ask-item.result fault c.loop-ask-test.true c.ask-item.is c.loop-ask.invariant.made served.0 served.1 in
    rw (e.1, same) stopped

pub loop-ask-preserved : goal.loop-ask-preserved
loop-ask-preserved c =
    let served = c.in_ok-serve.ensures.served in
    record {
      made = made-next c.args.book.now c.loop-ask.book c.serve.new.book c.args.asks.now c.loop-ask.ask-index c.ask-item.result c.loop-ask-test.true c.ask-item.is c.loop-ask.invariant.made served.1;
      users = c.serve.ensures.kept;
      legal = legal-after c.loop-ask.book c.serve.new.book c.ask-item.result c.loop-ask.invariant.legal served.1 served.2;
    }
