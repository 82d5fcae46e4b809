use Rattle.std.proofs.Common.{Result, IfOk, IfErr, sym, subst}
use Rattle.nm_types.specs.declared.fault.StepFault.{StepFault}
use Rattle.nm_user.specs.Syncs.{IsUnsent}
use Rattle.vale_player.specs.declared.frames.SyncEnd.{SyncEnd}
use Rattle.vale_player.specs.Syncing.{EndsTx}
use Rattle.vale_player.proofs.Syncing.{sent-ends, tx-ends, tx-none}
use Rattle.vale_player.proofs.frames.transmit.Goals as goal

pub returns-in-Ok-clause-came : goal.returns-in-Ok-clause-came
returns-in-Ok-clause-came g c = sent-ends c.args.session.now c.tx_sync.new.self c.args.port.0 c.in-Ok.field-0 c.in-Ok.ensures.sent

pub returns-in-Err-clause-came : goal.returns-in-Err-clause-came
returns-in-Err-clause-came g c =
    let s = c.args.session.now in
    let t = c.tx_sync.new.self in
    subst (λ (r : Result SyncEnd StepFault). IfOk r (EndsTx s t c.args.port.0)) (sym c.end_of.ensures) (tx-ends s t c.args.port.0 c.in-Err.fault c.in-Err.ensures.refused)

pub returns-in-Err-clause-none : goal.returns-in-Err-clause-none
returns-in-Err-clause-none g c =
    let s = c.args.session.now in
    let t = c.tx_sync.new.self in
    subst (λ (r : Result SyncEnd StepFault). IfErr r (IsUnsent s t c.args.port.0)) (sym c.end_of.ensures) (tx-none s t c.args.port.0 c.in-Err.fault c.in-Err.ensures.refused)
