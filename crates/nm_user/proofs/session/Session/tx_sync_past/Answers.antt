use Rattle.std.proofs.Common.{◌≡◌, ◌∙◌, ap, sym, subst, Result, Err, IfErr}
use Rattle.std.proofs.lemmas.Result.{err_from_is_err_and}
use Rattle.nm_types.specs.Faults.{sync_fault_of}
use Rattle.nm_types.specs.declared.fault.SyncFault.{SyncFault}
use Rattle.nm_user.specs.declared.sending.Sent.{Sent}
use Rattle.nm_user.specs.Sessions.{SessionState}
use Rattle.nm_user.specs.Syncs.{TransmitsNot}
use Rattle.nm_user.proofs.Refusals.{unsent-not}
use Rattle.nm_user.proofs.session.Session.tx_sync_past.Goals as goal

pub returns-in_err-send_sync-clause-refused : goal.returns-in_err-send_sync-clause-refused
returns-in_err-send_sync-clause-refused g c =
    let fault = c.in_err-send_sync.field-0.0 in
    let p = err_from_is_err_and c.from_residual.result c.from_residual.ensures.1 in
    let is : c.from_residual.result ≡ Err (sync_fault_of fault) = p.1 ∙ ap (λ (f : SyncFault). Err f) p.2 in
    let not = unsent-not c.check.new.self c.send_sync.new.self c.args.port.0 fault c.in_err-send_sync.ensures.full in
    subst (λ (r : Result Sent SyncFault). IfErr r (TransmitsNot c.args.self.now c.send_sync.new.self c.args.port.0)) (sym is)
    (subst (λ (s : SessionState). TransmitsNot s c.send_sync.new.self c.args.port.0 (sync_fault_of fault)) c.check.ensures.same not)
