-- What a transmit sync at the port of a name makes of its user.
use Rattle.std.proofs.Common.{◌≡◌, List, ℕ, [], ◌∷◌, None, Some, Result, Ok, Err, IfOk, IfErr, ◌∙◌}
use Rattle.nm_types.specs.declared.fault.StepFault.{StepFault}
use Rattle.nm_types.specs.declared.id.PortId.{PortId}
use Rattle.nm_user.specs.Sessions.{IsThere}
use Rattle.nm_user.specs.Syncs.{IsUnsent}
use Rattle.vale_player.specs.declared.frames.SyncEnd.{SyncEnd}
use Rattle.vale_replay.specs.Tasks.{SendFrames}
use Rattle.vale_player.specs.Players.{PlayerState, DoesOrEnds, IsStill, StopsAt}
use Rattle.vale_player.specs.Syncing.{sender_named, has_passed, EndsTx, HasSent}
use Rattle.vale_player.proofs.Leading.{Sender, sender-found, sends-by, send-stops, still-tx, still-unsent}
use Rattle.vale_player.proofs.SenderNames.{ends-names, unsent-names}

module _ (p q : PlayerState) (here : IsThere None p.session) (there : IsThere None q.session) (same : q ≡ record p { session = q.session })
    (name : List ℕ) (port : PortId) (named : sender_named p.session.own name ≡ Some port) where
  sender : Sender p.session.own name port
  sender = sender-found p.session.own name port here.side.sound named

  sent : (r : Result SyncEnd StepFault) → IfOk r (EndsTx p.session q.session port.0) → IfErr r (IsUnsent p.session q.session port.0) → sender_named q.session.own name ≡ sender_named p.session.own name → IsStill p q
      → IfOk r (λ (end : SyncEnd). DoesOrEnds p q (SendFrames name ∷ []) (has_passed end)) → IfErr r (StopsAt p q (SendFrames name)) → HasSent p q name port r
  sent r came none names still does stops = record {
    came = came;
    none = none;
    same = same;
    there = here;
    stays = there;
    named = names ∙ named;
    does = does;
    stops = stops;
    still = still;
  }

  pub has-sent : (r : Result SyncEnd StepFault) → IfOk r (EndsTx p.session q.session port.0) → IfErr r (IsUnsent p.session q.session port.0) → HasSent p q name port r
  has-sent (Ok end) came none =
      sent (Ok end) came tt (ends-names p.session q.session port.0 end name came) (still-tx p q same name port sender.of end came) (sends-by p q here there same name port sender.of end came) tt
  has-sent (Err fault) came none =
      sent (Err fault) tt none (unsent-names p.session q.session port.0 fault name none) (still-unsent p q same name port sender.of fault none) tt (send-stops p q same name port sender.of fault none)
