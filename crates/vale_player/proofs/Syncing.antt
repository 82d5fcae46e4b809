-- What a sync of a session is to the line of its user.
use Rattle.std.proofs.Common.{ℕ, ◌≡◌, inl, inr, Bool, true, false, cond, List, Option, Some, None, option_map, Result, Ok, Err, IfOk, IfErr, refl, sym, ◌∙◌, ap}
use Rattle.std.specs.Prelude.{◌||◌, not}
use Rattle.std.specs.Option.{option_map_or}
use Rattle.nm_types.specs.declared.fault.StepFault.{StepFault}
use Rattle.nm_types.specs.declared.fault.SyncFault.{SyncFault}
use Rattle.nm_types.specs.declared.fault.SyncFault.TheVariants as faults
use Rattle.nm_types.specs.declared.id.PortId.{PortId}
use Rattle.nm_types.specs.declared.id.Side.{Side}
use Rattle.nm_types.specs.declared.id.Side.TheVariants.{Tx, Rx}
use Rattle.nm_types.specs.Names.{is_pipe_name}
use Rattle.nm_types.specs.Slots.{pushed_frames}
use Rattle.nm_types.specs.OwnPorts.{OwnRing, OwnPort, OwnState, bytes_at, pushed_in, refusal_in}
use Rattle.vale_entry.specs.declared.entry.Ask.{Ask}
use Rattle.vale_entry.specs.declared.entry.Ask.TheVariants.{Send, Put, Sync, Get}
use Rattle.vale_entry.specs.declared.entry.Dest.{Dest}
use Rattle.vale_entry.specs.declared.entry.Item.{Item}
use Rattle.vale_entry.specs.declared.entry.Reply.{Reply}
use Rattle.vale_entry.specs.declared.entry.Reply.TheVariants as replies
use Rattle.vale_entry.specs.World.{Port, open_port}
use Rattle.vale_entry.specs.Legal.{Standing, kept_ask, step, session_and_reply, made_at, can_reset, reset_step}
use Rattle.vale_entry.specs.OwnCalls.{or_reset, offered_items, back_in, tx_call, rx_call}
use Rattle.vale_book.specs.Recorded.{standing}
use Rattle.vale_fabric.specs.declared.settling.Shares.{Shares}
use Rattle.nm_user.specs.declared.sending.Sent.{Sent}
use Rattle.nm_user.specs.declared.receiving.Received.{Received}
use Rattle.nm_user.specs.Sessions.{SessionState}
use Rattle.nm_user.specs.Calls.{MadeNone}
use Rattle.nm_user.specs.Syncs.{Synced, IsTransmitted, IsUnsent, SyncsNot, TransmitsNot, before_number, shares_in}
use Rattle.nm_user.specs.Receives.{IsReceived, ReceivesNot}
use Rattle.vale_replay.specs.Machine.{is_reset, is_peer_gone}
use Rattle.vale_player.specs.declared.frames.SyncEnd.{SyncEnd}
use Rattle.vale_player.specs.declared.frames.SyncEnd.TheVariants as ends
use Rattle.vale_player.specs.Syncing.{sync_end_of, GoesThrough, CameOf, EndsTx, EndsRx, RxMadeNone}

-- ---- a call that a check refuses is a reset

no-reset : (b : Bool) (one other : Ask) → is_reset (kept_ask one) ≡ false → is_reset (kept_ask other) ≡ false → is_reset (kept_ask (cond b one other)) ≡ false
no-reset true one other first second = first
no-reset false one other first second = second

abbrev reply-in : Option (ℕ × Reply) → Reply
reply-in found = option_map_or (λ (made : ℕ × Reply). made.1) found replies.Made

reset-reply : (s : Standing) (test : Port → Bool) (found : Option Port) (session : ℕ) (reply : Reply)
    → option_map session_and_reply (made_at test (reset_step s) found) ≡ Some (session, reply) → reply ≡ replies.Made
reset-reply s test None session reply e = absurd cc
reset-reply s test (Some port) session reply e = by (test port) e
  where
    by : (b : Bool) → option_map session_and_reply (cond b (Some (reset_step s port)) None) ≡ Some (session, reply) → reply ≡ replies.Made
    by true is = sym (ap reply-in is)
    by false is = absurd cc

-- the call of a sync, by what its checks say
module _ (id : PortId) (side : Side) (b : Bool) (one other : Ask) (first : is_reset (kept_ask one) ≡ false) (second : is_reset (kept_ask other) ≡ false) where
  abbrev call : Option SyncFault → Ask
  call refusal = or_reset refusal id side (cond b one other)

  -- one that a reply other than that of a reset answers was not refused
  not-reset : (refusal : Option SyncFault) (s : Standing) (session : ℕ) (reply : Reply) → (reply ≡ replies.Made → ⊥)
      → option_map session_and_reply (step s (call refusal)) ≡ Some (session, reply) → is_reset (kept_ask (call refusal)) ≡ false
  not-reset None s session reply not e = no-reset b one other first second
  not-reset (Some fault) s session reply not e = absurd (not (reset-reply s (can_reset side fault) (open_port s.world.ports id.0) session reply e))

  module _ (s t : SessionState) (refusal : Option SyncFault) where
    pub goes-through : (reply : Reply) (shares : Shares) → (reply ≡ replies.Made → ⊥) → is_peer_gone reply ≡ false → Synced s t (call refusal) reply shares → GoesThrough s t (call refusal)
    goes-through reply shares not there synced =
        let passes : is_reset (kept_ask (call refusal)) ≡ false = not-reset refusal (standing (before_number t synced.number)) s.id reply not synced.steps in
        record {
          reply = reply;
          shares = shares;
          passes = ap (λ (x : Bool). x || is_peer_gone reply) passes ∙ there;
          synced = synced;
        }

    gone : refusal ≡ None → is_reset (kept_ask (call refusal)) ≡ false
    gone e = ap (λ (r : Option SyncFault). is_reset (kept_ask (call r))) e ∙ no-reset b one other first second

    reset : (fault : SyncFault) → refusal ≡ Some fault → is_reset (kept_ask (call refusal)) ≡ true
    reset fault e = ap (λ (r : Option SyncFault). is_reset (kept_ask (call r))) e

    -- what comes of a sync that failed
    came-of : (fault : SyncFault) → SyncsNot s t (call refusal) refusal fault → IfOk (sync_end_of fault) (CameOf s t (call refusal))
    came-of (faults.HeadOut head from to) not = (reset (faults.HeadOut head from to) not.0, not.1)
    came-of (faults.CurOut cur from to) not = (reset (faults.CurOut cur from to) not.0, not.1)
    came-of (faults.Indirect slot) not = (reset (faults.Indirect slot) not.0, not.1)
    came-of (faults.IndexOut slot idx) not = (reset (faults.IndexOut slot idx) not.0, not.1)
    came-of (faults.NotHeld slot idx) not = (reset (faults.NotHeld slot idx) not.0, not.1)
    came-of (faults.Doubled slot idx) not = (reset (faults.Doubled slot idx) not.0, not.1)
    came-of (faults.Unannounced slot idx was) not = (reset (faults.Unannounced slot idx was) not.0, not.1)
    came-of (faults.LongLen slot len) not = (reset (faults.LongLen slot len) not.0, not.1)
    came-of (faults.Fragment slot) not = (reset (faults.Fragment slot) not.0, not.1)
    came-of faults.PeerGone not = (gone not.0, not.1)
    came-of (faults.RecordFull what used want) not = tt
    came-of faults.NoMemory not = tt

    made-none : (fault : SyncFault) → SyncsNot s t (call refusal) refusal fault → IfErr (sync_end_of fault) (MadeNone s t (call refusal))
    made-none (faults.RecordFull what used want) not = not
    made-none faults.NoMemory not = not
    made-none _ not = tt

-- ---- what comes of a transmit sync at a port

made-not : (short lone : ℕ) (to : List Dest) → replies.Offered short lone to ≡ replies.Made → ⊥
made-not short lone to e = absurd cc

took-not : (taken : List Item) (to : List Dest) → replies.Took taken to ≡ replies.Made → ⊥
took-not taken to e = absurd cc

gave-not : (gave : ℕ) (to : List Dest) → replies.Gave gave to ≡ replies.Made → ⊥
gave-not gave to e = absurd cc

module _ (s t : SessionState) (id : ℕ) where
  tx-through : (own : OwnState) (p : OwnPort) (r : OwnRing) (reply : Reply) (shares : Shares) → (reply ≡ replies.Made → ⊥) → is_peer_gone reply ≡ false
      → Synced s t (tx_call own p r) reply shares → GoesThrough s t (tx_call own p r)
  tx-through own p r reply shares not there synced =
      goes-through p.id Tx (is_pipe_name p.name) (Put p.id (offered_items own r)) (Send p.id (pushed_frames (bytes_at own) (pushed_in Tx r))) refl refl s t (refusal_in Tx own p r) reply shares not there synced

  rx-through : (own : OwnState) (p : OwnPort) (reply : Reply) (shares : Shares) → (reply ≡ replies.Made → ⊥) → is_peer_gone reply ≡ false
      → Synced s t (rx_call own p) reply shares → GoesThrough s t (rx_call own p)
  rx-through own p reply shares not there synced =
      goes-through p.id Rx (is_pipe_name p.name) (Get p.id (back_in p)) (Sync p.id (back_in p)) refl refl s t (refusal_in Rx own p p.rx) reply shares not there synced

  pub sent-ends : (sent : Sent) → IsTransmitted s t id sent → EndsTx s t id ends.Passed
  sent-ends sent (inl is) = record { tx = is.tx; came = tx-through s.own is.tx.port is.tx.ring (replies.Offered sent.short sent.lone is.to) (shares_in sent) (made-not sent.short sent.lone is.to) refl is.synced }
  sent-ends sent (inr is) = record { tx = is.tx; came = tx-through s.own is.tx.port is.tx.ring (replies.Took is.taken is.to) (shares_in sent) (took-not is.taken is.to) refl is.synced }

  -- of one that failed
  pub tx-ends : (fault : SyncFault) → TransmitsNot s t id fault → IfOk (sync_end_of fault) (EndsTx s t id)
  tx-ends fault not = by (sync_end_of fault) (came-of not.tx.port.id Tx (is_pipe_name not.tx.port.name) (Put not.tx.port.id (offered_items s.own not.tx.ring))
      (Send not.tx.port.id (pushed_frames (bytes_at s.own) (pushed_in Tx not.tx.ring))) refl refl s t (refusal_in Tx s.own not.tx.port not.tx.ring) fault not.not)
    where
      by : (r : Result SyncEnd StepFault) → IfOk r (CameOf s t (tx_call s.own not.tx.port not.tx.ring)) → IfOk r (EndsTx s t id)
      by (Ok end) came = record { tx = not.tx; came = came }
      by (Err stop) came = tt

  pub tx-none : (fault : SyncFault) → TransmitsNot s t id fault → IfErr (sync_end_of fault) (IsUnsent s t id)
  tx-none fault not = by (sync_end_of fault) (made-none not.tx.port.id Tx (is_pipe_name not.tx.port.name) (Put not.tx.port.id (offered_items s.own not.tx.ring))
      (Send not.tx.port.id (pushed_frames (bytes_at s.own) (pushed_in Tx not.tx.ring))) refl refl s t (refusal_in Tx s.own not.tx.port not.tx.ring) fault not.not)
    where
      by : (r : Result SyncEnd StepFault) → IfErr r (MadeNone s t (tx_call s.own not.tx.port not.tx.ring)) → IfErr r (IsUnsent s t id)
      by (Ok end) none = tt
      by (Err stop) none = record { tx = not.tx; none = none }

  -- ---- and of a receive sync

  pub got-ends : (received : Received) → IsReceived s t id received → EndsRx s t id ends.Passed
  got-ends received is = record { at = is.at; came = rx-through s.own is.at.port (replies.Gave received.gave is.to) is.shares (gave-not received.gave is.to) refl is.synced }

  pub rx-ends : (fault : SyncFault) → ReceivesNot s t id fault → IfOk (sync_end_of fault) (EndsRx s t id)
  rx-ends fault not = by (sync_end_of fault) (came-of not.at.port.id Rx (is_pipe_name not.at.port.name) (Get not.at.port.id (back_in not.at.port)) (Sync not.at.port.id (back_in not.at.port)) refl refl s t (refusal_in Rx s.own not.at.port not.at.port.rx) fault not.not)
    where
      by : (r : Result SyncEnd StepFault) → IfOk r (CameOf s t (rx_call s.own not.at.port)) → IfOk r (EndsRx s t id)
      by (Ok end) came = record { at = not.at; came = came }
      by (Err stop) came = tt

  pub rx-none : (fault : SyncFault) → ReceivesNot s t id fault → IfErr (sync_end_of fault) (RxMadeNone s t id)
  rx-none fault not = by (sync_end_of fault) (made-none not.at.port.id Rx (is_pipe_name not.at.port.name) (Get not.at.port.id (back_in not.at.port)) (Sync not.at.port.id (back_in not.at.port)) refl refl s t (refusal_in Rx s.own not.at.port not.at.port.rx) fault not.not)
    where
      by : (r : Result SyncEnd StepFault) → IfErr r (MadeNone s t (rx_call s.own not.at.port)) → IfErr r (RxMadeNone s t id)
      by (Ok end) none = tt
      by (Err stop) none = record { at = not.at; none = none }
