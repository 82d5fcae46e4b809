-- What a sync answers that failed.
use Rattle.std.proofs.Common.{ℕ, ◌≡◌, Bool, true, false, sym, subst, refl, Option, Some, None, ◌&&◌}
use Rattle.std.specs.Prelude.{option_map, if◌then◌else◌}
use Rattle.std.proofs.lemmas.Bool.{and_parts}
use Rattle.nm_types.specs.Faults.{sync_fault_of}
use Rattle.nm_types.specs.SyncFaults.{is_check_fault}
use Rattle.nm_types.specs.declared.fault.StepFault.{StepFault}
use Rattle.nm_types.specs.declared.fault.StepFault.TheVariants as steps
use Rattle.nm_types.specs.declared.fault.SyncFault.{SyncFault}
use Rattle.nm_types.specs.declared.fault.SyncFault.TheVariants.{HeadOut, CurOut, Indirect, IndexOut, NotHeld, Doubled, Unannounced, LongLen, Fragment, PeerGone, RecordFull, NoMemory}
use Rattle.nm_types.specs.declared.id.PortId.{PortId}
use Rattle.nm_types.specs.declared.id.Side.{Side}
use Rattle.nm_types.specs.declared.id.Side.TheVariants.{Tx, Rx}
use Rattle.nm_types.specs.OwnPorts.{refusal_in, refusal_at}
use Rattle.vale_entry.specs.declared.entry.Ask.{Ask}
use Rattle.vale_entry.specs.declared.entry.Ask.TheVariants.{Reset}
use Rattle.vale_entry.specs.declared.entry.Reply.{Reply}
use Rattle.vale_entry.specs.declared.entry.Reply.TheVariants as replies
use Rattle.vale_entry.specs.OwnCalls.{tx_call}
use Rattle.vale_entry.specs.World.{Port, open_port}
use Rattle.vale_entry.specs.Legal.{Standing, session_and_reply, has_ring, can_reset, reset_step, made_at, fits_fault}
use Rattle.vale_book.specs.Recorded.{standing}
use Rattle.vale_fabric.specs.Fabrics.{before_in}
use Rattle.nm_user.specs.Sessions.{SessionState}
use Rattle.nm_user.specs.Calls.{Made, MadeNone}
use Rattle.nm_user.specs.Syncs.{IsUnsent, SyncsNot, TransmitsNot}
use Rattle.nm_user.specs.Receives.{RingNot}
use Rattle.nm_user.proofs.Resets.{refused-at, rx-refused, rx-resets, tx-resets}

-- a refusal that was recorded is one of the checks'
check-of : (now : Standing) (side : Side) (fault : SyncFault) (found : Option Port) (session : ℕ) (reply : Reply) → option_map session_and_reply (made_at (can_reset side fault) (reset_step now) found) ≡ Some (session, reply) → is_check_fault fault ≡ true
check-of now side fault None session reply e = absurd cc
check-of now side fault (Some port) session reply e = by (can_reset side fault port) refl e
  where
    by : (b : Bool) → can_reset side fault port ≡ b → option_map session_and_reply (if b then Some (reset_step now port) else None) ≡ Some (session, reply) → is_check_fault fault ≡ true
    by true can f = (and_parts (is_check_fault fault) (fits_fault fault) (and_parts (has_ring side port) (is_check_fault fault && fits_fault fault) can).1).0
    by false can f = absurd cc

-- so it is what the sync answers
says-refusal : (s t : SessionState) (ask : Ask) (refusal : Option SyncFault) (fault : SyncFault) → is_check_fault fault ≡ true → refusal ≡ Some fault → Made s t ask replies.Made → SyncsNot s t ask refusal fault
says-refusal s t ask refusal (HeadOut head from to) check is made = (is, made)
says-refusal s t ask refusal (CurOut cur from to) check is made = (is, made)
says-refusal s t ask refusal (Indirect slot) check is made = (is, made)
says-refusal s t ask refusal (IndexOut slot idx) check is made = (is, made)
says-refusal s t ask refusal (NotHeld slot idx) check is made = (is, made)
says-refusal s t ask refusal (Doubled slot idx) check is made = (is, made)
says-refusal s t ask refusal (Unannounced slot idx was) check is made = (is, made)
says-refusal s t ask refusal (LongLen slot len) check is made = (is, made)
says-refusal s t ask refusal (Fragment slot) check is made = (is, made)
says-refusal s t ask refusal PeerGone check is made = absurd cc
says-refusal s t ask refusal (RecordFull what used want) check is made = absurd cc
says-refusal s t ask refusal NoMemory check is made = absurd cc

pub says-full : (s t : SessionState) (ask : Ask) (refusal : Option SyncFault) (fault : StepFault) → MadeNone s t ask fault → SyncsNot s t ask refusal (sync_fault_of fault)
says-full s t ask refusal (steps.RecordFull what used want) none = none
says-full s t ask refusal steps.NoMemory none = none

-- what a sync answers that asked for the reset of its ring
ring-not : (s t : SessionState) (side : Side) (port : PortId) (fault said : SyncFault) → refusal_at side port.0 s.own ≡ Some fault → SyncsNot s t (Reset port side fault) (Some fault) said → RingNot side s t port.0 said
ring-not s t Tx port fault said is not =
    let k = refused-at s.own Tx port fault is in
    record {
      tx = record { port = k.at; ring = k.ring; found = k.found; has = k.has };
      not = subst (λ (ask : Ask). SyncsNot s t ask (refusal_in Tx s.own k.at k.ring) said) (sym (tx-resets k)) (subst (λ (o : Option SyncFault). SyncsNot s t (Reset port Tx fault) o said) (sym k.is) not);
    }
ring-not s t Rx port fault said is not =
    let k = refused-at s.own Rx port fault is in
    record {
      at = record { port = k.at; found = k.found };
      not = subst (λ (ask : Ask). SyncsNot s t ask (refusal_in Rx s.own k.at k.at.rx) said) (sym (rx-resets k)) (subst (λ (o : Option SyncFault). SyncsNot s t (Reset port Rx fault) o said) (sym (rx-refused k)) not);
    }

pub refused-not : (s t : SessionState) (side : Side) (port : PortId) (fault : SyncFault) → refusal_at side port.0 s.own ≡ Some fault → Made s t (Reset port side fault) replies.Made → RingNot side s t port.0 fault
refused-not s t side port fault is made =
    let m = made.answers.makes in
    let now = standing (before_in s.fixed t.knows) in
    let check = check-of now side fault (open_port now.world.ports port.0) m.session m.reply m.steps in
    ring-not s t side port fault fault is (says-refusal s t (Reset port side fault) (Some fault) fault check refl made)

pub reset-not : (s t : SessionState) (side : Side) (port : PortId) (fault : SyncFault) (full : StepFault) → refusal_at side port.0 s.own ≡ Some fault → MadeNone s t (Reset port side fault) full
    → RingNot side s t port.0 (sync_fault_of full)
reset-not s t side port fault full is none = ring-not s t side port fault (sync_fault_of full) is (says-full s t (Reset port side fault) (Some fault) full none)

pub unsent-not : (s t : SessionState) (id : ℕ) (fault : StepFault) → IsUnsent s t id fault → TransmitsNot s t id (sync_fault_of fault)
unsent-not s t id fault u = record {
  tx = u.tx;
  not = says-full s t (tx_call s.own u.tx.port u.tx.ring) (refusal_in Tx s.own u.tx.port u.tx.ring) fault u.none;
}
