-- Syncs of a session that save nothing of one of its ports.
use Rattle.std.proofs.Common.{ℕ, ◌≡◌, ◌==◌, ⊎_elim, Bool, true, false, List, Option, Some, None, option_map, refl, sym, ◌∙◌, ap, subst}
use Rattle.std.specs.Prelude.{if◌then◌else◌}
use Rattle.std.proofs.lemmas.Bool.{eqb-true, ne_eqb}
use Rattle.nm_types.specs.Frames.{Frame}
use Rattle.nm_types.specs.Names.{is_pipe_name}
use Rattle.nm_types.specs.declared.fault.StepFault.TheVariants as steps
use Rattle.nm_types.specs.declared.fault.SyncFault.{SyncFault}
use Rattle.nm_types.specs.declared.fault.SyncFault.TheVariants as faults
use Rattle.nm_types.specs.declared.id.PortId.{PortId}
use Rattle.nm_types.specs.declared.id.Side.TheVariants.{Tx, Rx}
use Rattle.nm_types.specs.OwnPorts.{OwnRing, OwnPort, OwnState, refusal_in}
use Rattle.vale_entry.specs.declared.entry.Ask.{Ask}
use Rattle.vale_entry.specs.declared.entry.Ask.TheVariants.{Sync, Get, Put, Send}
use Rattle.vale_entry.specs.declared.entry.Item.{Item}
use Rattle.vale_entry.specs.declared.entry.Reply.{Reply}
use Rattle.vale_entry.specs.declared.entry.Reply.TheVariants as replies
use Rattle.vale_entry.specs.OwnCalls.{or_reset, back_in, rx_call, tx_call}
use Rattle.vale_entry.specs.Legal.{Standing, standing_of, step, session_and_reply}
use Rattle.vale_entry.proofs.ListLaws.{place-of}
use Rattle.vale_book.specs.Reading.{read_ask}
use Rattle.vale_fabric.specs.Fabrics.{earlier}
use Rattle.nm_user.specs.Sessions.{SessionState, IsThere}
use Rattle.nm_user.specs.Calls.{Made}
use Rattle.nm_user.specs.Syncs.{SyncsNot, IsSent, IsPut, shares_in}
use Rattle.nm_user.specs.PortReads.{reads_at, IsPortOf}
use Rattle.nm_user.proofs.Receives.{call-of, stepped}
use Rattle.vale_replay.specs.Saved.{saved_frames}
use Rattle.vale_player.specs.Saving.{OtherReceivesSaveNothing, TransmitsSaveNothing, FailedReceivesSaveNothing, FailedTransmitsSaveNothing}
use Rattle.vale_player.proofs.SavingFrames.{calls-save-nothing, syncs-save-nothing, refused-save-nothing}

-- ---- what their calls read

receive-elsewhere : (id : ℕ) (o : Option SyncFault) (pipe : Bool) (port : PortId) (back : List ℕ) → (port.0 == id) ≡ false
    → (let get : Ask = Get port back in let sync : Ask = Sync port back in reads_at id (or_reset o port Rx (if pipe then get else sync))) ≡ false
receive-elsewhere id (Some fault) pipe port back other = refl
receive-elsewhere id None true port back other = other
receive-elsewhere id None false port back other = other

receive-reset : (id : ℕ) (o : Option SyncFault) (port : PortId) (ask : Ask) (fault : SyncFault) → o ≡ Some fault → reads_at id (or_reset o port Rx ask) ≡ false
receive-reset id None port ask fault e = absurd cc
receive-reset id (Some f) port ask fault e = refl

transmit-reads : (id : ℕ) (o : Option SyncFault) (pipe : Bool) (port : PortId) (items : List Item) (frames : List Frame)
    → (let put : Ask = Put port items in let send : Ask = Send port frames in reads_at id (or_reset o port Tx (if pipe then put else send))) ≡ false
transmit-reads id (Some fault) pipe port items frames = refl
transmit-reads id None true port items frames = refl
transmit-reads id None false port items frames = refl

pub transmits : (id : ℕ) (own : OwnState) (p : OwnPort) (r : OwnRing) → reads_at id (tx_call own p r) ≡ false
transmits id own p r = transmit-reads id (refusal_in Tx own p r) (is_pipe_name p.name) p.id _ _

-- a receive sync that no check refuses is never answered that the other end is gone
abbrev is-gave : Reply → Bool
is-gave (replies.Gave count to) = true
is-gave _ = false

never-gone : (now : Standing) (own : OwnState) (p : OwnPort) (session : ℕ) → refusal_in Rx own p p.rx ≡ None → option_map session_and_reply (step now (rx_call own p)) ≡ Some (session, replies.PeerGone) → ⊥
never-gone now own p session none e =
    let pipe = is_pipe_name p.name in
    let call : rx_call own p ≡ read_ask pipe p.id (back_in p) =
    ap (λ (o : Option SyncFault). or_reset o p.id Rx (let get : Ask = Get p.id (back_in p) in let sync : Ask = Sync p.id (back_in p) in if pipe then get else sync)) none ∙ call-of pipe p.id (back_in p) in
    let st = stepped pipe now p.id (back_in p) session replies.PeerGone (subst (λ (ask : Ask). option_map session_and_reply (step now ask) ≡ Some (session, replies.PeerGone)) call e) in
    let bad : true ≡ false = ap is-gave st.reply_is in
    cc

-- ---- a sync that failed

abbrev Same : SessionState → SessionState → ℕ → Type 0
Same s t id = saved_frames t.fixed.pool t.knows.seen id ≡ saved_frames s.fixed.pool s.knows.seen id

module _ (s t : SessionState) (id : ℕ) (ask : Ask) (refusal : Option SyncFault) (there : IsThere None s) (k : IsPortOf s.fixed.pool s.knows.seen s.id id)
    (gone : refusal ≡ None → Made s t ask replies.PeerGone → Same s t id) (resets : (fault : SyncFault) → refusal ≡ Some fault → reads_at id ask ≡ false) where
  refused : (fault : SyncFault) → (refusal ≡ Some fault) × Made s t ask replies.Made → Same s t id
  refused fault made = calls-save-nothing s t id ask replies.Made there k made.1 (resets fault made.0)

  sync-not : (fault : SyncFault) → SyncsNot s t ask refusal fault → Same s t id
  sync-not faults.PeerGone not = gone not.0 not.1
  sync-not (faults.RecordFull what used want) not = refused-save-nothing s t id ask (steps.RecordFull what used want) there k not
  sync-not faults.NoMemory not = refused-save-nothing s t id ask steps.NoMemory there k not
  sync-not _ not = refused _ not

-- ---- the laws

pub other-receives-save-nothing : OtherReceivesSaveNothing
other-receives-save-nothing s t id other received there after k apart is =
    let p = is.at.port in
    let at : p.id.0 ≡ other = eqb-true p.id.0 other (place-of (λ (q : OwnPort). q.id.0 == other) s.own.ports p is.at.found).passes in
    let elsewhere : (p.id.0 == id) ≡ false = ne_eqb p.id.0 id (λ same. apart (sym at ∙ same)) in
    syncs-save-nothing s t id _ _ is.shares there after k is.synced (receive-elsewhere id (refusal_in Rx s.own p p.rx) (is_pipe_name p.name) p.id (back_in p) elsewhere)

pub transmits-save-nothing : TransmitsSaveNothing
transmits-save-nothing at sent s t id there after k is =
    ⊎_elim (λ (put : IsSent s t at sent). syncs-save-nothing s t id _ _ (shares_in sent) there after k put.synced (transmits id s.own put.tx.port put.tx.ring))
    (λ (put : IsPut s t at sent). syncs-save-nothing s t id _ _ (shares_in sent) there after k put.synced (transmits id s.own put.tx.port put.tx.ring)) is

pub failed-receives-save-nothing : FailedReceivesSaveNothing
failed-receives-save-nothing s t id at fault there k is =
    let p = is.at.port in
    sync-not s t id (rx_call s.own p) (refusal_in Rx s.own p p.rx) there k
    (λ none made.
    let m = made.answers.makes in
    absurd (never-gone (standing_of s.fixed.pool (earlier t.knows.seen)) s.own p m.session none
    (subst (λ (r : Reply). option_map session_and_reply (step (standing_of s.fixed.pool (earlier t.knows.seen)) (rx_call s.own p)) ≡ Some (m.session, r)) made.answers.reply_is m.steps)))
    (λ f e. receive-reset id (refusal_in Rx s.own p p.rx) p.id _ f e) fault is.not

pub failed-transmits-save-nothing : FailedTransmitsSaveNothing
failed-transmits-save-nothing s t id at fault there k is =
    let ask = tx_call s.own is.tx.port is.tx.ring in
    let none = transmits id s.own is.tx.port is.tx.ring in
    sync-not s t id ask (refusal_in Tx s.own is.tx.port is.tx.ring) there k (λ passes made. calls-save-nothing s t id ask replies.PeerGone there k made none) (λ f e. none) fault is.not
