-- What the syncs of a user make of its tasks.
use Rattle.std.proofs.Common.{ℕ, ◌≡◌, append_assoc, Bool, true, false, cond, List, [], ◌∷◌, ◌++◌, Option, Some, None, option_map, Result, Ok, Err, IfOk, IfErr, IsSome, refl, sym, ◌∙◌, ap, subst, length}
use Rattle.std.proofs.lemmas.Option.{same_Some}
use Rattle.std.specs.Prelude.{◌||◌, not, option_and_then}
use Rattle.std.specs.Option.{option_map_or}
use Rattle.nm_types.specs.declared.fault.StepFault.{StepFault}
use Rattle.nm_types.specs.declared.id.PortId.{PortId}
use Rattle.nm_types.specs.declared.id.Side.TheVariants.{Tx}
use Rattle.nm_types.specs.OwnPorts.{OwnRing, OwnPort, OwnState, port_with_id, port_with_name, ring_at, ring_on}
use Rattle.nm_types.specs.OwnEdits.{has_slots, has_room, with_frame}
use Rattle.nm_types.specs.Parts.{slots_of_bytes}
use Rattle.vale_entry.specs.declared.entry.Ask.{Ask}
use Rattle.vale_entry.specs.declared.entry.Reply.{Reply}
use Rattle.vale_entry.specs.declared.entry.Reply.TheVariants as replies
use Rattle.vale_entry.specs.Legal.{kept_ask}
use Rattle.vale_entry.specs.OwnCalls.{tx_call, rx_call}
use Rattle.vale_own.specs.Side.{IsSound}
use Rattle.vale_fabric.specs.Fabrics.{Knowing}
use Rattle.nm_user.specs.Sessions.{SessionState, IsThere}
use Rattle.nm_user.specs.Calls.{Made, MadeNone}
use Rattle.nm_user.specs.Syncs.{HasTx, IsUnsent}
use Rattle.nm_user.specs.Receives.{HasPort}
use Rattle.vale_replay.specs.Edits.{change_found}
use Rattle.vale_replay.specs.Tasks.{Task, PutFrame, SendFrames, TakeFrames, EndLine, lines_left}
use Rattle.vale_replay.specs.Machine.{Machine, Save, has_room_at, is_reset, is_peer_gone, put_call, send_call, room_call}
use Rattle.vale_player.specs.declared.frames.SyncEnd.{SyncEnd}
use Rattle.vale_player.specs.declared.frames.SyncEnd.TheVariants as ends
use Rattle.vale_player.specs.Users.{HasCome}
use Rattle.vale_player.specs.Lines.{user_with, TaskCalls, has_failed, behind_sync}
use Rattle.vale_player.specs.Players.{PlayerState, machine_of, Does, Ends, DoesOrEnds, DoesLine, Stops, StopsAt, IsStill}
use Rattle.vale_player.specs.Syncing.{id_with_ring, id_beside, sender_named, CameOf, EndsTx, EndsRx, RxMadeNone, has_passed, leaves_room, with_put, Leads, NeedsNone, NeedsNoneOrEnds}
use Rattle.vale_player.proofs.Changes.{id-of, changed-at}
use Rattle.vale_player.proofs.Doing.{HasNoEnd, ends-line, stops-at}
use Rattle.vale_player.proofs.LineLaws.{calls-done, receives-done, sends-done, failed-sends, puts-sync, puts-call}
use Rattle.vale_player.proofs.Stays.{task-done}
use Rattle.vale_replay.proofs.PutRooms.{room-none}
use Rattle.vale_replay.proofs.TurnSides.{by-id}

or-first : (a b : Bool) → (a || b) ≡ false → a ≡ false
or-first true b e = absurd cc
or-first false b e = refl

-- ---- what is known of a result

pub ok-of : {X E : Type 0} (P : X → Type 0) (r : Result X E) {x : X} → r ≡ Ok x → IfOk r P → P x
ok-of {X} {E} P r is all = subst (λ (z : Result X E). IfOk z P) is all

pub err-of : {X E : Type 0} (P : E → Type 0) (r : Result X E) {fault : E} → r ≡ Err fault → IfErr r P → P fault
err-of {X} {E} P r is all = subst (λ (z : Result X E). IfErr z P) is all

-- ---- a port that is found by its name

pub record PortAt (own : OwnState) (name : List ℕ) (port : PortId) : Type 0 where
  pub at : OwnPort
  pub named : port_with_name own name ≡ Some at
  pub id_is : at.id ≡ port
  pub found : port_with_id own port.0 ≡ Some at

port-is : (own : OwnState) (name : List ℕ) (port : PortId) (p : OwnPort) → IsSound own → port_with_name own name ≡ Some p → p.id ≡ port → PortAt own name port
port-is own name port p sound named id =
    record { at = p; named = named; id_is = id; found = subst (λ (x : PortId). port_with_id own x.0 ≡ Some p) id (by-id own name p sound named) }

pub port-at : (own : OwnState) (name : List ℕ) (port : PortId) → IsSound own → option_map id-of (port_with_name own name) ≡ Some port → PortAt own name port
port-at own name port sound e = by (port_with_name own name) refl e
  where
    by : (found : Option OwnPort) → port_with_name own name ≡ found → option_map id-of found ≡ Some port → PortAt own name port
    by None named is = absurd cc
    by (Some p) named is = port-is own name port p sound named (same_Some p.id port is)

none-of : (found : Option OwnPort) → option_map id-of found ≡ None → found ≡ None
none-of None e = refl
none-of (Some p) e = absurd cc

-- ---- the port of a name that has a transmit ring

pub sender-away : (own : OwnState) (name : List ℕ) → option_map id-of (port_with_name own name) ≡ None → sender_named own name ≡ None
sender-away own name none = ap (option_and_then id_with_ring) (none-of (port_with_name own name) none)

module _ (own : OwnState) (name : List ℕ) (port : PortId) (p : PortAt own name port) where
  ring-there : ring_at Tx own port.0 ≡ p.at.tx
  ring-there = ap (option_and_then (ring_on Tx)) p.found

  sender-by : sender_named own name ≡ option_map (λ (r : OwnRing). port) p.at.tx
  sender-by = ap (option_and_then id_with_ring) p.named ∙ ap (λ (id : PortId). option_map (λ (r : OwnRing). id) p.at.tx) p.id_is

  -- as the positions of its ring tell
  pub sender-some : {R : Type 0} (f : OwnRing → R) (r : R) → option_map f (ring_at Tx own port.0) ≡ Some r → sender_named own name ≡ Some port
  sender-some {R} f r e = sender-by ∙ by p.at.tx (ap (option_map f) (sym ring-there) ∙ e)
    where
      by : (tx : Option OwnRing) → option_map f tx ≡ Some r → option_map (λ (x : OwnRing). port) tx ≡ Some port
      by None is = absurd cc
      by (Some x) is = refl

  pub sender-none : {R : Type 0} (f : OwnRing → R) → option_map f (ring_at Tx own port.0) ≡ None → sender_named own name ≡ None
  sender-none {R} f e = sender-by ∙ by p.at.tx (ap (option_map f) (sym ring-there) ∙ e)
    where
      by : (tx : Option OwnRing) → option_map f tx ≡ None → option_map (λ (x : OwnRing). port) tx ≡ None
      by None is = refl
      by (Some x) is = absurd cc

  pub room-by : (bytes : List ℕ) → has_room_at own name bytes ≡ has_room own port.0 (length bytes)
  room-by bytes =
      ap (λ (o : Option OwnPort). option_map_or (λ (q : OwnPort). has_room own q.id.0 (length bytes)) o false) p.named ∙ ap (λ (id : PortId). has_room own id.0 (length bytes)) p.id_is

pub room-away : (own : OwnState) (name bytes : List ℕ) → option_map id-of (port_with_name own name) ≡ None → has_room_at own name bytes ≡ false
room-away own name bytes none = ap (λ (o : Option OwnPort). option_map_or (λ (q : OwnPort). has_room own q.id.0 (length bytes)) o false) (none-of (port_with_name own name) none)

pub record Sender (own : OwnState) (name : List ℕ) (port : PortId) : Type 0 where
  pub of : PortAt own name port
  pub ring : OwnRing
  pub has : of.at.tx ≡ Some ring

pub sender-found : (own : OwnState) (name : List ℕ) (port : PortId) → IsSound own → sender_named own name ≡ Some port → Sender own name port
unfolding port-is
sender-found own name port sound e = by (port_with_name own name) refl e
  where
    with-ring : (p : OwnPort) (tx : Option OwnRing) → port_with_name own name ≡ Some p → p.tx ≡ tx → option_map (id_beside p) tx ≡ Some port → Sender own name port
    with-ring p None named has is = absurd cc
    with-ring p (Some r) named has is = record { of = port-is own name port p sound named (same_Some p.id port is); ring = r; has = has }

    by : (found : Option OwnPort) → port_with_name own name ≡ found → option_and_then id_with_ring found ≡ Some port → Sender own name port
    by None named is = absurd cc
    by (Some p) named is = with-ring p p.tx named refl is

-- as it is known of a user that goes on
pub sender-asked : (inside now : PlayerState) (name : List ℕ) (port : PortId) → inside ≡ now → IsThere None inside.session → sender_named now.session.own name ≡ Some port → Sender inside.session.own name port
sender-asked inside now name port same here named =
    sender-found inside.session.own name port here.side.sound (subst (λ (p : PlayerState). sender_named p.session.own name ≡ Some port) (sym same) named)

pub sender-ring : (own : OwnState) (name : List ℕ) (port : PortId) → Sender own name port → IsSome (ring_at Tx own port.0)
sender-ring own name port f = subst IsSome (sym (ap (option_and_then (ring_on Tx)) f.of.found ∙ f.has)) refl

-- ---- the calls of syncs

module _ (number : ℕ) (saves : List Save) (s : SessionState) (name : List ℕ) (port : PortId) (p : PortAt s.own name port) where
  tx-named : (tx : HasTx s.own port.0) → port_with_name s.own name ≡ Some tx.port
  tx-named tx = p.named ∙ (sym p.found ∙ tx.found)

  send-calls : (tx : HasTx s.own port.0) → TaskCalls number saves s (SendFrames name) (tx_call s.own tx.port tx.ring)
  send-calls tx = ap (option_and_then (send_call s.own)) (tx-named tx) ∙ ap (option_map (tx_call s.own tx.port)) tx.has

  put-calls : (bytes : List ℕ) (tx : HasTx s.own port.0) → has_room_at s.own name bytes ≡ false → TaskCalls number saves s (PutFrame name bytes) (tx_call s.own tx.port tx.ring)
  put-calls bytes tx full =
      let there : ring_at Tx s.own port.0 ≡ Some tx.ring = ap (option_and_then (ring_on Tx)) tx.found ∙ tx.has in
      let slots : has_slots (slots_of_bytes bytes) tx.ring ≡ false =
      sym (ap (λ (o : Option OwnRing). option_map_or (has_slots (slots_of_bytes bytes)) o false) there) ∙ (sym (room-by s.own name port p bytes) ∙ full) in
      ap (option_and_then (put_call s.own bytes)) (tx-named tx) ∙ (ap (option_and_then (room_call s.own bytes tx.port)) tx.has ∙ ap (λ (b : Bool). cond b None (Some (tx_call s.own tx.port tx.ring))) slots)

  take-calls : (at : HasPort s.own port.0) → TaskCalls number saves s (TakeFrames name) (rx_call s.own at.port)
  take-calls at = ap (option_map (rx_call s.own)) (p.named ∙ (sym p.found ∙ at.found))

-- a frame for which there is no ring is put without a call
no-ring-call : (own : OwnState) (bytes : List ℕ) (p : OwnPort) (tx : Option OwnRing) → option_map (id_beside p) tx ≡ None → option_and_then (room_call own bytes p) tx ≡ None
no-ring-call own bytes p None e = refl
no-ring-call own bytes p (Some r) e = absurd cc

no-send-call : (own : OwnState) (p : OwnPort) (tx : Option OwnRing) → option_map (id_beside p) tx ≡ None → option_map (tx_call own p) tx ≡ None
no-send-call own p None e = refl
no-send-call own p (Some r) e = absurd cc

pub ringless-put : (own : OwnState) (name bytes : List ℕ) → sender_named own name ≡ None → option_and_then (put_call own bytes) (port_with_name own name) ≡ None
ringless-put own name bytes e = by (port_with_name own name) e
  where
    by : (found : Option OwnPort) → option_and_then id_with_ring found ≡ None → option_and_then (put_call own bytes) found ≡ None
    by None is = refl
    by (Some p) is = no-ring-call own bytes p p.tx is

ringless-send : (own : OwnState) (name : List ℕ) → sender_named own name ≡ None → option_and_then (send_call own) (port_with_name own name) ≡ None
ringless-send own name e = by (port_with_name own name) e
  where
    by : (found : Option OwnPort) → option_and_then id_with_ring found ≡ None → option_and_then (send_call own) found ≡ None
    by None is = refl
    by (Some p) is = no-send-call own p p.tx is

-- ---- tasks without a call

room-sound : (own : OwnState) (name bytes : List ℕ) → IsSound own → has_room_at own name bytes ≡ true → option_and_then (put_call own bytes) (port_with_name own name) ≡ None
room-sound own name bytes sound = room-none own name bytes (λ p named. by-id own name p sound named)

pub passes-send : (p : PlayerState) (name : List ℕ) → sender_named p.session.own name ≡ None → Does p p (SendFrames name ∷ [])
passes-send p name none rest began first come =
    task-done p.session began first (machine_of p (SendFrames name ∷ rest)) (SendFrames name) rest come refl (ringless-send p.session.own name none)

stays-self : (p : PlayerState) (task : Task) → Leads p p (task ∷ []) (task ∷ [])
stays-self p task rest began first come = come

pub room-needs : (p : PlayerState) (name bytes : List ℕ) → IsSound p.session.own → has_room_at p.session.own name bytes ≡ true → NeedsNone p p (PutFrame name bytes)
room-needs p name bytes sound room = record { stays = stays-self p (PutFrame name bytes); none = room-sound p.session.own name bytes sound room }

pub ringless-needs : (p : PlayerState) (name bytes : List ℕ) → sender_named p.session.own name ≡ None → NeedsNone p p (PutFrame name bytes)
ringless-needs p name bytes none = record { stays = stays-self p (PutFrame name bytes); none = ringless-put p.session.own name bytes none }

-- so the frame is put
pub puts : (p q : PlayerState) (name bytes : List ℕ) → NeedsNone p q (PutFrame name bytes) → Does p (with_put name bytes q) (PutFrame name bytes ∷ [])
puts p q name bytes needs rest began first come =
    task-done q.session began first (machine_of q (PutFrame name bytes ∷ rest)) (PutFrame name bytes) rest (needs.stays rest began first come) refl needs.none

-- ---- the same user

module _ (p q : PlayerState) (same : q ≡ record p { session = q.session }) where
  still-by : q.session.fabric ≡ p.session.fabric → q.session.fixed ≡ p.session.fixed → IsStill p q
  still-by fabric fixed = record { number = ap (λ (x : PlayerState). x.number) same; names = ap (λ (x : PlayerState). x.names) same; fabric = fabric; fixed = fixed }

  pub still-came : (ask : Ask) (end : SyncEnd) → CameOf p.session q.session ask end → IsStill p q
  still-came ask ends.Passed came = still-by came.synced.fabric came.synced.fixed
  still-came ask ends.PeerGone came = still-by came.1.fabric came.1.fixed
  still-came ask ends.Refused came = still-by came.1.fabric came.1.fixed

  pub still-none : (ask : Ask) (fault : StepFault) → MadeNone p.session q.session ask fault → IsStill p q
  still-none ask fault none = still-by (ap (λ (s : SessionState). s.fabric) none.same) (ap (λ (s : SessionState). s.fixed) none.same)

-- a frame that is put at the port that was found
pub put-acted : (p : PlayerState) (t : SessionState) (name bytes : List ℕ) (port : PortId) → option_map id-of (port_with_name p.session.own name) ≡ Some port
    → t ≡ record p.session { own = with_frame port.0 bytes p.session.own } → record p { session = t } ≡ with_put name bytes p
put-acted p t name bytes port found made =
    ap (λ (s : SessionState). record p { session = s }) (made
    ∙ ap (λ (o : OwnState). record p.session { own = o }) (sym (changed-at p.session.own name port (λ (id : ℕ). with_frame id bytes) found)))

pub put-away : (p : PlayerState) (name bytes : List ℕ) → option_map id-of (port_with_name p.session.own name) ≡ None → p ≡ with_put name bytes p
put-away p name bytes none =
    ap (λ (o : OwnState). record p { session = record p.session { own = o } }) (sym (ap (change_found (λ (id : ℕ). with_frame id bytes) p.session.own) (none-of (port_with_name p.session.own name) none)))

pub still-put : (p : PlayerState) (name bytes : List ℕ) → IsStill p (with_put name bytes p)
still-put p name bytes = record { number = refl; names = refl; fabric = refl; fixed = refl }

-- ---- tasks with a sync

module _ (p q : PlayerState) (here : IsThere None p.session) (there : IsThere None q.session) (same : q ≡ record p { session = q.session }) where
  with-saves : {began : Knowing} {first : Machine} (tasks : List Task) → HasCome began first q.session (user_with p.number p.saves q.session tasks) → HasCome began first q.session (machine_of q tasks)
  with-saves {began} {first} tasks come = subst (λ (x : PlayerState). HasCome began first x.session (machine_of x tasks)) (sym same) come

  module _ (name : List ℕ) (ask : Ask) (calls : TaskCalls p.number p.saves p.session (TakeFrames name) ask) where
    take-made : (reply : Reply) → Made p.session q.session ask reply → Does p q (TakeFrames name ∷ [])
    take-made reply made rest began first come =
        with-saves rest (calls-done p.number p.saves p.session q.session (TakeFrames name) ask reply here there refl calls made rest began first come)

    takes : (end : SyncEnd) → CameOf p.session q.session ask end → Does p q (TakeFrames name ∷ [])
    takes ends.Passed came = λ rest began first come.
        with-saves rest (receives-done p.number p.saves p.session q.session name ask came.reply came.shares here there calls came.synced rest began first come)
    takes ends.PeerGone came = take-made replies.PeerGone came.1
    takes ends.Refused came = take-made replies.Made came.1

  module _ (name : List ℕ) (ask : Ask) (calls : TaskCalls p.number p.saves p.session (SendFrames name) ask) where
    send-failed : (reply : Reply) → has_failed ask reply ≡ true → Made p.session q.session ask reply → Ends p q (SendFrames name ∷ [])
    send-failed reply fails made rest began first come =
        with-saves (lines_left rest) (failed-sends p.number p.saves p.session q.session name ask reply here there calls fails made rest began first come)

    sends : (end : SyncEnd) → CameOf p.session q.session ask end → DoesOrEnds p q (SendFrames name ∷ []) (has_passed end)
    sends ends.Passed came = λ rest began first come.
        with-saves rest (sends-done p.number p.saves p.session q.session name ask came.reply came.shares here there calls came.passes came.synced rest began first come)
    sends ends.PeerGone came = send-failed replies.PeerGone (ap (λ (b : Bool). b || true) came.0) came.1
    sends ends.Refused came = send-failed replies.Made (ap (λ (b : Bool). b || false) came.0) came.1

  module _ (name bytes : List ℕ) (ask : Ask) (calls : TaskCalls p.number p.saves p.session (PutFrame name bytes) ask) where
    abbrev task : Task
    task = PutFrame name bytes

    behind-is : (reset room : Bool) (rest : List Task) → is_reset (kept_ask ask) ≡ reset → has_room_at q.session.own name bytes ≡ room
        → behind_sync q.session ask name bytes rest ≡ cond (reset || not room) (lines_left rest) (task ∷ rest)
    behind-is reset room rest e f =
        ap (λ (b : Bool). cond (b || not (has_room_at q.session.own name bytes)) (lines_left rest) (task ∷ rest)) e
        ∙ ap (λ (b : Bool). cond (reset || not b) (lines_left rest) (task ∷ rest)) f

    -- wherever the user comes by the sync
    abbrev GoesBehind : Type 0
    GoesBehind = (rest : List Task) (began : Knowing) (first : Machine) → HasCome began first p.session (machine_of p (task ∷ rest)) → HasCome began first q.session (machine_of q (behind_sync q.session ask name bytes rest))

    needs-room : (room : Bool) → has_room_at q.session.own name bytes ≡ room → is_reset (kept_ask ask) ≡ false → GoesBehind → NeedsNoneOrEnds p q task room
    needs-room true room accepted goes = record {
      stays = λ rest began first come. subst (λ (tasks : List Task). HasCome began first q.session (machine_of q tasks)) (behind-is false true rest accepted room) (goes rest began first come);
      none = room-sound q.session.own name bytes there.side.sound room;
    }
    needs-room false room accepted goes = λ rest began first come.
        subst (λ (tasks : List Task). HasCome began first q.session (machine_of q tasks)) (behind-is false false rest accepted room) (goes rest began first come)

    put-refused : is_reset (kept_ask ask) ≡ true → GoesBehind → Ends p q (task ∷ [])
    put-refused reset goes = λ rest began first come.
        subst (λ (tasks : List Task). HasCome began first q.session (machine_of q tasks)) (behind-is true (has_room_at q.session.own name bytes) rest reset refl) (goes rest began first come)

    by-made : (reply : Reply) → Made p.session q.session ask reply → GoesBehind
    by-made reply made rest began first come =
        with-saves (behind_sync q.session ask name bytes rest) (puts-call p.number p.saves p.session q.session name bytes ask reply rest here there calls made began first come)

    needs : (end : SyncEnd) (room : Bool) → has_room_at q.session.own name bytes ≡ room → CameOf p.session q.session ask end → NeedsNoneOrEnds p q task (leaves_room end room)
    needs ends.Passed room is came =
        needs-room room is (or-first (is_reset (kept_ask ask)) (is_peer_gone came.reply) came.passes)
        (λ rest began first come. with-saves (behind_sync q.session ask name bytes rest)
        (puts-sync p.number p.saves p.session q.session name bytes ask came.reply came.shares rest here there calls came.synced began first come))
    needs ends.PeerGone room is came = needs-room room is came.0 (by-made replies.PeerGone came.1)
    needs ends.Refused room is came = put-refused came.0 (by-made replies.Made came.1)

  -- ---- as the functions of a user find them

  module _ (name : List ℕ) (port : PortId) (at : PortAt p.session.own name port) where
    pub takes-by : (end : SyncEnd) → EndsRx p.session q.session port.0 end → Does p q (TakeFrames name ∷ [])
    takes-by end e = takes name (rx_call p.session.own e.at.port) (take-calls p.number p.saves p.session name port at e.at) end e.came

    pub sends-by : (end : SyncEnd) → EndsTx p.session q.session port.0 end → DoesOrEnds p q (SendFrames name ∷ []) (has_passed end)
    sends-by end e = sends name (tx_call p.session.own e.tx.port e.tx.ring) (send-calls p.number p.saves p.session name port at e.tx) end e.came

    pub needs-by : (bytes : List ℕ) (end : SyncEnd) (room : Bool) → has_room_at p.session.own name bytes ≡ false → has_room_at q.session.own name bytes ≡ room → EndsTx p.session q.session port.0 end
        → NeedsNoneOrEnds p q (PutFrame name bytes) (leaves_room end room)
    needs-by bytes end room full is e =
        needs name bytes (tx_call p.session.own e.tx.port e.tx.ring) (put-calls p.number p.saves p.session name port at bytes e.tx full) end room is e.came

-- where the sync leaves its ring, the name tells the port's room behind it
pub needs-at : (p q : PlayerState) → IsThere None p.session → IsThere None q.session → q ≡ record p { session = q.session } → (name : List ℕ) (port : PortId) → Sender p.session.own name port → sender_named q.session.own name ≡ Some port
    → (bytes : List ℕ) (end : SyncEnd) (room : Bool) → has_room p.session.own port.0 (length bytes) ≡ false → has_room q.session.own port.0 (length bytes) ≡ room → EndsTx p.session q.session port.0 end
    → NeedsNoneOrEnds p q (PutFrame name bytes) (leaves_room end room)
needs-at p q here there same name port sender named bytes end room full is e =
    let behind = sender-found q.session.own name port there.side.sound named in
    needs-by p q here there same name port sender.of bytes end room (room-by p.session.own name port sender.of bytes ∙ full) (room-by q.session.own name port behind.of bytes ∙ is) e

pub room-behind : (end : SyncEnd) (room : Bool) → leaves_room end room ≡ true → room ≡ true
room-behind ends.Passed room e = e
room-behind ends.PeerGone room e = e
room-behind ends.Refused room e = absurd cc

module _ (p q : PlayerState) (same : q ≡ record p { session = q.session }) (name : List ℕ) (port : PortId) (at : PortAt p.session.own name port) where
  pub take-stops : (fault : StepFault) → RxMadeNone p.session q.session port.0 fault → StopsAt p q (TakeFrames name) fault
  take-stops fault e = record { ask = rx_call p.session.own e.at.port; calls = take-calls p.number p.saves p.session name port at e.at; none = e.none; same = same }

  pub send-stops : (fault : StepFault) → IsUnsent p.session q.session port.0 fault → StopsAt p q (SendFrames name) fault
  send-stops fault e = record { ask = tx_call p.session.own e.tx.port e.tx.ring; calls = send-calls p.number p.saves p.session name port at e.tx; none = e.none; same = same }

  pub put-stops : (bytes : List ℕ) (fault : StepFault) → has_room_at p.session.own name bytes ≡ false → IsUnsent p.session q.session port.0 fault → StopsAt p q (PutFrame name bytes) fault
  put-stops bytes fault full e = record { ask = tx_call p.session.own e.tx.port e.tx.ring; calls = put-calls p.number p.saves p.session name port at bytes e.tx full; none = e.none; same = same }

  pub still-tx : (end : SyncEnd) → EndsTx p.session q.session port.0 end → IsStill p q
  still-tx end e = still-came p q same (tx_call p.session.own e.tx.port e.tx.ring) end e.came

  pub still-rx : (end : SyncEnd) → EndsRx p.session q.session port.0 end → IsStill p q
  still-rx end e = still-came p q same (rx_call p.session.own e.at.port) end e.came

  pub still-unsent : (fault : StepFault) → IsUnsent p.session q.session port.0 fault → IsStill p q
  still-unsent fault e = still-none p q same (tx_call p.session.own e.tx.port e.tx.ring) fault e.none

  pub still-untaken : (fault : StepFault) → RxMadeNone p.session q.session port.0 fault → IsStill p q
  still-untaken fault e = still-none p q same (rx_call p.session.own e.at.port) fault e.none

-- ---- tasks that are left

module _ (p q r : PlayerState) (whole : List Task) (task : Task) (more : List Task) (leads : Leads p q whole (task ∷ more)) where
  pub leads-does : Does q r (task ∷ []) → Leads p r whole more
  leads-does does rest began first come = does (more ++ rest) began first (leads rest began first come)

  pub leads-ends : HasNoEnd more → Ends q r (task ∷ []) → DoesLine p r whole
  leads-ends none ends = ends-line p r whole (λ rest began first come.
      subst (λ (tasks : List Task). HasCome began first r.session (machine_of r tasks)) (none rest) (ends (more ++ rest) began first (leads rest began first come)))

  pub leads-stops : (fault : StepFault) → IsThere None q.session → StopsAt q r task fault → Stops p r whole fault
  leads-stops fault here at rest began first come = stops-at q r task more fault here at rest began first (leads rest began first come)

module _ (p q r : PlayerState) (whole tasks : List Task) (leads : Leads p q whole tasks) where
  pub leads-leads : (more : List Task) → Leads q r tasks more → Leads p r whole more
  leads-leads more next rest began first come = next rest began first (leads rest began first come)

  pub leads-line : DoesLine q r tasks → DoesLine p r whole
  leads-line line rest began first come =
      line rest began first (subst (λ (all : List Task). HasCome began first q.session (machine_of q all)) (sym (append_assoc tasks (EndLine ∷ []) rest))
      (leads (EndLine ∷ rest) began first (subst (λ (all : List Task). HasCome began first p.session (machine_of p all)) (append_assoc whole (EndLine ∷ []) rest) come)))

  pub leads-halts : (fault : StepFault) → Stops q r tasks fault → Stops p r whole fault
  leads-halts fault stops rest began first come = stops rest began first (leads rest began first come)

pub leads-self : (p : PlayerState) (tasks : List Task) → Leads p p tasks tasks
leads-self p tasks rest began first come = come

pub leads-as : (p q : PlayerState) (whole one other : List Task) → one ≡ other → Leads p q whole one → Leads p q whole other
leads-as p q whole one other same leads = subst (Leads p q whole) same leads
