-- A turn of a user leaves it with its session's side.
use Rattle.std.proofs.Common.{Bool, true, false, cond, not, ℕ, zero, suc, ◌+◌, ◌-◌, ◌<◌, ◌≡◌, ◌⊎◌, inl, inr, List, [], ◌∷◌, ◌++◌, length, map, filter, find, take, slice_get, Option, Some, None, option_map, refl, sym, ◌∙◌, ap, subst, arith, replicate}
use Rattle.std.specs.Prelude.{◌&&◌, ◌||◌, option_and_then, bytes_eq, slice_index_or, flat_map}
use Rattle.std.specs.Option.{option_or}
use Rattle.std.specs.List.{list_any, AllByRecursion}
use Rattle.std.proofs.lemmas.List.{length-take-le}
use Rattle.std.proofs.lemmas.Option.{same_Some}
use Rattle.nm_types.specs.declared.fault.SyncFault.{SyncFault}
use Rattle.nm_types.specs.declared.id.Side.{Side}
use Rattle.nm_types.specs.declared.id.Side.TheVariants.{Tx, Rx}
use Rattle.nm_types.specs.declared.id.PortId.{PortId}
use Rattle.nm_types.specs.declared.id.SessionId.{SessionId}
use Rattle.nm_types.specs.declared.id.Sides.{Sides}
use Rattle.nm_types.specs.Names.{is_pipe_name}
use Rattle.nm_types.specs.Slots.{pushed_frames}
use Rattle.nm_types.specs.OwnPorts.{OwnRing, OwnPort, OwnState, empty_own, bytes_at, pushed_in, refusal_in, buffers_in, port_with_name, port_with_id}
use Rattle.nm_types.specs.OwnEdits.{has_slots}
use Rattle.nm_types.specs.Parts.{slots_of_bytes}
use Rattle.nm_types.proofs.Tests.{not_false, both_are}
use Rattle.vale_entry.specs.declared.entry.Ask.{Ask}
use Rattle.vale_entry.specs.declared.entry.Ask.TheVariants.{Enter, Open, Send, Sync, Shut, Leave, Put, Get, Watch, Stat}
use Rattle.vale_entry.specs.declared.entry.Entry.{Entry}
use Rattle.vale_entry.specs.World.{Port, Lot, Offer, is_session, is_settled}
use Rattle.vale_entry.specs.Arrivals.{arrivals_of}
use Rattle.vale_entry.specs.Closing.{is_port_of, can_leave}
use Rattle.vale_entry.specs.Legal.{Standing, Outcome, kept_ask, session_and_reply, step, standing_of, Follows, IsLegal}
use Rattle.vale_entry.specs.OwnCalls.{or_reset, offered_items, back_in, tx_call, rx_call, finish_call, own_after}
use Rattle.vale_entry.proofs.Counting.{count_of}
use Rattle.vale_own.specs.Asker.{is_enter}
use Rattle.vale_own.specs.Own.{own_of, port_alone}
use Rattle.vale_own.specs.Side.{IsSoundSideOf, IsSound, IsOfSide, port_of_side, shut_after}
use Rattle.vale_own.proofs.SideKept.{side-kept, side-begins}
use Rattle.vale_own.proofs.SideEntries.{transmits-of, receives-of, finishes-of}
use Rattle.vale_own.proofs.SideSound.{each-found}
use Rattle.vale_replay.specs.Tasks.{Task, Arrive, OpenPort, PutFrame, SendFrames, TakeFrames, ChangeOwn, SaveFrames, WatchPort, ReadCounts, ShutPort, FinishPort, Depart, EndLine, lines_left}
use Rattle.vale_replay.specs.Machine.{Machine, room_call, put_call, send_call, call_of_task, call_of_tasks, settling_call, owed_lot, next_offer, done_call, grant_call, next_call, is_reset, is_peer_gone, has_room_at, with_tasks, answered, is_settling}
use Rattle.vale_replay.specs.Replay.{TakesTurn, caller_of, entry_of, entry_made, standing_before}
use Rattle.vale_replay.proofs.Legal.{made-follows, take-one_more}
use Rattle.vale_replay.proofs.Enters.{Enters, turn-enters}
use Rattle.vale_replay.proofs.TaskSides.{SideOf, ArePaired, AreInOrder, KeepsSide, keeps-rest, left-paired, next-paired}

-- Calls, and the ports that they are of.

pub record TxOf (own : OwnState) (name : List ℕ) (ask : Ask) : Type 0 where
  pub port : OwnPort
  pub named : port_with_name own name ≡ Some port
  pub ring : OwnRing
  pub has : port.tx ≡ Some ring
  pub is : tx_call own port ring ≡ ask

room-of : (own : OwnState) (p : OwnPort) (r : OwnRing) (b : Bool) (ask : Ask)
    → cond b None (Some (tx_call own p r)) ≡ Some ask → tx_call own p r ≡ ask
room-of own p r true ask e = absurd cc
room-of own p r false ask e = same_Some (tx_call own p r) ask e

put-ring : (own : OwnState) (name bytes : List ℕ) (p : OwnPort) (tx : Option OwnRing) (ask : Ask)
    → port_with_name own name ≡ Some p → p.tx ≡ tx
    → option_and_then (room_call own bytes p) tx ≡ Some ask → TxOf own name ask
put-ring own name bytes p None ask named has e = absurd cc
put-ring own name bytes p (Some r) ask named has e = record { port = p; named = named; ring = r; has = has; is = room-of own p r (has_slots (slots_of_bytes bytes) r) ask e }

pub put-of : (own : OwnState) (name bytes : List ℕ) (found : Option OwnPort) (ask : Ask)
    → port_with_name own name ≡ found → option_and_then (put_call own bytes) found ≡ Some ask → TxOf own name ask
put-of own name bytes None ask named e = absurd cc
put-of own name bytes (Some p) ask named e = put-ring own name bytes p p.tx ask named refl e

send-ring : (own : OwnState) (name : List ℕ) (p : OwnPort) (tx : Option OwnRing) (ask : Ask)
    → port_with_name own name ≡ Some p → p.tx ≡ tx
    → option_map (tx_call own p) tx ≡ Some ask → TxOf own name ask
send-ring own name p None ask named has e = absurd cc
send-ring own name p (Some r) ask named has e = record { port = p; named = named; ring = r; has = has; is = same_Some (tx_call own p r) ask e }

pub send-of : (own : OwnState) (name : List ℕ) (found : Option OwnPort) (ask : Ask)
    → port_with_name own name ≡ found → option_and_then (send_call own) found ≡ Some ask → TxOf own name ask
send-of own name None ask named e = absurd cc
send-of own name (Some p) ask named e = send-ring own name p p.tx ask named refl e

pub record PortOf (f : OwnPort → Ask) (own : OwnState) (name : List ℕ) (ask : Ask) : Type 0 where
  pub port : OwnPort
  pub named : port_with_name own name ≡ Some port
  pub is : f port ≡ ask

pub port-of : (f : OwnPort → Ask) (own : OwnState) (name : List ℕ) (found : Option OwnPort) (ask : Ask)
    → port_with_name own name ≡ found → option_map f found ≡ Some ask → PortOf f own name ask
port-of f own name None ask named e = absurd cc
port-of f own name (Some p) ask named e = record { port = p; named = named; is = same_Some (f p) ask e }

pub find-each : (P : OwnPort → Type 0) (test : OwnPort → Bool) (ports : List OwnPort) (p : OwnPort)
    → AllByRecursion P ports → find test ports ≡ Some p → P p
find-each P test [] p all e = absurd cc
find-each P test (q ∷ ports) p all e = by_test (test q) e (find-each P test ports p all.1)
  where
    by_test : (b : Bool) → cond b (Some q) (find test ports) ≡ Some p
        → (find test ports ≡ Some p → P p) → P p
    by_test true e' rest = subst P (same_Some q p e') all.0
    by_test false e' rest = rest e'

pub by-id : (own : OwnState) (name : List ℕ) (p : OwnPort) → IsSound own
    → port_with_name own name ≡ Some p → port_with_id own p.id.0 ≡ Some p
by-id own name p sound named =
    find-each (λ (q : OwnPort). port_with_id own q.id.0 ≡ Some q) (λ (q : OwnPort). bytes_eq name q.name) own.ports p (each-found own.ports sound.apart) named

-- a sync shuts nothing
tx-shut_by : (fault : Option SyncFault) (id : PortId) (b : Bool) (put : Ask) (send : Ask) (shut : Option ℕ)
    → shut_after (kept_ask put) shut ≡ shut → shut_after (kept_ask send) shut ≡ shut
    → (side : Side) → shut_after (kept_ask (or_reset fault id side (cond b put send))) shut ≡ shut
tx-shut_by None id true put send shut one two side = one
tx-shut_by None id false put send shut one two side = two
tx-shut_by (Some fault) id b put send shut one two side = refl

tx-shut : (own : OwnState) (p : OwnPort) (r : OwnRing) (shut : Option ℕ)
    → shut_after (kept_ask (tx_call own p r)) shut ≡ shut
tx-shut own p r shut = tx-shut_by (refusal_in Tx own p r) p.id (is_pipe_name p.name) (Put p.id (offered_items own r)) (Send p.id (pushed_frames (bytes_at own) (pushed_in Tx r))) shut refl refl Tx

rx-shut : (own : OwnState) (p : OwnPort) (shut : Option ℕ)
    → shut_after (kept_ask (rx_call own p)) shut ≡ shut
rx-shut own p shut = tx-shut_by (refusal_in Rx own p p.rx) p.id (is_pipe_name p.name) (Get p.id (back_in p)) (Sync p.id (back_in p)) shut refl refl Rx

-- An entry of the user's session.

abbrev made_entry : Ask → Outcome → Entry
made_entry ask made = entry_of ask made

abbrev came_by : Standing → Ask → Outcome → OwnState → ℕ → OwnState
came_by s ask made own n = own_after n (entry_of ask made) (arrivals_of s (kept_ask ask) made.reply) own

-- the entry of a call, in a legal history
record IsMade (pool : ℕ) (past : List Entry) (ask : Ask) (made : Outcome) : Type 0 where
  legal : IsLegal pool past
  step_is : step (standing_of pool past) ask ≡ Some made
  follows : Follows (standing_of pool past) (entry_of ask made)

abbrev standing_next : ℕ → List Entry → Ask → Outcome → Standing
standing_next pool past ask made = standing_of pool (past ++ entry_of ask made ∷ [])

session-side : (pool : ℕ) (past : List Entry) (ask : Ask) (made : Outcome) (shut : Option ℕ) (own : OwnState)
    → IsMade pool past ask made → IsOfSide shut own (kept_ask ask) made.reply
    → IsSoundSideOf pool made.session shut (own_of made.session (standing_of pool past)) own
    → IsSoundSideOf pool made.session (shut_after (kept_ask ask) shut) (own_of made.session (standing_next pool past ask made)) (came_by (standing_of pool past) ask made own (length past + 1))
session-side pool past ask made shut own m of side = side-kept pool past (entry_of ask made) shut own m.legal m.follows side of

-- a user whose session that is
abbrev IsOwn : Option SessionId → Outcome → Type 0
IsOwn session made = session ≡ Some (record { 0 = made.session })

next-side : (pool : ℕ) (past : List Entry) (ask : Ask) (made : Outcome) (shut after : Option ℕ) (session : Option SessionId) (own : OwnState)
    → IsMade pool past ask made → IsOwn session made → IsOfSide shut own (kept_ask ask) made.reply
    → shut_after (kept_ask ask) shut ≡ after → SideOf pool (standing_of pool past) session shut own
    → SideOf pool (standing_next pool past ask made) session after (came_by (standing_of pool past) ask made own (length past + 1))
next-side pool past ask made shut after session own m is of shuts side =
    subst (λ (x : Option SessionId). SideOf pool (standing_next pool past ask made) x after (came_by (standing_of pool past) ask made own (length past + 1))) (sym is)
    (subst (λ (k : Option ℕ). SideOf pool (standing_next pool past ask made) (Some (record { 0 = made.session })) k (came_by (standing_of pool past) ask made own (length past + 1))) shuts
    (session-side pool past ask made shut own m of (subst (λ (x : Option SessionId). SideOf pool (standing_of pool past) x shut own) is side)))

sound-of : (pool : ℕ) (s : Standing) (shut : Option ℕ) (session : Option SessionId) (made : Outcome) (own : OwnState)
    → IsOwn session made → SideOf pool s session shut own → IsSound own
sound-of pool s shut session made own is side =
    (subst (λ (x : Option SessionId). SideOf pool s x shut own) is side).sound

-- Leaving.

none-of : (session : ℕ) (ports : List Port) → list_any (is_port_of session) ports ≡ false
    → filter (is_port_of session) (map port_alone ports) ≡ []
none-of session [] e = refl
none-of session (p ∷ ports) e = by_here (is_port_of session p) refl e (none-of session ports)
  where
    by_here : (b : Bool) → is_port_of session p ≡ b → (b || list_any (is_port_of session) ports) ≡ false
        → (list_any (is_port_of session) ports ≡ false → filter (is_port_of session) (map port_alone ports) ≡ [])
        → filter (is_port_of session) (map port_alone (p ∷ ports)) ≡ []
    by_here true here e' rest = absurd cc
    by_here false here e' rest = rw here (rest e')

no-ports : (session shut : ℕ) (s : Option ℕ) (ports : List OwnPort)
    → map (port_of_side session s) ports ≡ [] → ports ≡ []
no-ports session shut s [] e = refl
no-ports session shut s (p ∷ ports) e = absurd cc

blank-bytes : (n : ℕ) (xs : List (List ℕ)) → length xs ≡ n
    → ((b : ℕ) → slice_index_or xs b [] ≡ []) → xs ≡ replicate n []
blank-bytes zero [] e blank = refl
blank-bytes zero (x ∷ xs) e blank = absurd cc
blank-bytes (suc n) [] e blank = absurd cc
blank-bytes (suc n) (x ∷ xs) e blank =
    let first : x ≡ [] = blank 0 in
    let rest : xs ≡ replicate n [] = blank-bytes n xs (omega (arith, e)) (λ b. blank (suc b)) in
    ap (λ (y : List ℕ). y ∷ xs) first ∙ ap (λ (ys : List (List ℕ)). [] ∷ ys) rest

left-empty : (pool : ℕ) (s : Standing) (session : ℕ) (shut : Option ℕ) (own : OwnState)
    → IsSoundSideOf pool session shut (own_of session s) own → can_leave s.world session ≡ true
    → own ≡ empty_own pool
left-empty pool s session shut own side can =
    ap (λ (n : ℕ). record { pool = n; ports = own.ports; bytes = own.bytes }) side.of.pool_is
    ∙ ap (λ (ps : List OwnPort). record { pool = pool; ports = ps; bytes = own.bytes }) ports
    ∙ ap (λ (bs : List (List ℕ)). record { pool = pool; ports = []; bytes = bs }) bytes
  where
    none : list_any (is_port_of session) s.world.ports ≡ false
    none =
        let rest = (both_are (is_session s.world session) (not (list_any (is_port_of session) s.world.ports) && is_settled s.world session) can).1 in
        not_false (list_any (is_port_of session) s.world.ports) (both_are (not (list_any (is_port_of session) s.world.ports)) (is_settled s.world session) rest).0

    ports : own.ports ≡ []
    ports = no-ports session 0 shut own.ports (sym side.of.ports ∙ none-of session s.world.ports none)

    bytes : own.bytes ≡ replicate (pool + 2) []
    bytes = blank-bytes (pool + 2) own.bytes (side.sound.cells ∙ ap (λ n. n + 2) side.of.pool_is)
        (λ b. side.sound.blank b (ap (λ (ps : List OwnPort). count_of b (flat_map buffers_in ps)) ports))

-- Turns, by what the user has to do first.

abbrev next_of : ℕ → List Entry → Machine → Ask → Outcome → List Task → Machine
next_of pool past user ask made tasks =
    with_tasks (length past + 1) (entry_of ask made) (record user { own = came_by (standing_of pool past) ask made user.own (length past + 1) }) tasks

abbrev Steps : ℕ → List Entry → Machine → Ask → Outcome → List Task → Type 0
Steps pool past user ask made tasks = KeepsSide pool (standing_next pool past ask made) (next_of pool past user ask made tasks)

-- a sync of a transmit ring
tx-side : (pool : ℕ) (past : List Entry) (user : Machine) (name : List ℕ) (ask : Ask) (made : Outcome)
    → IsMade pool past ask made → IsOwn user.session made
    → SideOf pool (standing_of pool past) user.session None user.own → TxOf user.own name ask
    → SideOf pool (standing_next pool past ask made) user.session None (came_by (standing_of pool past) ask made user.own (length past + 1))
tx-side pool past user name ask made m is side t =
    let sound = sound-of pool (standing_of pool past) None user.session made user.own is side in
    let stepped : step (standing_of pool past) (tx_call user.own t.port t.ring) ≡ Some made = ap (step (standing_of pool past)) t.is ∙ m.step_is in
    let of : IsOfSide None user.own (kept_ask ask) made.reply = subst (λ (a : Ask). IsOfSide None user.own (kept_ask a) made.reply) t.is
    (transmits-of pool past made.session None user.own t.port t.ring made.reply (by-id user.own name t.port sound t.named) t.has (ap (option_map session_and_reply) stepped)) in
    next-side pool past ask made None None user.session user.own m is of (ap (λ (a : Ask). shut_after (kept_ask a) None) (sym t.is) ∙ tx-shut user.own t.port t.ring None) side

put-turn : (pool : ℕ) (past : List Entry) (user : Machine) (name bytes : List ℕ) (rest : List Task) (ask : Ask) (made : Outcome)
    → IsMade pool past ask made → IsOwn user.session made
    → SideOf pool (standing_of pool past) user.session None user.own → ArePaired rest → call_of_task user (PutFrame name bytes) ≡ Some ask → Steps pool past user ask made (PutFrame name bytes ∷ rest)
put-turn pool past user name bytes rest ask made m is side paired call = record {
  shut = None;
  side = tx-side pool past user name ask made m is side (put-of user.own name bytes (port_with_name user.own name) ask refl call);
  order = next-paired (is_reset (kept_ask ask) || not (has_room_at (came_by (standing_of pool past) ask made user.own (length past + 1)) name bytes)) (lines_left rest) (PutFrame name bytes ∷ rest) (left-paired rest paired) paired;
}

send-turn : (pool : ℕ) (past : List Entry) (user : Machine) (name : List ℕ) (rest : List Task) (ask : Ask) (made : Outcome)
    → IsMade pool past ask made → IsOwn user.session made
    → SideOf pool (standing_of pool past) user.session None user.own → ArePaired rest → call_of_task user (SendFrames name) ≡ Some ask → Steps pool past user ask made (SendFrames name ∷ rest)
send-turn pool past user name rest ask made m is side paired call = record {
  shut = None;
  side = tx-side pool past user name ask made m is side (send-of user.own name (port_with_name user.own name) ask refl call);
  order = next-paired (is_reset (kept_ask ask) || is_peer_gone made.reply) (lines_left rest) rest (left-paired rest paired) paired;
}

take-turn : (pool : ℕ) (past : List Entry) (user : Machine) (name : List ℕ) (rest : List Task) (ask : Ask) (made : Outcome)
    → IsMade pool past ask made → IsOwn user.session made
    → SideOf pool (standing_of pool past) user.session None user.own → ArePaired rest → call_of_task user (TakeFrames name) ≡ Some ask → Steps pool past user ask made (TakeFrames name ∷ rest)
take-turn pool past user name rest ask made m is side paired call =
    let t = port-of (rx_call user.own) user.own name (port_with_name user.own name) ask refl call in
    let sound = sound-of pool (standing_of pool past) None user.session made user.own is side in
    let of : IsOfSide None user.own (kept_ask ask) made.reply = subst (λ (a : Ask). IsOfSide None user.own (kept_ask a) made.reply) t.is
    (receives-of None user.own t.port made.reply (by-id user.own name t.port sound t.named)) in
    record {
      shut = None;
      side = next-side pool past ask made None None user.session user.own m is of (ap (λ (a : Ask). shut_after (kept_ask a) None) (sym t.is) ∙ rx-shut user.own t.port None) side;
      order = paired;
    }

finish-turn : (pool : ℕ) (past : List Entry) (user : Machine) (id : ℕ) (name : List ℕ) (rest : List Task) (ask : Ask) (made : Outcome)
    → IsMade pool past ask made → IsOwn user.session made
    → SideOf pool (standing_of pool past) user.session (Some id) user.own → ArePaired rest → call_of_task user (FinishPort name) ≡ Some ask → Steps pool past user ask made (FinishPort name ∷ rest)
finish-turn pool past user id name rest ask made m is side paired call =
    let t = port-of (finish_call user.own) user.own name (port_with_name user.own name) ask refl call in
    let sound = sound-of pool (standing_of pool past) (Some id) user.session made user.own is side in
    let of : IsOfSide (Some id) user.own (kept_ask ask) made.reply = subst (λ (a : Ask). IsOfSide (Some id) user.own (kept_ask a) made.reply) t.is
    (finishes-of (Some id) user.own t.port made.reply (by-id user.own name t.port sound t.named)) in
    record {
      shut = None;
      side = next-side pool past ask made (Some id) None user.session user.own m is of (ap (λ (a : Ask). shut_after (kept_ask a) (Some id)) (sym t.is)) side;
      order = paired;
    }

shut-turn : (pool : ℕ) (past : List Entry) (user : Machine) (name other : List ℕ) (rest : List Task) (ask : Ask) (made : Outcome)
    → IsMade pool past ask made → IsOwn user.session made
    → SideOf pool (standing_of pool past) user.session None user.own → other ≡ name → ArePaired rest → call_of_task user (ShutPort name) ≡ Some ask
    → Steps pool past user ask made (ShutPort name ∷ FinishPort other ∷ rest)
shut-turn pool past user name other rest ask made m is side same paired call =
    let t = port-of (λ (p : OwnPort). Shut p.id) user.own name (port_with_name user.own name) ask refl call in
    let of : IsOfSide None user.own (kept_ask ask) made.reply = subst (λ (a : Ask). IsOfSide None user.own (kept_ask a) made.reply) t.is refl in
    let stays : came_by (standing_of pool past) ask made user.own (length past + 1) ≡ user.own = ap (λ (a : Ask). came_by (standing_of pool past) a made user.own (length past + 1)) (sym t.is) in
    let named : port_with_name (came_by (standing_of pool past) ask made user.own (length past + 1)) other ≡ Some t.port = ap (λ (o : OwnState). port_with_name o other) stays ∙ ap (port_with_name user.own) same ∙ t.named in
    record {
      shut = Some t.port.id.0;
      side = next-side pool past ask made None (Some t.port.id.0) user.session user.own m is of (ap (λ (a : Ask). shut_after (kept_ask a) None) (sym t.is)) side;
      order = ((t.port, named, refl), paired);
    }

-- an entry that needs no port of the side
plain-turn : (pool : ℕ) (past : List Entry) (user : Machine) (ask : Ask) (made : Outcome)
    → IsMade pool past ask made → IsOwn user.session made → IsOfSide None user.own (kept_ask ask) made.reply → shut_after (kept_ask ask) None ≡ None
    → SideOf pool (standing_of pool past) user.session None user.own
    → SideOf pool (standing_next pool past ask made) user.session None (came_by (standing_of pool past) ask made user.own (length past + 1))
plain-turn pool past user ask made m is of shuts side = next-side pool past ask made None None user.session user.own m is of shuts side

leave-turn : (pool : ℕ) (past : List Entry) (user : Machine) (rest : List Task) (ask : Ask) (made : Outcome) (x : SessionId)
    → IsMade pool past ask made → user.session ≡ Some x
    → SideOf pool (standing_of pool past) user.session None user.own → ArePaired rest → Leave x ≡ ask → Steps pool past user ask made (Depart ∷ rest)
leave-turn pool past user rest ask made x m is side paired same = by_can (can_leave (standing_of pool past).world x.0) refl
  where
    stepped : step (standing_of pool past) (Leave x) ≡ Some made
    stepped = ap (step (standing_of pool past)) same ∙ m.step_is

    stays : came_by (standing_of pool past) ask made user.own (length past + 1) ≡ user.own
    stays = ap (λ (a : Ask). came_by (standing_of pool past) a made user.own (length past + 1)) (sym same)

    by_can : (b : Bool) → can_leave (standing_of pool past).world x.0 ≡ b
        → Steps pool past user ask made (Depart ∷ rest)
    by_can true can = record {
      shut = None;
      side = (stays ∙ left-empty pool (standing_of pool past) x.0 None user.own (subst (λ (y : Option SessionId). SideOf pool (standing_of pool past) y None user.own) is side) can, refl);
      order = paired;
    }
    by_can false can =
        let none : step (standing_of pool past) (Leave x) ≡ None = rw can refl in
        let clash : None ≡ Some made = sym none ∙ stepped in
        absurd cc

open-turn : (pool : ℕ) (past : List Entry) (user : Machine) (name : List ℕ) (tx rx extra : ℕ) (rest : List Task) (ask : Ask) (made : Outcome) (x : SessionId)
    → IsMade pool past ask made → IsOwn user.session made
    → SideOf pool (standing_of pool past) user.session None user.own → ArePaired rest → Open x name tx rx extra ≡ ask → Steps pool past user ask made (OpenPort name tx rx extra ∷ rest)
open-turn pool past user name tx rx extra rest ask made x m is side paired same = record {
  shut = None;
  side = plain-turn pool past user ask made m is (subst (λ (a : Ask). IsOfSide None user.own (kept_ask a) made.reply) same refl) (ap (λ (a : Ask). shut_after (kept_ask a) None) (sym same)) side;
  order = paired;
}

watch-turn : (pool : ℕ) (past : List Entry) (user : Machine) (monitor target : List ℕ) (sides : Sides) (rest : List Task) (ask : Ask) (made : Outcome)
    → IsMade pool past ask made → IsOwn user.session made
    → SideOf pool (standing_of pool past) user.session None user.own → ArePaired rest → call_of_task user (WatchPort monitor target sides) ≡ Some ask
    → Steps pool past user ask made (WatchPort monitor target sides ∷ rest)
watch-turn pool past user monitor target sides rest ask made m is side paired call =
    let t = port-of (λ (p : OwnPort). Watch p.id target sides) user.own monitor (port_with_name user.own monitor) ask refl call in
    record {
      shut = None;
      side = plain-turn pool past user ask made m is (subst (λ (a : Ask). IsOfSide None user.own (kept_ask a) made.reply) t.is tt) (ap (λ (a : Ask). shut_after (kept_ask a) None) (sym t.is)) side;
      order = paired;
    }

stat-turn : (pool : ℕ) (past : List Entry) (user : Machine) (name : List ℕ) (rest : List Task) (ask : Ask) (made : Outcome)
    → IsMade pool past ask made → IsOwn user.session made
    → SideOf pool (standing_of pool past) user.session None user.own → ArePaired rest → call_of_task user (ReadCounts name) ≡ Some ask → Steps pool past user ask made (ReadCounts name ∷ rest)
stat-turn pool past user name rest ask made m is side paired call =
    let t = port-of (λ (p : OwnPort). Stat p.id) user.own name (port_with_name user.own name) ask refl call in
    record {
      shut = None;
      side = plain-turn pool past user ask made m is (subst (λ (a : Ask). IsOfSide None user.own (kept_ask a) made.reply) t.is tt) (ap (λ (a : Ask). shut_after (kept_ask a) None) (sym t.is)) side;
      order = paired;
    }

-- a call for which a session is wanted
with-session : (f : SessionId → Ask) (session : Option SessionId) (x : SessionId) (ask : Ask)
    → session ≡ Some x → option_map f session ≡ Some ask → f x ≡ ask
with-session f session x ask is e = same_Some (f x) ask (ap (option_map f) (sym is) ∙ e)

-- the turn of a task, by a user that has a session
task-turn : (pool : ℕ) (past : List Entry) (user : Machine) (shut : Option ℕ) (tasks : List Task) (ask : Ask) (made : Outcome)
    → IsMade pool past ask made → IsOwn user.session made
    → SideOf pool (standing_of pool past) user.session shut user.own → AreInOrder shut user.own tasks → call_of_tasks user tasks ≡ Some ask → Steps pool past user ask made tasks
task-turn pool past user shut [] ask made m is side order call = absurd cc
task-turn pool past user None (Arrive ∷ rest) ask made m is side order call =
    let none : call_of_task user Arrive ≡ None = rw is refl in
    let clash : None ≡ Some ask = sym none ∙ call in
    absurd cc
task-turn pool past user None (OpenPort name tx rx extra ∷ rest) ask made m is side order call =
    open-turn pool past user name tx rx extra rest ask made (record { 0 = made.session }) m is side order
    (with-session (λ (session : SessionId). Open session name tx rx extra) user.session (record { 0 = made.session }) ask is call)
task-turn pool past user None (PutFrame name bytes ∷ rest) ask made m is side order call = put-turn pool past user name bytes rest ask made m is side order call
task-turn pool past user None (SendFrames name ∷ rest) ask made m is side order call = send-turn pool past user name rest ask made m is side order call
task-turn pool past user None (TakeFrames name ∷ rest) ask made m is side order call = take-turn pool past user name rest ask made m is side order call
task-turn pool past user None (ChangeOwn act ∷ rest) ask made m is side order call = absurd cc
task-turn pool past user None (SaveFrames name file ∷ rest) ask made m is side order call = absurd cc
task-turn pool past user None (WatchPort monitor target sides ∷ rest) ask made m is side order call = watch-turn pool past user monitor target sides rest ask made m is side order call
task-turn pool past user None (ReadCounts name ∷ rest) ask made m is side order call = stat-turn pool past user name rest ask made m is side order call
task-turn pool past user None (ShutPort name ∷ FinishPort other ∷ rest) ask made m is side order call = shut-turn pool past user name other rest ask made m is side order.0 order.1 call
task-turn pool past user None (Depart ∷ rest) ask made m is side order call =
    leave-turn pool past user rest ask made (record { 0 = made.session }) m is side order (with-session Leave user.session (record { 0 = made.session }) ask is call)
task-turn pool past user None (EndLine ∷ rest) ask made m is side order call = absurd cc
task-turn pool past user (Some id) (FinishPort name ∷ rest) ask made m is side order call = finish-turn pool past user id name rest ask made m is side order.1 call
task-turn pool past user _ _ ask made m is side order call = absurd order

-- An Enter, by a user without a session.

named-none : (pool : ℕ) (own : OwnState) (name : List ℕ) → own ≡ empty_own pool
    → port_with_name own name ≡ None
named-none pool own name e = ap (λ (o : OwnState). port_with_name o name) e

none-called : {X : Type 0} (f : OwnPort → Option X) (pool : ℕ) (own : OwnState) (name : List ℕ) (x : X)
    → own ≡ empty_own pool → option_and_then f (port_with_name own name) ≡ Some x → ⊥
none-called f pool own name x e is =
    let clash : None ≡ Some x = ap (option_and_then f) (sym (named-none pool own name e)) ∙ is in
    absurd cc

none-mapped : {X : Type 0} (f : OwnPort → X) (pool : ℕ) (own : OwnState) (name : List ℕ) (x : X)
    → own ≡ empty_own pool → option_map f (port_with_name own name) ≡ Some x → ⊥
none-mapped f pool own name x e is =
    let clash : None ≡ Some x = ap (option_map f) (sym (named-none pool own name e)) ∙ is in
    absurd cc

none-session : (f : SessionId → Ask) (session : Option SessionId) (ask : Ask) → session ≡ None
    → option_map f session ≡ Some ask → ⊥
none-session f session ask e is = let clash : None ≡ Some ask = ap (option_map f) (sym e) ∙ is in absurd cc

enter-side : (pool : ℕ) (past : List Entry) (user : Machine) (rest : List Task) (ask : Ask) (made : Outcome) (number : ℕ)
    → IsMade pool past ask made → Enter number ≡ ask
    → user.own ≡ empty_own pool → made.session ≡ length past + 1 → ArePaired rest → Steps pool past user ask made (Arrive ∷ rest)
enter-side pool past user rest ask made number m same own new paired = record {
  shut = None;
  side = subst (λ (n : ℕ). IsSoundSideOf pool n None (own_of n (standing_next pool past ask made)) (came_by (standing_of pool past) ask made user.own (length past + 1))) new
      (subst (IsSoundSideOf pool made.session None (own_of made.session (standing_next pool past ask made))) (sym stays) (side-begins pool past (entry_of ask made) number m.legal m.follows (ap kept_ask (sym same))));
  order = paired;
}
  where
    stays : came_by (standing_of pool past) ask made user.own (length past + 1) ≡ empty_own pool
    stays = ap (λ (a : Ask). came_by (standing_of pool past) a made user.own (length past + 1)) (sym same) ∙ own

enter-turn : (pool : ℕ) (past : List Entry) (user : Machine) (tasks : List Task) (ask : Ask) (made : Outcome)
    → IsMade pool past ask made → user.session ≡ None → user.own ≡ empty_own pool → made.session ≡ length past + 1
    → ArePaired tasks → call_of_tasks user tasks ≡ Some ask → Steps pool past user ask made tasks
enter-turn pool past user [] ask made m is own new paired call = absurd cc
enter-turn pool past user (Arrive ∷ rest) ask made m is own new paired call =
    let arrives : call_of_task user Arrive ≡ Some (Enter user.number) = rw is refl in
    enter-side pool past user rest ask made user.number m (same_Some (Enter user.number) ask (sym arrives ∙ call)) own new paired
enter-turn pool past user (OpenPort name tx rx extra ∷ rest) ask made m is own new paired call = absurd (none-session (λ (session : SessionId). Open session name tx rx extra) user.session ask is call)
enter-turn pool past user (PutFrame name bytes ∷ rest) ask made m is own new paired call = absurd (none-called (put_call user.own bytes) pool user.own name ask own call)
enter-turn pool past user (SendFrames name ∷ rest) ask made m is own new paired call = absurd (none-called (send_call user.own) pool user.own name ask own call)
enter-turn pool past user (TakeFrames name ∷ rest) ask made m is own new paired call = absurd (none-mapped (rx_call user.own) pool user.own name ask own call)
enter-turn pool past user (ChangeOwn act ∷ rest) ask made m is own new paired call = absurd cc
enter-turn pool past user (SaveFrames name file ∷ rest) ask made m is own new paired call = absurd cc
enter-turn pool past user (WatchPort monitor target sides ∷ rest) ask made m is own new paired call = absurd (none-mapped (λ (p : OwnPort). Watch p.id target sides) pool user.own monitor ask own call)
enter-turn pool past user (ReadCounts name ∷ rest) ask made m is own new paired call = absurd (none-mapped (λ (p : OwnPort). Stat p.id) pool user.own name ask own call)
enter-turn pool past user (ShutPort name ∷ rest) ask made m is own new paired call = absurd (none-mapped (λ (p : OwnPort). Shut p.id) pool user.own name ask own call)
enter-turn pool past user (FinishPort name ∷ rest) ask made m is own new paired call = absurd (none-mapped (finish_call user.own) pool user.own name ask own call)
enter-turn pool past user (Depart ∷ rest) ask made m is own new paired call = absurd (none-session Leave user.session ask is call)
enter-turn pool past user (EndLine ∷ rest) ask made m is own new paired call = absurd cc

-- A call that settles leaves the side and the tasks.

settled-turn : (pool : ℕ) (past : List Entry) (user : Machine) (shut : Option ℕ) (ask : Ask) (made : Outcome)
    → IsMade pool past ask made → IsOwn user.session made → IsOfSide shut user.own (kept_ask ask) made.reply → shut_after (kept_ask ask) shut ≡ shut
    → came_by (standing_of pool past) ask made user.own (length past + 1) ≡ user.own
    → SideOf pool (standing_of pool past) user.session shut user.own → AreInOrder shut user.own user.tasks → KeepsSide pool (standing_next pool past ask made) user
settled-turn pool past user shut ask made m is of shuts stays side order = record {
  shut = shut;
  side = subst (SideOf pool (standing_next pool past ask made) user.session shut) stays (next-side pool past ask made shut shut user.session user.own m is of shuts side);
  order = order;
}

abbrev answer_of : ℕ → List Entry → Machine → Ask → Outcome → Machine
answer_of pool past user ask made =
    answered (length past + 1) (entry_of ask made) (arrivals_of (standing_of pool past) (kept_ask ask) made.reply) user

-- a call that leaves its user as it was
call-turn : (pool : ℕ) (past : List Entry) (user : Machine) (keeps : KeepsSide pool (standing_of pool past) user) (call ask : Ask) (made : Outcome)
    → IsMade pool past ask made → IsOwn user.session made → call ≡ ask → IsOfSide keeps.shut user.own (kept_ask call) made.reply
    → answer_of pool past user call made ≡ user → shut_after (kept_ask call) keeps.shut ≡ keeps.shut
    → came_by (standing_of pool past) call made user.own (length past + 1) ≡ user.own
    → KeepsSide pool (standing_next pool past ask made) (answer_of pool past user ask made)
call-turn pool past user keeps call ask made m is same of still shuts came =
    let stays : answer_of pool past user ask made ≡ user = ap (λ (a : Ask). answer_of pool past user a made) (sym same) ∙ still in
    subst (KeepsSide pool (standing_next pool past ask made)) (sym stays)
    (settled-turn pool past user keeps.shut ask made m is (subst (λ (a : Ask). IsOfSide keeps.shut user.own (kept_ask a) made.reply) same of)
    (ap (λ (a : Ask). shut_after (kept_ask a) keeps.shut) (sym same) ∙ shuts)
    (ap (λ (a : Ask). came_by (standing_of pool past) a made user.own (length past + 1)) (sym same) ∙ came) keeps.side keeps.order)

lot-turn : (pool : ℕ) (past : List Entry) (user : Machine) (keeps : KeepsSide pool (standing_of pool past) user) (lot : Lot) (ask : Ask) (made : Outcome)
    → IsMade pool past ask made → IsOwn user.session made → done_call lot ≡ ask → KeepsSide pool (standing_next pool past ask made) (answer_of pool past user ask made)
lot-turn pool past user keeps lot ask made m is same = call-turn pool past user keeps (done_call lot) ask made m is same tt refl refl refl

offer-turn : (pool : ℕ) (past : List Entry) (user : Machine) (keeps : KeepsSide pool (standing_of pool past) user) (offer : Offer) (ask : Ask) (made : Outcome)
    → IsMade pool past ask made → IsOwn user.session made → grant_call offer ≡ ask → KeepsSide pool (standing_next pool past ask made) (answer_of pool past user ask made)
offer-turn pool past user keeps offer ask made m is same = call-turn pool past user keeps (grant_call offer) ask made m is same tt refl refl refl

-- The call of a task is neither an Enter nor one that settles, where its user has a session.
pub record IsPlain (ask : Ask) : Type 0 where
  pub settles : is_settling (kept_ask ask) ≡ false
  pub enters : is_enter ask ≡ false

reset-plain : (fault : Option SyncFault) (id : PortId) (side : Side) (b : Bool) (one other : Ask)
    → IsPlain one → IsPlain other → IsPlain (or_reset fault id side (cond b one other))
reset-plain None id side true one other front back = front
reset-plain None id side false one other front back = back
reset-plain (Some fault) id side b one other front back = record { settles = refl; enters = refl }

tx-plain : (own : OwnState) (p : OwnPort) (r : OwnRing) → IsPlain (tx_call own p r)
tx-plain own p r =
    reset-plain (refusal_in Tx own p r) p.id Tx (is_pipe_name p.name) (Put p.id (offered_items own r)) (Send p.id (pushed_frames (bytes_at own) (pushed_in Tx r)))
    (record { settles = refl; enters = refl }) (record { settles = refl; enters = refl })

rx-plain : (own : OwnState) (p : OwnPort) → IsPlain (rx_call own p)
rx-plain own p =
    reset-plain (refusal_in Rx own p p.rx) p.id Rx (is_pipe_name p.name) (Get p.id (back_in p)) (Sync p.id (back_in p)) (record { settles = refl; enters = refl }) (record { settles = refl; enters = refl })

mapped-plain : {X : Type 0} (f : X → Ask) (o : Option X) (ask : Ask) → ((x : X) → IsPlain (f x))
    → option_map f o ≡ Some ask → IsPlain ask
mapped-plain f None ask each e = absurd cc
mapped-plain f (Some x) ask each e = subst IsPlain (same_Some (f x) ask e) (each x)

pub tasks-plain : (user : Machine) (x : SessionId) (tasks : List Task) (ask : Ask)
    → user.session ≡ Some x → call_of_tasks user tasks ≡ Some ask → IsPlain ask
tasks-plain user x [] ask is call = absurd cc
tasks-plain user x (Arrive ∷ rest) ask is call =
    let none : call_of_task user Arrive ≡ None = rw is refl in
    let clash : None ≡ Some ask = sym none ∙ call in
    absurd cc
tasks-plain user x (OpenPort name tx rx extra ∷ rest) ask is call = mapped-plain (λ (session : SessionId). Open session name tx rx extra) user.session ask (λ s. record { settles = refl; enters = refl }) call
tasks-plain user x (PutFrame name bytes ∷ rest) ask is call =
    let t = put-of user.own name bytes (port_with_name user.own name) ask refl call in
    subst IsPlain t.is (tx-plain user.own t.port t.ring)
tasks-plain user x (SendFrames name ∷ rest) ask is call =
    let t = send-of user.own name (port_with_name user.own name) ask refl call in
    subst IsPlain t.is (tx-plain user.own t.port t.ring)
tasks-plain user x (TakeFrames name ∷ rest) ask is call = mapped-plain (rx_call user.own) (port_with_name user.own name) ask (rx-plain user.own) call
tasks-plain user x (ChangeOwn act ∷ rest) ask is call = absurd cc
tasks-plain user x (SaveFrames name file ∷ rest) ask is call = absurd cc
tasks-plain user x (WatchPort monitor target sides ∷ rest) ask is call = mapped-plain (λ (p : OwnPort). Watch p.id target sides) (port_with_name user.own monitor) ask (λ p. record { settles = refl; enters = refl }) call
tasks-plain user x (ReadCounts name ∷ rest) ask is call = mapped-plain (λ (p : OwnPort). Stat p.id) (port_with_name user.own name) ask (λ p. record { settles = refl; enters = refl }) call
tasks-plain user x (ShutPort name ∷ rest) ask is call = mapped-plain (λ (p : OwnPort). Shut p.id) (port_with_name user.own name) ask (λ p. record { settles = refl; enters = refl }) call
tasks-plain user x (FinishPort name ∷ rest) ask is call = mapped-plain (finish_call user.own) (port_with_name user.own name) ask (λ p. record { settles = refl; enters = refl }) call
tasks-plain user x (Depart ∷ rest) ask is call = mapped-plain Leave user.session ask (λ s. record { settles = refl; enters = refl }) call
tasks-plain user x (EndLine ∷ rest) ask is call = absurd cc

-- The turn of a user.

-- what its call is: it settles, or it is that of a task
task-answer : (pool : ℕ) (past : List Entry) (user : Machine) (ask : Ask) (made : Outcome)
    → is_settling (kept_ask ask) ≡ false → Steps pool past user ask made user.tasks
    → KeepsSide pool (standing_next pool past ask made) (answer_of pool past user ask made)
task-answer pool past user ask made plain steps =
    subst (λ (b : Bool). KeepsSide pool (standing_next pool past ask made) (cond b user (next_of pool past user ask made user.tasks))) (sym plain) steps

session-turn : (pool : ℕ) (past : List Entry) (user : Machine) (keeps : KeepsSide pool (standing_of pool past) user) (ask : Ask) (made : Outcome) (lot : Option Lot) (offer : Option Offer)
    → IsMade pool past ask made → IsOwn user.session made
    → option_or (option_or (option_map done_call lot) (option_map grant_call offer)) (call_of_tasks user user.tasks) ≡ Some ask
    → KeepsSide pool (standing_next pool past ask made) (answer_of pool past user ask made)
session-turn pool past user keeps ask made (Some lot) offer m is call = lot-turn pool past user keeps lot ask made m is (same_Some (done_call lot) ask call)
session-turn pool past user keeps ask made None (Some offer) m is call = offer-turn pool past user keeps offer ask made m is (same_Some (grant_call offer) ask call)
session-turn pool past user keeps ask made None None m is call =
    task-answer pool past user ask made (tasks-plain user (record { 0 = made.session }) user.tasks ask is call).settles
    (task-turn pool past user keeps.shut user.tasks ask made m is keeps.side keeps.order call)

-- a user with a session makes calls of it
own-caller : (n : ℕ) (user : Machine) (ask : Ask) (s : SessionId) → is_enter ask ≡ false
    → caller_of n user ask ≡ Some s → user.session ≡ Some s
own-caller n user (Enter name) s none e = absurd cc
own-caller n user _ s none e = e

call-plain : (user : Machine) (x : SessionId) (ask : Ask) (lot : Option Lot) (offer : Option Offer)
    → user.session ≡ Some x
    → option_or (option_or (option_map done_call lot) (option_map grant_call offer)) (call_of_tasks user user.tasks) ≡ Some ask → is_enter ask ≡ false
call-plain user x ask (Some lot) offer is call = ap is_enter (sym (same_Some (done_call lot) ask call))
call-plain user x ask None (Some offer) is call = ap is_enter (sym (same_Some (grant_call offer) ask call))
call-plain user x ask None None is call = (tasks-plain user x user.tasks ask is call).enters

none-turn : (pool : ℕ) (past : List Entry) (user : Machine) (keeps : KeepsSide pool (standing_of pool past) user) (ask : Ask) (made : Outcome)
    → IsMade pool past ask made → user.session ≡ None → call_of_tasks user user.tasks ≡ Some ask
    → Enters (length past + 1) user (entry_of ask made)
    → KeepsSide pool (standing_next pool past ask made) (answer_of pool past user ask made)
none-turn pool past user keeps ask made m is call enters =
    let side : (user.own ≡ empty_own pool) × (keeps.shut ≡ None) = subst (λ (x : Option SessionId). SideOf pool (standing_of pool past) x keeps.shut user.own) is keeps.side in
    let paired : ArePaired user.tasks = subst (λ (k : Option ℕ). AreInOrder k user.own user.tasks) side.1 keeps.order in
    task-answer pool past user ask made (ap is_settling enters.ask) (enter-turn pool past user user.tasks ask made m is side.0 enters.session paired call)

clash : {X : Type 0} {x : X} → None ≡ Some x → ⊥
clash e = absurd cc

made-turn : (pool : ℕ) (past : List Entry) (user : Machine) (keeps : KeepsSide pool (standing_of pool past) user) (ask : Ask) (made : Outcome) (session : Option SessionId)
    → IsMade pool past ask made → user.session ≡ session → next_call (standing_of pool past).world user ≡ Some ask
    → caller_of (length past + 1) user ask ≡ Some (record { 0 = made.session })
    → (user.session ≡ Some (record { 0 = made.session })) ⊎ Enters (length past + 1) user (entry_of ask made)
    → KeepsSide pool (standing_next pool past ask made) (answer_of pool past user ask made)
made-turn pool past user keeps ask made None m is called caller (inl own) = absurd (clash (sym is ∙ own))
made-turn pool past user keeps ask made None m is called caller (inr enters) =
    none-turn pool past user keeps ask made m is (ap (λ (x : Option SessionId). option_or (option_and_then (settling_call (standing_of pool past).world) x) (call_of_tasks user user.tasks)) (sym is) ∙ called) enters
made-turn pool past user keeps ask made (Some x) m is called caller either =
    let w = (standing_of pool past).world in
    let call = ap (λ (y : Option SessionId). option_or (option_and_then (settling_call w) y) (call_of_tasks user user.tasks)) (sym is) ∙ called in
    let own = own-caller (length past + 1) user ask (record { 0 = made.session }) (call-plain user x ask (owed_lot w x.0) (next_offer w x.0) is call) caller in
    session-turn pool past user keeps ask made (owed_lot w x.0) (next_offer w x.0) m own call

pub outcome-of : (ask : Ask) (entry : Entry) (made : Option Outcome) → option_map (entry_of ask) made ≡ Some entry
    → (out : Outcome) × (made ≡ Some out) × (entry_of ask out ≡ entry)
outcome-of ask entry None e = absurd cc
outcome-of ask entry (Some out) e = (out, refl, same_Some (entry_of ask out) entry e)

-- the entry of its turn leaves a user with its session's side
pub answer-side : (pool : ℕ) (h : List Entry) (user : Machine) (n : ℕ) (after : Machine)
    → IsLegal pool (take n h) → n < length h → KeepsSide pool (standing_of pool (take n h)) user
    → (turn : TakesTurn pool h user (n + 1) after)
    → KeepsSide pool (standing_of pool (take (n + 1) h)) (answered (n + 1) turn.entry (arrivals_of (standing_before pool h (n + 1)) turn.entry.ask turn.entry.reply) user)
answer-side pool h user n after legal within keeps turn = subst (KeepsSide pool (standing_of pool (take (n + 1) h))) (sym goes) (subst (λ (s : Standing). KeepsSide pool s next) stands' behind)
  where
    past : List Entry
    past = take n h

    at : n + 1 - 1 ≡ n
    at = omega arith

    stands : standing_before pool h (n + 1) ≡ standing_of pool past
    stands = ap (λ k. standing_of pool (take k h)) at

    out : (o : Outcome) × (step (standing_of pool past) turn.ask ≡ Some o) × (entry_of turn.ask o ≡ turn.entry)
    out = outcome-of turn.ask turn.entry (step (standing_of pool past) turn.ask) (ap (λ (s : Standing). entry_made s turn.ask) (sym stands) ∙ turn.made)

    made : IsMade pool past turn.ask out.0
    made = record {
      legal = legal;
      step_is = out.1;
      follows = subst (λ (e : Entry). Follows (standing_of pool past) e) (sym out.2) (made-follows (standing_of pool past) turn.ask turn.entry (ap (λ (s : Standing). entry_made s turn.ask) (sym stands) ∙ turn.made));
    }

    number : n + 1 ≡ length past + 1
    number = ap (λ k. k + 1) (sym (length-take-le n h (omega (arith, within))))

    next : Machine
    next = answer_of pool past user turn.ask out.0

    caller : caller_of (length past + 1) user turn.ask ≡ Some (record { 0 = out.0.session })
    caller = ap (λ k. caller_of k user turn.ask) (sym number) ∙ turn.caller ∙ ap (λ (e : Entry). Some e.session) (sym out.2)

    either : (user.session ≡ Some (record { 0 = out.0.session })) ⊎ Enters (length past + 1) user (entry_of turn.ask out.0)
    either = subst (λ (k : ℕ). (user.session ≡ Some (record { 0 = out.0.session })) ⊎ Enters k user (entry_of turn.ask out.0)) number
        (subst (λ (e : Entry). (user.session ≡ Some e.session) ⊎ Enters (n + 1) user e) (sym out.2) (turn-enters pool h user (n + 1) after turn))

    behind : KeepsSide pool (standing_next pool past turn.ask out.0) next
    behind = made-turn pool past user keeps turn.ask out.0 user.session made refl (ap (λ (s : Standing). next_call s.world user) (sym stands) ∙ turn.asked) caller either

    there : slice_get h n ≡ Some (entry_of turn.ask out.0)
    there = ap (slice_get h) (sym at) ∙ turn.there ∙ ap (λ (e : Entry). Some e) (sym out.2)

    stands' : standing_next pool past turn.ask out.0 ≡ standing_of pool (take (n + 1) h)
    stands' =
        let more : suc n ≡ n + 1 = omega arith in
        ap (standing_of pool) (sym (take-one_more h n (entry_of turn.ask out.0) there)) ∙ ap (λ k. standing_of pool (take k h)) more

    goes : answered (n + 1) turn.entry (arrivals_of (standing_before pool h (n + 1)) turn.entry.ask turn.entry.reply) user ≡ next
    goes = ap (λ (s : Standing). answered (n + 1) turn.entry (arrivals_of s turn.entry.ask turn.entry.reply) user) stands
        ∙ ap (λ (e : Entry). answered (n + 1) e (arrivals_of (standing_of pool past) e.ask e.reply) user) (sym out.2)
        ∙ ap (λ k. answered k (entry_of turn.ask out.0) (arrivals_of (standing_of pool past) (kept_ask turn.ask) out.0.reply) user) number

-- and so it has it behind its turn
pub turn-side : (pool : ℕ) (h : List Entry) (user : Machine) (n : ℕ) (after : Machine)
    → IsLegal pool (take n h) → n < length h → KeepsSide pool (standing_of pool (take n h)) user
    → TakesTurn pool h user (n + 1) after → KeepsSide pool (standing_of pool (take (n + 1) h)) after
turn-side pool h user n after legal within keeps turn =
    subst (KeepsSide pool (standing_of pool (take (n + 1) h))) (sym turn.goes_on)
    (keeps-rest pool (standing_of pool (take (n + 1) h)) (answered (n + 1) turn.entry (arrivals_of (standing_before pool h (n + 1)) turn.entry.ask turn.entry.reply) user) (answer-side pool h user n after legal within keeps turn))
