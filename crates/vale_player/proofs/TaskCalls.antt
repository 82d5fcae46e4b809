-- What the call of a task is of: an open port of the side, the port that is shut, or the session.
use Rattle.std.proofs.Common.{ℕ, ◌≡◌, ◌⊎◌, inl, inr, Bool, true, false, cond, List, [], ◌∷◌, Option, Some, None, option_map, refl, sym, ◌∙◌, ap, subst}
use Rattle.std.proofs.lemmas.Option.{same_Some}
use Rattle.std.specs.Prelude.{option_and_then}
use Rattle.nm_types.specs.declared.fault.SyncFault.{SyncFault}
use Rattle.nm_types.specs.declared.id.PortId.{PortId}
use Rattle.nm_types.specs.declared.id.SessionId.{SessionId}
use Rattle.nm_types.specs.declared.id.Side.{Side}
use Rattle.nm_types.specs.declared.id.Side.TheVariants.{Tx, Rx}
use Rattle.nm_types.specs.Names.{is_pipe_name}
use Rattle.nm_types.specs.Slots.{pushed_frames}
use Rattle.nm_types.specs.OwnPorts.{OwnRing, OwnPort, OwnState, bytes_at, pushed_in, refusal_in, port_with_name, port_with_id}
use Rattle.nm_types.specs.OwnEdits.{has_slots}
use Rattle.nm_types.specs.Parts.{slots_of_bytes}
use Rattle.vale_entry.specs.declared.entry.Ask.{Ask}
use Rattle.vale_entry.specs.declared.entry.Ask.TheVariants.{Open, Send, Sync, Shut, Leave, Put, Get, Watch, Stat}
use Rattle.vale_entry.specs.World.{open_port}
use Rattle.vale_entry.specs.Legal.{Standing, kept_ask}
use Rattle.vale_entry.specs.OwnCalls.{or_reset, offered_items, back_in, tx_call, rx_call, finish_call}
use Rattle.vale_own.specs.Asker.{asker_of, owner_of_port, is_enter}
use Rattle.vale_own.specs.Side.{IsSound}
use Rattle.vale_replay.specs.Tasks.{Task, Arrive, OpenPort, PutFrame, SendFrames, TakeFrames, ChangeOwn, SaveFrames, WatchPort, ReadCounts, ShutPort, FinishPort, Depart, EndLine}
use Rattle.vale_replay.specs.Machine.{Machine, room_call, put_call, send_call, call_of_task, call_of_tasks, is_settling}
use Rattle.vale_replay.proofs.TurnSides.{by-id}

-- whose such an ask is stands at the open port
pub record AtPort (side : OwnState) (ask : Ask) : Type 0 where
  pub port : OwnPort
  pub found : port_with_id side port.id.0 ≡ Some port
  pub asker : (s : Standing) → asker_of s ask ≡ option_map owner_of_port (open_port s.world.ports port.id.0)

pub record AtShut (side : OwnState) (ask : Ask) : Type 0 where
  pub port : OwnPort
  pub found : port_with_id side port.id.0 ≡ Some port
  pub is : finish_call side port ≡ ask

-- it names the session
pub record OfSession (session : SessionId) (ask : Ask) : Type 0 where
  pub asker : (s : Standing) → asker_of s ask ≡ Some session.0

-- it neither settles its session nor brings one
pub record IsPlain (ask : Ask) : Type 0 where
  pub settles : is_settling (kept_ask ask) ≡ false
  pub enters : is_enter ask ≡ false

pub record TaskCall (side : OwnState) (session : SessionId) (ask : Ask) : Type 0 where
  pub of : AtPort side ask ⊎ (AtShut side ask ⊎ OfSession session ask)
  pub plain : IsPlain ask

-- a call at a port
record CallAt (id : PortId) (ask : Ask) : Type 0 where
  asker : (s : Standing) → asker_of s ask ≡ option_map owner_of_port (open_port s.world.ports id.0)
  plain : IsPlain ask

reset-at : (fault : Option SyncFault) (id : PortId) (side : Side) (b : Bool) (one other : Ask)
    → CallAt id one → CallAt id other → CallAt id (or_reset fault id side (cond b one other))
reset-at None id side true one other front back = front
reset-at None id side false one other front back = back
reset-at (Some fault) id side b one other front back = record { asker = λ s. refl; plain = record { settles = refl; enters = refl } }

tx-at : (own : OwnState) (p : OwnPort) (r : OwnRing) → CallAt p.id (tx_call own p r)
tx-at own p r =
    reset-at (refusal_in Tx own p r) p.id Tx (is_pipe_name p.name) (Put p.id (offered_items own r)) (Send p.id (pushed_frames (bytes_at own) (pushed_in Tx r)))
    (record { asker = λ s. refl; plain = record { settles = refl; enters = refl } }) (record { asker = λ s. refl; plain = record { settles = refl; enters = refl } })

rx-at : (own : OwnState) (p : OwnPort) → CallAt p.id (rx_call own p)
rx-at own p =
    reset-at (refusal_in Rx own p p.rx) p.id Rx (is_pipe_name p.name) (Get p.id (back_in p)) (Sync p.id (back_in p))
    (record { asker = λ s. refl; plain = record { settles = refl; enters = refl } }) (record { asker = λ s. refl; plain = record { settles = refl; enters = refl } })

-- a call at a port that is found by its name
module _ (side : OwnState) (session : SessionId) (name : List ℕ) (sound : IsSound side) where
  at-port : (p : OwnPort) (ask made : Ask) → port_with_name side name ≡ Some p → CallAt p.id ask → ask ≡ made → TaskCall side session made
  at-port p ask made named at is =
      subst (TaskCall side session) is (record { of = inl (record { port = p; found = by-id side name p sound named; asker = at.asker }); plain = at.plain })

  mapped-at : (f : OwnPort → Ask) (found : Option OwnPort) (ask : Ask) → port_with_name side name ≡ found → option_map f found ≡ Some ask → ((p : OwnPort) → CallAt p.id (f p)) → TaskCall side session ask
  mapped-at f None ask named e at = absurd cc
  mapped-at f (Some p) ask named e at = at-port p (f p) ask named (at p) (same_Some (f p) ask e)

  finish-at : (found : Option OwnPort) (ask : Ask) → port_with_name side name ≡ found → option_map (finish_call side) found ≡ Some ask → TaskCall side session ask
  finish-at None ask named e = absurd cc
  finish-at (Some p) ask named e =
      let is = same_Some (finish_call side p) ask e in
      subst (TaskCall side session) is (record { of = inr (inl (record { port = p; found = by-id side name p sound named; is = refl })); plain = record { settles = refl; enters = refl } })

  room-at : (p : OwnPort) (r : OwnRing) (b : Bool) (ask : Ask) → port_with_name side name ≡ Some p → cond b None (Some (tx_call side p r)) ≡ Some ask → TaskCall side session ask
  room-at p r true ask named e = absurd cc
  room-at p r false ask named e = at-port p (tx_call side p r) ask named (tx-at side p r) (same_Some (tx_call side p r) ask e)

  put-ring : (bytes : List ℕ) (p : OwnPort) (tx : Option OwnRing) (ask : Ask) → port_with_name side name ≡ Some p → option_and_then (room_call side bytes p) tx ≡ Some ask → TaskCall side session ask
  put-ring bytes p None ask named e = absurd cc
  put-ring bytes p (Some r) ask named e = room-at p r (has_slots (slots_of_bytes bytes) r) ask named e

  put-at : (bytes : List ℕ) (found : Option OwnPort) (ask : Ask) → port_with_name side name ≡ found → option_and_then (put_call side bytes) found ≡ Some ask → TaskCall side session ask
  put-at bytes None ask named e = absurd cc
  put-at bytes (Some p) ask named e = put-ring bytes p p.tx ask named e

  send-ring : (p : OwnPort) (tx : Option OwnRing) (ask : Ask) → port_with_name side name ≡ Some p → option_map (tx_call side p) tx ≡ Some ask → TaskCall side session ask
  send-ring p None ask named e = absurd cc
  send-ring p (Some r) ask named e = at-port p (tx_call side p r) ask named (tx-at side p r) (same_Some (tx_call side p r) ask e)

  send-at : (found : Option OwnPort) (ask : Ask) → port_with_name side name ≡ found → option_and_then (send_call side) found ≡ Some ask → TaskCall side session ask
  send-at None ask named e = absurd cc
  send-at (Some p) ask named e = send-ring p p.tx ask named e

-- a call that names the session
session-of : (side : OwnState) (f : SessionId → Ask) (has : Option SessionId) (session : SessionId) (ask : Ask) → has ≡ Some session → option_map f has ≡ Some ask → TaskCall side session (f session) → TaskCall side session ask
session-of side f has session ask is e one =
    subst (TaskCall side session) (same_Some (f session) ask (ap (option_map f) (sym is) ∙ e)) one

pub task-call : (user : Machine) (session : SessionId) (tasks : List Task) (ask : Ask) → IsSound user.own → user.session ≡ Some session
    → call_of_tasks user tasks ≡ Some ask → TaskCall user.own session ask
task-call user session [] ask sound is call = absurd cc
task-call user session (Arrive ∷ rest) ask sound is call =
    let none : call_of_task user Arrive ≡ None = rw is refl in
    let clash : None ≡ Some ask = sym none ∙ call in
    absurd cc
task-call user session (OpenPort name tx rx extra ∷ rest) ask sound is call =
    session-of user.own (λ (x : SessionId). Open x name tx rx extra) user.session session ask is call (record { of = inr (inr (record { asker = λ s. refl })); plain = record { settles = refl; enters = refl } })
task-call user session (PutFrame name bytes ∷ rest) ask sound is call = put-at user.own session name sound bytes (port_with_name user.own name) ask refl call
task-call user session (SendFrames name ∷ rest) ask sound is call = send-at user.own session name sound (port_with_name user.own name) ask refl call
task-call user session (TakeFrames name ∷ rest) ask sound is call = mapped-at user.own session name sound (rx_call user.own) (port_with_name user.own name) ask refl call (rx-at user.own)
task-call user session (ChangeOwn act ∷ rest) ask sound is call = absurd cc
task-call user session (SaveFrames name file ∷ rest) ask sound is call = absurd cc
task-call user session (WatchPort monitor target sides ∷ rest) ask sound is call =
    mapped-at user.own session monitor sound (λ (p : OwnPort). Watch p.id target sides) (port_with_name user.own monitor) ask refl call (λ p. record { asker = λ s. refl; plain = record { settles = refl; enters = refl } })
task-call user session (ReadCounts name ∷ rest) ask sound is call =
    mapped-at user.own session name sound (λ (p : OwnPort). Stat p.id) (port_with_name user.own name) ask refl call (λ p. record { asker = λ s. refl; plain = record { settles = refl; enters = refl } })
task-call user session (ShutPort name ∷ rest) ask sound is call =
    mapped-at user.own session name sound (λ (p : OwnPort). Shut p.id) (port_with_name user.own name) ask refl call (λ p. record { asker = λ s. refl; plain = record { settles = refl; enters = refl } })
task-call user session (FinishPort name ∷ rest) ask sound is call = finish-at user.own session name sound (port_with_name user.own name) ask refl call
task-call user session (Depart ∷ rest) ask sound is call =
    session-of user.own Leave user.session session ask is call (record { of = inr (inr (record { asker = λ s. refl })); plain = record { settles = refl; enters = refl } })
task-call user session (EndLine ∷ rest) ask sound is call = absurd cc
