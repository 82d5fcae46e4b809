-- A user's turns, one after another, spend what their entries cost.
use Rattle.std.proofs.Common.{ℕ, ◌<◌, ◌≡◌, Bool, true, false, cond, List, [], ◌∷◌, Option, Some, None, option_map, refl, sym, ap, subst, arith}
use Rattle.std.proofs.lemmas.Option.{same_Some}
use Rattle.std.specs.Prelude.{option_and_then}
use Rattle.std.specs.Option.{option_or}
use Rattle.nm_types.specs.declared.id.PortId.{PortId}
use Rattle.nm_types.specs.declared.id.SessionId.{SessionId}
use Rattle.nm_types.specs.OwnPorts.{OwnPort, OwnState, port_with_name}
use Rattle.vale_entry.specs.declared.entry.Ask.{Ask}
use Rattle.vale_entry.specs.declared.entry.Ask.TheVariants.{Enter, Open, Watch, Stat, Shut, Leave}
use Rattle.vale_entry.specs.declared.entry.Entry.{Entry}
use Rattle.vale_entry.specs.declared.entry.Reply.{Reply}
use Rattle.vale_entry.specs.World.{Lot, Offer}
use Rattle.vale_entry.specs.Arrivals.{arrivals_of}
use Rattle.vale_entry.specs.OwnCalls.{tx_call, rx_call, finish_call, own_by}
use Rattle.vale_entry.specs.Legal.{Standing, Outcome, standing_of, step, kept_ask, session_and_reply, unchanged, sync_step}
use Rattle.vale_entry.proofs.Follows.{EachKind, IsQuiet, Receives, by_sync, by_get, refused_open, resets, finds_no_peer, finds_no_target, finds_watched, counts, IfMade, recorded-by}
use Rattle.vale_own.proofs.Rooms.{step-recorded}
use Rattle.vale_own.specs.Side.{IsOfSide}
use Rattle.vale_own.proofs.SideOpens.{opened-sizes}
use Rattle.vale_own.proofs.SideEntries.{transmits-of, receives-of, finishes-of}
use Rattle.vale_replay.specs.Tasks.{Task, Arrive, OpenPort, PutFrame, SendFrames, TakeFrames, ChangeOwn, SaveFrames, WatchPort, ReadCounts, ShutPort, FinishPort, Depart, EndLine}
use Rattle.vale_replay.specs.Machine.{Machine, answered, call_of_tasks, done_call, enter_call, grant_call, is_settling, next_call, next_offer, owed_lot, resting, settling_call, with_tasks}
use Rattle.vale_replay.specs.Replay.{entry_of}
use Rattle.vale_replay.proofs.Behind.{own-on}
use Rattle.vale_cost.proofs.RoomViews.{AreBelow, below-later, views}
use Rattle.vale_cost.proofs.RoomTidy.{SizesFit, own-below}
use Rattle.vale_cost.proofs.RoomRests.{ArePlain, rests}
use Rattle.vale_cost.proofs.RoomTurns.{by-id, TxOf, put-of, send-of, mapped}

module _ (pool : ℕ) (past : List Entry) where
  abbrev s : Standing
  s = standing_of pool past

  abbrev Sizes : Ask → Outcome → Type 0
  Sizes ask made = SizesFit ask made.reply

  quiet-sizes : (ask : Ask) (session : ℕ) (reply : Reply) → IsQuiet s ask session reply → Sizes ask (unchanged s session reply)
  quiet-sizes ask session reply (refused_open id name tx rx extra fault can refused) = tt
  quiet-sizes ask session reply (resets at side fault port e can) = tt
  quiet-sizes ask session reply (finds_no_peer at offered port e few none) = tt
  quiet-sizes ask session reply (finds_no_target at target sides port e can none) = tt
  quiet-sizes ask session reply (finds_watched at target sides port found watch e can there is) = tt
  quiet-sizes ask session reply (counts at port e) = tt

  receives-sizes : (ask : Ask) (at : PortId) (back : List ℕ) (made : Outcome) → Receives ask at back → Sizes ask made
  receives-sizes ask at back made (by_sync id bufs) = tt
  receives-sizes ask at back made (by_get id bufs) = tt

  sizes-kinds : EachKind s Sizes
  sizes-kinds = record {
    enters = λ user fits. tt;
    quiet = λ ask session reply quiet. quiet-sizes ask session reply quiet;
    opens = λ session name tx rx extra can refusal. (opened-sizes s.world name tx rx extra refusal).tx_size;
    sends = λ from frames port e can settled. tt;
    grants = λ origin to offer first same. tt;
    completes = λ lease lot e. tt;
    receives = λ ask at back port receives e can. receives-sizes ask at back (sync_step s back port) receives;
    puts = λ at offered items port peer e can found. tt;
    watches = λ at target sides port found e can there none. tt;
    shuts = λ at port e settled. tt;
    finishes = λ at bufs chain port fits e can out. tt;
    leaves = λ session can. tt;
  }

  sizes : (ask : Ask) (made : Outcome) → step s ask ≡ Some made → Sizes (kept_ask ask) made
  sizes ask made e = subst (IfMade (Sizes (kept_ask ask))) (step-recorded s ask made e) (recorded-by s Sizes (kept_ask ask) made.reply sizes-kinds)

module _ (pool : ℕ) (past : List Entry) (k number : ℕ) (user : Machine) (below : AreBelow k (views user.own)) (above : k < number) (made : Outcome) where
  abbrev own_next : Ask → OwnState
  own_next a = own_by number (kept_ask a) made.reply (arrivals_of (standing_of pool past) (kept_ask a) made.reply) user.own

  abbrev Goal : Ask → Type 0
  Goal a = step (standing_of pool past) a ≡ Some made → AreBelow number (views (own_next a))

  still : AreBelow number (views user.own)
  still = below-later k number (views user.own) (omega (arith, above)) below

  of-side : (a : Ask) → IsOfSide None user.own (kept_ask a) made.reply → Goal a
  of-side a of is = own-below k number (kept_ask a) made.reply (arrivals_of (standing_of pool past) (kept_ask a) made.reply) user.own above of (sizes pool past a made is) below

  of-tx : (name : List ℕ) (ask : Ask) → TxOf user.own name ask → Goal ask
  of-tx name ask t =
      subst Goal t.is (λ is. of-side (tx_call user.own t.port t.ring)
      (transmits-of pool past made.session None user.own t.port t.ring made.reply (by-id user.own name t.port below.tidy t.named) t.has (ap (option_map session_and_reply) is)) is)

  of-enter : (session : Option SessionId) (ask : Ask) → enter_call user.number session ≡ Some ask → Goal ask
  of-enter None ask call = subst Goal (same_Some (Enter user.number) ask call) (λ is. still)
  of-enter (Some x) ask call = absurd cc

  of-head : (tasks : List Task) (ask : Ask) → call_of_tasks user tasks ≡ Some ask → Goal ask
  of-head [] ask call = absurd cc
  of-head (Arrive ∷ rest) ask call = of-enter user.session ask call
  of-head (OpenPort name tx rx extra ∷ rest) ask call = mapped (λ (x : SessionId). Open x name tx rx extra) user.session ask Goal call (λ x e. of-side (Open x name tx rx extra) refl)
  of-head (PutFrame name bytes ∷ rest) ask call = of-tx name ask (put-of user.own name bytes ask call)
  of-head (SendFrames name ∷ rest) ask call = of-tx name ask (send-of user.own name ask call)
  of-head (TakeFrames name ∷ rest) ask call = mapped (rx_call user.own) (port_with_name user.own name) ask Goal call
      (λ p named. of-side (rx_call user.own p) (receives-of None user.own p made.reply (by-id user.own name p below.tidy named)))
  of-head (ChangeOwn act ∷ rest) ask call = absurd cc
  of-head (SaveFrames name file ∷ rest) ask call = absurd cc
  of-head (WatchPort monitor target sides ∷ rest) ask call = mapped (λ (p : OwnPort). Watch p.id target sides) (port_with_name user.own monitor) ask Goal call (λ p named. of-side (Watch p.id target sides) tt)
  of-head (ReadCounts name ∷ rest) ask call = mapped (λ (p : OwnPort). Stat p.id) (port_with_name user.own name) ask Goal call (λ p named. of-side (Stat p.id) tt)
  of-head (ShutPort name ∷ rest) ask call = mapped (λ (p : OwnPort). Shut p.id) (port_with_name user.own name) ask Goal call (λ p named. of-side (Shut p.id) refl)
  of-head (FinishPort name ∷ rest) ask call = mapped (finish_call user.own) (port_with_name user.own name) ask Goal call
      (λ p named. of-side (finish_call user.own p) (finishes-of None user.own p made.reply (by-id user.own name p below.tidy named)))
  of-head (Depart ∷ rest) ask call = mapped Leave user.session ask Goal call (λ x e is. still)
  of-head (EndLine ∷ rest) ask call = absurd cc

  of-call : (ask : Ask) → next_call (standing_of pool past).world user ≡ Some ask → Goal ask
  of-call ask called = by user.session called
    where
      by-offer : (lot : Option Lot) (offer : Option Offer) → option_or (option_or (option_map done_call lot) (option_map grant_call offer)) (call_of_tasks user user.tasks) ≡ Some ask → Goal ask
      by-offer (Some lot) offer e = subst Goal (same_Some (done_call lot) ask e) (λ is. still)
      by-offer None (Some offer) e = subst Goal (same_Some (grant_call offer) ask e) (λ is. still)
      by-offer None None e = of-head user.tasks ask e

      by : (session : Option SessionId) → option_or (option_and_then (settling_call (standing_of pool past).world) session) (call_of_tasks user user.tasks) ≡ Some ask → Goal ask
      by None e = of-head user.tasks ask e
      by (Some x) e = by-offer (owed_lot (standing_of pool past).world x.0) (next_offer (standing_of pool past).world x.0) e

  pub made-below : (ask : Ask) → ArePlain (answered number (entry_of ask made) (arrivals_of (standing_of pool past) (kept_ask ask) made.reply) user).tasks
      → next_call (standing_of pool past).world user ≡ Some ask → step (standing_of pool past) ask ≡ Some made
      → AreBelow number (views (resting (answered number (entry_of ask made) (arrivals_of (standing_of pool past) (kept_ask ask) made.reply) user)).own)
  made-below ask plain called is =
      (rests next next.tasks plain).below number (by (is_settling (kept_ask ask)))
    where
      next : Machine
      next = answered number (entry_of ask made) (arrivals_of (standing_of pool past) (kept_ask ask) made.reply) user

      worked : Machine
      worked = with_tasks number (entry_of ask made) (record user { own = own_next ask }) user.tasks

      by : (b : Bool) → AreBelow number (views (cond b user worked).own)
      by true = still
      by false = subst (λ (o : OwnState). AreBelow number (views o)) (sym (own-on number (entry_of ask made) (record user { own = own_next ask }) user.tasks)) (of-call ask called is)
