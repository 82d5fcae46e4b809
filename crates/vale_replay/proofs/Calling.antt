-- Each call to which a user comes is one that its session may make.
use Rattle.std.proofs.Common.{Bool, true, cond, not, ℕ, ◌-◌, ◌≡◌, inr, List, [], ◌∷◌, length, map, flat_map, find, slice_get, Option, Some, None, is_some, option_map, refl, sym, ◌∙◌, ap, ap₂, subst, arith}
use Rattle.std.specs.Prelude.{◌==◌, ◌&&◌, option_and_then, bytes_eq}
use Rattle.std.specs.Option.{option_or}
use Rattle.std.specs.List.{AllByRecursion}
use Rattle.std.proofs.lemmas.Bool.{and_parts, eq-eqb}
use Rattle.std.proofs.lemmas.List.{take_all}
use Rattle.std.proofs.lemmas.Slice.Eq.{bytes_eq-Decides}
use Rattle.std.proofs.lemmas.Option.{same_Some}
use Rattle.nm_types.specs.Buffers.{IsPoolSize}
use Rattle.nm_types.specs.Names.{is_monitor_name}
use Rattle.nm_types.specs.OwnPorts.{OwnPort, OwnState, empty_own, port_with_name}
use Rattle.nm_types.specs.declared.id.SessionId.{SessionId}
use Rattle.nm_types.specs.declared.id.Side.TheVariants.{Tx, Rx}
use Rattle.vale_entry.specs.declared.entry.Ask.{Ask}
use Rattle.vale_entry.specs.declared.entry.Ask.TheVariants.{Enter, Open, Shut, Leave, Watch, Stat}
use Rattle.vale_entry.specs.declared.entry.Entry.{Entry}
use Rattle.vale_entry.specs.World.{Lot, Offer, is_owed_by}
use Rattle.vale_entry.specs.Delivery.{line_of, is_lease}
use Rattle.vale_entry.specs.Legal.{Standing, standing_of, IsLegal, is_met, is_offer_next}
use Rattle.vale_entry.specs.Offers.{is_offer_of}
use Rattle.vale_entry.specs.OwnCalls.{rx_call, finish_call}
use Rattle.vale_entry.proofs.ListLaws.{place-of}
use Rattle.vale_own.specs.Own.{HeldLot, own_of, lot_of_lease, is_empty}
use Rattle.vale_own.specs.Side.{IsSoundSideOf, is_shut}
use Rattle.vale_own.specs.SideAsks.{HasSide, IsSettled, IsOpen, MayAsk}
use Rattle.vale_own.proofs.Reading.{first-offers, first-leases}
use Rattle.vale_own.proofs.SideAsking.{shut-asked, stat-asked, watch-asked, finish-asked, open-asked, leave-asked}
use Rattle.vale_own.proofs.SideFields.{refusals-fit}
use Rattle.vale_own.proofs.SideSyncing.{transmit-asked, receive-asked}
use Rattle.vale_replay.specs.Tasks.{Task, Arrive, OpenPort, PutFrame, SendFrames, TakeFrames, ChangeOwn, SaveFrames, WatchPort, ReadCounts, ShutPort, FinishPort, Depart, EndLine}
use Rattle.vale_replay.specs.Machine.{Machine, call_of_task, call_of_tasks, settling_call, owed_lot, next_offer, done_call, grant_call, next_call, put_call, send_call}
use Rattle.vale_replay.specs.Replay.{Cast, UnitShare, EachShare, Reaches, starting, units_of, with_afters}
use Rattle.vale_replay.specs.MayCall.{HasFieldsIf, PortFits, FirstFits, LeavesWithout, MayCall, CallsMayBeMade}
use Rattle.vale_replay.proofs.Members.{HasShare, has-share, have-same}
use Rattle.vale_replay.proofs.Joins.{units-apart, apart-at}
use Rattle.vale_replay.proofs.TaskSides.{SideOf, ArePaired, AreInOrder, KeepsSide}
use Rattle.vale_replay.proofs.TurnSides.{TxOf, put-of, send-of, port-of, find-each, by-id}
use Rattle.vale_replay.proofs.Sides.{turns-side, legal-at}
use Rattle.vale_replay.proofs.Shares.{reached-each}

-- What settles a session is its own to ask.

module _ (pool : ℕ) (past : List Entry) (legal : IsLegal pool past) (x : SessionId) where
  abbrev s : Standing
  s = standing_of pool past

  of-lot : (leases : List HeldLot) (lot : Lot) → option_map lot_of_lease (slice_get leases 0) ≡ Some lot
      → is_lease lot.number lot ≡ true → is_some (find (is_lease lot.number) (map lot_of_lease leases)) ≡ true
  of-lot [] lot e is = absurd cc
  of-lot (lease ∷ leases) lot e is =
      let here : is_lease lot.number lease.0 ≡ true = ap (is_lease lot.number) (same_Some lease.0 lot e) ∙ is in
      ap (λ (b : Bool). is_some (cond b (Some lease.0) (find (is_lease lot.number) (map lot_of_lease leases)))) here

  of-offer : (offers : List Offer) (offer : Offer) → slice_get offers 0 ≡ Some offer
      → is_met (is_offer_next offer.to) (find (is_offer_of offer.origin) offers) ≡ true
  of-offer [] offer e = absurd cc
  of-offer (first ∷ offers) offer e =
      let same = same_Some first offer e in
      let here : is_offer_of offer.origin first ≡ true = ap (is_offer_of offer.origin) same ∙ eq-eqb offer.origin offer.origin refl in
      ap (λ (b : Bool). is_met (is_offer_next offer.to) (cond b (Some first) (find (is_offer_of offer.origin) offers))) here
      ∙ ap (is_offer_next offer.to) same ∙ eq-eqb offer.to offer.to refl

  done-asked : (lot : Lot) → owed_lot s.world x.0 ≡ Some lot → MayAsk pool past x.0 (done_call lot)
  done-asked lot found =
      let owed = (place-of (is_owed_by x.0) (flat_map line_of s.world.ports) lot found).passes in
      let undone = (and_parts (lot.session == x.0) (not lot.is_done) owed).1 in
      of-lot (own_of x.0 s).leases lot (sym (first-leases pool past x.0 legal) ∙ found)
      (ap₂ (λ (b c : Bool). b && c) (eq-eqb lot.number lot.number refl) undone)

  grant-asked : (offer : Offer) → next_offer s.world x.0 ≡ Some offer → MayAsk pool past x.0 (grant_call offer)
  grant-asked offer found = of-offer (own_of x.0 s).offers offer (sym (first-offers s x.0) ∙ found)

  no-lease : (leases : List HeldLot) → option_map lot_of_lease (slice_get leases 0) ≡ None → is_empty leases ≡ true
  no-lease [] e = refl
  no-lease (lease ∷ leases) e = absurd cc

  no-offer : (offers : List Offer) → slice_get offers 0 ≡ None → is_empty offers ≡ true
  no-offer [] e = refl
  no-offer (offer ∷ offers) e = absurd cc

  is-settled : owed_lot s.world x.0 ≡ None → next_offer s.world x.0 ≡ None → IsSettled pool past x.0
  is-settled lot offer =
      ap₂ (λ (b c : Bool). b && c) (no-offer (own_of x.0 s).offers (sym (first-offers s x.0) ∙ offer)) (no-lease (own_of x.0 s).leases (sym (first-leases pool past x.0 legal) ∙ lot))

  -- So is the call of a task.

  module _ (size : IsPoolSize pool) (user : Machine) (is : user.session ≡ Some x) (ports : AllByRecursion PortFits user.own.ports) where
    abbrev own : OwnState
    own = user.own

    fits-at : (name : List ℕ) (p : OwnPort) → port_with_name own name ≡ Some p → PortFits p
    fits-at name p named = find-each PortFits (λ (q : OwnPort). bytes_eq name q.name) own.ports p ports named

    -- while no port is shut
    module _ (side : IsSoundSideOf pool x.0 None (own_of x.0 s) own) where
      has : HasSide pool past x.0 None own
      has = record { legal = legal; of = side }

      open-at : (name : List ℕ) (p : OwnPort) → port_with_name own name ≡ Some p → IsOpen None own p
      open-at name p named = (by-id own name p side.sound named, refl)

      tx-asked : (name : List ℕ) (call : Ask) → IsSettled pool past x.0 → TxOf own name call → MayAsk pool past x.0 call
      tx-asked name call settled t =
          let fits = subst HasFieldsIf t.has (fits-at name t.port t.named).tx in
          let found = (open-at name t.port t.named).0 in
          subst (MayAsk pool past x.0) t.is
          (transmit-asked pool past x.0 None own t.port t.ring has settled (open-at name t.port t.named) t.has (refusals-fit pool past x.0 None own Tx t.port t.ring has size found t.has fits))

      session-asked : (f : SessionId → Ask) (call : Ask) → MayAsk pool past x.0 (f x) → option_map f user.session ≡ Some call → MayAsk pool past x.0 call
      session-asked f call may called = subst (MayAsk pool past x.0) (same_Some (f x) call (ap (option_map f) (sym is) ∙ called)) may

      task-asked : (tasks : List Task) (call : Ask) → IsSettled pool past x.0 → ArePaired tasks → FirstFits tasks → LeavesWithout own.ports tasks
          → call_of_tasks user tasks ≡ Some call → MayAsk pool past x.0 call
      task-asked [] call settled paired fits leaves called = absurd cc
      task-asked (Arrive ∷ rest) call settled paired fits leaves called =
          let none : call_of_task user Arrive ≡ None = rw is refl in
          let clash : None ≡ Some call = sym none ∙ called in
          absurd cc
      task-asked (OpenPort name tx rx extra ∷ rest) call settled paired fits leaves called =
          session-asked (λ (session : SessionId). Open session name tx rx extra) call
          (open-asked pool past x None own name tx rx extra has fits.named fits.tx_fits fits.rx_fits fits.extra_fits) called
      task-asked (PutFrame name bytes ∷ rest) call settled paired fits leaves called =
          tx-asked name call settled (put-of own name bytes (port_with_name own name) call refl called)
      task-asked (SendFrames name ∷ rest) call settled paired fits leaves called =
          tx-asked name call settled (send-of own name (port_with_name own name) call refl called)
      task-asked (TakeFrames name ∷ rest) call settled paired fits leaves called =
          let p = port-of (rx_call own) own name (port_with_name own name) call refl called in
          let there = open-at name p.port p.named in
          subst (MayAsk pool past x.0) p.is
          (receive-asked pool past x.0 None own p.port has settled there (refusals-fit pool past x.0 None own Rx p.port p.port.rx has size there.0 refl (fits-at name p.port p.named).rx))
      task-asked (ChangeOwn act ∷ rest) call settled paired fits leaves called = absurd cc
      task-asked (SaveFrames name file ∷ rest) call settled paired fits leaves called = absurd cc
      task-asked (WatchPort monitor target sides ∷ rest) call settled paired fits leaves called =
          let p = port-of (λ (q : OwnPort). Watch q.id target sides) own monitor (port_with_name own monitor) call refl called in
          let named : monitor ≡ p.port.name = (bytes_eq-Decides monitor p.port.name).0 (place-of (λ (q : OwnPort). bytes_eq monitor q.name) own.ports p.port p.named).passes in
          subst (MayAsk pool past x.0) p.is
          (watch-asked pool past x.0 None own p.port target sides has (open-at monitor p.port p.named) (ap is_monitor_name (sym named) ∙ fits.by_monitor) fits.named fits.no_monitor)
      task-asked (ReadCounts name ∷ rest) call settled paired fits leaves called =
          let p = port-of (λ (q : OwnPort). Stat q.id) own name (port_with_name own name) call refl called in
          subst (MayAsk pool past x.0) p.is (stat-asked pool past x.0 None own p.port has (open-at name p.port p.named))
      task-asked (ShutPort name ∷ rest) call settled paired fits leaves called =
          let p = port-of (λ (q : OwnPort). Shut q.id) own name (port_with_name own name) call refl called in
          subst (MayAsk pool past x.0) p.is (shut-asked pool past x.0 None own p.port has settled (open-at name p.port p.named))
      task-asked (FinishPort name ∷ rest) call settled paired fits leaves called = absurd paired
      task-asked (Depart ∷ rest) call settled paired fits leaves called =
          session-asked Leave call (leave-asked pool past x None own has settled leaves) called
      task-asked (EndLine ∷ rest) call settled paired fits leaves called = absurd cc

    -- and where one is, it is finished
    finish-now : (id : ℕ) (tasks : List Task) (call : Ask) → IsSoundSideOf pool x.0 (Some id) (own_of x.0 s) own → AreInOrder (Some id) own tasks
        → call_of_tasks user tasks ≡ Some call → MayAsk pool past x.0 call
    finish-now id (FinishPort name ∷ rest) call side order called =
        let p = order.0 in
        let found = by-id own name p.0 side.sound p.1 in
        let shut : is_shut (Some id) p.0.id.0 ≡ true = eq-eqb p.0.id.0 id p.2 in
        let same : finish_call own p.0 ≡ call = same_Some (finish_call own p.0) call (ap (option_map (finish_call own)) (sym p.1) ∙ called) in
        subst (MayAsk pool past x.0) same (finish-asked pool past x.0 (Some id) own p.0 (record { legal = legal; of = side }) (found, shut))
    finish-now id _ call side order called = absurd order

    pub user-asked : (call : Ask) → KeepsSide pool s user → FirstFits user.tasks → LeavesWithout own.ports user.tasks
        → next_call s.world user ≡ Some call → MayAsk pool past x.0 call
    user-asked call keeps fits leaves called =
        by_offer (owed_lot s.world x.0) (next_offer s.world x.0) refl refl
        (ap (λ (y : Option SessionId). option_or (option_and_then (settling_call s.world) y) (call_of_tasks user user.tasks)) (sym is) ∙ called)
      where
        by_shut : (shut : Option ℕ) → SideOf pool s (Some x) shut own → AreInOrder shut own user.tasks → IsSettled pool past x.0
            → call_of_tasks user user.tasks ≡ Some call → MayAsk pool past x.0 call
        by_shut None side order settled e = task-asked side user.tasks call settled order fits leaves e
        by_shut (Some id) side order settled e = finish-now id user.tasks call side order e

        by_offer : (lot : Option Lot) (offer : Option Offer) → owed_lot s.world x.0 ≡ lot → next_offer s.world x.0 ≡ offer
            → option_or (option_or (option_map done_call lot) (option_map grant_call offer)) (call_of_tasks user user.tasks) ≡ Some call → MayAsk pool past x.0 call
        by_offer (Some lot) offer owed next e = subst (MayAsk pool past x.0) (same_Some (done_call lot) call e) (done-asked lot owed)
        by_offer None (Some offer) owed next e = subst (MayAsk pool past x.0) (same_Some (grant_call offer) call e) (grant-asked offer next)
        by_offer None None owed next e =
            by_shut keeps.shut (subst (λ (y : Option SessionId). SideOf pool s y keeps.shut own) is keeps.side) keeps.order (is-settled owed next) e

-- A user without a session comes as one.

module _ (pool : ℕ) (user : Machine) (call : Ask) (is : user.session ≡ None) (own-is : user.own ≡ empty_own pool) where
  no-name : (name : List ℕ) → port_with_name user.own name ≡ None
  no-name name = ap (λ (o : OwnState). port_with_name o name) own-is

  no-port : (f : OwnPort → Option Ask) (name : List ℕ) → option_and_then f (port_with_name user.own name) ≡ Some call → ⊥
  no-port f name e = let clash : None ≡ Some call = ap (option_and_then f) (sym (no-name name)) ∙ e in absurd cc

  no-mapped : (f : OwnPort → Ask) (name : List ℕ) → option_map f (port_with_name user.own name) ≡ Some call → ⊥
  no-mapped f name e = let clash : None ≡ Some call = ap (option_map f) (sym (no-name name)) ∙ e in absurd cc

  no-session : (f : SessionId → Ask) → option_map f user.session ≡ Some call → ⊥
  no-session f e = let clash : None ≡ Some call = ap (option_map f) (sym is) ∙ e in absurd cc

  arrives : (tasks : List Task) → call_of_tasks user tasks ≡ Some call → call ≡ Enter user.number
  arrives [] e = absurd cc
  arrives (Arrive ∷ rest) e =
      let comes : call_of_task user Arrive ≡ Some (Enter user.number) = rw is refl in
      same_Some call (Enter user.number) (sym e ∙ comes)
  arrives (OpenPort name tx rx extra ∷ rest) e = absurd (no-session (λ (session : SessionId). Open session name tx rx extra) e)
  arrives (PutFrame name bytes ∷ rest) e = absurd (no-port (put_call user.own bytes) name e)
  arrives (SendFrames name ∷ rest) e = absurd (no-port (send_call user.own) name e)
  arrives (TakeFrames name ∷ rest) e = absurd (no-mapped (rx_call user.own) name e)
  arrives (ChangeOwn act ∷ rest) e = absurd cc
  arrives (SaveFrames name file ∷ rest) e = absurd cc
  arrives (WatchPort monitor target sides ∷ rest) e = absurd (no-mapped (λ (p : OwnPort). Watch p.id target sides) monitor e)
  arrives (ReadCounts name ∷ rest) e = absurd (no-mapped (λ (p : OwnPort). Stat p.id) name e)
  arrives (ShutPort name ∷ rest) e = absurd (no-mapped (λ (p : OwnPort). Shut p.id) name e)
  arrives (FinishPort name ∷ rest) e = absurd (no-mapped (finish_call user.own) name e)
  arrives (Depart ∷ rest) e = absurd (no-session Leave e)
  arrives (EndLine ∷ rest) e = absurd cc

-- Where a history comes to a call.

abbrev KeepsBehind : ℕ → List Entry → UnitShare → Machine → List ℕ → Machine → Type 0
KeepsBehind pool h share before ns after = KeepsSide pool (standing_of pool h) after

pub calls-may : CallsMayBeMade
calls-may program captures h user call size comes fit = by_session comes.now.session refl
  where
    r : Reaches program captures h comes.nows
    r = comes.reached

    legal : IsLegal program.pool h
    legal = subst (IsLegal program.pool) (take_all (length h) h (omega arith)) (legal-at program captures h comes.nows (inr comes.reached) (length h) (omega arith))

    each : EachShare (KeepsBehind program.pool h) r.cast r.unit r.lists r.afters
    each = reached-each program captures h comes.nows comes.reached (KeepsBehind program.pool h)
        (λ share before ns after on.
        subst (λ (es : List Entry). KeepsSide program.pool (standing_of program.pool es) after) (take_all (length h) h (omega arith))
        (turns-side program.pool h comes.reached.first (length h) (starting share before) ns after (legal-at program captures h comes.nows (inr comes.reached)) (omega arith) on.rise comes.reached.forward on.foreign on.starts on.replays.turns))

    who : HasShare (KeepsBehind program.pool h) r.afters (with_afters r.unit r.afters r.cast.users) user
    who = has-share (KeepsBehind program.pool h) comes.reached.cast comes.reached.cast.users comes.reached.unit comes.reached.lists comes.reached.afters user
        (apart-at comes.reached.count (units_of program captures) comes.reached.unit (units-apart program captures) comes.reached.there) each (have-same comes.reached.cast.users comes.reached.unit) comes.of_unit

    same : who.now ≡ comes.now
    same = same_Some who.now comes.now (sym who.here ∙ ap (λ (c : Cast). slice_get c.users (user - 1)) (sym comes.reached.nows_are) ∙ comes.here)

    keeps : KeepsSide program.pool (standing_of program.pool h) comes.now
    keeps = subst (KeepsSide program.pool (standing_of program.pool h)) same who.goes

    by_session : (session : Option SessionId) → comes.now.session ≡ session → MayCall program.pool h comes.now session call
    by_session None is =
        let side = subst (λ (y : Option SessionId). SideOf program.pool (standing_of program.pool h) y keeps.shut comes.now.own) is keeps.side in
        arrives program.pool comes.now call is side.0 comes.now.tasks
        (ap (λ (y : Option SessionId). option_or (option_and_then (settling_call (standing_of program.pool h).world) y) (call_of_tasks comes.now comes.now.tasks)) (sym is) ∙ comes.called)
    by_session (Some x) is = user-asked program.pool h legal x size comes.now is fit.ports call keeps fit.task fit.leaves comes.called
