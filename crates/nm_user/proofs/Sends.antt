-- A sync that sends what is pushed.
use Rattle.std.proofs.Common.{ℕ, nat_le, ◌-◌, ◌≤◌, ◌==◌, ◌≡◌, Bool, true, false, List, [], ◌∷◌, ◌++◌, length, take, sym, ap, subst, arith, refl, ◌∙◌, Option, Some, None, IsSome, append-nil, inr, ◌&&◌}
use Rattle.std.specs.Prelude.{IfSome, option_map, option_and_then, if◌then◌else◌}
use Rattle.std.specs.List.{list_all}
use Rattle.std.specs.Option.{option_map_or}
use Rattle.std.proofs.lemmas.Bool.{eqb-true, and_parts}
use Rattle.std.proofs.lemmas.List.{take-append-le, length-map}
use Rattle.nm_types.specs.Frames.{Frame, size_of_frames}
use Rattle.nm_types.specs.Names.{is_pipe_name, is_switch_port_name}
use Rattle.nm_types.specs.Limits.{most_batch}
use Rattle.nm_types.specs.Sendable.{fit_slots, is_frame, is_sendable}
use Rattle.nm_types.specs.Slots.{pushed_frames}
use Rattle.nm_types.specs.Positions.{pushed_slots}
use Rattle.nm_types.specs.declared.id.PortId.{PortId}
use Rattle.nm_types.specs.declared.id.Side.TheVariants.{Tx}
use Rattle.nm_types.specs.declared.fault.StepFault.{StepFault}
use Rattle.nm_types.specs.declared.fault.SyncFault.{SyncFault}
use Rattle.nm_types.specs.OwnPorts.{OwnPort, OwnRing, OwnState, bytes_at, port_with_id, ring_at, ring_on, refusal_in, pushed_in, pushed_on, pushed_at, pushed_count}
use Rattle.nm_types.specs.OwnSyncs.{own_after_send}
use Rattle.nm_turn.specs.Shares.{IsWhole}
use Rattle.nm_turn.proofs.Telling.{told_then}
use Rattle.nm_turn.specs.Passes.{Told}
use Rattle.vale_entry.specs.declared.entry.Ask.{Ask}
use Rattle.vale_entry.specs.declared.entry.Ask.TheVariants.{Send, Put}
use Rattle.vale_entry.specs.declared.entry.Dest.{Dest}
use Rattle.vale_entry.specs.declared.entry.Entry.{Entry}
use Rattle.vale_entry.specs.declared.entry.Reply.{Reply}
use Rattle.vale_entry.specs.declared.entry.Reply.TheVariants.{Offered, Took}
use Rattle.vale_entry.specs.World.{Port, Offer, open_port}
use Rattle.vale_entry.specs.Offers.{dests_of}
use Rattle.vale_entry.specs.Arrivals.{arrivals_of}
use Rattle.vale_entry.specs.OwnCalls.{own_by, or_reset, offered_items, tx_call}
use Rattle.vale_entry.specs.Legal.{Standing, standing_of, kept_ask, step, session_and_reply, is_met, can_send, send_step, send_step_at, offers_of_send, IsLegal}
use Rattle.vale_entry.proofs.ListLaws.{place-of}
use Rattle.vale_own.specs.Own.{Own, own_of, is_settled_own}
use Rattle.vale_own.specs.OwnAsks.{may_ask, may_send}
use Rattle.vale_own.specs.OwnEntries.{own_sent}
use Rattle.vale_own.specs.Asker.{asks, is_enter}
use Rattle.vale_own.specs.SideAsks.{MayAsk as MayBeAsked, RefusalFits}
use Rattle.vale_own.proofs.Asking.{own-tells}
use Rattle.vale_own.proofs.SideSyncing.{transmit-asked}
use Rattle.vale_parts.specs.Batches.{dests_wanted}
use Rattle.vale_batch.specs.Wants.{Wanted}
use Rattle.vale_book.specs.Offering.{OffersState, OffersStand}
use Rattle.vale_book.specs.Sending.{IsSent as IsOffered}
use Rattle.vale_book.specs.Recorded.{standing, HasRoom}
use Rattle.vale_fabric.specs.declared.settling.Shares.{Shares}
use Rattle.vale_fabric.specs.Roots.{root_of}
use Rattle.vale_fabric.specs.Fabrics.{Knowing, Answers, MayAsk, Refuses, record_in, seen_in, before_in, earlier, entry_by}
use Rattle.vale_fabric.specs.Settling.{Settling, Settles}
use Rattle.vale_fabric.proofs.Speaking.{last-by}
use Rattle.vale_fabric.proofs.Settlements.{settling-none}
use Rattle.nm_user.specs.Sessions.{SessionState, IsThere, standing_seen}
use Rattle.nm_user.specs.declared.sending.Sent.{Sent}
use Rattle.nm_user.specs.Calls.{MadeNone}
use Rattle.nm_user.specs.Syncs.{HasTx, PassesTx, Synced, IsSent, IsUnsent, shares_in}
use Rattle.nm_user.proofs.After.{here-after, own-next, there-settled, last, whose}
use Rattle.nm_user.proofs.Plain.{has-side, asked, may}
use Rattle.nm_user.proofs.Settled.{here-settled}

-- ---- the call

has-ring : (own : OwnState) (id : ℕ) (p : OwnPort) (r : Option OwnRing) → port_with_id own id ≡ Some p → p.tx ≡ r → IsSome r → HasTx own id
has-ring own id p None found has some = absurd cc
has-ring own id p (Some r) found has some = record { port = p; ring = r; found = found; has = has }

pub has-tx : (own : OwnState) (id : ℕ) → IsSome (ring_at Tx own id) → HasTx own id
has-tx own id some = by (port_with_id own id) refl some
  where
    by : (found : Option OwnPort) → port_with_id own id ≡ found → IsSome (option_and_then (ring_on Tx) found) → HasTx own id
    by None e none = absurd cc
    by (Some p) e there = has-ring own id p p.tx e refl there

-- the call of a transmit sync that no check refuses, by a pipe's end or by another port
abbrev pub as_pushed : Bool → OwnState → OwnPort → OwnRing → Ask
as_pushed true own port ring = Put port.id (offered_items own ring)
as_pushed false own port ring = Send port.id (pushed_frames (bytes_at own) (pushed_in Tx ring))

pub record Passes (pipe : Bool) (own : OwnState) (port : PortId) : Type 0 where
  pub tx : HasTx own port.0
  pub id_is : tx.port.id ≡ port
  pub ring_is : ring_at Tx own port.0 ≡ Some tx.ring
  pub passes : refusal_in Tx own tx.port tx.ring ≡ None
  pub is : tx_call own tx.port tx.ring ≡ as_pushed pipe own tx.port tx.ring

if-pushed : (pipe : Bool) (own : OwnState) (port : OwnPort) (ring : OwnRing)
    → (let put : Ask = as_pushed true own port ring in let send : Ask = as_pushed false own port ring in if pipe then put else send) ≡ as_pushed pipe own port ring
if-pushed true own port ring = refl
if-pushed false own port ring = refl

pub passed : {pipe : Bool} {own : OwnState} (port : PortId) → PassesTx pipe own port.0 → Passes pipe own port
passed {pipe} {own} port p =
    let tx = has-tx own port.0 p.ring in
    let at : ring_at Tx own port.0 ≡ Some tx.ring = ap (option_and_then (ring_on Tx)) tx.found ∙ tx.has in
    let passes : refusal_in Tx own tx.port tx.ring ≡ None = sym (ap (λ (o : Option OwnRing). option_and_then (refusal_in Tx own tx.port) o) tx.has) ∙ (sym (ap (option_and_then (λ (p : OwnPort). option_and_then (refusal_in Tx own p) (ring_on Tx p))) tx.found) ∙ p.passes) in
    let name : is_pipe_name tx.port.name ≡ pipe = subst (λ (o : Option OwnPort). IfSome o (λ (q : OwnPort). is_pipe_name q.name ≡ pipe)) tx.found p.name in
    let place = place-of (λ (q : OwnPort). q.id.0 == port.0) own.ports tx.port tx.found in
    let put : Ask = as_pushed true own tx.port tx.ring in
    let send : Ask = as_pushed false own tx.port tx.ring in
    record {
      tx = tx;
      id_is = ap (λ (n : ℕ). let made : PortId = record { 0 = n } in made) (eqb-true tx.port.id.0 port.0 place.passes);
      ring_is = at;
      passes = passes;
      is = ap (λ (o : Option SyncFault). or_reset o tx.port.id Tx (if is_pipe_name tx.port.name then put else send)) passes
          ∙ (ap (λ (b : Bool). if b then put else send) name ∙ if-pushed pipe own tx.port tx.ring);
    }

-- the transmit sync of a port is a send of these frames
pub record Sends (own : OwnState) (port : PortId) (frames : List Frame) : Type 0 where
  pub tx : HasTx own port.0
  pub id_is : tx.port.id ≡ port
  pub passes : refusal_in Tx own tx.port tx.ring ≡ None
  pub is : tx_call own tx.port tx.ring ≡ Send port frames
  pub count : length (pushed_on Tx port.0 own) ≡ pushed_count tx.ring

sends : (own : OwnState) (port : PortId) (frames : List Frame) → PassesTx false own port.0 → frames ≡ pushed_frames (bytes_at own) (pushed_on Tx port.0 own) → Sends own port frames
sends own port frames p frames-are =
    let c = passed {pipe = false} {own = own} port p in
    let ring = c.tx.ring in
    let these : pushed_frames (bytes_at own) (pushed_in Tx ring) ≡ frames =
    ap (λ (o : Option OwnRing). pushed_frames (bytes_at own) (option_map_or (pushed_in Tx) o [])) (sym c.ring_is) ∙ sym frames-are in
    record {
      tx = c.tx;
      id_is = c.id_is;
      passes = c.passes;
      is = c.is ∙ (ap (λ (i : PortId). Send i (pushed_frames (bytes_at own) (pushed_in Tx ring))) c.id_is ∙ ap (Send port) these);
      count = ap (λ (o : Option OwnRing). length (option_map_or (pushed_in Tx) o [])) c.ring_is ∙ length-map (pushed_slots ring.ring ring.ring.head) (pushed_at Tx ring);
    }

-- the call of a transmit sync, whose refusal has numbers that fit, is the session's to ask
pub tx-asks : {s : SessionState} {port : PortId} (ask : Ask) → IsThere None s → (tx : HasTx s.own port.0) → tx.port.id ≡ port → RefusalFits (refusal_in Tx s.own tx.port tx.ring) → tx_call s.own tx.port tx.ring ≡ ask
    → asks (standing_seen s.fixed s.knows) s.id ask ≡ true
tx-asks {s} {port} ask t tx id_is fits is =
    let pool = s.fixed.pool in
    let id : port.0 ≡ tx.port.id.0 = ap (λ (i : PortId). i.0) (sym id_is) in
    let found : port_with_id s.own tx.port.id.0 ≡ Some tx.port = subst (λ (n : ℕ). port_with_id s.own n ≡ Some tx.port) id tx.found in
    let may = transmit-asked pool s.knows.seen s.id None s.own tx.port tx.ring (has-side t) t.settled (found, refl) tx.has fits in
    asked ask t (subst (MayBeAsked pool s.knows.seen s.id) is may)

pub send-asks : {s : SessionState} {port : PortId} {frames : List Frame} → IsThere None s → Sends s.own port frames → asks (standing_seen s.fixed s.knows) s.id (Send port frames) ≡ true
send-asks {s} {port} {frames} t c = tx-asks (Send port frames) t c.tx c.id_is (subst RefusalFits (sym c.passes) refl) c.is

pub met : {X : Type 0} (test : X → Bool) (found : Option X) → is_met test found ≡ true → (x : X) × (test x ≡ true)
met test None e = absurd cc
met test (Some x) e = (x, e)

pub send-fits : {s : SessionState} {port : PortId} {frames : List Frame} → IsThere None s → Sends s.own port frames → is_sendable frames ≡ true
send-fits {s} {port} {frames} t c =
    let own = own_of s.id (standing_of s.fixed.pool s.knows.seen) in
    let may : may_ask s.id own (Send port frames) ≡ true = sym (own-tells s.fixed.pool s.knows.seen s.id (Send port frames) t.legal) ∙ send-asks t c in
    let x = met (may_send own frames) (open_port own.ports port.0) may in
    let two = and_parts (is_switch_port_name x.0.name) (is_settled_own own && is_sendable frames) x.1 in
    (and_parts (is_settled_own own) (is_sendable frames) two.1).1

-- ---- what is offered of it is settled

pub no-offers : (offers : List Offer) → dests_of offers ≡ [] → offers ≡ []
no-offers [] e = refl
no-offers (o ∷ os) e = absurd cc

pub still-settled : (own : Own) (more : List Offer) → more ≡ [] → is_settled_own own ≡ true → is_settled_own (record own { offers = own.offers ++ more }) ≡ true
still-settled own more none e =
    ap (λ (os : List Offer). is_settled_own (record own { offers = own.offers ++ os })) none
    ∙ (ap (λ (os : List Offer). is_settled_own (record own { offers = os })) (append-nil own.offers) ∙ e)

abbrev pub dests-in : Reply → List Dest
dests-in (Offered short lone to) = to
dests-in (Took items to) = to
dests-in _ = []

abbrev pub dests-made : Option (ℕ × Reply) → List Dest
dests-made None = []
dests-made (Some made) = dests-in made.1

sends-none : (now : Standing) (frames : List Frame) (found : Option Port) (own : Own) (session short lone : ℕ) → option_map session_and_reply (send_step_at now frames found) ≡ Some (session, Offered short lone [])
    → is_settled_own own ≡ true → is_settled_own (option_map_or (own_sent now frames own) found own) ≡ true
sends-none now frames None own session short lone e settled = settled
sends-none now frames (Some port) own session short lone e settled =
    still-settled own (offers_of_send now.world port frames) (no-offers (offers_of_send now.world port frames) (by (can_send now.world frames port) e)) settled
  where
    by : (b : Bool) → option_map session_and_reply (if b then Some (send_step now frames port) else None) ≡ Some (session, Offered short lone []) → dests_of (offers_of_send now.world port frames) ≡ []
    by true is = ap dests-made is
    by false is = absurd cc

-- the session behind its send, and once that is settled
pub record Ends (s : SessionState) (w x : Knowing) (shares : Shares) : Type 0 where
  pub settling : Settling s.fixed w x s.id shares
  pub settled : is_settled_own (own_of s.id (standing_seen s.fixed x)) ≡ true

pub ends : {s : SessionState} {w x : Knowing} {ask : Ask} {reply : Reply} {shares : Shares} (o : OffersState) → IsThere None s → asks (standing_seen s.fixed s.knows) s.id ask ≡ true → is_enter ask ≡ false
    → Answers s.fixed s.knows w ask reply → OffersStand (standing (seen_in s.fixed w)) o → o.entry ≡ length w.seen
    → (o.wants ≡ [] → is_settled_own (own_of s.id (standing_seen s.fixed w)) ≡ true)
    → (o.wants ≡ [] → (x ≡ w) × (shares ≡ record { given = 0; full = 0; gone = 0 })) → (1 ≤ length o.wants → Settles s.fixed w x o.session shares) → Ends s w x shares
ends {s} {w} {x} {ask} {reply} {shares} o t may other a stand entry quiet none some = by o.wants refl
  where
    mine : a.makes.session ≡ s.id
    mine = whose t a.makes other may

    by : (wants : List Wanted) → o.wants ≡ wants → Ends s w x shares
    by [] is =
        let nothing = none is in
        let here : Settling s.fixed w w s.id (record { given = 0; full = 0; gone = 0 }) = settling-none a.makes.told.picked a.makes.legal (λ is-whole. a.makes.whole (subst IsWhole a.makes.told.part is-whole)) in
        record {
          settling = subst (λ (z : Knowing). Settling s.fixed w z s.id shares) (sym nothing.0) (subst (Settling s.fixed w w s.id) (sym nothing.1) here);
          settled = ap (λ (z : Knowing). is_settled_own (own_of s.id (standing_seen s.fixed z))) nothing.0 ∙ quiet is;
        }
    by (want ∷ wants) is =
        let few : 1 ≤ length o.wants = subst (λ (ws : List Wanted). 1 ≤ length ws) (sym is) (omega arith) in
        let e = entry_by a.makes.session ask a.makes.reply in
        let l = last a.makes in
        let h = earlier w.seen in
        let of : o.session ≡ s.id =
        last-by s.fixed.pool h e o (subst (IsLegal s.fixed.pool) a.makes.seen a.makes.legal) (subst (λ (z : List Entry). OffersStand (standing_of s.fixed.pool z) o) a.makes.seen stand) (entry ∙ l.count) few ∙ mine in
        let settles = some few in
        record {
          settling = subst (λ (n : ℕ). Settling s.fixed w x n shares) of settles.settling;
          settled = subst (λ (n : ℕ). is_settled_own (own_of n (standing_seen s.fixed x)) ≡ true) of settles.settled;
        }

pub send-ends : {s : SessionState} {w x : Knowing} {port : PortId} {frames : List Frame} {shares : Shares} (o : OffersState) → IsThere None s → Sends s.own port frames
    → Answers s.fixed s.knows w (Send port frames) (Offered o.short o.lone (dests_wanted o.wants)) → IsOffered (seen_in s.fixed w) frames o
    → (o.wants ≡ [] → (x ≡ w) × (shares ≡ record { given = 0; full = 0; gone = 0 })) → (1 ≤ length o.wants → Settles s.fixed w x o.session shares) → Ends s w x shares
send-ends {s} {w} {x} {port} {frames} {shares} o t c a sent none some = ends o t (send-asks t c) refl a sent.stand sent.entry quiet none some
  where
    quiet : o.wants ≡ [] → is_settled_own (own_of s.id (standing_seen s.fixed w)) ≡ true
    quiet is =
        let said : a.makes.reply ≡ Offered o.short o.lone [] = a.reply_is ∙ ap (λ (ws : List Wanted). Offered o.short o.lone (dests_wanted ws)) is in
        let now = standing_of s.fixed.pool (earlier w.seen) in
        let steps : option_map session_and_reply (step now (Send port frames)) ≡ Some (a.makes.session, Offered o.short o.lone []) = subst (λ (r : Reply). option_map session_and_reply (step now (Send port frames)) ≡ Some (a.makes.session, r)) said a.makes.steps in
        let own = own_of s.id (standing_of s.fixed.pool s.knows.seen) in
        ap is_settled_own (own-next t a.makes (whose t a.makes refl (send-asks t c))) ∙ sends-none now frames (open_port now.world.ports port.0) own a.makes.session o.short o.lone steps t.settled

pub send-there : {s : SessionState} {w x : Knowing} {port : PortId} {frames : List Frame} {reply : Reply} {shares : Shares} → IsThere None s → Sends s.own port frames
    → Answers s.fixed s.knows w (Send port frames) reply → Ends s w x shares → IsThere None (record s { knows = x; own = own_after_send port.0 s.own })
send-there {s} {w} {x} {port} {frames} {reply} {shares} t c a ends =
    let mine = whose t a.makes refl (send-asks t c) in
    let here = here-after t a.makes mine (record { port = c.tx.port; ring = c.tx.ring; found = c.tx.found; has = c.tx.has; is = c.is }) in
    there-settled (here-settled here ends.settling) ends.settled

-- ---- what it tells

unfoldable pub synced : {s : SessionState} {w x : Knowing} {ask : Ask} {reply : Reply} {shares : Shares} (new : OwnState) (a : Answers s.fixed s.knows w ask reply) → a.makes.session ≡ s.id → Settling s.fixed w x s.id shares
    → is_settled_own (own_of s.id (standing_seen s.fixed x)) ≡ true
    → new ≡ own_by (length w.seen) (kept_ask ask) reply (arrivals_of (standing (before_in s.fixed w)) (kept_ask ask) reply) s.own → Synced s (record s { knows = x; own = new }) ask reply shares
synced {s} {w} {x} {ask} {reply} {shares} new a mine settling settled made =
    let m = a.makes in
    let n = length w.seen in
    let early : earlier w.seen ≡ take (length w.seen - 1) x.seen = sym (take-append-le (length w.seen - 1) w.seen settling.told.begins.0 (omega arith)) ∙ ap (take (length w.seen - 1)) settling.told.begins.1 in
    let entry : entry_by m.session ask m.reply ≡ entry_by s.id ask reply = ap (λ (i : ℕ). entry_by i ask m.reply) mine ∙ ap (entry_by s.id ask) a.reply_is in
    let told = told_then root_of s.knows w x w.seen x.seen ((length w.seen, entry_by m.session ask m.reply) ∷ []) settling.added m.told settling.told in
    let said : Some (m.session, m.reply) ≡ Some (s.id, reply) = ap (λ (i : ℕ). Some (i, m.reply)) mine ∙ ap (λ (r : Reply). Some (s.id, r)) a.reply_is in
    record {
      number = length w.seen;
      added = settling.added;
      told = subst (λ (e : Entry). Told root_of s.knows x x.seen ((length w.seen, e) ∷ settling.added)) entry told;
      steps = subst (λ (h : List Entry). option_map session_and_reply (step (standing (record_in s.fixed h)) ask) ≡ Some (s.id, reply)) early (m.steps ∙ said);
      room = subst (λ (h : List Entry). HasRoom (record_in s.fixed h) ask) early m.room;
      settling = settling.each;
      shares_are = settling.shares_are;
      whole = λ is. settling.whole (subst IsWhole (sym m.told.part) is);
      own = made ∙ ap (λ (h : List Entry). own_by (length w.seen) (kept_ask ask) reply (arrivals_of (standing (record_in s.fixed h)) (kept_ask ask) reply) s.own) early;
      fabric = refl;
      fixed = refl;
      id = refl;
      user = refl;
      settled = settled;
    }

-- the entry of an ask, by the session, and what it makes of what the session has
abbrev pub IsMadeBy : SessionState → Knowing → Ask → Reply → OwnState → Type 0
IsMadeBy s w ask reply new = (a : Answers s.fixed s.knows w ask reply) × (a.makes.session ≡ s.id) × (new ≡ own_by (length w.seen) (kept_ask ask) reply (arrivals_of (standing (before_in s.fixed w)) (kept_ask ask) reply) s.own)

pub sent-tells : {s : SessionState} {w x : Knowing} {port : PortId} {frames : List Frame} {shares : Shares} (o : OffersState) (sent : Sent) → IsThere None s → Sends s.own port frames
    → Answers s.fixed s.knows w (Send port frames) (Offered o.short o.lone (dests_wanted o.wants)) → IsOffered (seen_in s.fixed w) frames o → Ends s w x shares
    → sent.entry ≡ o.entry → sent.pushed ≡ length (pushed_on Tx port.0 s.own) → sent.short ≡ o.short → sent.lone ≡ o.lone → shares_in sent ≡ shares
    → IsSent s (record s { knows = x; own = own_after_send port.0 s.own }) port.0 sent
unfolding synced
sent-tells {s} {w} {x} {port} {frames} {shares} o sent t c a offered ends entry pushed short lone shares-are =
    let new = own_after_send port.0 s.own in
    let to = dests_wanted o.wants in
    let mine = whose t a.makes refl (send-asks t c) in
    let said : Offered o.short o.lone to ≡ Offered sent.short sent.lone to = ap (λ (n : ℕ). Offered n o.lone to) (sym short) ∙ ap (λ (n : ℕ). Offered sent.short n to) (sym lone) in
    let first : IsMadeBy s w (Send port frames) (Offered o.short o.lone to) new = (a, mine, refl) in
    let second : IsMadeBy s w (Send port frames) (Offered sent.short sent.lone to) new = subst (λ (r : Reply). IsMadeBy s w (Send port frames) r new) said first in
    let made : IsMadeBy s w (tx_call s.own c.tx.port c.tx.ring) (Offered sent.short sent.lone to) new = subst (λ (ask : Ask). IsMadeBy s w ask (Offered sent.short sent.lone to) new) (sym c.is) second in
    record {
      tx = c.tx;
      to = to;
      synced = synced new made.0 made.1 (subst (Settling s.fixed w x s.id) (sym shares-are) ends.settling) ends.settled made.2;
      entry = entry ∙ offered.entry;
      pushed = pushed ∙ c.count;
    }

pub unsent : {s : SessionState} {w : Knowing} {port : PortId} {frames : List Frame} {fault : StepFault} → Sends s.own port frames → Refuses s.fixed s.knows w (Send port frames) fault → IsUnsent s (record s { knows = w }) port.0 fault
unsent {s} {w} {port} {frames} {fault} c full = record {
  tx = c.tx;
  none = subst (λ (ask : Ask). MadeNone s (record s { knows = w }) ask fault) (sym c.is) (record { refused = inr full; same = refl });
}

-- ---- before the call

pub as-own : {seen now : SessionState} {own : OwnState} → seen ≡ now → seen.own ≡ own → now ≡ record seen { own = own }
as-own {seen} {now} {own} e f = sym e ∙ ap (λ (o : OwnState). record seen { own = o }) f

pub record Ready (s : SessionState) (port : PortId) (frames : List Frame) : Type 0 where
  pub there : IsThere None s
  pub sends : Sends s.own port frames

pub ready : {seen now : SessionState} {own : OwnState} (port : PortId) (frames : List Frame) → seen ≡ now → seen.own ≡ own → IsThere None seen → PassesTx false now.own port.0
    → frames ≡ pushed_frames (bytes_at own) (pushed_on Tx port.0 own) → Ready (record seen { own = own }) port frames
ready {seen} {now} {own} port frames e f there passes are =
    let at = as-own e f in
    let same : now.own ≡ own = ap (λ (s : SessionState). s.own) at in
    record { there = subst (IsThere None) (e ∙ at) there; sends = sends own port frames (subst (λ (o : OwnState). PassesTx false o port.0) same passes) are }

pub may-send : {s : SessionState} {port : PortId} {frames : List Frame} → Ready s port frames → MayAsk s.fixed s.knows (Send port frames)
may-send k = may k.there (send-asks k.there k.sends)

-- each of them is a frame
pub send-frames : {s : SessionState} {port : PortId} {frames : List Frame} → Ready s port frames → list_all is_frame frames ≡ true
send-frames {s} {port} {frames} k =
    let most = and_parts (nat_le (length frames) most_batch) (fit_slots most_batch frames) (send-fits k.there k.sends) in
    (and_parts (nat_le (size_of_frames frames) most_batch) (list_all is_frame frames) most.1).1

-- ---- as the caller sees it

pub unsent-at : {seen now : SessionState} {own : OwnState} {w : Knowing} {port : PortId} {frames : List Frame} {fault : StepFault} → seen ≡ now → seen.own ≡ own → Ready (record seen { own = own }) port frames
    → Refuses seen.fixed seen.knows w (Send port frames) fault → IsUnsent now (record seen { knows = w; own = own }) port.0 fault
unsent-at {seen} {now} {own} {w} {port} {frames} {fault} e f k full =
    subst (λ (s : SessionState). IsUnsent s (record seen { knows = w; own = own }) port.0 fault) (sym (as-own e f)) (unsent {s = record seen { own = own }} k.sends full)

pub there-at : (seen : SessionState) {own new : OwnState} {w x : Knowing} {port : PortId} {frames : List Frame} {shares : Shares} (o : OffersState) → Ready (record seen { own = own }) port frames → new ≡ own_after_send port.0 own
    → Answers seen.fixed seen.knows w (Send port frames) (Offered o.short o.lone (dests_wanted o.wants)) → Ends (record seen { own = own }) w x shares → IsThere None (record seen { knows = x; own = new })
there-at seen {own} {new} {w} {x} {port} {frames} {shares} o k made a ends =
    subst (λ (n : OwnState). IsThere None (record seen { knows = x; own = n })) (sym made) (send-there {s = record seen { own = own }} k.there k.sends a ends)

pub sent-at : {seen now : SessionState} {own new : OwnState} {w x : Knowing} {port : PortId} {frames : List Frame} {shares : Shares} (o : OffersState) (sent : Sent) → seen ≡ now → seen.own ≡ own
    → Ready (record seen { own = own }) port frames → new ≡ own_after_send port.0 own
    → Answers seen.fixed seen.knows w (Send port frames) (Offered o.short o.lone (dests_wanted o.wants)) → IsOffered (seen_in seen.fixed w) frames o → Ends (record seen { own = own }) w x shares
    → sent.entry ≡ o.entry → sent.pushed ≡ length (pushed_on Tx port.0 own) → sent.short ≡ o.short → sent.lone ≡ o.lone → shares_in sent ≡ shares
    → IsSent now (record seen { knows = x; own = new }) port.0 sent
sent-at {seen} {now} {own} {new} {w} {x} {port} {frames} {shares} o sent e f k made a offered ends entry pushed short lone shares-are =
    subst (λ (s : SessionState). IsSent s (record seen { knows = x; own = new }) port.0 sent) (sym (as-own e f))
    (subst (λ (n : OwnState). IsSent (record seen { own = own }) (record seen { knows = x; own = n }) port.0 sent) (sym made)
    (sent-tells {s = record seen { own = own }} o sent k.there k.sends a offered ends entry pushed short lone shares-are))
