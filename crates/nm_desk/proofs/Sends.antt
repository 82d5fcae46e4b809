-- A send by one entry.
use Rattle.std.proofs.Common.{Bool, true, false, cond, ◌&&◌, nat_le, ℕ, ◌≡◌, List, [], ◌∷◌, ◌++◌, append-nil, length, ◌+◌, Option, Some, None, option_map, refl, sym, ◌∙◌, ap, subst, IsSome, IfSome}
use Rattle.std.specs.Prelude.{option_and_then, if◌then◌else◌}
use Rattle.std.specs.Option.{option_map_or}
use Rattle.std.specs.List.{list_all}
use Rattle.std.proofs.lemmas.Bool.{and_parts}
use Rattle.nm_types.specs.Frames.{Frame, size_of_frames}
use Rattle.nm_types.specs.Limits.{most_batch}
use Rattle.nm_types.specs.Sendable.{AreFrames, fit_slots, is_frame, is_sendable}
use Rattle.nm_types.specs.declared.id.PortId.{PortId}
use Rattle.nm_types.specs.declared.id.Side.TheVariants.{Tx}
use Rattle.nm_types.specs.declared.fault.StepFault.{StepFault}
use Rattle.nm_types.specs.declared.fault.StepFault.TheVariants.{NoMemory}
use Rattle.nm_types.specs.declared.fault.SyncFault.{SyncFault}
use Rattle.nm_types.specs.Names.{is_pipe_name, is_switch_port_name}
use Rattle.nm_types.specs.Slots.{pushed_frames, Pushed}
use Rattle.nm_types.specs.OwnPorts.{OwnPort, OwnRing, OwnState, bytes_at, port_with_id, ring_at, ring_on, refusal_in, refusal_at, pushed_in, pushed_on}
use Rattle.nm_types.specs.OwnSyncs.{own_after_send}
use Rattle.nm_port.specs.Regions.{SideState, AllOf}
use Rattle.vale_entry.specs.declared.entry.Ask.{Ask}
use Rattle.vale_entry.specs.declared.entry.Ask.TheVariants.{Send, Put}
use Rattle.vale_entry.specs.declared.entry.Reply.{Reply}
use Rattle.vale_entry.specs.declared.entry.Reply.TheVariants.{Offered}
use Rattle.vale_entry.specs.World.{Port, Offer, open_port}
use Rattle.vale_entry.specs.Offers.{dests_of}
use Rattle.vale_entry.specs.declared.entry.Dest.{Dest}
use Rattle.vale_entry.specs.Legal.{Standing, IsEnabled, IsLegal, Follows, step, reply_of, session_and_reply, entry_by, fits_fault, is_met, can_send, send_step, send_step_at, offers_of_send}
use Rattle.vale_entry.specs.OwnCalls.{or_reset, offered_items, tx_call}
use Rattle.vale_own.specs.Own.{Own, own_of, is_settled_own}
use Rattle.vale_own.specs.OwnEntries.{own_sent}
use Rattle.vale_own.proofs.OwnEntry.{own-entries}
use Rattle.vale_own.specs.OwnAsks.{may_send}
use Rattle.vale_own.specs.Side.{is_shut}
use Rattle.vale_own.specs.SideAsks.{MayAsk, IsMade, IsSettled}
use Rattle.vale_own.proofs.SideSyncing.{transmit-asked}
use Rattle.vale_parts.specs.Batches.{dests_wanted}
use Rattle.vale_batch.specs.Wants.{Wanted}
use Rattle.vale_steps.specs.Offering.{OffersState}
use Rattle.vale_book.specs.Sending.{IsSent as IsOffered}
use Rattle.vale_own.specs.Recorded.{Recorded, standing, after_ask, HasRoom, IsRefusal}
use Rattle.nm_desk.specs.Desks.{DeskState, IsDeskOf, desk_of}
use Rattle.nm_desk.specs.Calls.{Made, MadeNone, with_entry}
use Rattle.nm_desk.specs.Syncs.{CanSync, PassesSend, HasTx, IsSent, IsUnsent}
use Rattle.nm_desk.proofs.OneStep.{may-enabled, step-by, found-id}
use Rattle.nm_desk.proofs.Entered.{no-memory, refused}

-- the ring of a port, and what is known of both
pub record Sends (d : DeskState) (port : PortId) : Type 0 where
  pub tx : HasTx d.own port.0
  pub plain : is_pipe_name tx.port.name ≡ false
  pub passes : refusal_in Tx d.own tx.port tx.ring ≡ None

pub sends : (d : DeskState) (port : PortId) → IsSome (ring_at Tx d.own port.0) → PassesSend d port.0 → Sends d port
sends d port some pass = by (port_with_id d.own port.0) refl some pass.plain pass.passes
  where
    on : (p : OwnPort) (r : Option OwnRing) → port_with_id d.own port.0 ≡ Some p → p.tx ≡ r → IsSome r → is_pipe_name p.name ≡ false → option_and_then (refusal_in Tx d.own p) r ≡ None → Sends d port
    on p None found has there plain passes = absurd cc
    on p (Some r) found has there plain passes = record { tx = record { port = p; ring = r; found = found; has = has }; plain = plain; passes = passes }

    by : (found : Option OwnPort) → port_with_id d.own port.0 ≡ found → IsSome (option_and_then (ring_on Tx) found) → IfSome found (λ (p : OwnPort). is_pipe_name p.name ≡ false)
        → option_and_then (λ (p : OwnPort). option_and_then (refusal_in Tx d.own p) (ring_on Tx p)) found ≡ None → Sends d port
    by None found there plain passes = absurd cc
    by (Some p) found there plain passes = on p p.tx found refl there plain passes

-- a send of which nothing is offered leaves its session settled
no-offers : (offers : List Offer) → dests_of offers ≡ [] → offers ≡ []
no-offers [] e = refl
no-offers (o ∷ os) e = absurd cc

still-settled : (own : Own) (more : List Offer) → more ≡ [] → is_settled_own own ≡ true → is_settled_own (record own { offers = own.offers ++ more }) ≡ true
still-settled own more none e =
    ap (λ (os : List Offer). is_settled_own (record own { offers = own.offers ++ os })) none
    ∙ (ap (λ (os : List Offer). is_settled_own (record own { offers = os })) (append-nil own.offers) ∙ e)

abbrev dests-in : Reply → List Dest
dests-in (Offered short lone to) = to
dests-in _ = []

abbrev dests-made : Option (ℕ × Reply) → List Dest
dests-made None = []
dests-made (Some made) = dests-in made.1

sends-none : (now : Standing) (frames : List Frame) (found : Option Port) (own : Own) (session short lone : ℕ) → option_map session_and_reply (send_step_at now frames found) ≡ Some (session, Offered short lone [])
    → is_settled_own own ≡ true → is_settled_own (option_map_or (own_sent now frames own) found own) ≡ true
sends-none now frames None own session short lone e settled = settled
sends-none now frames (Some port) own session short lone e settled =
    still-settled own (offers_of_send now.world port frames) (no-offers (offers_of_send now.world port frames) (by (can_send now.world frames port) e)) settled
  where
    by : (b : Bool) → option_map session_and_reply (if b then Some (send_step now frames port) else None) ≡ Some (session, Offered short lone []) → dests_of (offers_of_send now.world port frames) ≡ []
    by true is = ap dests-made is
    by false is = absurd cc

sent-settled : (b : Recorded) (session : ℕ) (port : PortId) (frames : List Frame) (short lone : ℕ) → IsLegal b.pool b.entries → IsMade b.pool b.entries session (Send port frames) (Offered short lone [])
    → IsSettled b.pool b.entries session → IsSettled b.pool (b.entries ++ entry_by session (Send port frames) (Offered short lone []) ∷ []) session
sent-settled b session port frames short lone legal mine settled =
    let e = entry_by session (Send port frames) (Offered short lone []) in
    let follows : Follows (standing b) e = mine in
    ap is_settled_own (own-entries b.pool b.entries e legal follows)
    ∙ sends-none (standing b) frames (open_port (standing b).world.ports port.0) (own_of session (standing b)) session short lone mine settled

met : {X : Type 0} (test : X → Bool) (found : Option X) → is_met test found ≡ true → (x : X) × (test x ≡ true)
met test None e = absurd cc
met test (Some x) e = (x, e)

module _ (b : Recorded) (d : DeskState) (port : PortId) (can : CanSync b d Tx port.0) (pass : PassesSend d port.0) where
  abbrev k : Sends d port
  k = sends d port can.ring pass

  abbrev p : OwnPort
  p = k.tx.port

  abbrev r : OwnRing
  r = k.tx.ring

  id-is : p.id ≡ port
  id-is = found-id d.own port p k.tx.found

  ring-is : ring_at Tx d.own port.0 ≡ Some r
  ring-is = ap (option_and_then (ring_on Tx)) k.tx.found ∙ k.tx.has

  module _ (batch : List Frame) (is : batch ≡ pushed_frames (bytes_at d.own) (pushed_on Tx port.0 d.own)) where
    -- the call
    pub call-is : tx_call d.own p r ≡ Send p.id batch
    call-is =
        let pushed : pushed_on Tx port.0 d.own ≡ pushed_in Tx r = ap (λ (x : Option OwnRing). option_map_or (pushed_in Tx) x []) ring-is in
        let as-put : Ask = Put p.id (offered_items d.own r) in
        let as-send : Ask = Send p.id (pushed_frames (bytes_at d.own) (pushed_in Tx r)) in
        ap (λ (x : Option SyncFault). or_reset x p.id Tx (cond (is_pipe_name p.name) as-put as-send)) k.passes
        ∙ ap (λ (x : Bool). cond x as-put as-send) k.plain
        ∙ ap (λ (ps : List Pushed). Send p.id (pushed_frames (bytes_at d.own) ps)) (sym pushed)
        ∙ ap (Send p.id) (sym is)

    call-at : tx_call d.own p r ≡ Send port batch
    call-at = call-is ∙ ap (λ (id : PortId). Send id batch) id-is

    may : IsDeskOf b d → MayAsk b.pool b.entries d.id (Send port batch)
    may of = subst (MayAsk b.pool b.entries d.id) call-at
        (transmit-asked b.pool b.entries d.id d.shut d.own p r of.side can.settled
        (ap (λ (id : PortId). port_with_id d.own id.0) id-is ∙ k.tx.found, ap (λ (id : PortId). is_shut d.shut id.0) id-is ∙ can.is_open) k.tx.has
        (ap (λ (x : Option SyncFault). option_map_or fits_fault x true) k.passes))

    pub enabled : IsDeskOf b d → IsEnabled (standing b) (Send port batch)
    enabled of = may-enabled b d (Send port batch) of (may of)

    -- each of them is a frame
    fitting : IsDeskOf b d → AreFrames batch
    fitting of =
        let own = own_of d.id (standing b) in
        let x = met (may_send own batch) (open_port own.ports port.0) (may of) in
        let two = and_parts (is_switch_port_name x.0.name) (is_settled_own own && is_sendable batch) x.1 in
        let three = and_parts (is_settled_own own) (is_sendable batch) two.1 in
        let most = and_parts (nat_le (length batch) most_batch) (fit_slots most_batch batch) three.1 in
        (and_parts (nat_le (size_of_frames batch) most_batch) (list_all is_frame batch) most.1).1

    -- what it tells
    pub sent-is : (new : Recorded) (after : DeskState) (offers : OffersState) → IsDeskOf b d → new ≡ after_ask b (Send port batch)
        → option_map reply_of (step (standing b) (Send port batch)) ≡ Some (Offered offers.short offers.lone (dests_wanted offers.wants)) → HasRoom b (Send port batch)
        → after ≡ record after { id = d.id; shut = d.shut; own = own_after_send port.0 d.own } → AllOf b.region (record { own = after.own; regions = after.regions })
        → IsOffered new batch offers → IsSent b new d after port.0 offers batch
    sent-is new after offers of made said room after-is region offered =
        let reply = Offered offers.short offers.lone (dests_wanted offers.wants) in
        let m = step-by b new d after (Send port batch) reply of (may of) (λ mine. record { port = p; ring = r; found = k.tx.found; has = k.tx.has; is = call-at }) made said room after-is region in
        record {
          tx = k.tx;
          is = call-is;
          made = subst (λ (ask : Ask). Made b new d after ask reply) (sym call-at) m;
          offered = offered;
          frames_fit = fitting of;
          settled = λ none.
              let none-said : Reply = Offered offers.short offers.lone [] in
              let mine : IsMade b.pool b.entries d.id (Send port batch) none-said = subst (λ (ws : List Wanted). IsMade b.pool b.entries d.id (Send port batch) (Offered offers.short offers.lone (dests_wanted ws))) none m.made in
              let book : new ≡ with_entry b d.id (Send port batch) none-said = m.book ∙ ap (λ (ws : List Wanted). with_entry b d.id (Send port batch) (Offered offers.short offers.lone (dests_wanted ws))) none in
              subst (λ (rec : Recorded). IsSettled rec.pool rec.entries after.id) (sym book)
              (subst (IsSettled b.pool (b.entries ++ entry_by d.id (Send port batch) none-said ∷ [])) (sym m.id)
              (sent-settled b d.id port batch offers.short offers.lone of.side.legal mine can.settled));
        }

    pub unsent-is : (new : Recorded) (fault : StepFault) → IsRefusal b (Send port batch) fault → new ≡ b → IsUnsent b new d d port.0 fault
    unsent-is new fault full same = record {
      tx = k.tx;
      none = subst (λ (ask : Ask). MadeNone b new d d ask fault) (sym call-at) (record { refused = refused b new (Send port batch) fault full same; same = refl });
    }

  pub unsent-none : (new : Recorded) → new ≡ b → IsUnsent b new d d port.0 NoMemory
  unsent-none new same = record { tx = k.tx; none = record { refused = no-memory b new (tx_call d.own p r) same; same = refl } }
