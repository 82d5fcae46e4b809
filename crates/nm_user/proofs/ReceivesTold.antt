-- What a receive sync tells, as its caller sees it.
use Rattle.std.proofs.Common.{ℕ, ◌≤◌, ◌≡◌, Bool, List, [], length, fold, sym, ap, subst, refl, ◌∙◌, Option, Some, None, IsSome, inl, inr}
use Rattle.std.specs.Option.{option_map_or}
use Rattle.std.proofs.lemmas.List.{length-map}
use Rattle.nm_types.specs.Faults.{sync_fault_of}
use Rattle.nm_types.specs.Positions.{pushed_slots}
use Rattle.nm_types.specs.Slots.{Pushed, pushed_names}
use Rattle.nm_types.specs.declared.fault.StepFault.{StepFault}
use Rattle.nm_types.specs.declared.fault.SyncFault.{SyncFault}
use Rattle.nm_types.specs.declared.fault.SyncFault.TheVariants.{NoMemory}
use Rattle.nm_types.specs.declared.id.PortId.{PortId}
use Rattle.nm_types.specs.declared.id.Side.TheVariants.{Rx}
use Rattle.nm_types.specs.OwnPorts.{OwnRing, OwnState, Arrival, ring_at, pushed_at, pushed_in, pushed_count, port_with_id, refusal_in}
use Rattle.nm_types.specs.OwnSyncs.{back_on, own_after_receive}
use Rattle.nm_port.specs.Receives.{own_with_arrival}
use Rattle.nm_own.proofs.OwnLaws.{frames_come}
use Rattle.vale_line.specs.declared.got.Got.{Got}
use Rattle.vale_line.specs.Gots.{buffers_of, frames_in}
use Rattle.vale_entry.specs.declared.entry.Ask.{Ask}
use Rattle.vale_entry.specs.declared.entry.Dest.{Dest}
use Rattle.vale_entry.specs.declared.entry.Reply.TheVariants.{Gave}
use Rattle.vale_entry.specs.Arrivals.{given_at}
use Rattle.vale_entry.specs.OwnCalls.{rx_call}
use Rattle.vale_entry.specs.Legal.{standing_of}
use Rattle.vale_parts.specs.Batches.{dests_wanted}
use Rattle.vale_book.specs.BookView.{AreOf}
use Rattle.vale_steps.specs.declared.reading.Synced.{Synced as AsSynced}
use Rattle.vale_book.specs.Offering.{OffersState}
use Rattle.vale_book.specs.Reading.{IsOffered}
use Rattle.vale_fabric.specs.declared.settling.Shares.{Shares}
use Rattle.vale_fabric.specs.Fabrics.{Knowing, Answers, Refuses, seen_in, before_in, earlier}
use Rattle.vale_fabric.specs.Settling.{Settles}
use Rattle.nm_user.specs.Sessions.{SessionState, IsThere}
use Rattle.nm_user.specs.Calls.{MadeNone}
use Rattle.nm_user.specs.declared.receiving.Received.{Received}
use Rattle.nm_user.specs.Receives.{IsReceived, ReceivesNot}
use Rattle.vale_fabric.specs.Reading.{IsRead}
use Rattle.nm_user.specs.Receiving.{arrivals_in, CanCome}
use Rattle.nm_user.proofs.Plain.{has-open}
use Rattle.nm_user.proofs.Sends.{Ends, IsMadeBy, as-own, synced}
use Rattle.nm_user.proofs.Refusals.{says-full}
use Rattle.nm_user.proofs.Receives.{Reads, ReadsHere, reading, mine, own-is, found-step, read-ends, read-there, come-so, came-are}

-- ---- frames came

back-count : {own : OwnState} {port : PortId} {pipe : Bool} (c : Reads own port pipe) → length (back_on port.0 own) ≡ pushed_count c.rx.rx
back-count {own} {port} {pipe} c =
    let at : ring_at Rx own port.0 ≡ Some c.rx.rx = c.ring_is in
    let these : back_on port.0 own ≡ pushed_names (pushed_in Rx c.rx.rx) = ap (λ (o : Option OwnRing). pushed_names (option_map_or (pushed_in Rx) o [])) at in
    ap (λ (xs : List ℕ). length xs) these
    ∙ (length-map (pushed_in Rx c.rx.rx) (λ (x : Pushed). x.slot.buf_idx) ∙ length-map (pushed_slots c.rx.rx.ring c.rx.rx.ring.head) (pushed_at Rx c.rx.rx))

pub received-tells : {s : SessionState} {w x : Knowing} {port : PortId} {pipe : Bool} {count : ℕ} {to : List Dest} {shares : Shares} (o : OffersState) (received : Received)
    (t : IsThere None s) (c : Reads s.own port pipe) (a : Answers s.fixed s.knows w (reading s.own port pipe) (Gave count to))
    → IsOffered (before_in s.fixed w) (seen_in s.fixed w) port o → Ends s w x shares → received.entry ≡ o.entry → received.gave ≡ count → received.returned ≡ length (back_on port.0 s.own)
    → IsReceived s (record s { knows = x; own = own_after_receive port.0 (given_at (standing_of s.fixed.pool (earlier w.seen)) port.0) s.own }) port.0 received
unfolding synced
received-tells {s} {w} {x} {port} {pipe} {count} {to} {shares} o received t c a offered ends entry gave returned =
    let new = own_after_receive port.0 (given_at (standing_of s.fixed.pool (earlier w.seen)) port.0) s.own in
    let st = found-step s w port pipe count to t c a in
    let first : IsMadeBy s w (reading s.own port pipe) (Gave count to) new = (a, mine s w port pipe count to t c a, sym (own-is s w port pipe count to t c a)) in
    let second : IsMadeBy s w (reading s.own port pipe) (Gave received.gave to) new = subst (λ (n : ℕ). IsMadeBy s w (reading s.own port pipe) (Gave n to) new) (sym gave) first in
    let made : IsMadeBy s w (rx_call s.own c.rx) (Gave received.gave to) new = subst (λ (ask : Ask). IsMadeBy s w ask (Gave received.gave to) new) (sym c.is) second in
    record {
      at = record { port = c.rx; found = c.found };
      to = to;
      shares = shares;
      synced = synced new made.0 made.1 ends.settling ends.settled made.2;
      entry = entry ∙ (offered st.at st.found).entry;
      returned = returned ∙ back-count c;
    }

-- ---- it was refused

pub unreceived : {s : SessionState} {w : Knowing} {port : PortId} {pipe : Bool} {fault : StepFault} → Reads s.own port pipe → Refuses s.fixed s.knows w (reading s.own port pipe) fault
    → ReceivesNot s (record s { knows = w }) port.0 (sync_fault_of fault)
unreceived {s} {w} {port} {pipe} {fault} c full = record {
  at = record { port = c.rx; found = c.found };
  not = says-full s (record s { knows = w }) (rx_call s.own c.rx) (refusal_in Rx s.own c.rx c.rx.rx) fault (subst (λ (ask : Ask). MadeNone s (record s { knows = w }) ask fault) (sym c.is) (record { refused = inr full; same = refl }));
}

-- ---- as the session has it, frame by frame

module _ (s : SessionState) (w : Knowing) (port : PortId) (pipe : Bool) (synced : AsSynced) (k : ReadsHere s port pipe) (read : IsRead s.fixed s.knows w (reading s.own port pipe) port synced) where
  abbrev gots : List Got
  gots = synced.got.items

  abbrev count : ℕ
  count = length (frames_in synced.got.items)

  abbrev to : List Dest
  to = dests_wanted synced.offers.wants

  abbrev came : List Arrival
  came = given_at (standing_of s.fixed.pool (earlier w.seen)) port.0

  came-is : came ≡ arrivals_in gots
  came-is = came-are s w port pipe count to k.there k.reads read.made gots read.got

  pub gots-region : AreOf s.fixed.region (buffers_of gots)
  gots-region = let st = found-step s w port pipe count to k.there k.reads read.made in (read.got st.at st.found).region_is

  pub can-publish : (mid : OwnState) → mid ≡ own_after_receive port.0 [] s.own → CanCome port.0 mid (arrivals_in gots)
  can-publish mid is =
      subst (λ (m : OwnState). CanCome port.0 m (arrivals_in gots)) (sym is)
      (subst (λ (cs : List Arrival). CanCome port.0 (own_after_receive port.0 [] s.own) cs) came-is (come-so s w port pipe count to k.there k.reads read.made))

  pub ends-so : {x : Knowing} {shares : Shares} → (synced.offers.wants ≡ [] → (x ≡ w) × (shares ≡ record { given = 0; full = 0; gone = 0 }))
      → (1 ≤ length synced.offers.wants → Settles s.fixed w x synced.offers.session shares) → Ends s w x shares
  ends-so none some = read-ends s w port pipe count to k.there k.reads read.made synced.offers refl read.offers none some

  module _ {mid new : OwnState} (is : mid ≡ own_after_receive port.0 [] s.own) (made : new ≡ fold (own_with_arrival port.0) mid (arrivals_in gots)) where
    published : new ≡ own_after_receive port.0 came s.own
    published =
        made ∙ (ap (λ (m : OwnState). fold (own_with_arrival port.0) m (arrivals_in gots)) is
        ∙ (frames_come port.0 (arrivals_in gots) s.own ∙ ap (λ (cs : List Arrival). own_after_receive port.0 cs s.own) (sym came-is)))

    pub there-so : {x : Knowing} {shares : Shares} → Ends s w x shares → IsThere None (record s { knows = x; own = new })
    there-so {x} {shares} ends = subst (λ (o : OwnState). IsThere None (record s { knows = x; own = o })) (sym published) (read-there s w port pipe count to k.there k.reads read.made ends)

    pub received-so : {x : Knowing} {shares : Shares} (received : Received) → Ends s w x shares → received.entry ≡ synced.offers.entry → received.gave ≡ count → received.returned ≡ length (back_on port.0 s.own)
        → IsReceived s (record s { knows = x; own = new }) port.0 received
    received-so {x} {shares} received ends entry gave returned =
        subst (λ (o : OwnState). IsReceived s (record s { knows = x; own = o }) port.0 received) (sym published)
        (received-tells synced.offers received k.there k.reads read.made read.offers ends entry gave returned)

-- ---- as its caller sees it

pub received-at : {seen now t : SessionState} {own : OwnState} (port : PortId) (received : Received) → seen ≡ now → seen.own ≡ own → IsReceived (record seen { own = own }) t port.0 received → IsReceived now t port.0 received
received-at {seen} {now} {t} {own} port received e f is = subst (λ (s : SessionState). IsReceived s t port.0 received) (sym (as-own e f)) is

pub unreceived-at : {seen now t : SessionState} {own : OwnState} (port : PortId) (fault : SyncFault) → seen ≡ now → seen.own ≡ own → ReceivesNot (record seen { own = own }) t port.0 fault → ReceivesNot now t port.0 fault
unreceived-at {seen} {now} {t} {own} port fault e f is = subst (λ (s : SessionState). ReceivesNot s t port.0 fault) (sym (as-own e f)) is

-- no memory was had for it
pub wants-memory : {s : SessionState} (port : PortId) → IsSome (port_with_id s.own port.0) → ReceivesNot s s port.0 NoMemory
wants-memory {s} port some =
    let h = has-open s.own port some in
    record { at = record { port = h.port; found = h.found }; not = record { refused = inl (refl, refl); same = refl } }
