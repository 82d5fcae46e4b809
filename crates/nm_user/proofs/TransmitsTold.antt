-- What a put tells, as the caller of the sync sees it.
use Rattle.std.proofs.Common.{◌≡◌, ◌≤◌, true, List, [], length, map, take, sym, ap, subst, refl, ◌∙◌, None, inr}
use Rattle.nm_types.specs.declared.fault.StepFault.{StepFault}
use Rattle.nm_types.specs.declared.fault.StepFault.TheVariants as steps
use Rattle.nm_types.specs.declared.fault.SyncFault.{SyncFault}
use Rattle.nm_types.specs.declared.id.PortId.{PortId}
use Rattle.nm_types.specs.declared.id.Side.TheVariants.{Tx}
use Rattle.nm_types.specs.OwnPorts.{Arrival, OwnState, bytes_at, refusal_in}
use Rattle.nm_types.specs.OwnSyncs.{own_after_put}
use Rattle.nm_region.specs.Buffers.{indices_of}
use Rattle.nm_port.specs.Closing.{bytes_of_buffers}
use Rattle.nm_own.specs.LentOffers.{offered_buffers}
use Rattle.nm_port.specs.Offers.{offered_lengths}
use Rattle.nm_port.specs.Regions.{SideState}
use Rattle.vale_line.specs.declared.got.Got.{Got}
use Rattle.vale_line.specs.Gots.{buffers_of}
use Rattle.vale_entry.specs.declared.entry.Ask.{Ask}
use Rattle.vale_entry.specs.declared.entry.Ask.TheVariants.{Put, PutKept}
use Rattle.vale_entry.specs.declared.entry.Reply.TheVariants as replies
use Rattle.vale_entry.specs.declared.entry.Reply.TheVariants.{Took}
use Rattle.vale_entry.specs.Arrivals.{arrivals_of, blank_arrival}
use Rattle.vale_entry.specs.OwnCalls.{tx_call}
use Rattle.vale_parts.specs.Batches.{dests_wanted}
use Rattle.vale_book.specs.declared.fault.PutFault.{PutFault}
use Rattle.vale_book.specs.declared.fault.PutFault.TheVariants.{PeerGone, RecordFull, NoMemory}
use Rattle.vale_steps.specs.declared.putting.Put.{Put as GivenPut}
use Rattle.vale_book.specs.Putting.{items_of, IsPut as IsPutOfBook}
use Rattle.vale_book.specs.Recorded.{standing}
use Rattle.vale_fabric.specs.declared.settling.Shares.{Shares}
use Rattle.vale_fabric.specs.Fabrics.{Knowing, Answers, MayAsk, before_in, seen_in}
use Rattle.vale_fabric.specs.Puts.{PutsNot}
use Rattle.vale_fabric.specs.Settling.{Settling, Settles}
use Rattle.nm_user.specs.declared.sending.Sent.{Sent}
use Rattle.nm_user.specs.Sessions.{SessionState, IsThere}
use Rattle.nm_user.specs.Calls.{Made, MadeNone}
use Rattle.nm_user.specs.Offering.{gots_of, side_after_fault, sync_fault_of_put}
use Rattle.nm_user.specs.Syncs.{IsPut, PassesTx, SyncsNot, TransmitsNot, shares_in}
use Rattle.nm_user.proofs.After.{there-still, whose}
use Rattle.nm_user.proofs.Plain.{may}
use Rattle.nm_user.proofs.Sends.{Ends, IsMadeBy, as-own, synced}
use Rattle.nm_user.proofs.TransmitsPut.{Puts, came-is, gone-there, put-asks, put-ends, puts, taken-length, took-there}

-- the session, with the frames that its put offers
pub record CanPut (s : SessionState) (port : PortId) (gots : List Got) : Type 0 where
  pub there : IsThere None s
  pub puts_are : Puts s.own port (items_of gots)

pub can-put : {seen now : SessionState} {own : OwnState} (port : PortId) (gots : List Got) → seen ≡ now → seen.own ≡ own → IsThere None seen → PassesTx true now.own port.0
    → gots ≡ gots_of (buffers_of gots) (offered_lengths port.0 own) → indices_of (buffers_of gots) ≡ offered_buffers port.0 own → bytes_of_buffers (buffers_of gots) ≡ map (bytes_at own) (offered_buffers port.0 own)
    → CanPut (record seen { own = own }) port gots
can-put {seen} {now} {own} port gots e f there passes are indices bytes =
    let at = as-own e f in
    let same : now.own ≡ own = ap (λ (s : SessionState). s.own) at in
    let here : IsThere None (record seen { own = own }) = subst (IsThere None) (e ∙ at) there in
    let tx : PassesTx true own port.0 = subst (λ (o : OwnState). PassesTx true o port.0) same passes in
    record { there = here; puts_are = puts {s = record seen { own = own }} port gots here tx (record { gots_are = are; indices = indices; bytes = bytes }) }

pub may-put : {s : SessionState} {port : PortId} {gots : List Got} → CanPut s port gots → MayAsk s.fixed s.knows (Put port (items_of gots))
may-put k = may k.there (put-asks k.there k.puts_are)

-- ---- it gave nothing

-- what stands of the session then
fault-there : {s : SessionState} {w : Knowing} {port : PortId} {gots : List Got} (fault : PutFault) (side : SideState) → side.own ≡ s.own → CanPut s port gots → PutsNot s.fixed s.knows w port (items_of gots) fault
    → IsThere None (record s { knows = w; own = (side_after_fault fault port.0 side).own })
fault-there {s} {w} {port} {gots} PeerGone side same k gone =
    subst (λ (o : OwnState). IsThere None (record s { knows = w; own = own_after_put port.0 [] o })) (sym same) (gone-there k.there k.puts_are gone)
fault-there {s} {w} {port} {gots} (RecordFull what used want) side same k full =
    subst (λ (o : OwnState). IsThere None (record s { knows = w; own = o })) (sym same) (there-still k.there full.none)
fault-there {s} {w} {port} {gots} NoMemory side same k full =
    subst (λ (o : OwnState). IsThere None (record s { knows = w; own = o })) (sym same) (there-still k.there full.none)

module _ {s : SessionState} {port : PortId} {gots : List Got} (k : CanPut s port gots) where
  abbrev call : Ask
  call = tx_call s.own k.puts_are.tx.port k.puts_are.tx.ring

  abbrev Says : SessionState → SyncFault → Type 0
  Says t fault = SyncsNot s t call (refusal_in Tx s.own k.puts_are.tx.port k.puts_are.tx.ring) fault

  none-of : (w : Knowing) (fault : StepFault) → MadeNone s (record s { knows = w }) (Put port (items_of gots)) fault → MadeNone s (record s { knows = w }) call fault
  none-of w fault none = subst (λ (ask : Ask). MadeNone s (record s { knows = w }) ask fault) (sym k.puts_are.is) none

  says : (w : Knowing) (fault : PutFault) (side : SideState) → side.own ≡ s.own → PutsNot s.fixed s.knows w port (items_of gots) fault → Says (record s { knows = w; own = (side_after_fault fault port.0 side).own }) (sync_fault_of_put fault)
  says w PeerGone side same gone =
      let made : Made s (record s { knows = w; own = own_after_put port.0 [] s.own }) (Put port (items_of gots)) replies.PeerGone = record { answers = gone; fabric = refl; fixed = refl; id = refl; user = refl; own = refl } in
      let of : Made s (record s { knows = w; own = own_after_put port.0 [] s.own }) call replies.PeerGone =
      subst (λ (ask : Ask). Made s (record s { knows = w; own = own_after_put port.0 [] s.own }) ask replies.PeerGone) (sym k.puts_are.is) made in
      (k.puts_are.passes, subst (λ (o : OwnState). Made s (record s { knows = w; own = own_after_put port.0 [] o }) call replies.PeerGone) (sym same) of)
  says w (RecordFull what used want) side same full =
      subst (λ (o : OwnState). MadeNone s (record s { knows = w; own = o }) call (steps.RecordFull what used want)) (sym same) (none-of w (steps.RecordFull what used want) (record { refused = inr full; same = refl }))
  says w NoMemory side same full =
      subst (λ (o : OwnState). MadeNone s (record s { knows = w; own = o }) call steps.NoMemory) (sym same) (none-of w steps.NoMemory (record { refused = inr full; same = refl }))

  fault-told : (w : Knowing) (fault : PutFault) (side : SideState) → side.own ≡ s.own → PutsNot s.fixed s.knows w port (items_of gots) fault
      → TransmitsNot s (record s { knows = w; own = (side_after_fault fault port.0 side).own }) port.0 (sync_fault_of_put fault)
  fault-told w fault side same not = record { tx = k.puts_are.tx; not = says w fault side same not }

-- ---- the other end took frames

put-told : {s : SessionState} {w x : Knowing} {port : PortId} {shares : Shares} (gots : List Got) (put : GivenPut) (sent : Sent) → (k : CanPut s port gots)
    → Answers s.fixed s.knows w (Put port (items_of gots)) (Took (items_of (take put.took gots)) (dests_wanted put.offers.wants)) → IsPutOfBook (before_in s.fixed w) (seen_in s.fixed w) port gots put → Ends s w x shares
    → sent.entry ≡ put.offers.entry → sent.pushed ≡ put.took → sent.short ≡ 0 → sent.lone ≡ 0 → shares_in sent ≡ shares
    → IsPut s (record s { knows = x; own = own_after_put port.0 (map blank_arrival (indices_of put.back.items)) s.own }) port.0 sent
unfolding synced
put-told {s} {w} {x} {port} {shares} gots put sent k a is ends entry pushed short lone shares-are =
    let new = own_after_put port.0 (map blank_arrival (indices_of put.back.items)) s.own in
    let c = k.puts_are in
    let taken = items_of (take put.took gots) in
    let to = dests_wanted put.offers.wants in
    let mine = whose k.there a.makes refl (put-asks k.there c) in
    let own : new ≡ own_after_put port.0 (arrivals_of (standing (before_in s.fixed w)) (PutKept port (length (items_of gots))) (Took taken to)) s.own = ap (λ (came : List Arrival). own_after_put port.0 came s.own) (sym (came-is gots put k.there c a is)) in
    let first : IsMadeBy s w (Put port (items_of gots)) (Took taken to) new = (a, mine, own) in
    let made : IsMadeBy s w (tx_call s.own c.tx.port c.tx.ring) (Took taken to) new = subst (λ (ask : Ask). IsMadeBy s w ask (Took taken to) new) (sym c.is) first in
    record {
      tx = c.tx;
      taken = taken;
      to = to;
      synced = synced new made.0 made.1 (subst (Settling s.fixed w x s.id) (sym shares-are) ends.settling) ends.settled made.2;
      entry = entry ∙ is.is.offers.entry;
      pushed = pushed ∙ sym (taken-length gots put k.there c a is);
      short = short;
      lone = lone;
    }

-- ---- as the caller sees it

pub not-at : {seen now : SessionState} {new : OwnState} {w : Knowing} {port : PortId} {gots : List Got} (side : SideState) (fault : PutFault) (said : SyncFault) → seen ≡ now → seen.own ≡ side.own → CanPut (record seen { own = side.own }) port gots
    → PutsNot seen.fixed seen.knows w port (items_of gots) fault → new ≡ (side_after_fault fault port.0 side).own → said ≡ sync_fault_of_put fault
    → IsThere None (record seen { knows = w; own = new }) × TransmitsNot now (record seen { knows = w; own = new }) port.0 said
not-at {seen} {now} {new} {w} {port} side fault said e f k not made is =
    let own = side.own in (
      subst (λ (n : OwnState). IsThere None (record seen { knows = w; own = n })) (sym made) (fault-there fault side refl k not),
      subst (λ (s : SessionState). TransmitsNot s (record seen { knows = w; own = new }) port.0 said) (sym (as-own e f))
          (subst (λ (n : OwnState). TransmitsNot (record seen { own = own }) (record seen { knows = w; own = n }) port.0 said) (sym made)
          (subst (TransmitsNot (record seen { own = own }) (record seen { knows = w; own = (side_after_fault fault port.0 side).own }) port.0) (sym is) (fault-told k w fault side refl not))),
    )

pub put-at : {seen now : SessionState} {own new : OwnState} {w x : Knowing} {port : PortId} {shares : Shares} (gots : List Got) (put : GivenPut) (sent : Sent) → seen ≡ now → seen.own ≡ own → CanPut (record seen { own = own }) port gots
    → Answers seen.fixed seen.knows w (Put port (items_of gots)) (Took (items_of (take put.took gots)) (dests_wanted put.offers.wants)) → IsPutOfBook (before_in seen.fixed w) (seen_in seen.fixed w) port gots put
    → (put.offers.wants ≡ [] → (x ≡ w) × (shares ≡ record { given = 0; full = 0; gone = 0 })) → (1 ≤ length put.offers.wants → Settles seen.fixed w x put.offers.session shares)
    → new ≡ own_after_put port.0 (map blank_arrival (indices_of put.back.items)) own → sent.entry ≡ put.offers.entry → sent.pushed ≡ put.took → sent.short ≡ 0 → sent.lone ≡ 0 → shares_in sent ≡ shares
    → IsThere None (record seen { knows = x; own = new }) × IsPut now (record seen { knows = x; own = new }) port.0 sent
put-at {seen} {now} {own} {new} {w} {x} {port} gots put sent e f k a is none some made entry pushed short lone shares-are =
    let s : SessionState = record seen { own = own } in
    let ends = put-ends {s = s} {w = w} gots put k.there k.puts_are a is none some in (
      subst (λ (n : OwnState). IsThere None (record seen { knows = x; own = n })) (sym made) (took-there {s = s} {w = w} gots put k.there k.puts_are a is ends),
      subst (λ (t : SessionState). IsPut t (record seen { knows = x; own = new }) port.0 sent) (sym (as-own e f))
          (subst (λ (n : OwnState). IsPut s (record seen { knows = x; own = n }) port.0 sent) (sym made) (put-told {s = s} gots put sent k a is ends entry pushed short lone shares-are)),
    )
