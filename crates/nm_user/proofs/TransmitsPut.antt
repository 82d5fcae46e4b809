-- A sync that offers what is pushed to a pipe's other end.
use Rattle.std.proofs.Common.{ℕ, ◌≡◌, ◌≤◌, ◌==◌, ◌++◌, Bool, true, false, List, [], ◌∷◌, map, take, length, sym, ap, ap₂, subst, refl, ◌∙◌, arith, inl, inr, Option, Some, None}
use Rattle.std.specs.Prelude.{find, option_map, option_and_then, if◌then◌else◌}
use Rattle.std.specs.Option.{option_map_or}
use Rattle.std.specs.List.{AllByRecursion as Each}
use Rattle.std.proofs.lemmas.Bool.{cases_Bool}
use Rattle.std.proofs.lemmas.List.{length-map, length-take-le, take_all}
use Rattle.std.proofs.Math.Nat.{min-le_left}
use Rattle.nm_types.specs.declared.id.PortId.{PortId}
use Rattle.nm_types.specs.declared.id.Side.TheVariants.{Tx}
use Rattle.nm_types.specs.OwnPorts.{Arrival, OwnPort, OwnRing, OwnState, bytes_at, buffer_in, slot_in, port_with_id, ring_at, ring_on, refusal_in}
use Rattle.nm_types.specs.OwnSyncs.{own_after_put, after_exchange, offered_slots, taken_from, taken_on}
use Rattle.nm_region.specs.Buffers.{Buffer, indices_of}
use Rattle.nm_port.specs.Closing.{bytes_of_buffers}
use Rattle.nm_port.specs.Offers.{lengths_in, offered_lengths}
use Rattle.nm_own.specs.LentOffers.{offered_buffers, offered_count}
use Rattle.vale_line.specs.declared.got.Got.{Got}
use Rattle.vale_line.specs.Gots.{buffers_of, IsSingle}
use Rattle.vale_entry.specs.declared.entry.Ask.{Ask}
use Rattle.vale_entry.specs.declared.entry.Ask.TheVariants.{Put, PutKept}
use Rattle.vale_entry.specs.declared.entry.Item.{Item}
use Rattle.vale_entry.specs.declared.entry.Reply.{Reply}
use Rattle.vale_entry.specs.declared.entry.Reply.TheVariants as replies
use Rattle.vale_entry.specs.declared.entry.Reply.TheVariants.{Took}
use Rattle.vale_entry.specs.Arrivals.{arrivals_of, blank_arrival, lent_arrivals, lent_to}
use Rattle.vale_entry.specs.Holdings.{buffers_without, first_idle}
use Rattle.vale_entry.specs.Legal.{Standing, standing_of, kept_ask, kept_items, session_and_reply, step, made_at, can_put, put_step_at, put_step_by, offers_of_put}
use Rattle.vale_entry.specs.Offers.{dests_of}
use Rattle.vale_entry.specs.OwnCalls.{item_at, offered_items, tx_call}
use Rattle.vale_entry.specs.Pipe.{indices_of as indices_of_items, peer_of, taken_count, frames_of_items}
use Rattle.vale_entry.specs.World.{Port, open_port, space_of}
use Rattle.vale_entry.proofs.Counting.{count_of}
use Rattle.vale_own.specs.Asker.{asks}
use Rattle.vale_own.specs.Own.{Own, own_of, is_settled_own}
use Rattle.vale_own.specs.OwnEntries.{own_after_entry, own_put_at}
use Rattle.vale_own.specs.Side.{buffers_on, IsPending, IsSound, IsOfSide}
use Rattle.vale_own.specs.SideAsks.{RefusalFits}
use Rattle.vale_own.proofs.Trading.{ring_renamed, port_renamed}
use Rattle.vale_own.proofs.SideExchange.{traded}
use Rattle.vale_own.proofs.SideSound.{exchanged}
use Rattle.vale_own.proofs.SideOffers.{exchanged-ring, offered-pending}
use Rattle.vale_own.proofs.SideAsking.{once-side}
use Rattle.vale_own.proofs.SideEntries.{transmits-of}
use Rattle.vale_batch.specs.Wants.{Wanted}
use Rattle.vale_parts.specs.Batches.{dests_wanted}
use Rattle.vale_steps.specs.declared.putting.Put.{Put as GivenPut}
use Rattle.vale_book.specs.Putting.{item_of, items_of, IsPut}
use Rattle.vale_book.specs.Recorded.{standing}
use Rattle.vale_fabric.specs.declared.settling.Shares.{Shares}
use Rattle.vale_fabric.specs.Fabrics.{Knowing, Answers, before_in, seen_in, earlier}
use Rattle.vale_fabric.specs.Settling.{Settles}
use Rattle.nm_user.specs.Sessions.{SessionState, IsThere, standing_seen}
use Rattle.nm_user.specs.Offering.{gots_of}
use Rattle.nm_user.specs.Syncs.{HasTx, PassesTx}
use Rattle.nm_user.proofs.After.{IsHere, here-after, own-next, there-settled, whose}
use Rattle.nm_user.proofs.Plain.{has-side}
use Rattle.nm_user.proofs.Sends.{Ends, dests-made, ends, no-offers, passed, still-settled, tx-asks}
use Rattle.nm_user.proofs.Settled.{here-settled}

-- ---- the buffers of the frames offered are those that their slots name

taken-on-is : (id n : ℕ) (ports : List OwnPort) → taken_on id ports n ≡ option_map_or (λ (q : OwnPort). option_map_or (taken_from n) q.tx []) (find (λ (q : OwnPort). q.id.0 == id) ports) []
taken-on-is id n [] = refl
taken-on-is id n (x ∷ ports) = elim (cases_Bool (x.id.0 == id)) [
  | inl here ↦ rw here refl
  | inr other ↦ rw other (taken-on-is id n ports)
]

abbrev name-in : OwnRing → ℕ → ℕ
name-in r at = (slot_in Tx r at).buf_idx

names-pending : (t : OwnRing) (ats : List ℕ) → Each (IsPending t) ats → map (buffer_in Tx t) ats ≡ map (name-in t) ats
names-pending t [] all = refl
names-pending t (at ∷ ats) all = ap₂ (λ (b : ℕ) (bs : List ℕ). b ∷ bs) (sym all.0.named) (names-pending t ats all.1)

offered-named : (id : ℕ) (s : OwnState) (p : OwnPort) (r : OwnRing) → IsSound s → ((b : ℕ) → count_of b (buffers_on s) ≤ 1) → port_with_id s id ≡ Some p → p.tx ≡ Some r → refusal_in Tx s p r ≡ None
    → offered_buffers id s ≡ map (name-in r) (offered_slots r)
offered-named id s p r sound once found has passes =
    let g = traded Tx id s p r sound once found has passes in
    let now = exchanged-ring id s p r sound once found has passes in
    let ports : find (λ (q : OwnPort). q.id.0 == id) (after_exchange Tx id s).ports ≡ Some (port_renamed g p) = (exchanged Tx id s p r sound once found has passes).found in
    let ring : (port_renamed g p).tx ≡ Some now = ap (option_map (ring_renamed g)) has in
    let at : ring_at Tx s id ≡ Some r = ap (option_and_then (ring_on Tx)) found ∙ has in
    let count : offered_count id s ≡ length (offered_slots r) = ap (λ (o : Option OwnRing). length (option_map_or lengths_in o [])) at ∙ length-map (offered_slots r) (λ (k : ℕ). (slot_in Tx r k).len) in
    let all : take (offered_count id s) (offered_slots r) ≡ offered_slots r = take_all (offered_count id s) (offered_slots r) (omega (arith, count)) in
    taken-on-is id (offered_count id s) (after_exchange Tx id s).ports
    ∙ (ap (λ (o : Option OwnPort). option_map_or (λ (q : OwnPort). option_map_or (taken_from (offered_count id s)) q.tx []) o []) ports
    ∙ (ap (λ (o : Option OwnRing). option_map_or (taken_from (offered_count id s)) o []) ring
    ∙ (ap (map (buffer_in Tx now)) all ∙ names-pending now (offered_slots r) (offered-pending id s p r sound once found has passes))))

-- ---- so the frames in buffers are those offered

items-wrapped : (s : OwnState) (r : OwnRing) (ats : List ℕ) (bufs : List Buffer) → indices_of bufs ≡ map (name-in r) ats → bytes_of_buffers bufs ≡ map (bytes_at s) (map (name-in r) ats)
    → items_of (gots_of bufs (map (λ (at : ℕ). (slot_in Tx r at).len) ats)) ≡ map (item_at s r) ats
items-wrapped s r [] [] names bytes = refl
items-wrapped s r [] (b ∷ bufs) names bytes = absurd cc
items-wrapped s r (at ∷ ats) [] names bytes = absurd cc
items-wrapped s r (at ∷ ats) (b ∷ bufs) names bytes =
    let len = (slot_in Tx r at).len in
    let name : b.index ≡ name-in r at = cc names in
    let more : indices_of bufs ≡ map (name-in r) ats = cc names in
    let front : b.bytes ≡ bytes_at s (name-in r at) = cc bytes in
    let behind : bytes_of_buffers bufs ≡ map (bytes_at s) (map (name-in r) ats) = cc bytes in
    let first : record { index = b.index; bytes = record { bytes = take len b.bytes; no_learn = false } } ≡ item_at s r at =
    ap₂ (λ (i : ℕ) (bs : List ℕ). let made : Item = record { index = i; bytes = record { bytes = take len bs; no_learn = false } } in made) name front in
    ap₂ (λ (x : Item) (xs : List Item). x ∷ xs) first (items-wrapped s r ats bufs more behind)

pub single-wrapped : (bufs : List Buffer) (lens : List ℕ) → Each IsSingle (gots_of bufs lens)
single-wrapped [] lens = tt
single-wrapped (b ∷ bufs) [] = tt
single-wrapped (b ∷ bufs) (len ∷ lens) = (refl, single-wrapped bufs lens)

-- the frames that an own side lends for a put, in their buffers
pub record AreOffered (own : OwnState) (port : PortId) (gots : List Got) : Type 0 where
  pub gots_are : gots ≡ gots_of (buffers_of gots) (offered_lengths port.0 own)
  pub indices : indices_of (buffers_of gots) ≡ offered_buffers port.0 own
  pub bytes : bytes_of_buffers (buffers_of gots) ≡ map (bytes_at own) (offered_buffers port.0 own)

-- the transmit sync of a port is a put of these frames
pub record Puts (own : OwnState) (port : PortId) (items : List Item) : Type 0 where
  pub tx : HasTx own port.0
  pub id_is : tx.port.id ≡ port
  pub passes : refusal_in Tx own tx.port tx.ring ≡ None
  pub is : tx_call own tx.port tx.ring ≡ Put port items

pub puts : {s : SessionState} (port : PortId) (gots : List Got) → IsThere None s → PassesTx true s.own port.0 → AreOffered s.own port gots → Puts s.own port (items_of gots)
puts {s} port gots t p k =
    let own = s.own in
    let c = passed {pipe = true} {own = own} port p in
    let ring = c.tx.ring in
    let names : offered_buffers port.0 own ≡ map (name-in ring) (offered_slots ring) = offered-named port.0 own c.tx.port ring t.side.sound (once-side s.fixed.pool s.knows.seen s.id None own (has-side t)) c.tx.found c.tx.has c.passes in
    let lens : offered_lengths port.0 own ≡ lengths_in ring = ap (λ (o : Option OwnRing). option_map_or lengths_in o []) c.ring_is in
    let items : items_of gots ≡ offered_items own ring =
    ap items_of (k.gots_are ∙ ap (gots_of (buffers_of gots)) lens)
    ∙ items-wrapped own ring (offered_slots ring) (buffers_of gots) (k.indices ∙ names) (k.bytes ∙ ap (map (bytes_at own)) names) in
    record {
      tx = c.tx;
      id_is = c.id_is;
      passes = c.passes;
      is = c.is ∙ (ap (λ (i : PortId). Put i (offered_items own ring)) c.id_is ∙ ap (Put port) (sym items));
    }

pub put-asks : {s : SessionState} {port : PortId} {items : List Item} → IsThere None s → Puts s.own port items → asks (standing_seen s.fixed s.knows) s.id (Put port items) ≡ true
put-asks {s} {port} {items} t c = tx-asks (Put port items) t c.tx c.id_is (subst RefusalFits (sym c.passes) refl) c.is

-- ---- its entry

module _ {s : SessionState} {w : Knowing} {port : PortId} {items : List Item} (t : IsThere None s) (c : Puts s.own port items) where
  put-own : {reply : Reply} → Answers s.fixed s.knows w (Put port items) reply → (came : List Arrival) → arrivals_of (standing (before_in s.fixed w)) (PutKept port (length items)) reply ≡ came
      → IsHere None (record s { knows = w; own = own_after_put port.0 came s.own })
  put-own {reply} a came is =
      let m = a.makes in
      let pool = s.fixed.pool in
      let h = earlier w.seen in
      let id : port.0 ≡ c.tx.port.id.0 = ap (λ (i : PortId). i.0) (sym c.id_is) in
      let found : port_with_id s.own c.tx.port.id.0 ≡ Some c.tx.port = subst (λ (n : ℕ). port_with_id s.own n ≡ Some c.tx.port) id c.tx.found in
      let steps : option_map session_and_reply (step (standing_of pool h) (tx_call s.own c.tx.port c.tx.ring)) ≡ Some (m.session, m.reply) =
      subst (λ (ask : Ask). option_map session_and_reply (step (standing_of pool h) ask) ≡ Some (m.session, m.reply)) (sym c.is) m.steps in
      let of : IsOfSide None s.own (PutKept port (length items)) m.reply =
      subst (λ (ask : Ask). IsOfSide None s.own (kept_ask ask) m.reply) c.is (transmits-of pool h m.session None s.own c.tx.port c.tx.ring m.reply found c.tx.has steps) in
      let here = here-after t m (whose t m refl (put-asks t c)) of in
      let now = standing (before_in s.fixed w) in
      let brought : arrivals_of now (PutKept port (length items)) m.reply ≡ came = ap (arrivals_of now (PutKept port (length items))) a.reply_is ∙ is in
      subst (λ (these : List Arrival). IsHere None (record s { knows = w; own = own_after_put port.0 these s.own })) brought here

  -- the other end is gone: nothing came, and nothing is offered
  pub gone-there : Answers s.fixed s.knows w (Put port items) replies.PeerGone → IsThere None (record s { knows = w; own = own_after_put port.0 [] s.own })
  gone-there a =
      let now = standing (before_in s.fixed w) in
      let own = own_of s.id (standing_seen s.fixed s.knows) in
      let same : own_of s.id (standing_seen s.fixed w) ≡ own = own-next t a.makes (whose t a.makes refl (put-asks t c)) ∙ ap (λ (r : Reply). own_after_entry now (PutKept port (length items)) r own) a.reply_is in
      there-settled (put-own a [] refl) (ap is_settled_own same ∙ t.settled)

abbrev items-made : Option (ℕ × Reply) → List Item
items-made None = []
items-made (Some made) = kept_items made.1

-- what is offered of the frames taken, where nobody is offered any, leaves the session settled
put-none : (now : Standing) (offered items : List Item) (own : Own) (session : ℕ) (port peer : Port) → peer_of now.world.ports port ≡ Some peer
    → option_map session_and_reply (made_at (can_put now offered) (put_step_at now offered) (Some port)) ≡ Some (session, Took items [])
    → is_settled_own own ≡ true → is_settled_own (own_put_at now items own port) ≡ true
put-none now offered items own session port peer there e settled =
    rw there (still-settled (record own { buffers = buffers_without (indices_of_items items) own.buffers ++ first_idle peer.id (length (indices_of_items items)) now.holdings.ports })
    (offers_of_put now.world port (frames_of_items items)) (by (can_put now offered port) e) settled)
  where
    taken : List Item
    taken = take (taken_count (peer_of now.world.ports port) (length offered)) offered

    made-by : (o : Option Port) → o ≡ Some peer → Some (session_and_reply (put_step_by now taken port o)) ≡ Some (session, Took items []) → offers_of_put now.world port (frames_of_items items) ≡ []
    made-by None is f = absurd cc
    made-by (Some other) is f =
        let to : dests_of (offers_of_put now.world port (frames_of_items taken)) ≡ [] = ap dests-made f in
        let same : taken ≡ items = ap items-made f in
        subst (λ (xs : List Item). offers_of_put now.world port (frames_of_items xs) ≡ []) same (no-offers (offers_of_put now.world port (frames_of_items taken)) to)

    by : (b : Bool) → option_map session_and_reply (if b then Some (put_step_at now offered port) else None) ≡ Some (session, Took items []) → offers_of_put now.world port (frames_of_items items) ≡ []
    by true f = made-by (peer_of now.world.ports port) there f
    by false f = absurd cc

-- ---- what a put that the other end took gave

pub took-few : (peer : Port) (count : ℕ) → taken_count (Some peer) count ≤ count
took-few peer count = min-le_left count (space_of peer)

module _ {s : SessionState} {w : Knowing} {port : PortId} (gots : List Got) (put : GivenPut) (t : IsThere None s) (c : Puts s.own port (items_of gots))
    (a : Answers s.fixed s.knows w (Put port (items_of gots)) (Took (items_of (take put.took gots)) (dests_wanted put.offers.wants))) (is : IsPut (before_in s.fixed w) (seen_in s.fixed w) port gots put) where
  abbrev pub before : Standing
  before = standing (before_in s.fixed w)

  pub taken-length : length (items_of (take put.took gots)) ≡ put.took
  taken-length =
      let few = took-few is.peer (length gots) in
      length-map (take put.took gots) item_of ∙ length-take-le put.took gots (omega (arith, few, is.is.took))

  -- for the frames taken the buffers came that the put handed out
  pub came-is : arrivals_of before (PutKept port (length (items_of gots))) (Took (items_of (take put.took gots)) (dests_wanted put.offers.wants)) ≡ map blank_arrival (indices_of put.back.items)
  came-is =
      ap (λ (o : Option Port). option_map_or (lent_to before (length (items_of (take put.took gots)))) o []) is.here
      ∙ (ap (λ (o : Option Port). option_map_or (λ (peer : Port). lent_arrivals before.holdings.ports peer.id (length (items_of (take put.took gots)))) o []) is.there
      ∙ (ap (λ (n : ℕ). lent_arrivals before.holdings.ports is.peer.id n) taken-length ∙ ap (map blank_arrival) (sym is.is.back)))

  pub took-here : IsHere None (record s { knows = w; own = own_after_put port.0 (map blank_arrival (indices_of put.back.items)) s.own })
  took-here = put-own t c a (map blank_arrival (indices_of put.back.items)) came-is

  quiet : put.offers.wants ≡ [] → is_settled_own (own_of s.id (standing_seen s.fixed w)) ≡ true
  quiet none =
      let items = items_of gots in
      let taken = items_of (take put.took gots) in
      let own = own_of s.id (standing_seen s.fixed s.knows) in
      let said : a.makes.reply ≡ Took taken [] = a.reply_is ∙ ap (λ (ws : List Wanted). Took taken (dests_wanted ws)) none in
      let steps : option_map session_and_reply (made_at (can_put before items) (put_step_at before items) (open_port before.world.ports port.0)) ≡ Some (a.makes.session, Took taken []) =
      subst (λ (r : Reply). option_map session_and_reply (step before (Put port items)) ≡ Some (a.makes.session, r)) said a.makes.steps in
      let here : option_map session_and_reply (made_at (can_put before items) (put_step_at before items) (Some is.port)) ≡ Some (a.makes.session, Took taken []) =
      subst (λ (o : Option Port). option_map session_and_reply (made_at (can_put before items) (put_step_at before items) o) ≡ Some (a.makes.session, Took taken [])) is.here steps in
      let same : own_of s.id (standing_seen s.fixed w) ≡ own_put_at before taken own is.port =
      own-next t a.makes (whose t a.makes refl (put-asks t c))
      ∙ (ap (λ (r : Reply). own_after_entry before (PutKept port (length items)) r own) said
      ∙ ap (λ (o : Option Port). option_map_or (own_put_at before taken own) o own) is.here) in
      ap is_settled_own same ∙ put-none before items taken own a.makes.session is.port is.peer is.there here t.settled

  pub put-ends : {x : Knowing} {shares : Shares} → (put.offers.wants ≡ [] → (x ≡ w) × (shares ≡ record { given = 0; full = 0; gone = 0 })) → (1 ≤ length put.offers.wants → Settles s.fixed w x put.offers.session shares) → Ends s w x shares
  put-ends none some = ends put.offers t (put-asks t c) refl a is.is.offers.stand is.is.offers.entry quiet none some

  pub took-there : {x : Knowing} {shares : Shares} → Ends s w x shares → IsThere None (record s { knows = x; own = own_after_put port.0 (map blank_arrival (indices_of put.back.items)) s.own })
  took-there end = there-settled (here-settled took-here end.settling) end.settled
