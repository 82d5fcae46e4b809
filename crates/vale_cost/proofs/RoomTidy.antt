-- Behind an entry of its own a side's ports differ still, and their rings are rings.
use Rattle.std.proofs.Common.{ℕ, ◌<◌, ◌≤◌, ◌≡◌, ◌⊎◌, inl, inr, Bool, true, false, not, ◌==◌, nat_eq, List, [], ◌∷◌, ◌++◌, map, filter, length, Some, None, refl, sym, ◌∙◌, ap, subst, arith}
use Rattle.std.specs.List.{AllByRecursion as Each, IsDistinct}
use Rattle.std.proofs.lemmas.Bool.{eqb-false, ne_eqb}
use Rattle.std.proofs.lemmas.List.{map-append}
use Rattle.nm_types.specs.declared.id.PortId.{PortId}
use Rattle.nm_types.specs.declared.id.SessionId.{SessionId}
use Rattle.nm_types.specs.declared.id.Side.{Side}
use Rattle.nm_types.specs.declared.id.Side.TheVariants.{Tx, Rx}
use Rattle.nm_types.specs.Names.{is_pipe_name}
use Rattle.nm_types.specs.Positions.{RingState, IsRing, IsRingSize, opened_tx, pushed_slots}
use Rattle.nm_types.specs.Frames.{Frame}
use Rattle.nm_types.specs.Reset.{reset_positions}
use Rattle.nm_types.specs.Slots.{pushed_frames}
use Rattle.nm_types.specs.OwnPorts.{OwnRing, OwnPort, OwnState, Arrival, bytes_at, pushed_in, refusal_in, pushed_on, port_with_id}
use Rattle.nm_types.specs.OwnSyncs.{accepted, opened_port, buffers_of_arrivals, after_exchange, ring_after_send, ring_after_put, ring_after_receive, ring_after_reset, own_after_send, own_after_put, own_after_receive, own_after_reset, own_after_open, own_after_finish}
use Rattle.vale_entry.specs.declared.entry.Ask.{Ask}
use Rattle.vale_entry.specs.declared.entry.Ask.TheVariants.{Enter, Open, Send, Grant, Done, Sync, Reset, Shut, Finish, Leave, Put, PutKept, Get, Watch, Stat}
use Rattle.vale_entry.specs.declared.entry.Reply.{Reply}
use Rattle.vale_entry.specs.declared.entry.Reply.TheVariants as replies
use Rattle.vale_entry.specs.OwnCalls.{offered_items, own_by}
use Rattle.vale_entry.proofs.Each.{each-append}
use Rattle.vale_own.specs.Side.{IsTxCall, IsPutCall, IsOfSide}
use Rattle.vale_own.proofs.SideExchange.{sync-fits}
use Rattle.vale_own.proofs.SideOffers.{accepted-ring}
use Rattle.vale_own.proofs.SideResets.{distinct-filtered}
use Rattle.vale_cost.proofs.RoomViews.{View, AreBelow, below-later, IsRingAt, id_seen, seen, views, with_view, view_if, ids-changed, rings-changed, rings-all, each-id, each-seen, ids-seen, find-seen, seen-tx, seen-rx, seen-exchanged}
use Rattle.vale_cost.proofs.RoomOwn.{ring-is, sent_ring, sent-as, put-as}

-- ---- a change of one ring

module _ (k : ℕ) (own new : OwnState) (id : ℕ) (g : RingState → RingState) (below : AreBelow k (views own)) (same : views new ≡ map (view_if id g) (views own)) where
  apart : IsDistinct nat_eq (map id_seen (map (view_if id g) (views own)))
  apart = rw (ids-changed id g (views own)) below.tidy.apart

  below-ring : (p : OwnPort) (r : OwnRing) → port_with_id own id ≡ Some p → p.tx ≡ Some r → IsRing (g r.ring) → AreBelow k (views new)
  below-ring p r found has is = subst (AreBelow k) (sym same) (record {
    tidy = record { apart = apart; rings = rings-changed id g (views own) (seen p) below.tidy.apart (find-seen id own.ports p found) below.tidy.rings changed };
    ids = each-id id g k (views own) below.ids;
  })
    where
      changed : IsRingAt (with_view g (seen p))
      changed = rw has is

  below-rings : ((ring : RingState) → IsRing ring → IsRing (g ring)) → AreBelow k (views new)
  below-rings keeps = subst (AreBelow k) (sym same) (record {
    tidy = record { apart = apart; rings = rings-all id g keeps (views own) below.tidy.rings };
    ids = each-id id g k (views own) below.ids;
  })

send-below : (k : ℕ) (own : OwnState) (port : PortId) (frames : List Frame) → AreBelow k (views own) → IsTxCall own port.0 (Send port frames) → AreBelow k (views (own_after_send port.0 own))
send-below k own port frames below c =
    let a = sent-as (refusal_in Tx own c.port c.ring) (is_pipe_name c.port.name) c.port.id port (offered_items own c.ring) (pushed_frames (bytes_at own) (pushed_in Tx c.ring)) frames c.is in
    let fits = sync-fits Tx own c.port c.ring a.none in
    let seen-new = seen-tx port.0 ring_after_send sent_ring (λ r. refl) (after_exchange Tx port.0 own).ports ∙ ap (map (view_if port.0 sent_ring)) (seen-exchanged Tx port.0 (pushed_on Tx port.0 own) own.ports) in
    below-ring k own (own_after_send port.0 own) port.0 sent_ring below seen-new c.port c.ring c.found c.has
    (accepted-ring c.ring.ring (ring-is own port.0 c.port c.ring below.tidy c.found c.has) fits (length (pushed_slots c.ring.ring c.ring.ring.head)))

put-below : (k : ℕ) (own : OwnState) (port : PortId) (reply : Reply) (came : List Arrival) → AreBelow k (views own) → IsPutCall own port.0 reply → AreBelow k (views (own_after_put port.0 came own))
put-below k own port reply came below c =
    let call = c.call in
    let a = put-as (refusal_in Tx own call.port call.ring) (is_pipe_name call.port.name) call.port.id (record { 0 = port.0 }) (offered_items own call.ring) c.offered (pushed_frames (bytes_at own) (pushed_in Tx call.ring)) call.is in
    let fits = sync-fits Tx own call.port call.ring a.none in
    let n : ℕ = length (buffers_of_arrivals came) in
    let seen-new = seen-tx port.0 (ring_after_put (buffers_of_arrivals came)) (accepted n) (λ r. refl) (after_exchange Tx port.0 own).ports ∙ ap (map (view_if port.0 (accepted n))) (seen-exchanged Tx port.0 (pushed_on Tx port.0 own) own.ports) in
    below-ring k own (own_after_put port.0 came own) port.0 (accepted n) below seen-new call.port call.ring call.found call.has
    (accepted-ring call.ring.ring (ring-is own port.0 call.port call.ring below.tidy call.found call.has) fits n)

still-below : (k : ℕ) (own new : OwnState) → views new ≡ views own → AreBelow k (views own) → AreBelow k (views new)
still-below k own new same below = subst (AreBelow k) (sym same) below

receive-below : (k : ℕ) (own : OwnState) (id : ℕ) (came : List Arrival) → AreBelow k (views own) → AreBelow k (views (own_after_receive id came own))
receive-below k own id came below =
    still-below k own (own_after_receive id came own) (seen-rx id (ring_after_receive came) (after_exchange Rx id own).ports ∙ seen-exchanged Rx id (pushed_on Rx id own) own.ports) below

reset-is : (ring : RingState) → IsRing ring → IsRing (reset_positions ring)
reset-is ring is = record { is_size = is.is_size; accepted = is.accepted; within = (let w = is.within in let o = is.one_tail in omega (arith, w, o)); one_tail = refl }

reset-below : (k : ℕ) (own : OwnState) (id : ℕ) (side : Side) → AreBelow k (views own) → AreBelow k (views (own_after_reset id side own))
reset-below k own id Rx below = still-below k own (own_after_reset id Rx own) (seen-rx id (ring_after_reset Rx) own.ports) below
reset-below k own id Tx below =
    below-rings k own (own_after_reset id Tx own) id reset_positions below (seen-tx id (ring_after_reset Tx) reset_positions (λ r. refl) own.ports) reset-is

finish-below : (k : ℕ) (own : OwnState) (id : ℕ) (bufs : List ℕ) → AreBelow k (views own) → AreBelow k (views (own_after_finish id bufs own))
finish-below k own id bufs below = record {
  tidy = record {
    apart = rw (ids-seen (filter (λ (p : OwnPort). not (p.id.0 == id)) own.ports)) (distinct-filtered id own.ports (rw (← ids-seen own.ports) below.tidy.apart));
    rings = each-seen IsRingAt (λ (p : OwnPort). not (p.id.0 == id)) own.ports below.tidy.rings;
  };
  ids = each-seen (λ (v : View). v.id ≤ k) (λ (p : OwnPort). not (p.id.0 == id)) own.ports below.ids;
}

-- ---- a port more

abbrev pub SizesFit : Ask → Reply → Type 0
SizesFit (Open session name tx rx extra) replies.Opened = (tx ≡ 0) ⊎ IsRingSize tx
SizesFit _ _ = Unit {0}

distinct-last : (vs : List View) (w : View) (k : ℕ) → Each (λ (v : View). v.id ≤ k) vs → k < w.id → IsDistinct nat_eq (map id_seen vs) → IsDistinct nat_eq (map id_seen (vs ++ w ∷ []))
unfolding IsDistinct
distinct-last [] w k below above apart = (tt, tt)
distinct-last (v ∷ vs) w k below above apart =
    (others vs below.1 apart.0, distinct-last vs w k below.1 above apart.1)
  where
    others : (ws : List View) → Each (λ (x : View). x.id ≤ k) ws → Each (λ y. nat_eq v.id y ≡ false) (map id_seen ws) → Each (λ y. nat_eq v.id y ≡ false) (map id_seen (ws ++ w ∷ []))
    others [] low all = ((ne_eqb v.id w.id (λ e. let less = below.0 in omega (arith, less, e, above))), tt)
    others (x ∷ ws) low all = (all.0, others ws low.1 all.1)

opened-is : (size : ℕ) → IsRingSize size → IsRing (opened_tx size)
opened-is size is =
    let least = is.0 in
    record { is_size = is; accepted = omega (arith, least); within = omega (arith, least); one_tail = refl }

opened-ring : (id : ℕ) (name : List ℕ) (tx rx : ℕ) (bufs : List ℕ) → (tx ≡ 0) ⊎ IsRingSize tx → IsRingAt (seen (opened_port id name tx rx bufs))
opened-ring id name tx rx bufs sized = by (tx == 0) refl sized
  where
    by : (b : Bool) → (tx == 0) ≡ b → (tx ≡ 0) ⊎ IsRingSize tx → IsRingAt (seen (opened_port id name tx rx bufs))
    by true is sized' = rw is tt
    by false is (inr size) = rw is (opened-is tx size)
    by false is (inl none) = absurd (eqb-false tx 0 is none)

open-below : (k number : ℕ) (own : OwnState) (name : List ℕ) (tx rx : ℕ) (came : List Arrival) → k < number → (tx ≡ 0) ⊎ IsRingSize tx → AreBelow k (views own)
    → AreBelow number (views (own_after_open number name tx rx came own))
open-below k number own name tx rx came above sized below =
    subst (AreBelow number) (sym (map-append seen own.ports (new ∷ [])))
    (record {
      tidy = record { apart = distinct-last (views own) (seen new) k below.ids above below.tidy.apart; rings = each-append IsRingAt (views own) (seen new ∷ []) below.tidy.rings (opened-ring number name tx rx (buffers_of_arrivals came) sized, tt) };
      ids = each-append (λ (v : View). v.id ≤ number) (views own) (seen new ∷ []) (below-later k number (views own) (omega (arith, above)) below).ids (omega arith, tt);
    })
  where
    new : OwnPort
    new = opened_port number name tx rx (buffers_of_arrivals came)

opens-below : (k number : ℕ) (session : SessionId) (name : List ℕ) (tx rx extra : ℕ) (reply : Reply) (came : List Arrival) (own : OwnState) → k < number
    → SizesFit (Open session name tx rx extra) reply → AreBelow k (views own) → AreBelow number (views (own_by number (Open session name tx rx extra) reply came own))
opens-below k number session name tx rx extra reply came own above sized below = by reply sized
  where
    still : AreBelow number (views own)
    still = below-later k number (views own) (omega (arith, above)) below

    by : (r : Reply) → SizesFit (Open session name tx rx extra) r → AreBelow number (views (own_by number (Open session name tx rx extra) r came own))
    by replies.Opened fit = open-below k number own name tx rx came above fit below
    by _ fit = still

pub own-below : (k number : ℕ) (ask : Ask) (reply : Reply) (came : List Arrival) (own : OwnState) → k < number → IsOfSide None own ask reply → SizesFit ask reply → AreBelow k (views own)
    → AreBelow number (views (own_by number ask reply came own))
own-below k number ask reply came own above of sized below = by ask of sized
  where
    up : (new : OwnState) → AreBelow k (views new) → AreBelow number (views new)
    up new b = below-later k number (views new) (omega (arith, above)) b

    by : (a : Ask) → IsOfSide None own a reply → SizesFit a reply → AreBelow number (views (own_by number a reply came own))
    by (Enter user) is fit = absurd is
    by (Open session name tx rx extra) is fit = opens-below k number session name tx rx extra reply came own above fit below
    by (Send port frames) is fit = up (own_after_send port.0 own) (send-below k own port frames below is)
    by (Grant origin to) is fit = up own below
    by (Done lease) is fit = up own below
    by (Sync port back) is fit = up (own_after_receive port.0 came own) (receive-below k own port.0 came below)
    by (Reset port side fault) is fit = up (own_after_reset port.0 side own) (reset-below k own port.0 side below)
    by (Shut port) is fit = up own below
    by (Finish port bufs chain) is fit = up (own_after_finish port.0 bufs own) (finish-below k own port.0 bufs below)
    by (Leave session) is fit = absurd is
    by (Put port offered) is fit = up own below
    by (PutKept port offered) is fit = up (own_after_put port.0 came own) (put-below k own port reply came below is)
    by (Get port back) is fit = up (own_after_receive port.0 came own) (receive-below k own port.0 came below)
    by (Watch monitor target sides) is fit = up own below
    by (Stat port) is fit = up own below
