-- What a send makes of a session's side.
use Rattle.std.proofs.Common.{ℕ, ◌≤◌, ◌≡◌, ◌==◌, List, [], ◌∷◌, ◌++◌, map, length, Option, Some, None, option_map, refl, ◌∙◌, ap, ap₂, arith}
use Rattle.std.specs.Prelude.{find}
use Rattle.std.proofs.lemmas.List.{length-map}
use Rattle.nm_types.specs.declared.id.Side.{Side}
use Rattle.nm_types.specs.declared.id.Side.TheVariants.{Tx, Rx}
use Rattle.nm_types.specs.Positions.{dist, pending_slots, pushed_slots}
use Rattle.nm_types.specs.OwnPorts.{OwnRing, OwnPort, OwnState, buffers_in, port_with_id, with_ring_on, refusal_in}
use Rattle.nm_types.specs.OwnSyncs.{ring_after_send, own_after_send, after_exchange}
use Rattle.nm_types.proofs.RingSteps.{length-slots_from}
use Rattle.vale_entry.specs.World.{Port}
use Rattle.vale_entry.proofs.Counting.{count_of}
use Rattle.vale_entry.proofs.Each.{each-weaker, each-drop, each-find}
use Rattle.vale_own.specs.Side.{buffers_on, size_if, port_of_side, IsPending, IsTxRing, IsSoundPort, IsSound}
use Rattle.vale_own.proofs.Trading.{ring_renamed, port_renamed}
use Rattle.vale_own.proofs.SideExchange.{traded, fits, exchanged-counts}
use Rattle.vale_own.proofs.SideSound.{Exchanged, exchanged}
use Rattle.vale_own.proofs.SideOffers.{exchanged-is, offered-pending, accepted-ring, left-pending, pushed-length, slot-seen}
use Rattle.vale_own.proofs.SideMoves.{changed-each, changed-ids, changed-counts, changed-same, Moved}

-- ports are seen alike whatever stands in their places
pub renamed-seen : (session : ℕ) (shut : Option ℕ) (h : ℕ → ℕ) (ports : List OwnPort) → map (port_of_side session shut) (map (port_renamed h) ports) ≡ map (port_of_side session shut) ports
renamed-seen session shut h [] = refl
renamed-seen session shut h (p ∷ ports) = ap₂ (λ (x : Port) (xs : List Port). x ∷ xs) here (renamed-seen session shut h ports)
  where
    sizes : (o : Option OwnRing) → size_if (option_map (ring_renamed h) o) ≡ size_if o
    sizes None = refl
    sizes (Some r) = refl

    here : port_of_side session shut (port_renamed h p) ≡ port_of_side session shut p
    here = rw (sizes p.tx, length-map p.extra h, length-map p.rx.held h) refl

-- and after a change of transmit rings that keeps their sizes
pub tx-seen : (session : ℕ) (shut : Option ℕ) (f : OwnRing → OwnRing) → ((r : OwnRing) → (f r).ring.size ≡ r.ring.size) → (q : OwnPort) → port_of_side session shut (with_ring_on Tx f q) ≡ port_of_side session shut q
tx-seen session shut f keeps q = rw (sizes q.tx) refl
  where
    sizes : (o : Option OwnRing) → size_if (option_map f o) ≡ size_if o
    sizes None = refl
    sizes (Some r) = keeps r

pub ring-keeps-id : (side : Side) (f : OwnRing → OwnRing) (q : OwnPort) → (with_ring_on side f q).id ≡ q.id
ring-keeps-id Tx f q = refl
ring-keeps-id Rx f q = refl

module _ (id : ℕ) (s : OwnState) (p : OwnPort) (r : OwnRing) (sound : IsSound s) (once : (b : ℕ) → count_of b (buffers_on s) ≤ 1) (found : port_with_id s id ≡ Some p) (has : p.tx ≡ Some r) (passes : refusal_in Tx s p r ≡ None) where
  abbrev to : ℕ → ℕ
  to = traded Tx id s p r sound once found has passes

  traded-side : Exchanged Tx id s p to
  traded-side = exchanged Tx id s p r sound once found has passes

  now-has : (port_renamed to p).tx ≡ Some (ring_renamed to r)
  now-has = ap (option_map (ring_renamed to)) has

  sent-ring : IsTxRing (ring_after_send (ring_renamed to r))
  sent-ring =
      let is = exchanged-is id s p r sound once found has passes in
      let in-reach = fits Tx id s p r sound once found has passes in
      let n = length (pushed_slots r.ring r.ring.head) in
      let count : n ≡ dist r.ring.size r.ring.accepted_head r.ring.head = length-slots_from r.ring.size r.ring.accepted_head (dist r.ring.size r.ring.accepted_head r.ring.head) in
      record {
        positions = accepted-ring r.ring is.positions in-reach n;
        slots = pushed-length (pushed_slots r.ring r.ring.head) r.slots ∙ is.slots;
        held = is.held;
        pending = rw (left-pending r.ring is.positions in-reach n (omega (arith, count)))
            (each-drop (IsPending (ring_after_send (ring_renamed to r))) n (pending_slots r.ring ++ pushed_slots r.ring r.ring.head)
            (each-weaker (IsPending (ring_renamed to r)) (IsPending (ring_after_send (ring_renamed to r))) still (pending_slots r.ring ++ pushed_slots r.ring r.ring.head) (offered-pending id s p r sound once found has passes)));
      }
    where
      still : (at : ℕ) → IsPending (ring_renamed to r) at → IsPending (ring_after_send (ring_renamed to r)) at
      still at k = record {
        named = slot-seen (λ x. x.buf_idx) (λ x. refl) r.ring r.slots at ∙ k.named;
        fits = (let same = slot-seen (λ x. x.len) (λ x. refl) r.ring r.slots at in let le = k.fits in omega (arith, same, le));
      }

  pub sent-moved : Moved s (own_after_send id s) [] []
  sent-moved = record {
    pool_is = refl;
    each = changed-each id (with_ring_on Tx ring_after_send) (after_exchange Tx id s).ports (port_renamed to p) traded-side.sound.apart traded-side.found traded-side.sound.each
        (record { tx = rw now-has sent-ring; rx = (sound-of (port_renamed to p) traded-side.found).rx });
    apart = rw (changed-ids id (with_ring_on Tx ring_after_send) (ring-keeps-id Tx ring_after_send) (after_exchange Tx id s).ports) traded-side.sound.apart;
    bytes = refl;
    less = λ b. omega arith;
    moved = λ b.
        let same = exchanged-counts Tx id s p r sound once found has passes b in
        let held : count_of b (buffers_in (with_ring_on Tx ring_after_send (port_renamed to p))) ≡ count_of b (buffers_in (port_renamed to p)) = rw now-has refl in
        let all = changed-counts id (with_ring_on Tx ring_after_send) b 0 0 (after_exchange Tx id s).ports (port_renamed to p) traded-side.sound.apart traded-side.found (omega (arith, held)) in
        omega (arith, same, all);
  }
    where
      sound-of : (q : OwnPort) → find (λ (x : OwnPort). x.id.0 == id) (after_exchange Tx id s).ports ≡ Some q → IsSoundPort q
      sound-of q e = each-find IsSoundPort (λ (x : OwnPort). x.id.0 == id) (after_exchange Tx id s).ports q traded-side.sound.each e

  pub sent-ports : (session : ℕ) (shut : Option ℕ) → map (port_of_side session shut) (own_after_send id s).ports ≡ map (port_of_side session shut) s.ports
  sent-ports session shut =
      changed-same id (with_ring_on Tx ring_after_send) (port_of_side session shut) (tx-seen session shut ring_after_send (λ r. refl)) (after_exchange Tx id s).ports
      ∙ (ap (map (port_of_side session shut)) traded-side.ports ∙ renamed-seen session shut to s.ports)
