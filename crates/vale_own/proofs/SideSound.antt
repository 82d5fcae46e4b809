-- An exchange leaves a side sound: the places of frames that a pipe has not taken keep their buffers.
use Rattle.std.proofs.Common.{ℕ, ◌+◌, ◌<◌, ◌≤◌, ◌≡◌, ◌≢◌, true, false, ◌==◌, nat_eq, List, [], ◌∷◌, ◌++◌, map, flat_map, Option, Some, None, option_map, refl, sym, ◌∙◌, ap, arith, inl, inr}
use Rattle.std.specs.Prelude.{find}
use Rattle.std.specs.List.{AllByRecursion as Each, IsDistinct}
use Rattle.std.proofs.lemmas.Bool.{cases_Bool, eq-eqb}
use Rattle.std.proofs.lemmas.List.{length-map}
use Rattle.nm_types.specs.declared.id.Side.{Side}
use Rattle.nm_types.specs.declared.id.Side.TheVariants.{Tx}
use Rattle.nm_types.specs.Positions.{RingState, IsRing, dist, step_on, pending_slots, user_slots}
use Rattle.nm_types.specs.OwnPorts.{OwnRing, OwnPort, OwnState, ring_on, buffers_in, held_if, named_in, named_of, user_buffers_if, buffer_in, port_with_id, refusal_in}
use Rattle.nm_types.specs.OwnSyncs.{after_exchange}
use Rattle.nm_types.proofs.RingSteps.{dist-below, step_on-below, dist-step_on, dist-add, dist_behind, step_on-step_on}
use Rattle.vale_entry.specs.Holdings.{contains}
use Rattle.vale_entry.proofs.Counting.{count_of, count_of-append, contains-count}
use Rattle.vale_entry.proofs.Each.{each-both, each-unmap}
use Rattle.vale_own.specs.Side.{buffers_on, id_of, IsPending, IsTxRing, IsTxRingIf, IsSoundPort, IsSound}
use Rattle.vale_own.proofs.Trading.{ring_renamed, port_renamed, get-mapped}
use Rattle.vale_own.proofs.SidePlaces.{each-slot, contained-by, count-at, tx-sound, in-port, in-ports, in-either, named-counted, all-named-counted, positions-differ}
use Rattle.vale_own.proofs.SideExchange.{traded, trades, exchanged-ports, exchanged-counts}

-- ports of different ids: each is the one that is found
pub each-found : (ports : List OwnPort) → IsDistinct nat_eq (map id_of ports) → Each (λ (q : OwnPort). find (λ (x : OwnPort). x.id.0 == q.id.0) ports ≡ Some q) ports
unfolding IsDistinct
each-found [] apart = tt
each-found (p ∷ ports) apart = (
  first,
  each-both (λ (q : OwnPort). nat_eq p.id.0 q.id.0 ≡ false) (λ (q : OwnPort). find (λ (x : OwnPort). x.id.0 == q.id.0) ports ≡ Some q) (λ (q : OwnPort). find (λ (x : OwnPort). x.id.0 == q.id.0) (p ∷ ports) ≡ Some q)
      (λ q other found. rw other found) ports (each-unmap (λ (n : ℕ). nat_eq p.id.0 n ≡ false) id_of ports apart.0) (each-found ports apart.1),
)
  where
    first : find (λ (x : OwnPort). x.id.0 == p.id.0) (p ∷ ports) ≡ Some p
    first = let here = eq-eqb p.id.0 p.id.0 refl in rw here refl

-- a pending position is not the user's
pub pending-apart : (ring : RingState) (k j : ℕ) → IsRing ring → k < dist ring.size (step_on ring.size ring.last_tail 1) ring.accepted_head → j < dist ring.size ring.accepted_head ring.last_tail
    → step_on ring.size ring.accepted_head j ≢ step_on ring.size (step_on ring.size ring.last_tail 1) k
pending-apart ring k j is below less same =
    let tail : ring.last_tail < ring.size = (let w = is.within in let o = is.one_tail in omega arith) in
    let behind = dist_behind ring.size ring.accepted_head ring.last_tail is.accepted tail in
    let within = dist-below ring.size ring.accepted_head ring.last_tail is.accepted in
    let steps = step_on-step_on ring.size ring.last_tail 1 k in
    let far = dist-add ring.size ring.accepted_head ring.last_tail (1 + k) is.accepted tail (omega arith) in
    let near = dist-step_on ring.size ring.accepted_head j is.accepted (omega arith) in
    let both : j ≡ dist ring.size ring.accepted_head ring.last_tail + (1 + k) = sym near ∙ (ap (dist ring.size ring.accepted_head) (same ∙ steps) ∙ far) in
    omega (arith, both, less)

-- what holds by the number of a pending slot
pub each-pending : (ring : RingState) (P : ℕ → Type 0) → ((k : ℕ) → k < dist ring.size (step_on ring.size ring.last_tail 1) ring.accepted_head → P (step_on ring.size (step_on ring.size ring.last_tail 1) k)) → Each P (pending_slots ring)
each-pending ring P holds = each-slot P ring.size (step_on ring.size ring.last_tail 1) (dist ring.size (step_on ring.size ring.last_tail 1) ring.accepted_head) holds

module _ (s : OwnState) (sound : IsSound s) (once : (b : ℕ) → count_of b (buffers_on s) ≤ 1) where
  -- so its buffer may not be named
  module _ (id : ℕ) (p : OwnPort) (r : OwnRing) (found : find (λ (q : OwnPort). q.id.0 == id) s.ports ≡ Some p) (has : p.tx ≡ Some r) (sound-p : IsSoundPort p) where
    is : IsTxRing r
    is = tx-sound p r sound-p has

    once-held : (b : ℕ) → count_of b r.held ≤ 1
    once-held b = let one = once b in let two = in-ports id s.ports p b found in let three = in-port Tx p r b has in omega (arith, one, two, three)

    not-in-port : (k : ℕ) → k < dist r.ring.size (step_on r.ring.size r.ring.last_tail 1) r.ring.accepted_head
        → contains (buffer_in Tx r (step_on r.ring.size (step_on r.ring.size r.ring.last_tail 1) k)) (named_in p) ≡ true → ⊥
    not-in-port k below e =
        let at = step_on r.ring.size (step_on r.ring.size r.ring.last_tail 1) k in
        let b = buffer_in Tx r at in
        let tail : r.ring.last_tail < r.ring.size = (let w = is.positions.within in let o = is.positions.one_tail in omega arith) in
        let inside : at < r.ring.size = step_on-below r.ring.size (step_on r.ring.size r.ring.last_tail 1) k (step_on-below r.ring.size r.ring.last_tail 1 tail) in
        let long = is.held in
        let here = count-at r.held at (omega (arith, inside, long)) in
        let all = count_of-append b (held_if p.tx) (p.rx.held ++ p.extra) in
        let same : count_of b (held_if p.tx) ≡ count_of b r.held = ap (λ (o : Option OwnRing). count_of b (held_if o)) has in
        in-either ⊥ b (user_buffers_if p.tx) (p.rx.held ++ p.extra)
        (λ first. contained-by ⊥ b (buffer_in Tx r) (λ (x : ℕ). (x < r.ring.size) × (x ≢ at)) (user_slots r.ring)
        (each-slot (λ (x : ℕ). (x < r.ring.size) × (x ≢ at)) r.ring.size r.ring.accepted_head (dist r.ring.size r.ring.accepted_head r.ring.last_tail)
        (λ j less. (step_on-below r.ring.size r.ring.accepted_head j is.positions.accepted, pending-apart r.ring k j is.positions below less)))
        (λ x where_ alike. where_.1 (positions-differ Tx p r x at sound-p has once-held where_.0 inside (let within = where_.0 in omega (arith, within, long)) (omega (arith, inside, long)) alike))
        (rw (← ap user_buffers_if has) first))
        (λ second. let more = contains-count b (p.rx.held ++ p.extra) second in let one = once b in let two = in-ports id s.ports p b found in omega (arith, here, all, same, more, one, two)) e

    held-there : (k : ℕ) → k < dist r.ring.size (step_on r.ring.size r.ring.last_tail 1) r.ring.accepted_head
        → 1 ≤ count_of (buffer_in Tx r (step_on r.ring.size (step_on r.ring.size r.ring.last_tail 1) k)) (buffers_in p)
    held-there k below =
        let at = step_on r.ring.size (step_on r.ring.size r.ring.last_tail 1) k in
        let tail : r.ring.last_tail < r.ring.size = (let w = is.positions.within in let o = is.positions.one_tail in omega arith) in
        let inside : at < r.ring.size = step_on-below r.ring.size (step_on r.ring.size r.ring.last_tail 1) k (step_on-below r.ring.size r.ring.last_tail 1 tail) in
        let long = is.held in
        let here = count-at r.held at (omega (arith, inside, long)) in
        let port = in-port Tx p r (buffer_in Tx r at) has in
        omega (arith, here, port)

    not-named : (k : ℕ) → k < dist r.ring.size (step_on r.ring.size r.ring.last_tail 1) r.ring.accepted_head
        → contains (buffer_in Tx r (step_on r.ring.size (step_on r.ring.size r.ring.last_tail 1) k)) (named_of s) ≡ false
    not-named k below = elim (cases_Bool (contains (buffer_in Tx r (step_on r.ring.size (step_on r.ring.size r.ring.last_tail 1) k)) (named_of s))) [
      | inl held ↦ absurd (over s.ports found sound.each (once b) held)
      | inr other ↦ other
    ]
      where
        b : ℕ
        b = buffer_in Tx r (step_on r.ring.size (step_on r.ring.size r.ring.last_tail 1) k)

        over : (ports : List OwnPort) → find (λ (q : OwnPort). q.id.0 == id) ports ≡ Some p → Each IsSoundPort ports → count_of b (flat_map buffers_in ports) ≤ 1 → contains b (flat_map named_in ports) ≡ true → ⊥
        over [] e each one has-it = absurd cc
        over (q ∷ ports) e each one has-it =
            let all = count_of-append b (buffers_in q) (flat_map buffers_in ports) in
            let here = held-there k below in
            elim (cases_Bool (q.id.0 == id)) [
              | inl at ↦ (let same : q ≡ p = (let first : Some q ≡ Some p = rw at at e in cc) in
                  let count : count_of b (buffers_in q) ≡ count_of b (buffers_in p) = ap (λ (x : OwnPort). count_of b (buffers_in x)) same in
                  in-either ⊥ b (named_in q) (flat_map named_in ports) (λ first. not-in-port k below (rw (← same) first))
                  (λ later. let more = all-named-counted ports b each.1 later in omega (arith, all, one, here, count, more)) has-it)
              | inr other ↦ (let rest : find (λ (x : OwnPort). x.id.0 == id) ports ≡ Some p = rw other at e in
                  let there = in-ports id ports p b rest in
                  in-either ⊥ b (named_in q) (flat_map named_in ports) (λ first. let more = named-counted q b each.0 first in omega (arith, all, one, here, there, more))
                  (λ later. over ports rest each.1 (omega (arith, all, one)) later) has-it)
            ]

  -- a renaming of buffers that may be named leaves each port sound
  module _ (g : ℕ → ℕ) (fixed : (b : ℕ) → contains b (named_of s) ≡ false → g b ≡ b) where
    pub renamed-tx : (p : OwnPort) (o : Option OwnRing) → find (λ (q : OwnPort). q.id.0 == p.id.0) s.ports ≡ Some p → IsSoundPort p → p.tx ≡ o → IsTxRingIf o → IsTxRingIf (option_map (ring_renamed g) o)
    renamed-tx p None found sound-p has is = tt
    renamed-tx p (Some r) found sound-p has is = record {
      positions = is.positions;
      slots = is.slots;
      held = length-map r.held g ∙ is.held;
      pending = both (pending_slots r.ring) is.pending stays;
    }
      where
        IsStill : ℕ → Type 0
        IsStill at = buffer_in Tx (ring_renamed g r) at ≡ buffer_in Tx r at

        stays : Each (λ (at : ℕ). buffer_in Tx (ring_renamed g r) at ≡ buffer_in Tx r at) (pending_slots r.ring)
        stays = each-pending r.ring (λ (at : ℕ). buffer_in Tx (ring_renamed g r) at ≡ buffer_in Tx r at) (λ k below.
            let at = step_on r.ring.size (step_on r.ring.size r.ring.last_tail 1) k in
            let tail : r.ring.last_tail < r.ring.size = (let w = is.positions.within in let o = is.positions.one_tail in omega arith) in
            let inside : at < r.ring.size = step_on-below r.ring.size (step_on r.ring.size r.ring.last_tail 1) k (step_on-below r.ring.size r.ring.last_tail 1 tail) in
            let long = is.held in
            get-mapped g r.held at (omega (arith, inside, long)) ∙ fixed (buffer_in Tx r at) (not-named p.id.0 p r found has sound-p k below))

        both : (ats : List ℕ) → Each (IsPending r) ats → Each (λ (at : ℕ). buffer_in Tx (ring_renamed g r) at ≡ buffer_in Tx r at) ats → Each (IsPending (ring_renamed g r)) ats
        both [] ps qs = tt
        both (at ∷ ats) ps qs = (record { named = ps.0.named ∙ sym qs.0; fits = ps.0.fits }, both ats ps.1 qs.1)

    renamed-sound : Each IsSoundPort (map (port_renamed g) s.ports)
    renamed-sound = over s.ports sound.each (each-found s.ports sound.apart)
      where
        over : (ports : List OwnPort) → Each IsSoundPort ports → Each (λ (p : OwnPort). find (λ (q : OwnPort). q.id.0 == p.id.0) s.ports ≡ Some p) ports → Each IsSoundPort (map (port_renamed g) ports)
        over [] each found = tt
        over (p ∷ ports) each found = (
          record {
            tx = renamed-tx p p.tx found.0 each.0 refl each.0.tx;
            rx = record { positions = each.0.rx.positions; slots = each.0.rx.slots; held = length-map p.rx.held g ∙ each.0.rx.held };
          },
          over ports each.1 found.1,
        )

pub renamed-ids : (g : ℕ → ℕ) (ports : List OwnPort) → map id_of (map (port_renamed g) ports) ≡ map id_of ports
renamed-ids g [] = refl
renamed-ids g (p ∷ ports) = ap (λ (ids : List ℕ). p.id.0 ∷ ids) (renamed-ids g ports)

find-renamed : (g : ℕ → ℕ) (id : ℕ) (ports : List OwnPort) (p : OwnPort) → find (λ (q : OwnPort). q.id.0 == id) ports ≡ Some p → find (λ (q : OwnPort). q.id.0 == id) (map (port_renamed g) ports) ≡ Some (port_renamed g p)
find-renamed g id [] p found = absurd cc
find-renamed g id (q ∷ ports) p found = elim (cases_Bool (q.id.0 == id)) [
  | inl here ↦ (let is : q ≡ p = (let first : Some q ≡ Some p = rw here at found in cc) in rw here (ap (λ (x : OwnPort). Some (port_renamed g x)) is))
  | inr other ↦ rw other (find-renamed g id ports p (rw other at found))
]

-- the side after the exchange of a push that no check refuses
pub record Exchanged (side : Side) (id : ℕ) (s : OwnState) (p : OwnPort) (g : ℕ → ℕ) : Type 0 where
  pub sound : IsSound (after_exchange side id s)
  pub ports : (after_exchange side id s).ports ≡ map (port_renamed g) s.ports
  pub found : port_with_id (after_exchange side id s) id ≡ Some (port_renamed g p)

pub exchanged : (side : Side) (id : ℕ) (s : OwnState) (p : OwnPort) (r : OwnRing) (sound : IsSound s) (once : (b : ℕ) → count_of b (buffers_on s) ≤ 1) (found : port_with_id s id ≡ Some p) (has : ring_on side p ≡ Some r) (passes : refusal_in side s p r ≡ None)
    → Exchanged side id s p (traded side id s p r sound once found has passes)
exchanged side id s p r sound once found has passes =
    let g = traded side id s p r sound once found has passes in
    let ports = exchanged-ports side id s p r sound once found has passes in
    let counts = exchanged-counts side id s p r sound once found has passes in
    record {
      sound = record {
        each = rw ports (renamed-sound s sound once g (trades side id s p r sound once found has passes).fixed);
        apart = rw (ap (map id_of) ports ∙ renamed-ids g s.ports) sound.apart;
        cells = sound.cells;
        blank = λ b none. sound.blank b (sym (counts b) ∙ none);
      };
      ports = ports;
      found = rw ports (find-renamed g id s.ports p found);
    }
