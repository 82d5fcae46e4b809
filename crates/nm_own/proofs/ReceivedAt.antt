-- A frame that comes to the port at a known place: that port has room for it, and it alone changes.
use Rattle.std.proofs.Common.{ℕ, ◌≡◌, ◌<◌, true, List, ◌∷◌, ◌++◌, map, set, Option, Some, None, inl, inr, refl, sym, ◌∙◌, ap, subst, arith}
use Rattle.std.specs.Prelude.{slice_get, slice_index_or}
use Rattle.std.specs.Option.{option_map_or}
use Rattle.std.specs.Vec.{vec_len}
use Rattle.std.proofs.lemmas.Option.{slice_get_cases, get_or_from_slice_get}
use Rattle.nm_types.specs.declared.id.PortId.{PortId}
use Rattle.nm_types.specs.declared.id.Side.TheVariants.{Rx}
use Rattle.nm_hold.specs.Offsets.{ArePortsOnce}
use Rattle.nm_port.specs.declared.port.UserPort.{UserPort}
use Rattle.nm_port.specs.RingSlots.{RingSlots}
use Rattle.nm_port.specs.Own.{slots_at}
use Rattle.nm_port.specs.Receives.{can_receive}
use Rattle.nm_port.specs.Regions.{SideState, side_seen}
use Rattle.nm_own.specs.declared.own.OwnSide.TheInside.{Inside}
use Rattle.nm_own.specs.Kept.{IsKept}
use Rattle.nm_own.specs.LentSlots.{index_of_port}
use Rattle.nm_own.specs.PortPlaces.{place_with_id}
use Rattle.nm_own.proofs.OnePort.{changed_are, changed_if}
use Rattle.nm_own.proofs.PortPlaces.{place_seen}
use Rattle.nm_own.proofs.Published.{Receives, receives_of, cannot_receive, others}
use Rattle.nm_own.proofs.SlotsLent.{first_changed, first_is}

module _ (o : Inside) (kept : IsKept o) (side : SideState) (seen : side_seen o.hold o.ports.items ≡ side) (id : PortId) (at : ℕ) (place : at ≡ place_with_id side.own id.0)
    (room : can_receive id.0 side.own ≡ true) where
  abbrev ports : List UserPort
  ports = o.ports.items

  at_first : at ≡ index_of_port id.0 ports
  at_first = place ∙ (ap (λ (s : SideState). place_with_id s.own id.0) (sym seen) ∙ place_seen o.hold ports id.0)

  record IsThere : Type 0 where
    p : UserPort
    receives : Receives o.hold ports id p p.rx
    there : slice_get ports at ≡ Some p

  is_there : IsThere
  is_there = by_ring (slots_at Rx ports id.0) refl
    where
      has : can_receive id.0 (side_seen o.hold ports).own ≡ true
      has = ap (λ (s : SideState). can_receive id.0 s.own) seen ∙ room

      by_ring : (r : Option RingSlots) → slots_at Rx ports id.0 ≡ r → IsThere
      by_ring None e = absurd (cannot_receive o.hold ports id.0 e has)
      by_ring (Some r) e =
          let x = receives_of o id r kept e has in
          record {
            p = x.0;
            receives = subst (λ (t : RingSlots). Receives o.hold ports id x.0 t) (sym x.1.on) x.1;
            there = ap (slice_get ports) at_first ∙ (first_is id.0 ports ∙ x.1.has.found);
          }

  pub within : at < vec_len o.ports
  within = elim (slice_get_cases ports at).1 [
    | inl found ↦ (let size = o.ports.ok.0 in let below = found.1 in omega (arith, size, below))
    | inr beyond ↦ absurd (no_some is_there.p (sym beyond.1 ∙ is_there.there))
  ]
    where
      no_some : (p : UserPort) → None ≡ Some p → ⊥
      no_some p e = cc

  module _ (p : UserPort) (here : p ≡ slice_index_or ports at p) where
    same_port : p ≡ is_there.p
    same_port = here ∙ get_or_from_slice_get ports at is_there.p p is_there.there

    pub receives_here : Receives o.hold ports id p p.rx
    receives_here = subst (λ (q : UserPort). Receives o.hold ports id q q.rx) (sym same_port) is_there.receives

  -- another port in its place stands among the same others
  pub set_there : (p : UserPort) (x : Receives o.hold ports id p p.rx) (q : UserPort) → set ports at q ≡ (others o.hold ports id p p.rx x).before ++ q ∷ (others o.hold ports id p p.rx x).behind
  set_there p x q =
      let m = others o.hold ports id p p.rx x in
      let change : UserPort → UserPort = (λ y. q) in
      let once : ArePortsOnce _ = subst ArePortsOnce kept.places kept.hold.once in
      let first = index_of_port id.0 ports in
      let found : slice_get ports first ≡ Some p = first_is id.0 ports ∙ x.has.found in
      ap (λ (k : ℕ). set ports k q) at_first
      ∙ (sym (ap (λ (f : Option UserPort). option_map_or (λ (y : UserPort). set ports first q) f ports) found)
      ∙ (first_changed id.0 change ports once
      ∙ (ap (map (changed_if id.0 change)) m.are ∙ changed_are id.0 change m.before m.behind p m.first m.rest (ap (λ (i : PortId). i.0) x.has.same_id))))
