-- One port of a session changed: its own places are filled and named as it says, those of the other
-- ports as they were.
use Rattle.std.proofs.Common.{ℕ, ◌≡◌, ◌≤◌, ◌+◌, subst, ◌||◌, Bool, false, nat_eq, if◌then◌else◌, List, [], ◌∷◌, ◌++◌, map, replicate, Some, inl, inr, refl, sym, ◌∙◌, ap}
use Rattle.std.specs.Prelude.{is_some}
use Rattle.std.specs.List.{AllByRecursion}
use Rattle.std.proofs.lemmas.Bool.{cases_Bool}
use Rattle.std.proofs.lemmas.List.Folds.{list_any-append}
use Rattle.std.proofs.lemmas.Option.{same_Some}
use Rattle.nm_types.specs.declared.id.PortId.{PortId}
use Rattle.nm_types.specs.declared.id.Side.TheVariants.{Rx}
use Rattle.nm_types.specs.declared.place.Place.{Place}
use Rattle.nm_types.specs.Places.{is_same_place}
use Rattle.nm_types.specs.Positions.{IsRing}
use Rattle.nm_types.specs.OwnPorts.{OwnPort, port_if}
use Rattle.nm_types.proofs.Tests.{or_none, same_true, turned}
use Rattle.nm_hold.specs.declared.standing.Standing.{Standing}
use Rattle.nm_hold.specs.declared.table.PortPlaces.{PortPlaces}
use Rattle.nm_hold.specs.Offsets.{count_of, ArePortsOnce}
use Rattle.nm_hold.specs.Holds.{HoldState, buffers_of, index_at, standing_at, port_of, IsHold}
use Rattle.nm_hold.proofs.Spots.{nat_eq-is}
use Rattle.nm_port.specs.declared.port.UserPort.{UserPort}
use Rattle.nm_own.specs.declared.own.OwnSide.TheInside.{Inside}
use Rattle.nm_port.specs.Own.{port_seen, port_at, named_places_of, named_places, is_filled, is_filled_in, places_of_port, AreFlagged, AreSided, AreRings, AreWhole, IsTxSide, IsRingIf, HaveBackRoom}
use Rattle.nm_own.specs.Kept.{IsKept}
use Rattle.nm_port.specs.Exchanges.{is_among}
use Rattle.nm_port.proofs.PortOut.{IsOther, rest_other}
use Rattle.nm_own.proofs.Opening.{unfilled_in, unfilled}
use Rattle.nm_own.proofs.Closing.{named_of_port, none_same}

-- a port among others, none of which has its id
pub record Among (ports : List UserPort) (id : ℕ) (p : UserPort) : Type 0 where
  pub before : List UserPort
  pub behind : List UserPort
  pub are : ports ≡ before ++ p ∷ behind
  pub first : AllByRecursion (IsOther id) before
  pub rest : AllByRecursion (IsOther id) behind

pub among : (ports : List UserPort) (id : ℕ) (p : UserPort) → port_at ports id ≡ Some p → ArePortsOnce (map places_of_port ports) → Among ports id p
among [] id p found once = absurd cc
among (x ∷ ports) id p found once = elim (cases_Bool (nat_eq x.id.0 id)) [
  | inl here ↦ (let is : x ≡ p = same_Some x p (rw here at found) in
      record { before = []; behind = ports; are = ap (λ (y : UserPort). y ∷ ports) is; first = tt; rest = rest_other ports id (rw (nat_eq-is x.id.0 id here) at once.0) })
  | inr other ↦ (let m = among ports id p (rw other at found) once.1 in
      record { before = x ∷ m.before; behind = m.behind; are = ap (λ (xs : List UserPort). x ∷ xs) m.are; first = (other, m.first); rest = m.rest })
]

-- a port that is changed if it has the id
module _ (id : ℕ) (change : UserPort → UserPort) where
  abbrev pub changed_if : UserPort → UserPort
  changed_if p = if nat_eq p.id.0 id then change p else p

  pub others_stay : (ports : List UserPort) → AllByRecursion (IsOther id) ports → map changed_if ports ≡ ports
  others_stay [] other = refl
  others_stay (p ∷ ports) other = rw other.0 (ap (λ (xs : List UserPort). p ∷ xs) (others_stay ports other.1))

  pub changed_are : (before behind : List UserPort) (p : UserPort) → AllByRecursion (IsOther id) before → AllByRecursion (IsOther id) behind → p.id.0 ≡ id
      → map changed_if (before ++ p ∷ behind) ≡ before ++ change p ∷ behind
  changed_are [] behind p first rest same = rw (same_true p.id.0 id same) (ap (λ (xs : List UserPort). change p ∷ xs) (others_stay behind rest))
  changed_are (x ∷ before) behind p first rest same = rw first.0 (ap (λ (xs : List UserPort). x ∷ xs) (changed_are before behind p first.1 rest same))

-- its places, and those of the others
module _ (id : ℕ) where
  pub filled_at : (before behind : List UserPort) (x : UserPort) (q : Place) → AllByRecursion (IsOther id) before → AllByRecursion (IsOther id) behind → port_of q ≡ id → is_filled (before ++ x ∷ behind) q ≡ is_filled_in q x
  filled_at [] behind x q first rest at = rw (unfilled behind id q at rest) (or_none (is_filled_in q x))
  filled_at (y ∷ before) behind x q first rest at = rw (unfilled_in y id q at first.0) (filled_at before behind x q first.1 rest at)

  not_its : (x : UserPort) (q : Place) → x.id.0 ≡ id → nat_eq (port_of q) id ≡ false → is_filled_in q x ≡ false
  not_its x q same other = unfilled_in x (port_of q) q refl (rw same (turned (port_of q) id other))

  pub filled_alike : (before behind : List UserPort) (x y : UserPort) (q : Place) → x.id.0 ≡ id → y.id.0 ≡ id → nat_eq (port_of q) id ≡ false → is_filled (before ++ x ∷ behind) q ≡ is_filled (before ++ y ∷ behind) q
  filled_alike [] behind x y q one two other = rw (not_its x q one other, not_its y q two other) refl
  filled_alike (z ∷ before) behind x y q one two other = ap (λ (b : Bool). is_filled_in q z || b) (filled_alike before behind x y q one two other)

  not_named : (x : UserPort) (q : Place) → nat_eq (port_of q) x.id.0 ≡ false → is_among (named_places_of x) q ≡ false
  not_named x q other = none_same (named_places_of x) x.id.0 q (named_of_port x) other

  none_named : (ports : List UserPort) (q : Place) → port_of q ≡ id → AllByRecursion (IsOther id) ports → is_among (named_places ports) q ≡ false
  none_named [] q at other = refl
  none_named (x ∷ ports) q at other =
      list_any-append (λ y. is_same_place y q) (named_places_of x) (named_places ports)
      ∙ rw (not_named x q (rw at (turned x.id.0 id other.0)), none_named ports q at other.1) refl

  pub named_at : (before behind : List UserPort) (x : UserPort) (q : Place) → AllByRecursion (IsOther id) before → AllByRecursion (IsOther id) behind → port_of q ≡ id
      → is_among (named_places (before ++ x ∷ behind)) q ≡ is_among (named_places_of x) q
  named_at [] behind x q first rest at =
      list_any-append (λ y. is_same_place y q) (named_places_of x) (named_places behind)
      ∙ (ap (λ (b : Bool). is_among (named_places_of x) q || b) (none_named behind q at rest) ∙ or_none (is_among (named_places_of x) q))
  named_at (y ∷ before) behind x q first rest at =
      list_any-append (λ z. is_same_place z q) (named_places_of y) (named_places (before ++ x ∷ behind))
      ∙ (ap (λ (b : Bool). b || is_among (named_places (before ++ x ∷ behind)) q) (not_named y q (rw at (turned y.id.0 id first.0))) ∙ named_at before behind x q first.1 rest at)

  pub named_alike : (before behind : List UserPort) (x y : UserPort) (q : Place) → x.id.0 ≡ id → y.id.0 ≡ id → nat_eq (port_of q) id ≡ false
      → is_among (named_places (before ++ x ∷ behind)) q ≡ is_among (named_places (before ++ y ∷ behind)) q
  named_alike [] behind x y q one two other =
      list_any-append (λ z. is_same_place z q) (named_places_of x) (named_places behind)
      ∙ (ap (λ (b : Bool). b || is_among (named_places behind) q) (not_named x q (rw one other) ∙ sym (not_named y q (rw two other)))
      ∙ sym (list_any-append (λ z. is_same_place z q) (named_places_of y) (named_places behind)))
  named_alike (w ∷ before) behind x y q one two other =
      list_any-append (λ z. is_same_place z q) (named_places_of w) (named_places (before ++ x ∷ behind))
      ∙ (ap (λ (b : Bool). is_among (named_places_of w) q || b) (named_alike before behind x y q one two other)
      ∙ sym (list_any-append (λ z. is_same_place z q) (named_places_of w) (named_places (before ++ y ∷ behind))))

sided_with : (before behind : List UserPort) (p x : UserPort) → IsTxSide x.tx × (x.rx.side ≡ Rx) → AreSided (before ++ p ∷ behind) → AreSided (before ++ x ∷ behind)
sided_with [] behind p x is sided = (is, sided.1)
sided_with (y ∷ before) behind p x is sided = (sided.0, sided_with before behind p x is sided.1)

rings_with : (before behind : List UserPort) (p x : UserPort) → IsRingIf x.tx × IsRing x.rx.ring → AreRings (before ++ p ∷ behind) → AreRings (before ++ x ∷ behind)
rings_with [] behind p x is rings = (is, rings.1)
rings_with (y ∷ before) behind p x is rings = (rings.0, rings_with before behind p x is rings.1)

places_with : (before behind : List UserPort) (p x : UserPort) → places_of_port x ≡ places_of_port p → map places_of_port (before ++ x ∷ behind) ≡ map places_of_port (before ++ p ∷ behind)
places_with [] behind p x same = ap (λ (y : PortPlaces). y ∷ map places_of_port behind) same
places_with (y ∷ before) behind p x same = ap (λ (ys : List PortPlaces). places_of_port y ∷ ys) (places_with before behind p x same)

back_with : (before behind : List UserPort) (p x : UserPort) → places_of_port x ≡ places_of_port p → x.back ≡ p.back → HaveBackRoom (before ++ p ∷ behind) → HaveBackRoom (before ++ x ∷ behind)
back_with [] behind p x sizes back have = (rw back (subst (λ (q : PortPlaces). count_of q.sizes ≤ p.back) (sym sizes) have.0), have.1)
back_with (y ∷ before) behind p x sizes back have = (have.0, back_with before behind p x sizes back have.1)

-- a port with the places of another, and rings on their sides
pub record IsLike (p x : UserPort) : Type 0 where
  pub same_id : x.id ≡ p.id
  pub sizes : places_of_port x ≡ places_of_port p
  pub back : x.back ≡ p.back
  pub sides : IsTxSide x.tx × (x.rx.side ≡ Rx)
  pub rings : IsRingIf x.tx × IsRing x.rx.ring

-- a hold in which the places of the other ports are as they were, and those of this one as its changed port says
pub record ChangesPort (h new : HoldState) (ports : List UserPort) (id : PortId) (p x : UserPort) : Type 0 where
  pub like : IsLike p x
  pub elsewhere : (q : Place) → nat_eq (port_of q) id.0 ≡ false → is_some (index_at new q) ≡ is_some (index_at h q)
  pub filled : (q : Place) → port_of q ≡ id.0 → is_some (index_at new q) ≡ is_filled_in q x
  pub flags_elsewhere : (i : ℕ) (s : Standing) → standing_at new i ≡ Some s → nat_eq (port_of s.home.place) id.0 ≡ false → s.home.named ≡ is_among (named_places ports) s.home.place
  pub flags : (i : ℕ) (s : Standing) → standing_at new i ≡ Some s → port_of s.home.place ≡ id.0 → s.home.named ≡ is_among (named_places_of x) s.home.place
  pub same_ports : new.ports ≡ h.ports
  pub count : buffers_of new ≡ buffers_of h
  pub whole : AreWhole new
  pub is_hold : IsHold new

pub kept_with : (o new : Inside) (id : PortId) (p x : UserPort) → IsKept o → p.id ≡ id → (m : Among o.ports.items id.0 p) → ChangesPort o.hold new.hold o.ports.items id p x
    → new.ports.items ≡ m.before ++ x ∷ m.behind → new.marks ≡ o.marks → IsKept new
kept_with o new id p x kept same m step ports_are marks_are =
    let p_id : p.id.0 ≡ id.0 = ap (λ (i : PortId). i.0) same in
    let x_id : x.id.0 ≡ id.0 = ap (λ (i : PortId). i.0) step.like.same_id ∙ p_id in
    let filled : (q : Place) → is_some (index_at new.hold q) ≡ is_filled (m.before ++ x ∷ m.behind) q = (λ q. elim (cases_Bool (nat_eq (port_of q) id.0)) [
      | inl here ↦ (let at : port_of q ≡ id.0 = nat_eq-is (port_of q) id.0 here in step.filled q at ∙ sym (filled_at id.0 m.before m.behind x q m.first m.rest at))
      | inr other ↦ step.elsewhere q other ∙ (kept.filled q ∙ (ap (λ (all : List UserPort). is_filled all q) m.are ∙ filled_alike id.0 m.before m.behind p x q p_id x_id other))
    ]) in
    let flagged : AreFlagged new.hold (m.before ++ x ∷ m.behind) = (λ i s there. elim (cases_Bool (nat_eq (port_of s.home.place) id.0)) [
      | inl here ↦ (let at : port_of s.home.place ≡ id.0 = nat_eq-is (port_of s.home.place) id.0 here in step.flags i s there at ∙ sym (named_at id.0 m.before m.behind x s.home.place m.first m.rest at))
      | inr other ↦ step.flags_elsewhere i s there other ∙ (ap (λ (all : List UserPort). is_among (named_places all) s.home.place) m.are ∙ named_alike id.0 m.before m.behind p x s.home.place p_id x_id other)
    ]) in
    record {
      sided = rw ports_are (sided_with m.before m.behind p x step.like.sides (rw m.are at kept.sided));
      rings = rw ports_are (rings_with m.before m.behind p x step.like.rings (rw m.are at kept.rings));
      flagged = rw ports_are flagged;
      hold = step.is_hold;
      places = rw ports_are (step.same_ports ∙ (kept.places ∙ (ap (map places_of_port) m.are ∙ sym (places_with m.before m.behind p x step.like.sizes))));
      filled = rw ports_are filled;
      whole = step.whole;
      blank = marks_are ∙ (kept.blank ∙ ap (λ (n : ℕ). replicate (n + 2) false) (sym step.count));
      back = rw ports_are (back_with m.before m.behind p x step.like.sizes step.like.back (rw m.are at kept.back));
    }

-- how it is seen
module _ (was new : HoldState) (id : PortId) (g : OwnPort → OwnPort) (others : (y : UserPort) → IsOther id.0 y → port_seen new y ≡ port_seen was y) where
  seen_others : (ports : List UserPort) → AllByRecursion (IsOther id.0) ports → map (port_seen new) ports ≡ map (port_if id.0 g) (map (port_seen was) ports)
  seen_others [] other = refl
  seen_others (y ∷ ports) other = rw other.0 (ap (λ (z : OwnPort). z ∷ map (port_seen new) ports) (others y other.0) ∙ ap (λ (zs : List OwnPort). port_seen was y ∷ zs) (seen_others ports other.1))

  pub seen_with : (before behind : List UserPort) (p x : UserPort) → AllByRecursion (IsOther id.0) before → AllByRecursion (IsOther id.0) behind → p.id.0 ≡ id.0 → port_seen new x ≡ g (port_seen was p)
      → map (port_seen new) (before ++ x ∷ behind) ≡ map (port_if id.0 g) (map (port_seen was) (before ++ p ∷ behind))
  seen_with [] behind p x first rest same one =
      rw (same_true p.id.0 id.0 same) (ap (λ (z : OwnPort). z ∷ map (port_seen new) behind) one ∙ ap (λ (zs : List OwnPort). g (port_seen was p) ∷ zs) (seen_others behind rest))
  seen_with (y ∷ before) behind p x first rest same one =
      rw first.0 (ap (λ (z : OwnPort). z ∷ map (port_seen new) (before ++ x ∷ behind)) (others y first.0) ∙ ap (λ (zs : List OwnPort). port_seen was y ∷ zs) (seen_with before behind p x first.1 rest same one))

-- the transmit ring of a port that is found
pub tx_side_of : (ports : List UserPort) (id : ℕ) (p : UserPort) → port_at ports id ≡ Some p → AreSided ports → IsTxSide p.tx
tx_side_of [] id p found sided = absurd cc
tx_side_of (x ∷ ports) id p found sided = elim (cases_Bool (nat_eq x.id.0 id)) [
  | inl here ↦ (let is : x ≡ p = same_Some x p (rw here at found) in rw (← is) sided.0.0)
  | inr other ↦ tx_side_of ports id p (rw other at found) sided.1
]

pub tx_ring_of : (ports : List UserPort) (id : ℕ) (p : UserPort) → port_at ports id ≡ Some p → AreRings ports → IsRingIf p.tx
tx_ring_of [] id p found rings = absurd cc
tx_ring_of (x ∷ ports) id p found rings = elim (cases_Bool (nat_eq x.id.0 id)) [
  | inl here ↦ (let is : x ≡ p = same_Some x p (rw here at found) in rw (← is) rings.0.0)
  | inr other ↦ tx_ring_of ports id p (rw other at found) rings.1
]
