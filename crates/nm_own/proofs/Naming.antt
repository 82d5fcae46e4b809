-- The named buffers of a hold are those that its places of the user hold.
use Rattle.std.proofs.Common.{ℕ, ◌≡◌, ◌≤◌, Bool, true, false, nat_eq, List, [], ◌∷◌, ◌++◌, map, Option, Some, None, option_map, refl, sym, ◌∙◌, ap, arith}
use Rattle.std.specs.Prelude.{unwrap_or}
use Rattle.std.specs.List.{list_any, range_with_len}
use Rattle.std.proofs.lemmas.List.{map-append}
use Rattle.nm_types.specs.declared.id.PortId.{PortId}
use Rattle.nm_types.specs.declared.id.Side.{Side}
use Rattle.nm_types.specs.declared.id.Side.TheVariants.{Tx, Rx}
use Rattle.nm_types.specs.declared.place.Place.{Place}
use Rattle.nm_types.specs.declared.place.Place.TheVariants as place
use Rattle.nm_types.specs.Positions.{user_slots, dist}
use Rattle.nm_types.specs.Places.{is_same_place}
use Rattle.nm_types.specs.SyncChecks.{contains_index}
use Rattle.nm_types.specs.OwnPorts.{buffer_in, named_in, named_of, user_buffers_if}
use Rattle.nm_types.proofs.Tests.{false_true, same_true}
use Rattle.nm_hold.specs.declared.standing.Standing.{Standing}
use Rattle.nm_hold.specs.Holds.{HoldState, index_at, standing_at, stands_at, is_named_in, IsHold}
use Rattle.nm_hold.proofs.Spots.{nat_eq-is, same_place-is}
use Rattle.nm_port.specs.declared.port.UserPort.{UserPort}
use Rattle.nm_port.specs.RingSlots.{RingSlots}
use Rattle.nm_port.specs.Sides.{place_on, number_at, AreNamed}
use Rattle.nm_port.specs.Own.{positions_of, number_on, extra_number_at, ring_seen, port_seen, own_seen, named_ring_places, named_tx_places, named_places_of, named_places, AreFlagged, IsTxSide, AreSided, IsRingIf, AreRings}
use Rattle.nm_port.proofs.Seeing.{map-slots, buffer_seen}

same_bool : (a b : Bool) → (a ≡ true → b ≡ true) → (b ≡ true → a ≡ true) → a ≡ b
same_bool true b f g = sym (f refl)
same_bool false true f g = g refl
same_bool false false f g = refl

map-map : {X Y Z : Type 0} (f : Y → Z) (g : X → Y) (xs : List X) → map f (map g xs) ≡ map (λ x. f (g x)) xs
map-map f g [] = refl
map-map {Z = Z} f g (x ∷ xs) = ap (λ (zs : List Z). f (g x) ∷ zs) (map-map f g xs)

-- the index in a place, and the buffer that stands there
index_is : (o : Option ℕ) (idx : ℕ) → 2 ≤ idx → nat_eq (unwrap_or o 0) idx ≡ true → o ≡ Some idx
index_is None idx low e = absurd (let same : 0 ≡ idx = nat_eq-is 0 idx e in omega arith)
index_is (Some n) idx low e = ap (λ (i : ℕ). Some i) (nat_eq-is n idx e)

holds_there : (h : HoldState) (q : Place) (idx : ℕ) (s : Standing) → IsHold h → 2 ≤ idx → standing_at h idx ≡ Some s → nat_eq (number_at h q) idx ≡ is_same_place q s.home.place
holds_there h q idx s is low there = same_bool (nat_eq (number_at h q) idx) (is_same_place q s.home.place)
    (λ e. ap (stands_at q) (sym there) ∙ is.held q idx (index_is (index_at h q) idx low e))
    (λ e. (let same : q ≡ s.home.place = same_place-is q s.home.place e in
    let index : index_at h q ≡ Some idx = ap (index_at h) same ∙ (is.standing idx s there).there in
    rw index (same_true idx idx refl)))

not_there : (h : HoldState) (q : Place) (idx : ℕ) → IsHold h → 2 ≤ idx → standing_at h idx ≡ None → nat_eq (number_at h q) idx ≡ false
not_there h q idx is low none = by_test (nat_eq (number_at h q) idx) refl
  where
    by_test : (b : Bool) → nat_eq (number_at h q) idx ≡ b → b ≡ false
    by_test true e = false_true (ap (stands_at q) (sym none) ∙ is.held q idx (index_is (index_at h q) idx low e))
    by_test false e = refl

-- an index among those of some places
any_there : (h : HoldState) (qs : List Place) (idx : ℕ) (s : Standing) → IsHold h → 2 ≤ idx → standing_at h idx ≡ Some s
    → contains_index (map (number_at h) qs) idx ≡ list_any (λ q. is_same_place q s.home.place) qs
any_there h [] idx s is low there = refl
any_there h (q ∷ qs) idx s is low there = rw (holds_there h q idx s is low there, any_there h qs idx s is low there) refl

none_there : (h : HoldState) (qs : List Place) (idx : ℕ) → IsHold h → 2 ≤ idx → standing_at h idx ≡ None → contains_index (map (number_at h) qs) idx ≡ false
none_there h [] idx is low none = refl
none_there h (q ∷ qs) idx is low none = rw (not_there h q idx is low none, none_there h qs idx is low none) refl

-- the named buffers of a port, by the places of the user
tx_named : (h : HoldState) (id : PortId) (tx : Option RingSlots) → IsTxSide tx → IsRingIf tx → user_buffers_if (option_map (ring_seen h id) tx) ≡ map (number_at h) (named_tx_places id tx)
tx_named h id None side is = refl
tx_named h id (Some r) side is =
    map-slots (buffer_in Tx (ring_seen h id r)) (number_on h Tx id) r.ring.size r.ring.accepted_head 0 (dist r.ring.size r.ring.accepted_head r.ring.last_tail) (λ k below. buffer_seen h id Tx r k side is (omega arith))
    ∙ (sym (map-map (number_at h) (place_on Tx id) (user_slots r.ring)) ∙ rw side refl)

port_named : (h : HoldState) (p : UserPort) → IsTxSide p.tx → p.rx.side ≡ Rx → IsRingIf p.tx → named_in (port_seen h p) ≡ map (number_at h) (named_places_of p)
port_named h p tx rx is =
    let first = tx_named h p.id p.tx tx is in
    let second : map (number_on h p.rx.side p.id) (user_slots p.rx.ring) ≡ map (number_at h) (named_ring_places p.id p.rx) = sym (map-map (number_at h) (place_on p.rx.side p.id) (user_slots p.rx.ring)) in
    let third : map (extra_number_at h p.id) (range_with_len 0 p.extra) ≡ map (number_at h) (map (place.Extra p.id) (range_with_len 0 p.extra)) = sym (map-map (number_at h) (place.Extra p.id) (range_with_len 0 p.extra)) in
    let received : map (number_on h p.rx.side p.id) (positions_of p.rx.side p.rx.ring) ≡ map (number_at h) (named_ring_places p.id p.rx) =
    ap (λ (side : Side). map (number_on h p.rx.side p.id) (positions_of side p.rx.ring)) rx ∙ second in
    let sent = named_tx_places p.id p.tx in
    let got = named_ring_places p.id p.rx in
    let extras = map (place.Extra p.id) (range_with_len 0 p.extra) in
    let held = map (number_on h p.rx.side p.id) (positions_of p.rx.side p.rx.ring) in
    let more = map (extra_number_at h p.id) (range_with_len 0 p.extra) in
    ap (λ (xs : List ℕ). xs ++ (held ++ more)) first ∙ (ap (λ (xs : List ℕ). map (number_at h) sent ++ (xs ++ more)) received
    ∙ (ap (λ (xs : List ℕ). map (number_at h) sent ++ (map (number_at h) got ++ xs)) third
    ∙ sym (map-append (number_at h) sent (got ++ extras) ∙ ap (λ (xs : List ℕ). map (number_at h) sent ++ xs) (map-append (number_at h) got extras))))

pub named_is_seen : (h : HoldState) (ports : List UserPort) → AreSided ports → AreRings ports → named_of (own_seen h ports) ≡ map (number_at h) (named_places ports)
named_is_seen h [] sided rings = refl
named_is_seen h (p ∷ ports) sided rings =
    rw (port_named h p sided.0.0 sided.0.1 rings.0.0, named_is_seen h ports sided.1 rings.1) (sym (map-append (number_at h) (named_places_of p) (named_places ports)))

-- named are the buffers that a check finds among the named ones
pub are_named : (h : HoldState) (ports : List UserPort) → AreSided ports → AreRings ports → AreFlagged h ports → AreNamed h (named_of (own_seen h ports))
are_named h ports sided rings flagged is idx low = rw (named_is_seen h ports sided rings) (by_standing (standing_at h idx) refl)
  where
    by_standing : (o : Option Standing) → standing_at h idx ≡ o → is_named_in o ≡ contains_index (map (number_at h) (named_places ports)) idx
    by_standing None e = sym (none_there h (named_places ports) idx is low e)
    by_standing (Some s) e = flagged idx s e ∙ sym (any_there h (named_places ports) idx s is low e)
