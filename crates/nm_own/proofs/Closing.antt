-- A session once a port of it is closed.
use Rattle.std.proofs.Common.{ℕ, zero, suc, ◌≡◌, ◌<◌, ◌≤◌, ◌+◌, ◌-◌, ◌||◌, Bool, true, false, nat_eq, nat_lt, if◌then◌else◌, List, [], ◌∷◌, ◌++◌, length, map, fold, Option, Some, None, option_map, inl, inr, refl, sym, ◌∙◌, ap, arith, append_assoc}
use Rattle.std.specs.Prelude.{is_some, unwrap_or, IsSome, filter, not, take, drop}
use Rattle.std.specs.Option.{option_map_or}
use Rattle.std.specs.List.{AllByRecursion, IsDistinct, list_any, range_with_len, filter_map}
use Rattle.std.proofs.lemmas.Bool.{cases_Bool}
use Rattle.std.proofs.lemmas.Bool.Decides.{nat_tests}
use Rattle.std.proofs.Math.Seq.{take-append_seam, drop-append_seam}
use Rattle.std.proofs.lemmas.List.{length-map}
use Rattle.std.proofs.lemmas.List.FromFn.{length-range_with_len}
use Rattle.std.proofs.lemmas.List.Elements.{recursion_from_All}
use Rattle.std.proofs.lemmas.List.Folds.{list_any-append}
use Rattle.std.proofs.lemmas.Option.{same_Some}
use Rattle.nm_types.specs.Limits.{most_extra}
use Rattle.nm_types.specs.declared.id.PortId.{PortId}
use Rattle.nm_types.specs.declared.id.Side.{Side}
use Rattle.nm_types.specs.declared.id.Side.TheVariants as side
use Rattle.nm_types.specs.declared.id.Chain.{Chain}
use Rattle.nm_types.specs.declared.place.Place.{Place}
use Rattle.nm_types.specs.declared.place.Place.TheVariants as place
use Rattle.nm_types.specs.Places.{held_at, is_same_place}
use Rattle.nm_types.specs.Positions.{IsRing, dist, step_on, user_slots}
use Rattle.nm_types.specs.SyncChecks.{contains_index}
use Rattle.nm_types.specs.Chain.{link_of, seen_in_chain, chain_of}
use Rattle.nm_types.specs.OwnPorts.{OwnPort, bytes_at, port_with_id, held_if, buffers_in}
use Rattle.nm_types.specs.OwnSyncs.{without_bytes_of, own_after_finish, chain_in}
use Rattle.nm_types.proofs.Lists.{each-joined}
use Rattle.nm_types.proofs.Tests.{less_true, or_none, or_second, turned, false_true}
use Rattle.nm_region.specs.Buffers.{Buffer, indices_of}
use Rattle.nm_hold.specs.Standings.{buf_in}
use Rattle.nm_hold.specs.declared.standing.Standing.{Standing}
use Rattle.nm_hold.specs.declared.table.PortPlaces.{PortPlaces}
use Rattle.nm_hold.specs.Offsets.{ArePortsOnce, AreSizes}
use Rattle.nm_hold.specs.Holds.{HoldState, buffers_of, bufs_of, index_at, standing_at, stands_at, buffer_at, cell_at, places_in, port_of, extra_of, HoldsNothing, IsHold}
use Rattle.nm_hold.proofs.Spots.{nat_eq-is, same_place-is, same_place-refl}
use Rattle.nm_extra.specs.Extras.{extras_of, link_at}
use Rattle.nm_port.specs.declared.port.UserPort.{UserPort}
use Rattle.nm_port.specs.RingSlots.{RingSlots}
use Rattle.nm_port.specs.Sides.{place_on, number_at}
use Rattle.nm_port.specs.Own.{number_on, extra_number_at, ring_seen, port_seen, own_seen, port_at, bytes_in_cell, bytes_in_hold, named_ring_places, named_tx_places, named_places_of, named_places, size_if, is_filled, is_filled_in, places_of_port, AreFilled, AreFlagged, AreSided, AreRings, AreWhole, HasPlaces, IsTxSide, HaveBackRoom}
use Rattle.nm_own.specs.Kept.{IsKept}
use Rattle.nm_own.specs.declared.own.OwnSide.TheInside.{Inside}
use Rattle.nm_port.specs.Closing.{user_count, place_count, held_place, held_places, others, buffers_with_id, bytes_of_buffers, AreTaken}
use Rattle.nm_port.proofs.Buffers.{buf_by_index}
use Rattle.nm_port.proofs.Regions.{of_seen, holds_same, taken_of}
use Rattle.nm_port.specs.Regions.{SideState, AllOf, AreOf, side_seen}
use Rattle.nm_port.proofs.Checked.{bytes_are_seen, id_of_found}
use Rattle.nm_own.proofs.Tests.{some_of}
use Rattle.nm_own.proofs.Filled.{all_range, all_slots}
use Rattle.nm_port.proofs.Seeing.{port_same}
use Rattle.nm_port.proofs.PortOut.{IsOther, lacks_port, rest_other}
use Rattle.nm_own.proofs.Opening.{unfilled_in, unfilled, none_if}
use Rattle.nm_port.proofs.Taking.{held_apart, elsewhere_none, filled_taken, held_filled}

others_are : (id : ℕ) (ports : List UserPort) → AllByRecursion (IsOther id) (others id ports)
others_are id [] = tt
others_are id (p ∷ ports) = elim (cases_Bool (nat_eq p.id.0 id)) [
  | inl here ↦ rw here (others_are id ports)
  | inr other ↦ rw other ((other, others_are id ports))
]

pub others_sided : (id : ℕ) (ports : List UserPort) → AreSided ports → AreSided (others id ports)
others_sided id [] sided = tt
others_sided id (p ∷ ports) sided = elim (cases_Bool (nat_eq p.id.0 id)) [
  | inl here ↦ rw here (others_sided id ports sided.1)
  | inr other ↦ rw other ((sided.0, others_sided id ports sided.1))
]

pub others_rings : (id : ℕ) (ports : List UserPort) → AreRings ports → AreRings (others id ports)
others_rings id [] rings = tt
others_rings id (p ∷ ports) rings = elim (cases_Bool (nat_eq p.id.0 id)) [
  | inl here ↦ rw here (others_rings id ports rings.1)
  | inr other ↦ rw other ((rings.0, others_rings id ports rings.1))
]

pub others_back : (id : ℕ) (ports : List UserPort) → HaveBackRoom ports → HaveBackRoom (others id ports)
others_back id [] have = tt
others_back id (p ∷ ports) have = elim (cases_Bool (nat_eq p.id.0 id)) [
  | inl here ↦ rw here (others_back id ports have.1)
  | inr other ↦ rw other ((have.0, others_back id ports have.1))
]

others_places : (id : ℕ) (ports : List UserPort) → filter (λ (p : PortPlaces). not (nat_eq p.port.0 id)) (map places_of_port ports) ≡ map places_of_port (others id ports)
others_places id [] = refl
others_places id (p ∷ ports) = elim (cases_Bool (nat_eq p.id.0 id)) [
  | inl here ↦ rw here (others_places id ports)
  | inr other ↦ rw other (ap (λ (xs : List PortPlaces). places_of_port p ∷ xs) (others_places id ports))
]

-- the places of the port of an id are filled as that port says
pub filled_one : (ports : List UserPort) (id : ℕ) (p : UserPort) (q : Place) → port_at ports id ≡ Some p → ArePortsOnce (map places_of_port ports) → port_of q ≡ id → is_filled ports q ≡ is_filled_in q p
filled_one [] id p q found once at = absurd cc
filled_one (x ∷ ports) id p q found once at = elim (cases_Bool (nat_eq x.id.0 id)) [
  | inl here ↦ (let is : x ≡ p = same_Some x p (rw here at found) in
      let same : x.id.0 ≡ id = nat_eq-is x.id.0 id here in
      let rest : is_filled ports q ≡ false = unfilled ports id q at (rest_other ports id (rw same at once.0)) in
      rw (rest, ← is) (or_none (is_filled_in q x)))
  | inr other ↦ rw (unfilled_in x id q at other) (filled_one ports id p q (rw other at found) once.1 at)
]

-- the places of other ports are filled as before
filled_others : (ports : List UserPort) (id : ℕ) (q : Place) → nat_eq (port_of q) id ≡ false → is_filled (others id ports) q ≡ is_filled ports q
filled_others [] id q other = refl
filled_others (x ∷ ports) id q other = elim (cases_Bool (nat_eq x.id.0 id)) [
  | inl here ↦ (let same : x.id.0 ≡ id = nat_eq-is x.id.0 id here in
      rw (here, unfilled_in x (port_of q) q refl (rw same (turned (port_of q) id other))) (filled_others ports id q other))
  | inr differs ↦ rw differs (ap (λ (b : Bool). is_filled_in q x || b) (filled_others ports id q other))
]

-- named places of a port are its own
abbrev IsOf : ℕ → Place → Type 0
IsOf id q = port_of q ≡ id

side_place : (s : Side) (id : PortId) (at : ℕ) → port_of (place_on s id at) ≡ id.0
side_place side.Tx id at = refl
side_place side.Rx id at = refl

ring_of_port : (id : PortId) (r : RingSlots) → AllByRecursion (IsOf id.0) (named_ring_places id r)
ring_of_port id r = all_slots (IsOf id.0) (place_on r.side id) r.ring.size r.ring.accepted_head 0 (dist r.ring.size r.ring.accepted_head r.ring.last_tail) (λ k below. side_place r.side id (step_on r.ring.size r.ring.accepted_head k))

tx_of_port : (id : PortId) (tx : Option RingSlots) → AllByRecursion (IsOf id.0) (named_tx_places id tx)
tx_of_port id None = tt
tx_of_port id (Some r) = ring_of_port id r

pub named_of_port : (p : UserPort) → AllByRecursion (IsOf p.id.0) (named_places_of p)
named_of_port p =
    each-joined (IsOf p.id.0) (named_tx_places p.id p.tx) (named_ring_places p.id p.rx ++ map (place.Extra p.id) (range_with_len 0 p.extra)) (tx_of_port p.id p.tx)
    (each-joined (IsOf p.id.0) (named_ring_places p.id p.rx) (map (place.Extra p.id) (range_with_len 0 p.extra)) (ring_of_port p.id p.rx)
    (all_range (IsOf p.id.0) (place.Extra p.id) 0 p.extra (λ k below. refl)))

pub none_same : (qs : List Place) (id : ℕ) (q : Place) → AllByRecursion (IsOf id) qs → nat_eq (port_of q) id ≡ false → list_any (λ x. is_same_place x q) qs ≡ false
none_same [] id q all other = refl
none_same (x ∷ qs) id q all other = elim (cases_Bool (is_same_place x q)) [
  | inl same ↦ absurd (clash (ap port_of (sym (same_place-is x q same)) ∙ all.0))
  | inr differs ↦ rw differs (none_same qs id q all.1 other)
]
  where
    clash : port_of q ≡ id → ⊥
    clash e = let yes : nat_eq (port_of q) id ≡ true = rw e (same_self id) in cc
      where
        same_self : (a : ℕ) → nat_eq a a ≡ true
        same_self a = grind (arith, nat_tests)

named_others : (ports : List UserPort) (id : ℕ) (q : Place) → nat_eq (port_of q) id ≡ false
    → list_any (λ x. is_same_place x q) (named_places (others id ports)) ≡ list_any (λ x. is_same_place x q) (named_places ports)
named_others [] id q other = refl
named_others (p ∷ ports) id q other =
    let all = list_any-append (λ x. is_same_place x q) (named_places_of p) (named_places ports) in
    elim (cases_Bool (nat_eq p.id.0 id)) [
      | inl here ↦ (let same : p.id.0 ≡ id = nat_eq-is p.id.0 id here in
          let none = none_same (named_places_of p) p.id.0 q (named_of_port p) (rw same other) in
          rw here (named_others ports id q other ∙ sym (all ∙ ap (λ (b : Bool). b || list_any (λ x. is_same_place x q) (named_places ports)) none)))
      | inr differs ↦ rw differs (list_any-append (λ x. is_same_place x q) (named_places_of p) (named_places (others id ports))
          ∙ (ap (λ (b : Bool). list_any (λ x. is_same_place x q) (named_places_of p) || b) (named_others ports id q other) ∙ sym all))
    ]

-- the port as it is seen
pub port_found : (h : HoldState) (ports : List UserPort) (id : ℕ) (p : UserPort) → port_at ports id ≡ Some p → port_with_id (own_seen h ports) id ≡ Some (port_seen h p)
port_found h [] id p found = absurd cc
port_found h (x ∷ ports) id p found = elim (cases_Bool (nat_eq x.id.0 id)) [
  | inl here ↦ (let is : x ≡ p = same_Some x p (rw here at found) in rw (here, is) refl)
  | inr other ↦ rw other (port_found h ports id p (rw other at found))
]

-- the buffers in its places, in their order
module _ {X : Type 0} where
  alike : (f g : ℕ → X) (a b n : ℕ) → ((k : ℕ) → k < n → f (a + k) ≡ g (b + k)) → map f (range_with_len a n) ≡ map g (range_with_len b n)
  alike f g a b zero same = refl
  alike f g a b (suc n) same =
      let here : f a ≡ g b = (let l : a ≡ a + 0 = omega arith in let r : b + 0 ≡ b = omega arith in ap f l ∙ (same 0 (omega arith) ∙ ap g r)) in
      ap (λ (x : X). x ∷ map f (range_with_len (a + 1) n)) here ∙ ap (λ (xs : List X). g b ∷ xs) (alike f g (a + 1) (b + 1) n (λ k below. next k (same (k + 1) (omega arith))))
    where
      next : (k : ℕ) → f (a + (k + 1)) ≡ g (b + (k + 1)) → f (a + 1 + k) ≡ g (b + 1 + k)
      next k e = let l : a + 1 + k ≡ a + (k + 1) = omega arith in let r : b + (k + 1) ≡ b + 1 + k = omega arith in ap f l ∙ (e ∙ ap g r)

  split : (f : ℕ → X) (a n m : ℕ) → map f (range_with_len a (n + m)) ≡ map f (range_with_len a n) ++ map f (range_with_len (a + n) m)
  split f a zero m = let e : a ≡ a + 0 = omega arith in let z : 0 + m ≡ m = omega arith in ap (λ (k : ℕ). map f (range_with_len a k)) z ∙ ap (λ (s : ℕ). map f (range_with_len s m)) e
  split f a (suc n) m =
      let e : a + 1 + n ≡ a + suc n = omega arith in
      let s : suc n + m ≡ suc (n + m) = omega arith in
      ap (λ (k : ℕ). map f (range_with_len a k)) s ∙ ap (λ (xs : List X). f a ∷ xs) (split f (a + 1) n m ∙ ap (λ (b : ℕ). map f (range_with_len (a + 1) n) ++ map f (range_with_len b m)) e)

module _ (h : HoldState) (p : UserPort) (tx_side : IsTxSide p.tx) (rx_side : p.rx.side ≡ side.Rx) where
  tx_held : (o : Option RingSlots) → IsTxSide o → map (number_on h side.Tx p.id) (range_with_len 0 (size_if o)) ≡ held_if (option_map (ring_seen h p.id) o)
  tx_held None is = refl
  tx_held (Some r) is = rw is refl

  rx_slots : (f : ℕ → ℕ) (size first a n : ℕ) → map f (map (step_on size first) (range_with_len a n)) ≡ map (λ (k : ℕ). f (step_on size first k)) (range_with_len a n)
  rx_slots f size first a zero = refl
  rx_slots f size first a (suc n) = ap (λ (xs : List ℕ). f (step_on size first a) ∷ xs) (rx_slots f size first (a + 1) n)

  abbrev number : ℕ → ℕ
  number k = number_at h (held_place p k)

  less_false : (a b n : ℕ) → a ≡ b + n → nat_lt a b ≡ false
  less_false a b n above = grind (arith, nat_tests)

  tx_place : (k : ℕ) → k < size_if p.tx → held_place p k ≡ place.Tx p.id k
  tx_place k below = rw (less_true k (size_if p.tx) below) refl

  rx_place : (n k : ℕ) → n ≡ size_if p.tx + k → k < user_count p.rx.ring → held_place p n ≡ place.Rx p.id (step_on p.rx.ring.size p.rx.ring.accepted_head k)
  rx_place n k e below =
      let behind : n - size_if p.tx ≡ k = omega arith in
      rw (less_false n (size_if p.tx) k e, behind, less_true k (user_count p.rx.ring) below) refl

  extra_place : (n k : ℕ) → n ≡ size_if p.tx + user_count p.rx.ring + k → held_place p n ≡ place.Extra p.id k
  extra_place n k e =
      let past : n ≡ size_if p.tx + (user_count p.rx.ring + k) = omega arith in
      let behind : n - size_if p.tx - user_count p.rx.ring ≡ k = omega arith in
      let more : n - size_if p.tx ≡ user_count p.rx.ring + k = omega arith in
      rw (less_false n (size_if p.tx) (user_count p.rx.ring + k) past, less_false (n - size_if p.tx) (user_count p.rx.ring) k more, behind) refl

  slots : map number (range_with_len 0 (size_if p.tx)) ≡ map (number_on h side.Tx p.id) (range_with_len 0 (size_if p.tx))
  slots = alike number (number_on h side.Tx p.id) 0 0 (size_if p.tx) (λ k below. ap (number_at h) (tx_place (0 + k) (omega arith)))

  abbrev rx_number : ℕ → ℕ
  rx_number k = number_on h side.Rx p.id (step_on p.rx.ring.size p.rx.ring.accepted_head k)

  received : map number (range_with_len (size_if p.tx) (user_count p.rx.ring)) ≡ map rx_number (range_with_len 0 (user_count p.rx.ring))
  received = alike number rx_number (size_if p.tx) 0 (user_count p.rx.ring) (λ k below. (let zero : k ≡ 0 + k = omega arith in ap (number_at h) (rx_place (size_if p.tx + k) k refl below) ∙ ap rx_number zero))

  extras : map number (range_with_len (size_if p.tx + user_count p.rx.ring) p.extra) ≡ map (extra_number_at h p.id) (range_with_len 0 p.extra)
  extras = alike number (extra_number_at h p.id) (size_if p.tx + user_count p.rx.ring) 0 p.extra
      (λ k below. (let zero : k ≡ 0 + k = omega arith in ap (number_at h) (extra_place (size_if p.tx + user_count p.rx.ring + k) k refl) ∙ ap (extra_number_at h p.id) zero))

  map-map : (n : ℕ) (a : ℕ) → map (number_at h) (map (held_place p) (range_with_len a n)) ≡ map number (range_with_len a n)
  map-map zero a = refl
  map-map (suc n) a = ap (λ (xs : List ℕ). number a ∷ xs) (map-map n (a + 1))

  pub held_numbers : map (number_at h) (held_places p (place_count p)) ≡ buffers_in (port_seen h p)
  held_numbers =
      let rx : map (number_on h side.Rx p.id) (user_slots p.rx.ring) ≡ (port_seen h p).rx.held = rw rx_side refl in
      map-map (place_count p) 0 ∙ (split number 0 (size_if p.tx + user_count p.rx.ring) p.extra
      ∙ (ap (λ (xs : List ℕ). xs ++ map number (range_with_len (0 + (size_if p.tx + user_count p.rx.ring)) p.extra)) (split number 0 (size_if p.tx) (user_count p.rx.ring))
      ∙ joined (slots ∙ tx_held p.tx tx_side) (received ∙ sym (rx_slots (number_on h side.Rx p.id) p.rx.ring.size p.rx.ring.accepted_head 0 (user_count p.rx.ring)) ∙ rx)))
    where
      joined : map number (range_with_len 0 (size_if p.tx)) ≡ held_if (port_seen h p).tx → map number (range_with_len (size_if p.tx) (user_count p.rx.ring)) ≡ (port_seen h p).rx.held
          → (map number (range_with_len 0 (size_if p.tx)) ++ map number (range_with_len (0 + size_if p.tx) (user_count p.rx.ring))) ++ map number (range_with_len (0 + (size_if p.tx + user_count p.rx.ring)) p.extra)
          ≡ buffers_in (port_seen h p)
      joined one two =
          let z : 0 + size_if p.tx ≡ size_if p.tx = omega arith in
          let y : 0 + (size_if p.tx + user_count p.rx.ring) ≡ size_if p.tx + user_count p.rx.ring = omega arith in
          rw (z, y, one, two, extras) (append_assoc (held_if (port_seen h p).tx) (port_seen h p).rx.held (port_seen h p).extra)

-- the chain of a port's extra buffers, as it is seen
seen_alike : (turns : ℕ) (all : List ℕ) (f g : ℕ → ℕ) (seen : List ℕ) (at : ℕ) → ((k : ℕ) → f k ≡ g k) → seen_in_chain turns all f seen at ≡ seen_in_chain turns all g seen at
seen_alike zero all f g seen at same = refl
seen_alike (suc turns) all f g seen at same =
    ap (λ (xs : List ℕ). if nat_eq at 0 || (not (contains_index all at) || contains_index seen at) then seen else xs)
    (ap (λ (n : ℕ). seen_in_chain turns all f (seen ++ at ∷ []) n) (same at) ∙ seen_alike turns all f g (seen ++ at ∷ []) (g at) same)

chain_alike : (all : List ℕ) (f g : ℕ → ℕ) (head : ℕ) → ((k : ℕ) → f k ≡ g k) → chain_of all f head ≡ chain_of all g head
chain_alike all f g head same =
    ap (λ (seen : List ℕ). let c : Chain = record { found = length seen; astray = length all - length seen } in c) (seen_alike (length all) all f g [] head same)

link_seen : (h : HoldState) (ports : List UserPort) (idx : ℕ) → link_at h idx ≡ link_of (bytes_at (own_seen h ports) idx)
link_seen h ports idx = by_cell (standing_at h idx) refl ∙ ap link_of (sym (bytes_are_seen h ports idx))
  where
    by_cell : (o : Option Standing) → standing_at h idx ≡ o → link_at h idx ≡ link_of (bytes_in_hold h idx)
    by_cell None e = rw e refl
    by_cell (Some s) e = rw e refl

extra_size : (ports : List UserPort) (id : ℕ) (p : UserPort) → port_at ports id ≡ Some p → extra_of (map places_of_port ports) id ≡ p.extra
extra_size [] id p found = absurd cc
extra_size (x ∷ ports) id p found = elim (cases_Bool (nat_eq x.id.0 id)) [
  | inl here ↦ (let is : x ≡ p = same_Some x p (rw here at found) in rw (here, is) refl)
  | inr other ↦ rw other (extra_size ports id p (rw other at found))
]

all_found : (f : ℕ → Option ℕ) (a n : ℕ) → ((k : ℕ) → k < a + n → is_some (f k) ≡ true) → filter_map f (range_with_len a n) ≡ map (λ (k : ℕ). unwrap_or (f k) 0) (range_with_len a n)
all_found f a zero each = refl
all_found f a (suc n) each = by_first (f a) refl (all_found f (a + 1) n (λ k below. each k (omega arith)))
  where
    by_first : (o : Option ℕ) → f a ≡ o → filter_map f (range_with_len (a + 1) n) ≡ map (λ (k : ℕ). unwrap_or (f k) 0) (range_with_len (a + 1) n)
        → filter_map f (a ∷ range_with_len (a + 1) n) ≡ unwrap_or (f a) 0 ∷ map (λ (k : ℕ). unwrap_or (f k) 0) (range_with_len (a + 1) n)
    by_first None e others = absurd (let some = each a (omega arith) in let none = rw e at some in cc)
    by_first (Some x) e others = rw e (ap (λ (xs : List ℕ). x ∷ xs) others)

-- what is found in a list of ports
pub filled_in_one : (ports : List UserPort) (id : ℕ) (p : UserPort) (q : Place) → port_at ports id ≡ Some p → is_filled_in q p ≡ true → is_filled ports q ≡ true
filled_in_one [] id p q found filled = absurd cc
filled_in_one (x ∷ ports) id p q found filled = elim (cases_Bool (nat_eq x.id.0 id)) [
  | inl here ↦ (let is : x ≡ p = same_Some x p (rw here at found) in rw (is, filled) refl)
  | inr other ↦ or_second (is_filled_in q x) (is_filled ports q) (filled_in_one ports id p q (rw other at found) filled)
]

pub sided_one : (ports : List UserPort) (id : ℕ) (p : UserPort) → port_at ports id ≡ Some p → AreSided ports → IsTxSide p.tx × (p.rx.side ≡ side.Rx)
sided_one [] id p found sided = absurd cc
sided_one (x ∷ ports) id p found sided = elim (cases_Bool (nat_eq x.id.0 id)) [
  | inl here ↦ (let is : x ≡ p = same_Some x p (rw here at found) in rw (← is) sided.0)
  | inr other ↦ sided_one ports id p (rw other at found) sided.1
]

pub ring_one : (ports : List UserPort) (id : ℕ) (p : UserPort) → port_at ports id ≡ Some p → AreRings ports → IsRing p.rx.ring
ring_one [] id p found rings = absurd cc
ring_one (x ∷ ports) id p found rings = elim (cases_Bool (nat_eq x.id.0 id)) [
  | inl here ↦ (let is : x ≡ p = same_Some x p (rw here at found) in rw (← is) rings.0.1)
  | inr other ↦ ring_one ports id p (rw other at found) rings.1
]

-- an own side, and the port of an id in it
pub record Has (h : HoldState) (ports : List UserPort) (id : PortId) (p : UserPort) : Type 0 where
  pub found : port_at ports id.0 ≡ Some p
  pub same_id : p.id ≡ id
  pub sided : AreSided ports
  pub rings : AreRings ports
  pub flagged : AreFlagged h ports
  pub is_hold : IsHold h
  pub places : HasPlaces h ports
  pub filled : AreFilled h ports

pub has_port : (o : Inside) (id : PortId) (p : UserPort) → IsKept o → port_at o.ports.items id.0 ≡ Some p → Has o.hold o.ports.items id p
has_port o id p kept found =
    let same_id = ap (λ (n : ℕ). let i : PortId = record { 0 = n } in i) (id_of_found o.ports.items id.0 p found) in
    record { found = found; same_id = same_id; sided = kept.sided; rings = kept.rings; flagged = kept.flagged; is_hold = kept.hold; places = kept.places; filled = kept.filled }

-- the bytes of buffers of the hold, as they are seen
pub bytes_found : (h : HoldState) (ports : List UserPort) (out : List Buffer) (idxs : List ℕ) → map Some out ≡ map (buffer_at h) idxs → bytes_of_buffers out ≡ map (bytes_at (own_seen h ports)) idxs
bytes_found h ports [] [] e = refl
bytes_found h ports [] (idx ∷ idxs) e = absurd cc
bytes_found h ports (b ∷ out) [] e = absurd cc
bytes_found h ports (b ∷ out) (idx ∷ idxs) e =
    let first : Some b ≡ buffer_at h idx = cc in
    let others : map Some out ≡ map (buffer_at h) idxs = cc in
    ap (λ (xs : List (List ℕ)). b.bytes ∷ xs) (bytes_found h ports out idxs others) ∙ ap (λ (x : List ℕ). x ∷ map (bytes_at (own_seen h ports)) idxs) (one b idx first ∙ sym (bytes_are_seen h ports idx))
  where
    one : (b : Buffer) (idx : ℕ) → Some b ≡ buffer_at h idx → b.bytes ≡ bytes_in_hold h idx
    one b idx e = by_cell (standing_at h idx) refl
      where
        by_cell : (o : Option Standing) → standing_at h idx ≡ o → b.bytes ≡ bytes_in_hold h idx
        by_cell None there = absurd (let none = e ∙ ap buf_in there in cc)
        by_cell (Some s) there = (let same : Some b ≡ Some s.buf = e ∙ ap buf_in there in ap (λ (x : Buffer). x.bytes) (same_Some b s.buf same) ∙ sym (ap bytes_in_cell there))

-- buffers that were taken out of places, behind others that were out before
module _ {h now : HoldState} {places : List Place} {before after : List Buffer} (taken : AreTaken h now places before after) where
  pub out_behind : drop (length before) after ≡ taken.out
  out_behind = ap (drop (length before)) taken.joined ∙ drop-append_seam before taken.out

  pub out_before : take (length before) after ≡ before
  out_before = ap (take (length before)) taken.joined ∙ take-append_seam before taken.out

  pub out_indices : (idxs : List ℕ) → map (number_at h) places ≡ idxs → indices_of (drop (length before) after) ≡ idxs
  out_indices idxs are = ap indices_of out_behind ∙ (taken.indices ∙ are)

  pub out_regions : (region : ℕ) (was : HoldState) (ports : List UserPort) (side : SideState) → side_seen was ports ≡ side → bufs_of h ≡ bufs_of was → AllOf region side → AreOf region (drop (length before) after)
  out_regions region was ports side seen same of = taken_of region h now places before after taken (holds_same region was h same (of_seen region was ports side seen of))

  pub out_bytes : (was : HoldState) (ports : List UserPort) → bufs_of h ≡ bufs_of was → (idxs : List ℕ) → map (number_at h) places ≡ idxs
      → bytes_of_buffers (drop (length before) after) ≡ map (bytes_at (own_seen was ports)) idxs
  out_bytes was ports same idxs are = ap bytes_of_buffers out_behind ∙ bytes_found was ports taken.out idxs (taken.each ∙ (ap (map (buffer_at h)) are ∙ same_buffers idxs))
    where
      same_buffers : (idxs : List ℕ) → map (buffer_at h) idxs ≡ map (buffer_at was) idxs
      same_buffers [] = refl
      same_buffers (i ∷ idxs) = ap (λ (b : Option Buffer). b ∷ map (buffer_at h) idxs) (buf_by_index h.cells was.cells i same) ∙ ap (λ (bs : List (Option Buffer)). buffer_at was i ∷ bs) (same_buffers idxs)

module _ (h : HoldState) (ports : List UserPort) (id : PortId) (p : UserPort) (has : Has h ports id p) where
  ring : IsRing p.rx.ring
  ring = ring_one ports id.0 p has.found has.rings

  pub is_held : (k : ℕ) → k < place_count p → IsSome (index_at h (held_place p k))
  is_held k below = some_of (index_at h (held_place p k)) (has.filled (held_place p k) ∙ filled_in_one ports id.0 p (held_place p k) has.found (held_filled p k ring below))

  pub numbers_are : buffers_with_id (own_seen h ports) id.0 ≡ map (number_at h) (held_places p (place_count p))
  numbers_are = (let sides = sided_one ports id.0 p has.found has.sided in
      ap (λ (o : Option OwnPort). option_map_or buffers_in o []) (port_found h ports id.0 p has.found) ∙ sym (held_numbers h p sides.0 sides.1))

  -- each buffer in its places is in one of them
  numbers_apart : (j k : ℕ) → j < k → k < place_count p → nat_eq (number_at h (held_place p j)) (number_at h (held_place p k)) ≡ false
  numbers_apart j k less below = elim (cases_Bool (nat_eq (number_at h (held_place p j)) (number_at h (held_place p k)))) [
    | inl same ↦ by_index (index_at h (held_place p j)) (index_at h (held_place p k)) refl refl (is_held j (omega arith)) (is_held k below) (nat_eq-is (number_at h (held_place p j)) (number_at h (held_place p k)) same)
    | inr other ↦ other
  ]
    where
      stands : (q : Place) (i : ℕ) (s : Standing) → index_at h q ≡ Some i → standing_at h i ≡ Some s → q ≡ s.home.place
      stands q i s e there = same_place-is q s.home.place (sym (ap (stands_at q) there) ∙ has.is_hold.held q i e)

      one_place : (i : ℕ) → index_at h (held_place p j) ≡ Some i → index_at h (held_place p k) ≡ Some i → (o : Option Standing) → standing_at h i ≡ o → held_place p j ≡ held_place p k
      one_place i e f None there = absurd (let none = sym (ap (stands_at (held_place p j)) there) ∙ has.is_hold.held (held_place p j) i e in cc)
      one_place i e f (Some s) there = stands (held_place p j) i s e there ∙ sym (stands (held_place p k) i s f there)

      by_index : (a b : Option ℕ) → index_at h (held_place p j) ≡ a → index_at h (held_place p k) ≡ b → IsSome (index_at h (held_place p j)) → IsSome (index_at h (held_place p k))
          → number_at h (held_place p j) ≡ number_at h (held_place p k) → nat_eq (number_at h (held_place p j)) (number_at h (held_place p k)) ≡ false
      by_index None b e f left right same = absurd (let none : Option ℕ = None in let no : IsSome none = rw e at left in cc)
      by_index (Some i) None e f left right same = absurd (let none : Option ℕ = None in let no : IsSome none = rw f at right in cc)
      by_index (Some i) (Some n) e f left right same =
          let equal : i ≡ n = sym (ap (λ (o : Option ℕ). unwrap_or o 0) e) ∙ (same ∙ ap (λ (o : Option ℕ). unwrap_or o 0) f) in
          let place : held_place p j ≡ held_place p k = one_place i e (f ∙ ap (λ (x : ℕ). Some x) (sym equal)) (standing_at h i) refl in
          false_true (sym (held_apart p j k ring less) ∙ (ap (λ (q : Place). is_same_place (held_place p j) q) (sym place) ∙ same_place-refl (held_place p j)))

  pub buffers_once : IsDistinct nat_eq (buffers_with_id (own_seen h ports) id.0)
  unfolding IsDistinct
  buffers_once = rw numbers_are (over 0 (place_count p) (omega arith))
    where
      others_apart : (j a n : ℕ) → j < a → a + n ≤ place_count p → AllByRecursion (λ y. nat_eq (number_at h (held_place p j)) y ≡ false) (map (number_at h) (map (held_place p) (range_with_len a n)))
      others_apart j a zero less room = tt
      others_apart j a (suc n) less room = (numbers_apart j a less (omega arith), others_apart j (a + 1) n (omega arith) (omega arith))

      over : (a n : ℕ) → a + n ≤ place_count p → IsDistinct nat_eq (map (number_at h) (map (held_place p) (range_with_len a n)))
      over a zero room = tt
      over a (suc n) room = (others_apart a (a + 1) n (omega arith) (omega arith), over (a + 1) n (omega arith))

  pub chain_is : chain_of (extras_of h p.id) (link_at h) p.extra_head ≡ chain_in (own_seen h ports) (port_seen h p)
  chain_is =
      let size : extra_of h.ports p.id.0 ≡ p.extra =
      ap (λ (i : PortId). extra_of h.ports i.0) has.same_id ∙ (ap (λ (all : List PortPlaces). extra_of all id.0) has.places ∙ extra_size ports id.0 p has.found) in
      let extras : extras_of h p.id ≡ (port_seen h p).extra = ap (λ (n : ℕ). filter_map (λ (at : ℕ). index_at h (place.Extra p.id at)) (range_with_len 0 n)) size
      ∙ all_found (λ (at : ℕ). index_at h (place.Extra p.id at)) 0 p.extra (λ k below. has.filled (place.Extra p.id k) ∙ filled_in_one ports id.0 p (place.Extra p.id k) has.found (extra_filled k (omega arith))) in
      ap (λ (xs : List ℕ). chain_of xs (link_at h) p.extra_head) extras ∙ chain_alike (port_seen h p).extra (link_at h) (λ idx. link_of (bytes_at (own_seen h ports) idx)) p.extra_head (link_seen h ports)
    where
      extra_filled : (k : ℕ) → k < p.extra → is_filled_in (place.Extra p.id k) p ≡ true
      extra_filled k below = rw (same_self p.id.0, less k p.extra below) refl
        where
          same_self : (a : ℕ) → nat_eq a a ≡ true
          same_self a = grind (arith, nat_tests)

          less : (a b : ℕ) → a < b → nat_lt a b ≡ true
          less a b e = grind (arith, nat_tests)

  -- once its buffers were taken out
  module _ (now : HoldState) (before after : List Buffer) (taken : AreTaken h now (held_places p (place_count p)) before after) where
    elsewhere : (q : Place) → nat_eq (port_of q) id.0 ≡ false → index_at now q ≡ index_at h q
    elsewhere q other = taken.index q ∙ ap (λ (b : Bool). if b then None else index_at h q) (elsewhere_none p (place_count p) q (rw has.same_id other))

    numbers : map (number_at h) (held_places p (place_count p)) ≡ buffers_with_id (own_seen h ports) id.0
    numbers = sym numbers_are

    pub indices_come : indices_of (drop (length before) after) ≡ buffers_with_id (own_seen h ports) id.0
    indices_come = out_indices taken (buffers_with_id (own_seen h ports) id.0) numbers

    pub bytes_come : bytes_of_buffers (drop (length before) after) ≡ map (bytes_at (own_seen h ports)) (buffers_with_id (own_seen h ports) id.0)
    bytes_come = out_bytes taken h ports refl (buffers_with_id (own_seen h ports) id.0) numbers

    pub holds_nothing : HoldsNothing now id.0
    holds_nothing q at = taken.index q ∙ (elim (cases_Bool (is_filled_in q p)) [
      | inl filled ↦ ap (λ (b : Bool). if b then None else index_at h q) (filled_taken p q ring filled)
      | inr not ↦ (let once : ArePortsOnce (map places_of_port ports) = rw (← has.places) has.is_hold.once in
          let none : index_at h q ≡ None = none_if (index_at h q) (has.filled q ∙ (filled_one ports id.0 p q has.found once at ∙ not)) in
          rw none (either (list_any (λ x. is_same_place x q) (held_places p (place_count p)))))
    ])
      where
        either : (b : Bool) → (if b then None else (let none : Option ℕ = None in none)) ≡ None
        either true = refl
        either false = refl

    -- and its places have gone
    module _ (final : HoldState) (gone : final ≡ record now { ports = filter (λ (x : PortPlaces). not (nat_eq x.port.0 id.0)) now.ports }) (is : IsHold final) where
      cells : final.cells ≡ now.cells
      cells = ap (λ (x : HoldState). x.cells) gone

      index_final : (q : Place) → index_at final q ≡ index_at now q
      index_final q = ap (λ (all : List (Option Standing)). held_at (places_in all) q) cells

      stood : (idx : ℕ) (s : Standing) → standing_at final idx ≡ Some s → standing_at h idx ≡ Some s
      stood idx s there = taken.stood idx s (ap (λ (all : List (Option Standing)). cell_at all idx) (sym cells) ∙ there)

      pub places_left : HasPlaces final (others id.0 ports)
      places_left =
          ap (λ (x : HoldState). x.ports) gone
          ∙ (ap (λ (all : List PortPlaces). filter (λ (x : PortPlaces). not (nat_eq x.port.0 id.0)) all) (taken.ports ∙ has.places) ∙ others_places id.0 ports)

      pub filled_left : AreFilled final (others id.0 ports)
      filled_left q = elim (cases_Bool (nat_eq (port_of q) id.0)) [
        | inl here ↦ (let at : port_of q ≡ id.0 = nat_eq-is (port_of q) id.0 here in
            ap is_some (index_final q ∙ holds_nothing q at) ∙ sym (unfilled (others id.0 ports) id.0 q at (others_are id.0 ports)))
        | inr other ↦ ap is_some (index_final q ∙ elsewhere q other) ∙ (has.filled q ∙ sym (filled_others ports id.0 q other))
      ]

      pub flagged_left : AreFlagged h ports → AreFlagged final (others id.0 ports)
      flagged_left flagged idx s there = flagged idx s (stood idx s there) ∙ sym (named_others ports id.0 s.home.place (elim (cases_Bool (nat_eq (port_of s.home.place) id.0)) [
        | inl here ↦ absurd (clash (sym (index_final s.home.place ∙ holds_nothing s.home.place (nat_eq-is (port_of s.home.place) id.0 here)) ∙ (is.standing idx s there).there))
        | inr other ↦ other
      ]))
        where
          clash : None ≡ Some idx → ⊥
          clash e = cc

      pub whole_left : AreWhole h → AreWhole final
      whole_left whole idx s there = whole idx s (stood idx s there)

      pub count_left : buffers_of final ≡ buffers_of h
      count_left = ap (λ (all : List (Option Standing)). length all - 2) cells ∙ taken.count

      seen_left : (all : List UserPort) → map (port_seen final) (others id.0 all) ≡ filter (λ (x : OwnPort). not (nat_eq x.id.0 id.0)) (map (port_seen h) all)
      seen_left [] = refl
      seen_left (x ∷ all) = elim (cases_Bool (nat_eq x.id.0 id.0)) [
        | inl here ↦ rw here (seen_left all)
        | inr other ↦ rw other (ap (λ (y : OwnPort). y ∷ map (port_seen final) (others id.0 all)) (port_same h final x (λ q at. ap (λ (o : Option ℕ). unwrap_or o 0) (index_final q ∙ elsewhere q (rw at other))))
            ∙ ap (λ (ys : List OwnPort). port_seen h x ∷ ys) (seen_left all))
      ]

      pub closed_is_seen : own_seen final (others id.0 ports) ≡ own_after_finish id.0 (buffers_with_id (own_seen h ports) id.0) (own_seen h ports)
      closed_is_seen =
          let bytes : map bytes_in_cell final.cells ≡ fold without_bytes_of (map bytes_in_cell h.cells) (buffers_with_id (own_seen h ports) id.0) =
          ap (map bytes_in_cell) cells ∙ (taken.bytes ∙ ap (fold without_bytes_of (map bytes_in_cell h.cells)) (sym numbers_are)) in
          rw (count_left, seen_left ports, bytes) refl

-- a port has few extra buffers
sizes_small : (ports : List UserPort) (id : ℕ) (p : UserPort) → port_at ports id ≡ Some p → AllByRecursion (λ (x : PortPlaces). AreSizes x.sizes) (map places_of_port ports) → p.extra ≤ most_extra
sizes_small [] id p found small = absurd cc
sizes_small (x ∷ ports) id p found small = elim (cases_Bool (nat_eq x.id.0 id)) [
  | inl here ↦ (let is : x ≡ p = same_Some x p (rw here at found) in rw (← is) small.0.extra)
  | inr other ↦ sizes_small ports id p (rw other at found) small.1
]

pub extra_small : (h : HoldState) (ports : List UserPort) (id : PortId) (p : UserPort) → Has h ports id p → p.extra ≤ most_extra
extra_small h ports id p has = sizes_small ports id.0 p has.found (rw (← has.places) (recursion_from_All (λ (x : PortPlaces). AreSizes x.sizes) h.ports has.is_hold.sizes))

pub buffers_count : (h : HoldState) (ports : List UserPort) (id : PortId) (p : UserPort) → Has h ports id p → place_count p ≡ length (buffers_with_id (own_seen h ports) id.0)
buffers_count h ports id p has =
    sym (ap (λ (xs : List ℕ). length xs) (numbers_are h ports id p has) ∙ (length-map (held_places p (place_count p)) (number_at h) ∙ (length-map (range_with_len 0 (place_count p)) (held_place p) ∙ length-range_with_len 0 (place_count p))))

pub no_buffers : (h : HoldState) (ports : List UserPort) (id : ℕ) → port_at ports id ≡ None → 0 ≡ length (buffers_with_id (own_seen h ports) id)
no_buffers h ports id none = sym (ap (λ (o : Option OwnPort). length (option_map_or buffers_in o [])) (lacks_port h ports id none))

-- nothing stands where there is no port
pub all_gone : (h : HoldState) (ports : List UserPort) → map (port_seen h) ports ≡ [] → IsHold h → AreFilled h ports → (idx : ℕ) → standing_at h idx ≡ None
all_gone h [] e is filled idx = by_cell (standing_at h idx) refl
  where
    by_cell : (o : Option Standing) → standing_at h idx ≡ o → o ≡ None
    by_cell None there = refl
    by_cell (Some s) there = absurd (let some = ap is_some (sym (is.standing idx s there).there) ∙ filled s.home.place in cc)
all_gone h (p ∷ ports) e is filled idx = absurd cc

-- whether there is a port of an id
pub port_is_there : (h : HoldState) (ports : List UserPort) (id : ℕ) → is_some (port_at ports id) ≡ is_some (port_with_id (own_seen h ports) id)
port_is_there h ports id = by_port (port_at ports id) refl
  where
    by_port : (o : Option UserPort) → port_at ports id ≡ o → is_some (port_at ports id) ≡ is_some (port_with_id (own_seen h ports) id)
    by_port None e = rw (e, lacks_port h ports id e) refl
    by_port (Some p) e = rw (e, port_found h ports id p e) refl

pub none_once : (h : HoldState) (ports : List UserPort) (id : ℕ) → port_at ports id ≡ None → IsDistinct nat_eq (buffers_with_id (own_seen h ports) id)
unfolding IsDistinct
none_once h ports id none = rw (lacks_port h ports id none) tt
