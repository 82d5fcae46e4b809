-- A transmit push that is accepted, over what is seen: the buffers that its slots name stand in their
-- places, the slots pushed are the kernel side's, and those behind the tail the user's.
use Rattle.std.proofs.Common.{ℕ, ◌≡◌, ◌<◌, ◌≤◌, ◌+◌, ◌-◌, ◌||◌, ◌⊎◌, Bool, true, false, nat_eq, nat_lt, if◌then◌else◌, List, [], ◌∷◌, ◌++◌, map, fold, replicate, Option, Some, None, option_map, inl, inr, refl, sym, ◌∙◌, ap, arith}
use Rattle.std.specs.Prelude.{is_some, IsSome}
use Rattle.std.specs.List.{AllByRecursion, list_any, range_with_len}
use Rattle.std.proofs.lemmas.Bool.{cases_Bool}
use Rattle.std.proofs.lemmas.Bool.Decides.{nat_tests}
use Rattle.std.proofs.lemmas.List.Folds.{list_any-append}
use Rattle.std.proofs.lemmas.Option.{same_Some}
use Rattle.nm_types.specs.declared.id.PortId.{PortId}
use Rattle.nm_types.specs.declared.id.Side.{Side}
use Rattle.nm_types.specs.declared.id.Side.TheVariants as side
use Rattle.nm_types.specs.declared.place.Place.{Place}
use Rattle.nm_types.specs.declared.place.Place.TheVariants as place
use Rattle.nm_types.specs.Places.{is_same_place}
use Rattle.nm_types.specs.Positions.{IsRing, FitsRing, dist, step_on, slots_from, user_slots, kernel_count}
use Rattle.nm_types.specs.OwnPorts.{OwnRing, OwnPort, OwnState, port_if, with_ring_on, pushed_on, pushed_count}
use Rattle.nm_types.specs.OwnSyncs.{accepted, slots_after_push, after_slot, after_exchange, ring_after_send, own_after_send}
use Rattle.nm_types.proofs.RingSteps.{dist-below, dist-step_on, step_on-below, dist-add, dist_split, seen_from, length-slots_from}
use Rattle.nm_types.proofs.Tests.{less_true, or_second, turned, false_true, same_true}
use Rattle.nm_hold.specs.Offsets.{ArePortsOnce}
use Rattle.nm_hold.specs.Holds.{HoldState, buffers_of, index_at, port_of}
use Rattle.nm_hold.proofs.Spots.{nat_eq-is}
use Rattle.nm_port.specs.declared.port.UserPort.{UserPort}
use Rattle.nm_own.specs.declared.own.OwnSide.TheInside.{Inside}
use Rattle.nm_port.specs.RingSlots.{RingSlots}
use Rattle.nm_port.specs.Sides.{place_on, pushed_seen}
use Rattle.nm_port.specs.Own.{ring_seen, port_seen, own_seen, port_at, slots_at, bytes_in_cell, named_ring_places, named_tx_places, named_places_of, named_places, is_filled, is_filled_in, places_of_port, AreFlagged, AreSided, AreRings, AreWhole, IsRingIf, port_changed, port_changed_if}
use Rattle.nm_own.specs.Kept.{IsKept}
use Rattle.nm_port.specs.Exchanges.{pushed_count_of, user_position, CanExchange, ArePushedOut, is_among, named_after_push, tx_places, ring_pushed_out, CanPushOut, CanPushOutIf, CanAccept}
use Rattle.nm_port.proofs.PortOut.{IsOther, rest_other}
use Rattle.nm_own.proofs.Tests.{some_of}
use Rattle.nm_own.proofs.Closing.{none_same, named_of_port, filled_in_one, filled_one}
use Rattle.nm_port.proofs.SlotLists.{accepted_ring}
use Rattle.nm_port.proofs.Seeing.{pushed_is_seen}
use Rattle.nm_port.proofs.Checked.{ring_found}
use Rattle.nm_port.proofs.Buffers.{cells_by_bufs, count_by_bufs, whole_by_bufs}
use Rattle.nm_own.proofs.Passing.{Passes, ring_is, own_side, positions_fit, ports_once, can_exchange_at}
use Rattle.nm_own.proofs.OnePort.{others_stay}
use Rattle.nm_own.proofs.KeptPorts.{KeepsPlaces, keeps_places_if, sided_by, places_by, filled_by, back_by}
use Rattle.nm_own.proofs.Changing.{tx_keeps}
use Rattle.nm_port.proofs.Ranges.{is_slot_from}

-- the user's slots after a push: those behind the tail that came, and of the old ones those not pushed
pub flag_is : (size a b c h t n : ℕ) → a < size → b < size → c < size → h ≤ t → t < size → n + (t - h) < size → (b + h ≡ a) ⊎ (b + h ≡ a + size) → (c + t ≡ a) ⊎ (c + t ≡ a + size)
    → nat_lt b (t - h + n) ≡ (if nat_lt c n then true else if nat_lt a h then false else nat_lt a t)
flag_is size a b c h t n al bl cl reach tl room near far = elim (cases_Bool (nat_lt c n)) [
  | inl freed ↦ rw freed (less_true b (t - h + n) (in_freed (is_lt c n freed)))
  | inr not_freed ↦ rw not_freed (elim (cases_Bool (nat_lt a h)) [
    | inl pushed ↦ rw pushed (no_lt b (t - h + n) (in_pushed (is_lt a h pushed) (is_ge c n not_freed)))
    | inr not_pushed ↦ rw not_pushed (elim (cases_Bool (nat_lt a t)) [
      | inl old ↦ rw old (less_true b (t - h + n) (in_old (is_ge a h not_pushed) (is_lt a t old)))
      | inr out ↦ rw out (no_lt b (t - h + n) (is_out (is_ge a h not_pushed) (is_ge a t out) (is_ge c n not_freed)))
    ])
  ])
]
  where
    is_lt : (x y : ℕ) → nat_lt x y ≡ true → x < y
    is_lt x y e = grind (arith, nat_tests)

    is_ge : (x y : ℕ) → nat_lt x y ≡ false → y ≤ x
    is_ge x y e = grind (arith, nat_tests)

    no_lt : (x y : ℕ) → y ≤ x → nat_lt x y ≡ false
    no_lt x y e = grind (arith, nat_tests)

    in_freed : c < n → b < t - h + n
    in_freed below = elim near [
      | inl e ↦ elim far [ inl f ↦ omega arith | inr f ↦ omega arith ]
      | inr e ↦ elim far [ inl f ↦ omega arith | inr f ↦ omega arith ]
    ]

    in_pushed : a < h → n ≤ c → t - h + n ≤ b
    in_pushed below past = elim near [
      | inl e ↦ elim far [ inl f ↦ omega arith | inr f ↦ omega arith ]
      | inr e ↦ elim far [ inl f ↦ omega arith | inr f ↦ omega arith ]
    ]

    in_old : h ≤ a → a < t → b < t - h + n
    in_old above below = elim near [
      | inl e ↦ elim far [ inl f ↦ omega arith | inr f ↦ omega arith ]
      | inr e ↦ elim far [ inl f ↦ omega arith | inr f ↦ omega arith ]
    ]

    is_out : h ≤ a → t ≤ a → n ≤ c → t - h + n ≤ b
    is_out above past past_tail = elim near [
      | inl e ↦ elim far [ inl f ↦ omega arith | inr f ↦ omega arith ]
      | inr e ↦ elim far [ inl f ↦ omega arith | inr f ↦ omega arith ]
    ]

-- a place among transmit slots
pub among_tx : (id : PortId) (ats : List ℕ) (at : ℕ) → is_among (map (place.Tx id) ats) (place.Tx id at) ≡ list_any (λ x. nat_eq x at) ats
among_tx id [] at = refl
among_tx id (x ∷ ats) at = rw (same_true id.0 id.0 refl) (ap (λ (b : Bool). nat_eq x at || b) (among_tx id ats at))

pub tx_elsewhere : (id : PortId) (ats : List ℕ) (q : Place) → nat_eq id.0 (port_of q) ≡ false → is_among (map (place.Tx id) ats) q ≡ false
tx_elsewhere id [] q other = refl
tx_elsewhere id (x ∷ ats) (place.Tx port at) other = rw other (tx_elsewhere id ats (place.Tx port at) other)
tx_elsewhere id (x ∷ ats) (place.Rx port at) other = tx_elsewhere id ats (place.Rx port at) other
tx_elsewhere id (x ∷ ats) (place.Extra port at) other = tx_elsewhere id ats (place.Extra port at) other

tx_not_rx : (id port : PortId) (ats : List ℕ) (at : ℕ) → is_among (map (place.Tx id) ats) (place.Rx port at) ≡ false
tx_not_rx id port [] at = refl
tx_not_rx id port (x ∷ ats) at = tx_not_rx id port ats at

tx_not_extra : (id port : PortId) (ats : List ℕ) (at : ℕ) → is_among (map (place.Tx id) ats) (place.Extra port at) ≡ false
tx_not_extra id port [] at = refl
tx_not_extra id port (x ∷ ats) at = tx_not_extra id port ats at

-- a ring whose push can be accepted
module _ (id : PortId) (r : RingSlots) (taken : ℕ) (is : IsRing r.ring) (can : CanPushOut taken r) where
  abbrev size : ℕ
  size = r.ring.size

  abbrev new_tail : ℕ
  new_tail = step_on size r.ring.last_tail taken

  tail_within : r.ring.last_tail < size
  tail_within = let e = is.one_tail in let w = is.within in omega arith

  farther : dist size r.ring.head new_tail ≡ dist size r.ring.head r.ring.last_tail + taken
  farther =
      let few = can.few in
      let below = dist-below size r.ring.head r.ring.last_tail can.fits.head_within in
      dist-add size r.ring.head r.ring.last_tail taken can.fits.head_within tail_within (omega arith)

  tx_flag : (at : ℕ) → at < size → is_among (named_ring_places id (ring_pushed_out taken r)) (place.Tx id at) ≡ named_after_push id r taken (is_among (named_ring_places id r)) (place.Tx id at)
  tx_flag at inside =
      let split = dist_split size r.ring.accepted_head r.ring.head r.ring.last_tail is.accepted can.fits.head_within tail_within can.fits.head_reach in
      let new_count : dist size r.ring.head new_tail ≡ dist size r.ring.accepted_head r.ring.last_tail - dist size r.ring.accepted_head r.ring.head + taken = (let f = farther in omega arith) in
      let few = can.few in
      let a = dist-below size r.ring.accepted_head at is.accepted in
      let b = dist-below size r.ring.head at can.fits.head_within in
      let c = dist-below size r.ring.last_tail at tail_within in
      let t = dist-below size r.ring.accepted_head r.ring.last_tail is.accepted in
      let h = dist-below size r.ring.accepted_head r.ring.head is.accepted in
      let n = dist-below size r.ring.head new_tail can.fits.head_within in
      let after = is_slot_from size r.ring.head (dist size r.ring.head new_tail) at can.fits.head_within (omega arith) inside in
      let before = is_slot_from size r.ring.accepted_head (dist size r.ring.accepted_head r.ring.last_tail) at is.accepted (omega arith) inside in
      let pushed = is_slot_from size r.ring.accepted_head (pushed_count_of r) at is.accepted (omega arith) inside in
      let freed = is_slot_from size r.ring.last_tail taken at tail_within (omega arith) inside in
      let side = can.side in
      let left : is_among (named_ring_places id (ring_pushed_out taken r)) (place.Tx id at) ≡ nat_lt (dist size r.ring.head at) (dist size r.ring.head new_tail) =
      rw side (among_tx id (user_slots (accepted taken r.ring)) at ∙ after) in
      let old : is_among (named_ring_places id r) (place.Tx id at) ≡ nat_lt (dist size r.ring.accepted_head at) (dist size r.ring.accepted_head r.ring.last_tail) =
      rw side (among_tx id (user_slots r.ring) at ∙ before) in
      let in_pushed : is_among (tx_places id size r.ring.accepted_head (pushed_count_of r)) (place.Tx id at) ≡ nat_lt (dist size r.ring.accepted_head at) (pushed_count_of r) = among_tx id (slots_from size r.ring.accepted_head (pushed_count_of r)) at ∙ pushed in
      let in_freed : is_among (tx_places id size r.ring.last_tail taken) (place.Tx id at) ≡ nat_lt (dist size r.ring.last_tail at) taken = among_tx id (slots_from size r.ring.last_tail taken) at ∙ freed in
      left ∙ (ap (nat_lt (dist size r.ring.head at)) new_count
      ∙ (flag_is size (dist size r.ring.accepted_head at) (dist size r.ring.head at) (dist size r.ring.last_tail at) (pushed_count_of r) (dist size r.ring.accepted_head r.ring.last_tail) taken a b c can.fits.head_reach t (omega arith)
      (seen_from size r.ring.accepted_head r.ring.head at is.accepted can.fits.head_within inside) (seen_from size r.ring.accepted_head r.ring.last_tail at is.accepted tail_within inside)
      ∙ sym (rw (in_freed, in_pushed, old) refl)))

-- tests of booleans
pass_by : (f p u v : Bool) → (p ≡ true → u ≡ false) → (u || (if f then true else if p then false else v)) ≡ (if f then true else if p then false else (u || v))
pass_by true p true v h = refl
pass_by true p false v h = refl
pass_by false true u v h = rw (h refl) refl
pass_by false false u v h = refl

pass_here : (f p t w : Bool) → (p ≡ true → w ≡ false) → ((if f then true else if p then false else t) || w) ≡ (if f then true else if p then false else (t || w))
pass_here true p t w h = refl
pass_here false true t w h = rw (h refl) refl
pass_here false false t w h = refl

or_assoc : (a b c : Bool) → ((a || b) || c) ≡ (a || (b || c))
or_assoc true b c = refl
or_assoc false b c = refl

split_among : (xs ys zs : List Place) (q : Place) → is_among ((xs ++ ys) ++ zs) q ≡ (is_among xs q || (is_among ys q || is_among zs q))
split_among xs ys zs q =
    list_any-append (λ x. is_same_place x q) (xs ++ ys) zs
    ∙ (ap (λ (b : Bool). b || is_among zs q) (list_any-append (λ x. is_same_place x q) xs ys) ∙ or_assoc (is_among xs q) (is_among ys q) (is_among zs q))

-- the named places once a port's transmit push was accepted
module _ (id : PortId) (r : RingSlots) (taken : ℕ) (is : IsRing r.ring) (can : CanPushOut taken r) where
  abbrev pushed : List Place
  pushed = tx_places id r.ring.size r.ring.accepted_head (pushed_count_of r)

  abbrev freed : List Place
  freed = tx_places id r.ring.size r.ring.last_tail taken

  -- a place that other places do not have
  named_of_others : (ports : List UserPort) (q : Place) → port_of q ≡ id.0 → AllByRecursion (IsOther id.0) ports → is_among (named_places ports) q ≡ false
  named_of_others [] q at other = refl
  named_of_others (p ∷ ports) q at other =
      list_any-append (λ x. is_same_place x q) (named_places_of p) (named_places ports)
      ∙ rw (none_same (named_places_of p) p.id.0 q (named_of_port p) (rw at (turned p.id.0 id.0 other.0)), named_of_others ports q at other.1) refl

  pushed_here : (q : Place) → is_among pushed q ≡ true → port_of q ≡ id.0
  pushed_here q e = elim (cases_Bool (nat_eq id.0 (port_of q))) [
    | inl here ↦ sym (nat_eq-is id.0 (port_of q) here)
    | inr other ↦ false_true (sym (tx_elsewhere id (slots_from r.ring.size r.ring.accepted_head (pushed_count_of r)) q other) ∙ e)
  ]

  abbrev rest_of : UserPort → List Place
  rest_of p = named_ring_places p.id p.rx ++ map (place.Extra p.id) (range_with_len 0 p.extra)

  -- transmit slots are no receive slots and no extra positions
  pub rest_not_tx : (p : UserPort) (at : ℕ) → p.rx.side ≡ side.Rx → is_among (rest_of p) (place.Tx id at) ≡ false
  rest_not_tx p at rx =
      list_any-append (λ x. is_same_place x (place.Tx id at)) (named_ring_places p.id p.rx) (map (place.Extra p.id) (range_with_len 0 p.extra))
      ∙ rw rx (both (slots (user_slots p.rx.ring)) (extras (range_with_len 0 p.extra)))
    where
      slots : (ats : List ℕ) → is_among (map (place_on side.Rx p.id) ats) (place.Tx id at) ≡ false
      slots [] = refl
      slots (x ∷ ats) = slots ats

      extras : (ats : List ℕ) → is_among (map (place.Extra p.id) ats) (place.Tx id at) ≡ false
      extras [] = refl
      extras (x ∷ ats) = extras ats

      both : {a b : Bool} → a ≡ false → b ≡ false → (a || b) ≡ false
      both e f = rw (e, f) refl

  tx_named : (q : Place) → ((at : ℕ) → q ≡ place.Tx id at → at < r.ring.size) → is_among (named_ring_places id (ring_pushed_out taken r)) q ≡ named_after_push id r taken (is_among (named_ring_places id r)) q
  tx_named (place.Tx port at) inside = elim (cases_Bool (nat_eq id.0 port.0)) [
    | inl here ↦ (let same : port ≡ id = ap (λ (n : ℕ). let i : PortId = record { 0 = n } in i) (sym (nat_eq-is id.0 port.0 here)) in
        rw same (tx_flag id r taken is can at (inside at (ap (λ (i : PortId). place.Tx i at) same))))
    | inr other ↦ (let side = can.side in
        let none = (λ (ats : List ℕ). tx_elsewhere id ats (place.Tx port at) other) in
        rw side (rw (none (user_slots (accepted taken r.ring)), none (user_slots r.ring), none (slots_from r.ring.size r.ring.last_tail taken), none (slots_from r.ring.size r.ring.accepted_head (pushed_count_of r))) refl))
  ]
  tx_named (place.Rx port at) inside =
      let side = can.side in
      let none = (λ (ats : List ℕ). tx_not_rx id port ats at) in
      rw side (rw (none (user_slots (accepted taken r.ring)), none (user_slots r.ring), none (slots_from r.ring.size r.ring.last_tail taken), none (slots_from r.ring.size r.ring.accepted_head (pushed_count_of r))) refl)
  tx_named (place.Extra port at) inside =
      let side = can.side in
      let none = (λ (ats : List ℕ). tx_not_extra id port ats at) in
      rw side (rw (none (user_slots (accepted taken r.ring)), none (user_slots r.ring), none (slots_from r.ring.size r.ring.last_tail taken), none (slots_from r.ring.size r.ring.accepted_head (pushed_count_of r))) refl)

  pushed_not_rest : (p : UserPort) (q : Place) → p.rx.side ≡ side.Rx → is_among pushed q ≡ true → is_among (rest_of p) q ≡ false
  pushed_not_rest p (place.Tx port at) rx e =
      let here : port ≡ id = ap (λ (n : ℕ). let i : PortId = record { 0 = n } in i) (pushed_here (place.Tx port at) e) in
      rw here (rest_not_tx p at rx)
  pushed_not_rest p (place.Rx port at) rx e = false_true (sym (tx_not_rx id port (slots_from r.ring.size r.ring.accepted_head (pushed_count_of r)) at) ∙ e)
  pushed_not_rest p (place.Extra port at) rx e = false_true (sym (tx_not_extra id port (slots_from r.ring.size r.ring.accepted_head (pushed_count_of r)) at) ∙ e)

  abbrev change : PortId → RingSlots → RingSlots
  change of = ring_pushed_out taken

  pub named_after : (ports : List UserPort) (p : UserPort) (q : Place) → AreSided ports → ArePortsOnce (map places_of_port ports) → port_at ports id.0 ≡ Some p → p.tx ≡ Some r
      → ((at : ℕ) → q ≡ place.Tx id at → at < r.ring.size)
      → is_among (named_places (map (port_changed_if id.0 side.Tx change) ports)) q ≡ named_after_push id r taken (is_among (named_places ports)) q
  named_after [] p q sided once found tx inside = absurd cc
  named_after (x ∷ ports) p q sided once found tx inside = elim (cases_Bool (nat_eq x.id.0 id.0)) [
    | inl here ↦ (let is_p : x ≡ p = same_Some x p (rw here at found) in
        let tx_x : x.tx ≡ Some r = ap (λ (y : UserPort). y.tx) is_p ∙ tx in
        let id_x : x.id ≡ id = ap (λ (n : ℕ). let i : PortId = record { 0 = n } in i) (nat_eq-is x.id.0 id.0 here) in
        let rest = rest_other ports id.0 (rw (nat_eq-is x.id.0 id.0 here) at once.0) in
        let same = others_stay id.0 (port_changed side.Tx change) ports rest in
        let tail = is_among (rest_of x) q || is_among (named_places ports) q in
        let apart : is_among pushed q ≡ true → tail ≡ false = (λ e. both (pushed_not_rest x q sided.0.1 e) (named_of_others ports q (pushed_here q e) rest)) in
        let places_new : named_places_of (port_changed side.Tx change x) ≡ named_ring_places id (ring_pushed_out taken r) ++ rest_of x =
        ap (λ (o : Option RingSlots). named_tx_places x.id (option_map (change x.id) o) ++ rest_of x) tx_x ∙ ap (λ (i : PortId). named_ring_places i (ring_pushed_out taken r) ++ rest_of x) id_x in
        let places_old : named_places_of x ≡ named_ring_places id r ++ rest_of x = ap (λ (o : Option RingSlots). named_tx_places x.id o ++ rest_of x) tx_x ∙ ap (λ (i : PortId). named_ring_places i r ++ rest_of x) id_x in
        let after : is_among (named_places_of (port_changed side.Tx change x) ++ named_places (map (port_changed_if id.0 side.Tx change) ports)) q ≡ (is_among (named_ring_places id (ring_pushed_out taken r)) q || tail) =
        ap (λ (all : List UserPort). is_among (named_places_of (port_changed side.Tx change x) ++ named_places all) q) same
        ∙ (ap (λ (xs : List Place). is_among (xs ++ named_places ports) q) places_new ∙ split_among (named_ring_places id (ring_pushed_out taken r)) (rest_of x) (named_places ports) q) in
        let before : is_among (named_places_of x ++ named_places ports) q ≡ (is_among (named_ring_places id r) q || tail) =
        ap (λ (xs : List Place). is_among (xs ++ named_places ports) q) places_old ∙ split_among (named_ring_places id r) (rest_of x) (named_places ports) q in
        rw here (after ∙ (ap (λ (b : Bool). b || tail) (tx_named q inside)
        ∙ (pass_here (is_among freed q) (is_among pushed q) (is_among (named_ring_places id r) q) tail apart
        ∙ ap (λ (b : Bool). if is_among freed q then true else if is_among pushed q then false else b) (sym before)))))
    | inr other ↦ (let others = named_after ports p q sided.1 once.1 (rw other at found) tx inside in
        let apart : is_among pushed q ≡ true → is_among (named_places_of x) q ≡ false = (λ e. none_same (named_places_of x) x.id.0 q (named_of_port x) (rw (pushed_here q e) (turned x.id.0 id.0 other))) in
        rw other (list_any-append (λ y. is_same_place y q) (named_places_of x) (named_places (map (port_changed_if id.0 side.Tx change) ports))
        ∙ (ap (λ (b : Bool). is_among (named_places_of x) q || b) others
        ∙ (pass_by (is_among freed q) (is_among pushed q) (is_among (named_places_of x) q) (is_among (named_places ports) q) apart
        ∙ ap (λ (b : Bool). if is_among freed q then true else if is_among pushed q then false else b) (sym (list_any-append (λ y. is_same_place y q) (named_places_of x) (named_places ports)))))))
  ]
    where
      both : {a b : Bool} → a ≡ false → b ≡ false → (a || b) ≡ false
      both e f = rw (e, f) refl

module _ (h : HoldState) (ports : List UserPort) (id : PortId) (p : UserPort) (r : RingSlots) (x : Passes h ports side.Tx id p r) where
  is_ring : IsRing r.ring
  is_ring = ring_is h ports side.Tx id p r x

  pub tx_side : r.side ≡ side.Tx
  tx_side = own_side h ports side.Tx id p r x

  fits : FitsRing r.ring r.ring.head r.ring.cur
  fits = positions_fit h ports side.Tx id p r x

  -- all its slots hold a buffer
  slot_filled : (at : ℕ) → at < r.ring.size → is_filled_in (place.Tx id at) p ≡ true
  slot_filled at inside = rw (x.has.same_id, x.on, same_true id.0 id.0 refl) (less_true at r.ring.size inside)

  pub slots_held : (at : ℕ) → at < r.ring.size → IsSome (index_at h (place.Tx id at))
  slots_held at inside = some_of (index_at h (place.Tx id at)) (x.has.filled (place.Tx id at) ∙ filled_in_one ports id.0 p (place.Tx id at) x.has.found (slot_filled at inside))

  -- and those of the user a named one
  user_named : (all : List UserPort) → port_at all id.0 ≡ Some p → (at : ℕ) → at < r.ring.size → dist r.ring.size r.ring.accepted_head at < dist r.ring.size r.ring.accepted_head r.ring.last_tail
      → is_among (named_places all) (place.Tx id at) ≡ true
  user_named [] e at inside user = absurd cc
  user_named (y ∷ all) e at inside user = elim (cases_Bool (nat_eq y.id.0 id.0)) [
    | inl here ↦ (let is_p : y ≡ p = same_Some y p (rw here at e) in
        let places : named_places_of y ≡ named_ring_places id r ++ (named_ring_places p.id p.rx ++ map (place.Extra p.id) (range_with_len 0 p.extra)) =
        ap named_places_of is_p ∙ (ap (λ (o : Option RingSlots). named_tx_places p.id o ++ (named_ring_places p.id p.rx ++ map (place.Extra p.id) (range_with_len 0 p.extra))) x.on
        ∙ ap (λ (i : PortId). named_ring_places i r ++ (named_ring_places p.id p.rx ++ map (place.Extra p.id) (range_with_len 0 p.extra))) x.has.same_id) in
        let t = dist-below r.ring.size r.ring.accepted_head r.ring.last_tail is_ring.accepted in
        let in_ring : is_among (named_ring_places id r) (place.Tx id at) ≡ true =
        rw tx_side (among_tx id (user_slots r.ring) at ∙ (is_slot_from r.ring.size r.ring.accepted_head (dist r.ring.size r.ring.accepted_head r.ring.last_tail) at is_ring.accepted (omega arith) inside ∙ less_true (dist r.ring.size r.ring.accepted_head at) (dist r.ring.size r.ring.accepted_head r.ring.last_tail) user)) in
        ap (λ (xs : List Place). is_among (xs ++ named_places all) (place.Tx id at)) places
        ∙ (split_among (named_ring_places id r) (named_ring_places p.id p.rx ++ map (place.Extra p.id) (range_with_len 0 p.extra)) (named_places all) (place.Tx id at) ∙ rw in_ring refl))
    | inr other ↦ list_any-append (λ z. is_same_place z (place.Tx id at)) (named_places_of y) (named_places all) ∙ or_second (is_among (named_places_of y) (place.Tx id at)) (is_among (named_places all) (place.Tx id at)) (user_named all (rw other at e) at inside user)
  ]

  pub can_exchange : CanExchange h id r
  can_exchange = can_exchange_at h ports side.Tx id p r x
      (λ k below. filled_in_one ports id.0 p (place.Tx id (user_position r k)) x.has.found (slot_filled (user_position r k) (within k)))
      (λ k below. user_named ports x.has.found (user_position r k) (within k) (user k below))
    where
      within : (k : ℕ) → user_position r k < r.ring.size
      within k = step_on-below r.ring.size r.ring.accepted_head k is_ring.accepted

      user : (k : ℕ) → k < pushed_count_of r → dist r.ring.size r.ring.accepted_head (user_position r k) < dist r.ring.size r.ring.accepted_head r.ring.last_tail
      user k below =
          let h = dist-below r.ring.size r.ring.accepted_head r.ring.head is_ring.accepted in
          let reach = fits.head_reach in
          let there = dist-step_on r.ring.size r.ring.accepted_head k is_ring.accepted (omega arith) in
          omega arith

  -- as many slots as were pushed can come back
  pub all_have_room : pushed_count_of r ≤ kernel_count r.ring.size r.ring.head r.ring.last_tail
  all_have_room =
      let tail : r.ring.last_tail < r.ring.size = (let w = is_ring.within in let o = is_ring.one_tail in omega arith) in
      let split = dist_split r.ring.size r.ring.accepted_head r.ring.head r.ring.last_tail is_ring.accepted fits.head_within tail fits.head_reach in
      let below = dist-below r.ring.size r.ring.accepted_head r.ring.last_tail is_ring.accepted in
      omega arith

  once : ArePortsOnce (map places_of_port ports)
  once = ports_once h ports side.Tx id p r x

  -- the push of its ring alone is accepted
  module _ (taken : ℕ) (few : taken ≤ kernel_count r.ring.size r.ring.head r.ring.last_tail) where
    can : CanPushOut taken r
    can = record { side = tx_side; is_ring = is_ring; fits = fits; few = few }

    pub can_accept : AllByRecursion (CanAccept id.0 taken) ports
    can_accept = over ports once x.has.found
      where
        none_of : (all : List UserPort) → AllByRecursion (IsOther id.0) all → AllByRecursion (CanAccept id.0 taken) all
        none_of [] other = tt
        none_of (y ∷ all) other = ((λ e. false_true (sym other.0 ∙ same_true y.id.0 id.0 e)), none_of all other.1)

        over : (all : List UserPort) → ArePortsOnce (map places_of_port all) → port_at all id.0 ≡ Some p → AllByRecursion (CanAccept id.0 taken) all
        over [] once there = absurd cc
        over (y ∷ all) once there = elim (cases_Bool (nat_eq y.id.0 id.0)) [
          | inl here ↦ (let is_p : y ≡ p = same_Some y p (rw here at there) in
              let tx_y : y.tx ≡ Some r = ap (λ (z : UserPort). z.tx) is_p ∙ x.on in
              ((λ e. rw tx_y can), none_of all (rest_other all id.0 (rw (nat_eq-is y.id.0 id.0 here) at once.0))))
          | inr other ↦ ((λ e. false_true (sym other ∙ same_true y.id.0 id.0 e)), over all once.1 (rw other at there))
        ]

    abbrev moved : PortId → RingSlots → RingSlots
    moved of = ring_pushed_out taken

    abbrev after : List UserPort
    after = map (port_changed_if id.0 side.Tx moved) ports

    keeps : KeepsPlaces (port_changed_if id.0 side.Tx moved)
    keeps = keeps_places_if id.0 (port_changed side.Tx moved) (tx_keeps moved (λ q r. refl) (λ q r. refl))

    rings_after : AreRings after
    rings_after = over ports x.has.rings can_accept
      where
        ring_of_new : (r : RingSlots) → CanPushOut taken r → IsRing (ring_pushed_out taken r).ring
        ring_of_new r c =
            let tail : r.ring.last_tail < r.ring.size = (let w = c.is_ring.within in let o = c.is_ring.one_tail in omega arith) in
            accepted_ring r.ring (step_on r.ring.size r.ring.last_tail taken) c.is_ring c.fits.head_within (step_on-below r.ring.size r.ring.last_tail taken tail)

        tx_new : (tx : Option RingSlots) → CanPushOutIf taken tx → IsRingIf (option_map (ring_pushed_out taken) tx)
        tx_new None c = tt
        tx_new (Some r) c = ring_of_new r c

        over : (all : List UserPort) → AreRings all → AllByRecursion (CanAccept id.0 taken) all → AreRings (map (port_changed_if id.0 side.Tx moved) all)
        over [] rings can = tt
        over (y ∷ all) rings can = (
          elim (cases_Bool (nat_eq y.id.0 id.0)) [
            | inl here ↦ rw here ((tx_new y.tx (can.0 (nat_eq-is y.id.0 id.0 here)), rings.0.1))
            | inr other ↦ rw other rings.0
          ],
          over all rings.1 can.1,
        )

    module _ (h3 : HoldState) (out : ArePushedOut h h3 id r taken) where
      flagged_after : AreFlagged h3 after
      flagged_after i s there =
          let q = s.home.place in
          let held : is_some (index_at h3 q) ≡ true = ap is_some (out.is_hold.standing i s there).there in
          let filled : is_filled ports q ≡ true = sym (x.has.filled q) ∙ (sym (out.held q) ∙ held) in
          out.flags (is_among (named_places ports)) x.has.flagged i s there
          ∙ sym (named_after id r taken is_ring can ports p q x.has.sided once x.has.found x.on (λ at e. inside at (sym (ap (is_filled ports) e) ∙ filled)))
        where
          inside : (at : ℕ) → is_filled ports (place.Tx id at) ≡ true → at < r.ring.size
          inside at e =
              let one : is_filled_in (place.Tx id at) p ≡ true = sym (filled_one ports id.0 p (place.Tx id at) x.has.found once refl) ∙ e in
              let two : nat_lt at r.ring.size ≡ true = (let test = rw (x.has.same_id, x.on, same_true id.0 id.0 refl) at one in test) in
              is_lt at r.ring.size two
            where
              is_lt : (a b : ℕ) → nat_lt a b ≡ true → a < b
              is_lt a b e = grind (arith, nat_tests)

      cells_same : map bytes_in_cell h3.cells ≡ map bytes_in_cell h.cells
      cells_same = cells_by_bufs h h3 out.bufs

      count_same : buffers_of h3 ≡ buffers_of h
      count_same = count_by_bufs h h3 out.bufs

      pub kept_after : (o : Inside) → IsKept o → (new : Inside) → o.hold ≡ h → o.ports.items ≡ ports → new.hold ≡ h3 → new.ports.items ≡ after → new.marks ≡ o.marks → IsKept new
      kept_after o kept new hold_is ports_are hold_new ports_new marks =
          let blank : o.marks ≡ replicate (buffers_of h + 2) false = rw (← hold_is) kept.blank in
          let whole : AreWhole h = rw (← hold_is) kept.whole in
          record {
            sided = rw ports_new (sided_by keeps ports x.has.sided);
            rings = rw ports_new rings_after;
            flagged = rw (hold_new, ports_new) flagged_after;
            hold = rw hold_new out.is_hold;
            places = rw (hold_new, ports_new) (out.ports ∙ (x.has.places ∙ sym (places_by keeps ports)));
            filled = rw (hold_new, ports_new) (λ q. out.held q ∙ (x.has.filled q ∙ sym (filled_by keeps ports q)));
            whole = rw hold_new (whole_by_bufs h h3 out.bufs whole);
            blank = rw hold_new (marks ∙ (blank ∙ ap (λ (n : ℕ). replicate (n + 2) false) (sym count_same)));
            back = rw ports_new (back_by keeps ports (rw (← ports_are) kept.back));
          }

      ring_moved : ring_seen h3 id (ring_pushed_out taken r) ≡ record (ring_seen h3 id r) { ring = accepted taken r.ring; slots = slots_after_push r.ring r.slots }
      ring_moved = rw tx_side refl

      -- what is seen, where a ring is seen to moved as it does
      ports_seen : (g : OwnRing → OwnRing) → ring_seen h3 id (ring_pushed_out taken r) ≡ g (ring_seen h3 id r) → (all : List UserPort) → ArePortsOnce (map places_of_port all) → port_at all id.0 ≡ Some p
          → map (port_seen h3) (map (port_changed_if id.0 side.Tx moved) all) ≡ map (port_if id.0 (with_ring_on side.Tx g)) (map (port_seen h3) all)
      ports_seen g made [] once there = absurd cc
      ports_seen g made (y ∷ all) once there = elim (cases_Bool (nat_eq y.id.0 id.0)) [
        | inl here ↦ (let is_p : y ≡ p = same_Some y p (rw here at there) in
            let tx_y : y.tx ≡ Some r = ap (λ (z : UserPort). z.tx) is_p ∙ x.on in
            let id_y : y.id ≡ id = ap (λ (z : UserPort). z.id) is_p ∙ x.has.same_id in
            let rest = rest_other all id.0 (rw (nat_eq-is y.id.0 id.0 here) at once.0) in
            let tx_is : option_map (ring_seen h3 y.id) (option_map (moved y.id) y.tx) ≡ option_map g (option_map (ring_seen h3 y.id) y.tx) = rw (tx_y, id_y) (ap (λ (o : OwnRing). Some o) made) in
            rw here (ap (λ (o : Option OwnRing). record (port_seen h3 y) { tx = o } ∷ map (port_seen h3) (map (port_changed_if id.0 side.Tx moved) all)) tx_is
            ∙ ap (λ (xs : List OwnPort). record (port_seen h3 y) { tx = option_map g (option_map (ring_seen h3 y.id) y.tx) } ∷ xs) (ap (map (port_seen h3)) (others_stay id.0 (port_changed side.Tx moved) all rest) ∙ sym (seen_others g all rest))))
        | inr other ↦ rw other (ap (λ (xs : List OwnPort). port_seen h3 y ∷ xs) (ports_seen g made all once.1 (rw other at there)))
      ]
        where
          seen_others : (g : OwnRing → OwnRing) (all : List UserPort) → AllByRecursion (IsOther id.0) all → map (port_if id.0 (with_ring_on side.Tx g)) (map (port_seen h3) all) ≡ map (port_seen h3) all
          seen_others g [] other = refl
          seen_others g (y ∷ all) other = rw other.0 (ap (λ (xs : List OwnPort). port_seen h3 y ∷ xs) (seen_others g all other.1))

      exchanged_seen : map (port_seen h3) ports ≡ (after_exchange side.Tx id.0 (own_seen h ports)).ports
      exchanged_seen =
          let pushed : pushed_on side.Tx id.0 (own_seen h ports) ≡ pushed_seen h id r = rw (ring_found h ports side.Tx id r x.at) (pushed_is_seen h id side.Tx r tx_side is_ring fits) in
          out.seen ports x.has.sided (ap (λ (s : Side). slots_at s ports id.0) tx_side ∙ x.at)
          ∙ (ap (λ (s : Side). fold (after_slot s id.0) (map (port_seen h) ports) (pushed_seen h id r)) tx_side ∙ ap (fold (after_slot side.Tx id.0) (map (port_seen h) ports)) (sym pushed))

      pub sent_is_seen : taken ≡ pushed_count_of r → own_seen h3 after ≡ own_after_send id.0 (own_seen h ports)
      sent_is_seen all =
          let count : pushed_count (ring_seen h3 id r) ≡ taken = length-slots_from r.ring.size r.ring.accepted_head (pushed_count_of r) ∙ sym all in
          let made : ring_seen h3 id (ring_pushed_out taken r) ≡ ring_after_send (ring_seen h3 id r) =
          ring_moved ∙ ap (λ (n : ℕ). record (ring_seen h3 id r) { ring = accepted n r.ring; slots = slots_after_push r.ring r.slots }) (sym count) in
          rw (count_same, cells_same) (ap (λ (ps : List OwnPort). let s : OwnState = record { pool = buffers_of h; ports = ps; bytes = map bytes_in_cell h.cells } in s)
          (ports_seen ring_after_send made ports once x.has.found ∙ ap (map (port_if id.0 (with_ring_on side.Tx ring_after_send))) exchanged_seen))
