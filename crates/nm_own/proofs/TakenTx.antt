-- A put of whose frames the first ones were taken: other buffers stand in their places, the push is
-- accepted, and its tail goes on.
use Rattle.std.proofs.Common.{ℕ, zero, suc, ◌≡◌, ◌≢◌, ◌<◌, ◌≤◌, ◌+◌, Bool, true, false, nat_eq, if◌then◌else◌, List, [], ◌∷◌, ◌++◌, length, map, fold, set, take, reverse, Option, Some, None, option_map, inl, inr, refl, sym, ◌∙◌, ap, arith}
use Rattle.std.specs.Prelude.{is_some, unwrap_or, IsSome}
use Rattle.std.specs.List.{AllByRecursion, list_any, range_with_len, zip}
use Rattle.std.proofs.lemmas.Bool.{cases_Bool}
use Rattle.std.proofs.lemmas.List.{length-map, length-reverse, reverse-reverse}
use Rattle.std.proofs.lemmas.List.FromFn.{take-map-range_with_len}
use Rattle.nm_types.specs.declared.id.PortId.{PortId}
use Rattle.nm_types.specs.declared.id.Side.{Side}
use Rattle.nm_types.specs.declared.id.Side.TheVariants as side
use Rattle.nm_types.specs.declared.place.Place.{Place}
use Rattle.nm_types.specs.declared.place.Place.TheVariants as place
use Rattle.nm_types.specs.Positions.{IsRing, FitsRing, step_on, slots_from, user_slots, pending_slots, pushed_slots, kernel_count}
use Rattle.nm_types.specs.Slots.{SlotState}
use Rattle.nm_types.specs.OwnPorts.{OwnRing, with_ring_on}
use Rattle.nm_types.specs.OwnSyncs.{slots_after_push, with_slot_refilled, with_place_refilled, ring_after_put, taken_slots, taken_on, after_exchange, with_arrival, without_bytes_of, bytes_after, buffers_of_arrivals, own_after_put}
use Rattle.nm_types.proofs.RingSteps.{dist-below, dist_behind, dist_split, step_on-below}
use Rattle.nm_types.proofs.Tests.{less_is, turned, same_true}
use Rattle.nm_region.specs.Buffers.{Buffer, indices_of}
use Rattle.nm_hold.specs.declared.standing.Standing.{Standing}
use Rattle.nm_hold.specs.Offsets.{ArePortsOnce}
use Rattle.nm_hold.specs.Holds.{HoldState, buffers_of, index_at, standing_at, port_of, IsHold}
use Rattle.nm_hold.proofs.Spots.{nat_eq-is}
use Rattle.nm_port.specs.declared.port.UserPort.{UserPort}
use Rattle.nm_port.specs.RingSlots.{RingSlots}
use Rattle.nm_port.specs.Sides.{place_on, number_at}
use Rattle.nm_port.specs.Own.{number_on, extra_number_at, ring_seen, port_seen, own_seen, bytes_in_cell, named_places_of, named_places, places_of_port, is_filled, is_filled_in, AreWhole, port_changed}
use Rattle.nm_port.specs.Regions.{AreOf, HoldsOf}
use Rattle.nm_port.specs.Closing.{AreTaken}
use Rattle.nm_port.specs.Filling.{FlaggedBy}
use Rattle.nm_own.specs.Opening.{blank_arrival, blank_arrivals}
use Rattle.nm_port.specs.Exchanges.{is_among, named_after_push, AreExchanged, AreRenamed, CanPushOut, tx_places, pushed_count_of, ring_pushed_out}
use Rattle.nm_port.specs.Puts.{offered_slot, with_slot_named, ring_taken}
use Rattle.nm_port.specs.Lending.{Run, AreOut}
use Rattle.nm_own.specs.LentSides.{pending_count_of, offered_count_of}
use Rattle.nm_port.proofs.PortOut.{IsOther}
use Rattle.nm_port.proofs.SlotLists.{accepted_ring}
use Rattle.nm_port.proofs.Seeing.{map-same, port_same}
use Rattle.nm_own.proofs.Tests.{some_of, some_true}
use Rattle.nm_own.proofs.Closing.{sided_one, ring_one}
use Rattle.nm_port.proofs.Buffers.{cells_by_bufs, count_by_bufs, whole_by_bufs}
use Rattle.nm_port.proofs.Pushes.{offered_are}
use Rattle.nm_own.proofs.Passing.{Passes, own_side, ports_once}
use Rattle.nm_own.proofs.Pushed.{tx_elsewhere, among_tx, named_after, slots_held}
use Rattle.nm_own.proofs.OnePort.{Among, among, changed_are, ChangesPort, filled_at, named_at, seen_with}
use Rattle.nm_own.proofs.LentTx.{ring_of_put, fits_of_put, first_within, few_offered, exchanged_seen, taken_numbers}
use Rattle.nm_port.proofs.Regions.{holds_same, holds_taken}
use Rattle.nm_own.proofs.ComingIn.{all_turned}
use Rattle.nm_own.proofs.Refilled.{IsCleared, out_taken, out_there, flags_out, flags_in, whole_in, region_in, came_bytes, among_first}

differ : (a b : ℕ) → a ≢ b → nat_eq a b ≡ false
differ a b other = elim (cases_Bool (nat_eq a b)) [
  | inl same ↦ absurd (other (nat_eq-is a b same))
  | inr no_same ↦ no_same
]

-- a list of numbers some of which are others
range_same : (f g : ℕ → ℕ) (a n : ℕ) → ((j : ℕ) → a ≤ j → g j ≡ f j) → map g (range_with_len a n) ≡ map f (range_with_len a n)
range_same f g a zero same = refl
range_same f g a (suc n) same = ap (λ (x : ℕ). x ∷ map g (range_with_len (a + 1) n)) (same a (omega arith)) ∙ ap (λ (xs : List ℕ). f a ∷ xs) (range_same f g (a + 1) n (λ j past. same j (omega arith)))

range_set : (f g : ℕ → ℕ) (a n k v : ℕ) → k < n → g (a + k) ≡ v → ((j : ℕ) → nat_eq j (a + k) ≡ false → g j ≡ f j) → map g (range_with_len a n) ≡ set (map f (range_with_len a n)) k v
range_set f g a zero k v below here others = absurd (omega arith)
range_set f g a (suc n) zero v below here others =
    let first : a + 0 ≡ a = omega arith in
    ap (λ (x : ℕ). x ∷ map g (range_with_len (a + 1) n)) (sym (ap g first) ∙ here) ∙ ap (λ (xs : List ℕ). v ∷ xs) (range_same f g (a + 1) n (λ j past. others j (differ j (a + 0) (λ e. absurd (omega arith)))))
range_set f g a (suc n) (suc k) v below here others =
    let step : a + 1 + k ≡ a + suc k = omega arith in
    ap (λ (x : ℕ). x ∷ map g (range_with_len (a + 1) n)) (others a (differ a (a + suc k) (λ e. absurd (omega arith))))
    ∙ ap (λ (xs : List ℕ). f a ∷ xs) (range_set f g (a + 1) n k v (omega arith) (ap g step ∙ here) (λ j other. others j (rw (← step) other)))

refilled_are : (f g : ℕ → ℕ) (n : ℕ) (ats : List ℕ) → AllByRecursion (λ at. at < n) ats → ((j : ℕ) → list_any (λ at. nat_eq at j) ats ≡ false → g j ≡ f j)
    → map f (range_with_len 0 n) ≡ fold with_place_refilled (map g (range_with_len 0 n)) (zip ats (map f ats))
refilled_are f g n [] within same = range_same g f 0 n (λ j above. sym (same j refl))
refilled_are f g n (at ∷ ats) within same =
    refilled_are f next n ats within.1 left
    ∙ ap (λ (held : List ℕ). fold with_place_refilled held (zip ats (map f ats))) (range_set g next 0 n at (f at) within.0 here others)
  where
    next : ℕ → ℕ
    next j = if nat_eq j at then f at else g j

    here : next (0 + at) ≡ f at
    here = let first : 0 + at ≡ at = omega arith in ap next first ∙ rw (same_true at at refl) refl

    others : (j : ℕ) → nat_eq j (0 + at) ≡ false → next j ≡ g j
    others j other = let first : 0 + at ≡ at = omega arith in rw (rw first at other) refl

    left : (j : ℕ) → list_any (λ x. nat_eq x j) ats ≡ false → next j ≡ f j
    left j none = elim (cases_Bool (nat_eq j at)) [
      | inl is ↦ rw is (ap f (sym (nat_eq-is j at is)))
      | inr other ↦ rw other (same j (rw (turned j at other) none))
    ]

named_one_by_one : (h : HoldState) (id : PortId) (slots : List SlotState) (ats : List ℕ) → fold (with_slot_named h id) slots ats ≡ fold with_slot_refilled slots (zip ats (map (number_on h side.Tx id) ats))
named_one_by_one h id slots [] = refl
named_one_by_one h id slots (at ∷ ats) = named_one_by_one h id (with_slot_named h id slots at) ats

all_slots_within : (size first a n : ℕ) → first < size → AllByRecursion (λ at. at < size) (map (step_on size first) (range_with_len a n))
all_slots_within size first a zero within = tt
all_slots_within size first a (suc n) within = (step_on-below size first a within, all_slots_within size first (a + 1) n within)

not_among : (ats : List ℕ) (id : PortId) (port : PortId) (at : ℕ) → (is_among (map (place.Tx id) ats) (place.Rx port at) ≡ false) × (is_among (map (place.Tx id) ats) (place.Extra port at) ≡ false)
not_among [] id port at = (refl, refl)
not_among (x ∷ ats) id port at = not_among ats id port at

arrivals_are : (idxs : List ℕ) → buffers_of_arrivals (blank_arrivals idxs) ≡ idxs
arrivals_are [] = refl
arrivals_are (i ∷ idxs) = ap (λ (is : List ℕ). i ∷ is) (arrivals_are idxs)

module _ (h : HoldState) (ports : List UserPort) (id : PortId) (p : UserPort) (r : RingSlots) (x : Passes h ports side.Tx id p r) where
  abbrev size : ℕ
  size = r.ring.size

  abbrev first : ℕ
  first = offered_slot r.ring

  is_ring : IsRing r.ring
  is_ring = ring_of_put h ports id p r x

  tx_side : r.side ≡ side.Tx
  tx_side = own_side h ports side.Tx id p r x

  fits : FitsRing r.ring r.ring.head r.ring.cur
  fits = fits_of_put h ports id p r x

  within : first < size
  within = first_within h ports id p r x

  pub tail_within : r.ring.last_tail < size
  tail_within = let e = is_ring.one_tail in let w = is_ring.within in omega arith

  once : ArePortsOnce (map places_of_port ports)
  once = ports_once h ports side.Tx id p r x

  pub others : Among ports id.0 p
  others = among ports id.0 p x.has.found once

  same_number : p.id.0 ≡ id.0
  same_number = ap (λ (i : PortId). i.0) x.has.same_id

  rx_side : p.rx.side ≡ side.Rx
  rx_side = (sided_one ports id.0 p x.has.found x.has.sided).1

  filled_here : (q : Place) → port_of q ≡ id.0 → is_filled ports q ≡ is_filled_in q p
  filled_here q at = ap (λ (all : List UserPort). is_filled all q) others.are ∙ filled_at id.0 others.before others.behind p q others.first others.rest at

  -- as many slots as are offered can be taken
  pub offers_have_room : offered_count_of r ≡ kernel_count size r.ring.head r.ring.last_tail
  offers_have_room =
      let split = dist_split size r.ring.accepted_head r.ring.head r.ring.last_tail is_ring.accepted fits.head_within tail_within fits.head_reach in
      let below = dist-below size r.ring.accepted_head r.ring.last_tail is_ring.accepted in
      let behind = dist_behind size r.ring.accepted_head r.ring.last_tail is_ring.accepted tail_within in
      omega arith

  abbrev run : Run
  run = record { id = id; side = r.side; size = size; first = first }

  abbrev firsts : ℕ → List Place
  firsts n = map (place_on r.side id) (slots_from size first n)

  firsts_are : (n : ℕ) → firsts n ≡ map (place.Tx id) (slots_from size first n)
  firsts_are n = ap (λ (s : Side). map (place_on s id) (slots_from size first n)) tx_side

  -- its push was exchanged, the buffers of the first slots offered went out, and others came in
  module _ (h1 mid h2 : HoldState) (exchange : AreExchanged h h1 id r (pushed_count_of r)) (gone came : List Buffer) (same_count : length gone ≡ length came) (enough : length came ≤ offered_count_of r)
      (went : AreOut h1 run (pending_count_of r) (reverse gone) mid) (comes : AreOut h2 run (pending_count_of r) (reverse came) mid) (is_put : IsHold h2) where
    abbrev count : ℕ
    count = length came

    few_came : length (reverse came) ≤ size
    few_came = let few = few_offered h ports id p r x in omega (arith, length-reverse came, few)

    few_gone : length (reverse gone) ≤ size
    few_gone = let few = few_offered h ports id p r x in omega (arith, length-reverse gone, few, same_count)

    taken_out : AreTaken h1 mid (firsts count) [] gone
    taken_out =
        let taken = out_taken run (pending_count_of r) h1 mid (reverse gone) exchange.is_hold within few_gone went in
        rw (reverse-reverse gone, length-reverse gone, same_count) at taken

    taken_back : AreTaken h2 mid (firsts count) [] came
    taken_back =
        let taken = out_taken run (pending_count_of r) h2 mid (reverse came) is_put within few_came comes in
        rw (reverse-reverse came, length-reverse came) at taken

    elsewhere_same : (q : Place) → is_among (firsts count) q ≡ false → index_at h2 q ≡ index_at h1 q
    elsewhere_same q other =
        sym (taken_back.index q ∙ ap (λ (b : Bool). if b then None else index_at h2 q) other) ∙ (taken_out.index q ∙ ap (λ (b : Bool). if b then None else index_at h1 q) other)

    held_first : (q : Place) → is_among (firsts count) q ≡ true → (is_some (index_at h2 q) ≡ true) × (is_some (index_at h1 q) ≡ true)
    held_first q among_them = (
      among_first (λ y. is_some (index_at h2 y)) run count q (λ k below. out_there run (pending_count_of r) h2 mid (reverse came) is_put within few_came comes k (omega (arith, length-reverse came, below))) among_them,
      among_first (λ y. is_some (index_at h1 y)) run count q (λ k below. out_there run (pending_count_of r) h1 mid (reverse gone) exchange.is_hold within few_gone went k (omega (arith, length-reverse gone, same_count, below))) among_them,
    )

    same_held : (q : Place) → is_some (index_at h2 q) ≡ is_some (index_at h q)
    same_held q = elim (cases_Bool (is_among (firsts count) q)) [
      | inl here ↦ (let both = held_first q here in both.0 ∙ (sym both.1 ∙ exchange.held q))
      | inr other ↦ ap is_some (elsewhere_same q other) ∙ exchange.held q
    ]

    pub slots_filled : (at : ℕ) → at < size → IsSome (index_at h2 (place.Tx id at))
    slots_filled at inside = some_of (index_at h2 (place.Tx id at)) (same_held (place.Tx id at) ∙ some_true (index_at h (place.Tx id at)) (slots_held h ports id p r x at inside))

    flags_put : FlaggedBy h2 (is_among (named_places ports))
    flags_put =
        let was = is_among (named_places ports) in
        let out = flags_out run (pending_count_of r) h1 mid (reverse gone) was went (exchange.flags was x.has.flagged) in
        flags_in run (pending_count_of r) h2 mid (reverse came) was comes out.0 (λ k below. out.1 k (omega (arith, length-reverse came, length-reverse gone, same_count, below)))

    ports_put : h2.ports ≡ h.ports
    ports_put = sym taken_back.ports ∙ (taken_out.ports ∙ exchange.ports)

    count_put : buffers_of h2 ≡ buffers_of h
    count_put = sym taken_back.count ∙ (taken_out.count ∙ count_by_bufs h h1 exchange.bufs)

    pub regions_put : (region : ℕ) → HoldsOf region h → AreOf region (reverse came) → HoldsOf region h2
    regions_put region of are = region_in run (pending_count_of r) region h2 mid (reverse came) comes are (holds_taken region h1 mid _ _ _ taken_out (holds_same region h h1 exchange.bufs of))

    module _ (h3 h4 : HoldState) (pushed : AreRenamed h2 h3 false (tx_places id size r.ring.accepted_head (pushed_count_of r))) (freed : AreRenamed h3 h4 true (tx_places id size r.ring.last_tail count)) (blank : AllByRecursion IsCleared came) where
      pub regions_now : (region : ℕ) → HoldsOf region h → AreOf region (reverse came) → HoldsOf region h4
      regions_now region of are = holds_same region h2 h4 (freed.bufs ∙ pushed.bufs) (regions_put region of are)

      can : CanPushOut count r
      can = record { side = tx_side; is_ring = is_ring; fits = fits; few = (let room = offers_have_room in omega arith) }

      change : PortId → RingSlots → RingSlots
      change of = ring_taken h4 id count

      abbrev pub with_taken : UserPort
      with_taken = port_changed side.Tx (λ (of : PortId). ring_taken h4 id count) p

      same_filled : (q : Place) → is_some (index_at h4 q) ≡ is_some (index_at h q)
      same_filled q = ap is_some (freed.same q ∙ pushed.same q) ∙ same_held q

      filled_in_same : (q : Place) → is_filled_in q p ≡ is_filled_in q with_taken
      filled_in_same (place.Tx port at) = rw x.on refl
      filled_in_same (place.Rx port at) = refl
      filled_in_same (place.Extra port at) = refl

      flags_all : FlaggedBy h4 (named_after_push id r count (is_among (named_places ports)))
      flags_all = freed.flags _ (pushed.flags _ flags_put)

      named_now : (q : Place) → port_of q ≡ id.0 → ((at : ℕ) → q ≡ place.Tx id at → at < size) → is_among (named_places_of with_taken) q ≡ named_after_push id r count (is_among (named_places ports)) q
      named_now q here inside =
          let push = port_changed side.Tx (λ (of : PortId). ring_pushed_out count) in
          let same : named_places_of with_taken ≡ named_places_of (push p) = rw x.on refl in
          let list = ap (map _) others.are ∙ changed_are id.0 push others.before others.behind p others.first others.rest same_number in
          ap (λ (all : List Place). is_among all q) same
          ∙ (sym (named_at id.0 others.before others.behind (push p) q others.first others.rest here)
          ∙ (sym (ap (λ (all : List UserPort). is_among (named_places all) q) list) ∙ named_after id r count is_ring can ports p q x.has.sided once x.has.found x.on inside))

      flags_now : (i : ℕ) (s : Standing) → standing_at h4 i ≡ Some s → port_of s.home.place ≡ id.0 → s.home.named ≡ is_among (named_places_of with_taken) s.home.place
      flags_now i s there at =
          let q = s.home.place in
          let held : is_some (index_at h4 q) ≡ true = ap is_some (freed.is_hold.standing i s there).there in
          let filled : is_filled_in q p ≡ true = sym (same_filled q ∙ (x.has.filled q ∙ filled_here q at)) ∙ held in
          flags_all i s there ∙ sym (named_now q at (λ n e. inside n (sym (ap (λ (y : Place). is_filled_in y p) e) ∙ filled)))
        where
          inside : (at : ℕ) → is_filled_in (place.Tx id at) p ≡ true → at < size
          inside at e = less_is at size (rw (x.has.same_id, x.on, same_true id.0 id.0 refl) at e)

      flags_elsewhere : (i : ℕ) (s : Standing) → standing_at h4 i ≡ Some s → nat_eq (port_of s.home.place) id.0 ≡ false → s.home.named ≡ is_among (named_places ports) s.home.place
      flags_elsewhere i s there other =
          let apart = turned (port_of s.home.place) id.0 other in
          let none_freed = tx_elsewhere id (slots_from size r.ring.last_tail count) s.home.place apart in
          let none_pushed = tx_elsewhere id (slots_from size r.ring.accepted_head (pushed_count_of r)) s.home.place apart in
          flags_all i s there ∙ rw (none_freed, none_pushed) refl

      count_now : buffers_of h4 ≡ buffers_of h
      count_now = count_by_bufs h2 h4 (freed.bufs ∙ pushed.bufs) ∙ count_put

      pub changes : AreWhole h → ChangesPort h h4 ports id p with_taken
      changes whole = record {
        like = record {
          same_id = refl;
          sizes = rw x.on refl;
          back = refl;
          sides = (rw x.on tx_side, rx_side);
          rings = (rw x.on (accepted_ring r.ring (step_on size r.ring.last_tail count) is_ring fits.head_within (step_on-below size r.ring.last_tail count tail_within)), ring_one ports id.0 p x.has.found x.has.rings);
        };
        elsewhere = λ q other. same_filled q;
        filled = λ q at. same_filled q ∙ (x.has.filled q ∙ (filled_here q at ∙ filled_in_same q));
        flags_elsewhere = flags_elsewhere;
        flags = flags_now;
        same_ports = freed.ports ∙ (pushed.ports ∙ ports_put);
        count = count_now;
        whole = whole_by_bufs h2 h4 (freed.bufs ∙ pushed.bufs)
            (whole_in run (pending_count_of r) h2 mid (reverse came) comes (all_turned IsCleared came blank) (λ i s there. whole_by_bufs h h1 exchange.bufs whole i s (taken_out.stood i s there)));
        is_hold = freed.is_hold;
      }

      -- how it is seen
      index_now : (q : Place) → is_among (firsts count) q ≡ false → index_at h4 q ≡ index_at h1 q
      index_now q other = freed.same q ∙ (pushed.same q ∙ elsewhere_same q other)

      number_now : (q : Place) → is_among (map (place.Tx id) (slots_from size first count)) q ≡ false → number_at h4 q ≡ number_at h1 q
      number_now q other = ap (λ (o : Option ℕ). unwrap_or o 0) (index_now q (ap (λ (ps : List Place). is_among ps q) (firsts_are count) ∙ other))

      numbers_came : indices_of came ≡ map (number_on h4 side.Tx id) (slots_from size first count)
      numbers_came =
          ap indices_of (sym (out_is_came)) ∙ (taken_back.indices ∙ (ap (λ (ps : List Place). map (number_at h2) ps) (firsts_are count) ∙ over (slots_from size first count)))
        where
          out_is_came : taken_back.out ≡ came
          out_is_came = sym taken_back.joined

          over : (ats : List ℕ) → map (number_at h2) (map (place.Tx id) ats) ≡ map (number_on h4 side.Tx id) ats
          over [] = refl
          over (at ∷ ats) =
              let same : number_at h2 (place.Tx id at) ≡ number_on h4 side.Tx id at = ap (λ (o : Option ℕ). unwrap_or o 0) (sym (freed.same (place.Tx id at) ∙ pushed.same (place.Tx id at))) in
              ap (λ (n : ℕ). n ∷ map (number_at h2) (map (place.Tx id) ats)) same ∙ ap (λ (ns : List ℕ). number_on h4 side.Tx id at ∷ ns) (over ats)

      count_is : length (indices_of came) ≡ count
      count_is = length-map came (λ (b : Buffer). b.index)

      taken_are : taken_slots (indices_of came) (ring_seen h1 id r) ≡ zip (slots_from size first count) (map (number_on h4 side.Tx id) (slots_from size first count))
      taken_are =
          let slots : take count (pending_slots r.ring ++ pushed_slots r.ring r.ring.head) ≡ slots_from size first count =
          ap (take count) (sym (offered_are r.ring is_ring)) ∙ take-map-range_with_len (step_on size first) 0 (offered_count_of r) count enough in
          ap (λ (n : ℕ). zip (take n (pending_slots r.ring ++ pushed_slots r.ring r.ring.head)) (indices_of came)) count_is
          ∙ (ap (λ (ats : List ℕ). zip ats (indices_of came)) slots ∙ ap (zip (slots_from size first count)) numbers_came)

      held_now : map (number_on h4 side.Tx id) (range_with_len 0 size) ≡ fold with_place_refilled (map (number_on h1 side.Tx id) (range_with_len 0 size)) (zip (slots_from size first count) (map (number_on h4 side.Tx id) (slots_from size first count)))
      held_now = refilled_are (number_on h4 side.Tx id) (number_on h1 side.Tx id) size (slots_from size first count) (all_slots_within size first 0 count within)
          (λ j none. sym (number_now (place.Tx id j) (among_tx id (slots_from size first count) j ∙ none)))

      ring_made : ring_seen h4 id (ring_taken h4 id count r) ≡ ring_after_put (indices_of came) (ring_seen h1 id r)
      ring_made =
          let pairs = zip (slots_from size first count) (map (number_on h4 side.Tx id) (slots_from size first count)) in
          let slots = named_one_by_one h4 id (slots_after_push r.ring r.slots) (slots_from size first count) in
          rw (taken_are, count_is, tx_side, held_now, slots) refl

      rx_same : ring_seen h4 p.id p.rx ≡ ring_seen h1 p.id p.rx
      rx_same = rw rx_side (rw (map-same (number_on h4 side.Rx p.id) (number_on h1 side.Rx p.id) (user_slots p.rx.ring) (λ at. number_now (place.Rx p.id at) (not_among (slots_from size first count) id p.id at).0)) refl)

      port_made : port_seen h4 with_taken ≡ with_ring_on side.Tx (ring_after_put (indices_of came)) (port_seen h1 p)
      port_made =
          let tx : option_map (ring_seen h4 p.id) (option_map (ring_taken h4 id count) p.tx) ≡ option_map (ring_after_put (indices_of came)) (option_map (ring_seen h1 p.id) p.tx) = rw (x.on, x.has.same_id) (ap (λ (o : OwnRing). Some o) ring_made) in
          rw (tx, rx_same, map-same (extra_number_at h4 p.id) (extra_number_at h1 p.id) (range_with_len 0 p.extra) (λ at. number_now (place.Extra p.id at) (not_among (slots_from size first count) id p.id at).1)) refl

      others_seen : (y : UserPort) → IsOther id.0 y → port_seen h4 y ≡ port_seen h1 y
      others_seen y other = port_same h1 h4 y (λ q at. number_now q (tx_elsewhere id (slots_from size first count) q (turned (port_of q) id.0 (rw at other))))

      pub taken_is_seen : own_seen h4 (others.before ++ with_taken ∷ others.behind) ≡ own_after_put id.0 (blank_arrivals (indices_of came)) (own_seen h ports)
      taken_is_seen =
          let arrivals = blank_arrivals (indices_of came) in
          let t = after_exchange side.Tx id.0 (own_seen h ports) in
          let g = with_ring_on side.Tx (ring_after_put (indices_of came)) in
          let seen = seen_with h1 h4 id g others_seen others.before others.behind p with_taken others.first others.rest same_number port_made in
          let all : map (port_seen h1) (others.before ++ p ∷ others.behind) ≡ t.ports = ap (map (port_seen h1)) (sym others.are) ∙ exchanged_seen h ports id p r x h1 exchange in
          let long : length arrivals ≡ count = length-map (indices_of came) blank_arrival ∙ count_is in
          let gone_are : taken_on id.0 t.ports (length arrivals) ≡ map (number_at h1) (firsts count) = ap (taken_on id.0 t.ports) long ∙ taken_numbers h ports id p r x h1 exchange count enough in
          let bytes : map bytes_in_cell h4.cells ≡ bytes_after (taken_on id.0 t.ports (length arrivals)) arrivals (map bytes_in_cell h.cells) =
          cells_by_bufs h2 h4 (freed.bufs ∙ pushed.bufs)
          ∙ (came_bytes run (pending_count_of r) h2 mid came comes blank
          ∙ ap (λ (b : List (List ℕ)). fold with_arrival b arrivals)
          (taken_out.bytes ∙ (ap (λ (b : List (List ℕ)). fold without_bytes_of b (map (number_at h1) (firsts count))) (cells_by_bufs h h1 exchange.bufs) ∙ ap (fold without_bytes_of (map bytes_in_cell h.cells)) (sym gone_are)))) in
          rw (count_now, bytes, seen, all, arrivals_are (indices_of came)) refl
