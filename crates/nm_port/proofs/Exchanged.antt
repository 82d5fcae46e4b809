-- The pushed slots of a ring, exchanged one after another, and buffers that are named ones or not.
use Rattle.std.proofs.Common.{ℕ, zero, suc, ◌≡◌, ◌≢◌, ◌<◌, ◌≤◌, ◌+◌, Bool, true, false, nat_eq, if◌then◌else◌, List, [], ◌∷◌, ◌++◌, length, map, fold, take, drop, get_or, Option, Some, None, option_map, inl, inr, refl, sym, ◌∙◌, ap, arith, rules}
use Rattle.std.specs.Prelude.{is_some, unwrap_or, IsSome}
use Rattle.std.specs.Option.{option_map_or}
use Rattle.std.specs.List.{AllByRecursion, range_with_len}
use Rattle.std.proofs.lemmas.Bool.{cases_Bool, cases_lt}
use Rattle.std.proofs.lemmas.Bool.Decides.{nat_tests}
use Rattle.std.proofs.lemmas.List.{get_or_at, drop_more, length-map, length-take-le}
use Rattle.std.proofs.lemmas.List.Sums.{fold-append}
use Rattle.std.proofs.lemmas.Option.{same_Some}
use Rattle.nm_types.specs.declared.id.PortId.{PortId}
use Rattle.nm_types.specs.declared.id.Side.{Side}
use Rattle.nm_types.specs.declared.id.Side.TheVariants.{Tx, Rx}
use Rattle.nm_types.specs.declared.place.Place.{Place}
use Rattle.nm_types.specs.declared.place.Place.TheVariants as place
use Rattle.nm_types.specs.Places.{Held, held_at}
use Rattle.nm_types.specs.Positions.{IsRing, FitsRing, dist, slots_from}
use Rattle.nm_types.specs.Exchange.{swapped, exchanged}
use Rattle.nm_types.specs.OwnPorts.{OwnRing, OwnPort, ring_on}
use Rattle.nm_types.specs.OwnSyncs.{ring_swapped, port_swapped, buffer_on, after_slot}
use Rattle.nm_types.proofs.Exchanges.{held_at-exchanged, swapped-first, swapped-other}
use Rattle.nm_types.proofs.RingSteps.{dist-below, dist-step_on}
use Rattle.nm_types.proofs.Tests.{false_true}
use Rattle.nm_hold.specs.declared.standing.Standing.{Standing}
use Rattle.nm_region.specs.Buffers.{Buffer}
use Rattle.nm_hold.specs.Standings.{buf_in}
use Rattle.nm_hold.specs.Renames.{cell_named_in, with_places_named}
use Rattle.nm_hold.proofs.Renamed.{named_at}
use Rattle.nm_hold.specs.Holds.{HoldState, places_in, places_of, bufs_of, index_at, standing_at, stands_at, is_named_at, is_named_in, IsHold, SamePlaces}
use Rattle.nm_hold.proofs.Spots.{nat_eq-is, same_place-is}
use Rattle.nm_hold.proofs.Shown.{named_stands}
use Rattle.nm_port.specs.declared.port.UserPort.{UserPort}
use Rattle.nm_port.specs.RingSlots.{RingSlots}
use Rattle.nm_port.specs.Sides.{place_on, number_at, name_at, pushed_seen_at}
use Rattle.nm_port.specs.Own.{number_on, positions_of, extra_number_at, ring_seen, port_seen, slots_on, slots_at, AreSided}
use Rattle.nm_port.specs.Filling.{FlaggedBy}
use Rattle.nm_port.specs.Exchanges.{IsNamedThere, pushed_count_of, user_position, user_place, CanExchange, AreExchanged, is_among, named_if, AreRenamed, tx_places, ArePushedOut}
use Rattle.nm_port.proofs.Seeing.{buffer_seen, ports_same}
use Rattle.nm_port.proofs.Pushes.{seen_more}
use Rattle.nm_port.proofs.Checked.{side_found}

-- two indices that have changed places
swapped_zero : (a b : ℕ) → 2 ≤ a → 2 ≤ b → swapped a b 0 ≡ 0
swapped_zero a b low other = grind (arith, nat_tests)

swapped_back : (a b i : ℕ) → swapped a b (swapped a b i) ≡ i
swapped_back a b i = grind (arith, nat_tests)

unswapped : (a b i : ℕ) (o : Option ℕ) → option_map (swapped a b) o ≡ Some i → o ≡ Some (swapped a b i)
unswapped a b i None e = cc
unswapped a b i (Some x) e =
    let same : swapped a b x ≡ i = same_Some (swapped a b x) i e in
    ap (λ (n : ℕ). Some n) (sym (swapped_back a b x) ∙ ap (swapped a b) same)

same_for_swapped : (f : ℕ → Bool) (a b i : ℕ) → f a ≡ true → f b ≡ true → f (swapped a b i) ≡ f i
same_for_swapped f a b i first second = elim (cases_Bool (nat_eq i a)) [
  | inl is ↦ rw is (second ∙ sym (ap f (nat_eq-is i a is) ∙ first))
  | inr other ↦ rw other (elim (cases_Bool (nat_eq i b)) [
    | inl is ↦ rw is (first ∙ sym (ap f (nat_eq-is i b is) ∙ second))
    | inr differs ↦ rw differs refl
  ])
]

map_through : (w f g : ℕ → ℕ) (xs : List ℕ) → ((x : ℕ) → f x ≡ w (g x)) → map f xs ≡ map w (map g xs)
map_through w f g [] each = refl
map_through w f g (x ∷ xs) each = ap (λ (y : ℕ). y ∷ map f xs) (each x) ∙ ap (λ (ys : List ℕ). w (g x) ∷ ys) (map_through w f g xs each)

-- the ports once two buffers have changed places
module _ (now new : HoldState) (a b : ℕ) (numbers : (q : Place) → number_at new q ≡ swapped a b (number_at now q)) where
  on_side : (s : Side) (id : PortId) (at : ℕ) → number_on new s id at ≡ swapped a b (number_on now s id at)
  on_side Tx id at = numbers (place.Tx id at)
  on_side Rx id at = numbers (place.Rx id at)

  ring_now : (id : PortId) (r : RingSlots) → ring_seen new id r ≡ ring_swapped a b (ring_seen now id r)
  ring_now id r = rw (map_through (swapped a b) (number_on new r.side id) (number_on now r.side id) (positions_of r.side r.ring) (on_side r.side id)) refl

  tx_now : (id : PortId) (tx : Option RingSlots) → option_map (ring_seen new id) tx ≡ option_map (ring_swapped a b) (option_map (ring_seen now id) tx)
  tx_now id None = refl
  tx_now id (Some r) = ap (λ (o : OwnRing). Some o) (ring_now id r)

  port_now : (p : UserPort) → port_seen new p ≡ port_swapped a b (port_seen now p)
  port_now p = rw (tx_now p.id p.tx, ring_now p.id p.rx, map_through (swapped a b) (extra_number_at new p.id) (extra_number_at now p.id) (range_with_len 0 p.extra) (λ at. numbers (place.Extra p.id at))) refl

  ports_now : (ports : List UserPort) → map (port_seen new) ports ≡ map (port_swapped a b) (map (port_seen now) ports)
  ports_now [] = refl
  ports_now (p ∷ ports) = ap (λ (x : OwnPort). x ∷ map (port_seen new) ports) (port_now p) ∙ ap (λ (xs : List OwnPort). port_swapped a b (port_seen now p) ∷ xs) (ports_now ports)

-- the buffer in the place of a user slot, as it is seen
buffer_found : (now : HoldState) (ports : List UserPort) (side : Side) (id : PortId) (r : RingSlots) (k : ℕ) → AreSided ports → slots_at side ports id.0 ≡ Some r → IsRing r.ring
    → k < dist r.ring.size r.ring.accepted_head r.ring.last_tail → buffer_on side id.0 (map (port_seen now) ports) (user_position r k) ≡ number_on now side id (user_position r k)
buffer_found now [] side id r k sided e is below = absurd cc
buffer_found now (p ∷ ports) side id r k sided e is below =
    let own_side = side_found (p ∷ ports) side id r sided e in
    elim (cases_Bool (nat_eq p.id.0 id.0)) [
      | inl here ↦ (let on : slots_on side p ≡ Some r = rw here at e in
          let same : p.id ≡ id = ap (λ (n : ℕ). let i : PortId = record { 0 = n } in i) (nat_eq-is p.id.0 id.0 here) in
          rw (here, seen_on side, on, same) (buffer_seen now id side r k own_side is below))
      | inr other ↦ rw other (buffer_found now ports side id r k sided.1 (rw other at e) is below)
    ]
  where
    seen_on : (side : Side) → ring_on side (port_seen now p) ≡ option_map (ring_seen now p.id) (slots_on side p)
    seen_on Tx = refl
    seen_on Rx = refl

-- a buffer stands in one place
pub one_place : (h : HoldState) (p q : Place) (i : ℕ) → IsHold h → index_at h p ≡ Some i → index_at h q ≡ Some i → p ≡ q
one_place h p q i is e f = by_cell (standing_at h i) refl
  where
    by_cell : (o : Option Standing) → standing_at h i ≡ o → p ≡ q
    by_cell None there = absurd (let none = sym (ap (stands_at p) there) ∙ is.held p i e in cc)
    by_cell (Some s) there =
        let first : p ≡ s.home.place = same_place-is p s.home.place (sym (ap (stands_at p) there) ∙ is.held p i e) in
        let second : q ≡ s.home.place = same_place-is q s.home.place (sym (ap (stands_at q) there) ∙ is.held q i f) in
        first ∙ sym second

-- the places of two pushed slots
abbrev position_in : Place → ℕ
position_in (place.Tx port at) = at
position_in (place.Rx port at) = at
position_in (place.Extra port at) = at

position_on : (s : Side) (id : PortId) (at : ℕ) → position_in (place_on s id at) ≡ at
position_on Tx id at = refl
position_on Rx id at = refl

pub user_apart : (id : PortId) (r : RingSlots) (j k : ℕ) → IsRing r.ring → FitsRing r.ring r.ring.head r.ring.cur → j < k → k < pushed_count_of r → user_place id r j ≢ user_place id r k
user_apart id r j k is fits less below same =
    let within = dist-below r.ring.size r.ring.accepted_head r.ring.head is.accepted in
    let positions : user_position r j ≡ user_position r k = sym (position_on r.side id (user_position r j)) ∙ (ap position_in same ∙ position_on r.side id (user_position r k)) in
    let alike : j ≡ k = sym (dist-step_on r.ring.size r.ring.accepted_head j is.accepted (omega arith)) ∙ (ap (dist r.ring.size r.ring.accepted_head) positions ∙ dist-step_on r.ring.size r.ring.accepted_head k is.accepted (omega arith)) in
    omega arith

-- one slot more
module _ (h now new : HoldState) (id : PortId) (r : RingSlots) (k : ℕ) (is : IsRing r.ring) (can : CanExchange h id r) (so_far : AreExchanged h now id r k) (below : k < pushed_count_of r) where
  abbrev at : ℕ
  at = user_position r k

  abbrev here : Place
  here = user_place id r k

  abbrev idx : ℕ
  idx = name_at r at

  pub held_now : IsSome (index_at now here)
  held_now = some_of (index_at now here) (so_far.held here ∙ some_true (index_at h here) (can.held k below))
    where
      some_true : (o : Option ℕ) → IsSome o → is_some o ≡ true
      some_true None some = absurd cc
      some_true (Some x) some = refl

      some_of : (o : Option ℕ) → is_some o ≡ true → IsSome o
      some_of None e = absurd cc
      some_of (Some x) e = search rules

  pub named_now : is_named_at now idx ≡ true
  named_now = so_far.named idx ∙ can.named k below

  module _ (places : SamePlaces (exchanged (places_of now) here idx) (places_of new)) (bufs : bufs_of new ≡ bufs_of now)
      (named : (was i : ℕ) → index_at now here ≡ Some was → is_named_at new i ≡ is_named_at now (swapped was idx i)) (ports : new.ports ≡ now.ports) (is_new : IsHold new) where
    module _ (was : ℕ) (stood : index_at now here ≡ Some was) where
      low_at : (i : ℕ) → is_named_at now i ≡ true → 2 ≤ i
      low_at i e = let found = named_stands (standing_at now i) e in (so_far.is_hold.standing i found.0 found.1).low

      was_named : is_named_at now was ≡ true
      was_named = so_far.there here (can.there k below) was stood

      index_new : (q : Place) → index_at new q ≡ option_map (swapped was idx) (index_at now q)
      index_new q = places q ∙ held_at-exchanged (places_of now) here idx was q stood

      number_new : (q : Place) → number_at new q ≡ swapped was idx (number_at now q)
      number_new q = ap (λ (o : Option ℕ). unwrap_or o 0) (index_new q) ∙ by_index (index_at now q)
        where
          by_index : (o : Option ℕ) → unwrap_or (option_map (swapped was idx) o) 0 ≡ swapped was idx (unwrap_or o 0)
          by_index None = sym (swapped_zero was idx (low_at was was_named) (low_at idx named_now))
          by_index (Some i) = refl

      named_new : (i : ℕ) → is_named_at new i ≡ is_named_at now i
      named_new i = named was i stood ∙ same_for_swapped (is_named_at now) was idx i was_named named_now

      held_new : (q : Place) → is_some (index_at new q) ≡ is_some (index_at now q)
      held_new q = ap is_some (index_new q) ∙ by_index (index_at now q)
        where
          by_index : (o : Option ℕ) → is_some (option_map (swapped was idx) o) ≡ is_some o
          by_index None = refl
          by_index (Some i) = refl

      index_here : index_at new here ≡ Some idx
      index_here = index_new here ∙ (ap (option_map (swapped was idx)) stood ∙ ap (λ (n : ℕ). Some n) (swapped-first was idx))

      -- the earlier places keep what their slots name: this place had another buffer, and this slot names another
      index_earlier : (j : ℕ) → j < k → index_at new (user_place id r j) ≡ Some (name_at r (user_position r j))
      index_earlier j less =
          let name = name_at r (user_position r j) in
          let before : index_at now (user_place id r j) ≡ Some name = so_far.names j less in
          let not_was : name ≢ was = (λ (e : name ≡ was). user_apart id r j k is can.fits less below (one_place now (user_place id r j) here name so_far.is_hold before (stood ∙ ap (λ (n : ℕ). Some n) (sym e)))) in
          index_new (user_place id r j) ∙ (ap (option_map (swapped was idx)) before ∙ ap (λ (n : ℕ). Some n) (swapped-other was idx name not_was (can.once j k less below)))

      names_new : (j : ℕ) → j < k + 1 → index_at new (user_place id r j) ≡ Some (name_at r (user_position r j))
      names_new j less = elim (cases_lt j k) [
        | inl earlier ↦ index_earlier j earlier
        | inr last ↦ (let same : k ≡ j = omega arith in rw (← same) index_here)
      ]

      there_new : (q : Place) → IsNamedThere now q → IsNamedThere new q
      there_new q there i e =
          let before : index_at now q ≡ Some (swapped was idx i) = unswapped was idx i (index_at now q) (sym (index_new q) ∙ e) in
          named was i stood ∙ there (swapped was idx i) before

      flags_new : (f : Place → Bool) → FlaggedBy now f → FlaggedBy new f
      flags_new f flagged i s e =
          let q = s.home.place in
          let before : index_at now q ≡ Some (swapped was idx i) = unswapped was idx i (index_at now q) (sym (index_new q) ∙ (is_new.standing i s e).there) in
          let named_is : s.home.named ≡ is_named_at now (swapped was idx i) = sym (ap is_named_in e) ∙ named was i stood in
          named_is ∙ by_cell (standing_at now (swapped was idx i)) refl (so_far.is_hold.held q (swapped was idx i) before)
        where
          by_cell : (o : Option Standing) → standing_at now (swapped was idx i) ≡ o → stands_at s.home.place (standing_at now (swapped was idx i)) ≡ true → is_named_at now (swapped was idx i) ≡ f s.home.place
          by_cell None e there = false_true (ap (stands_at s.home.place) (sym e) ∙ there)
          by_cell (Some t) e there =
              let same : s.home.place ≡ t.home.place = same_place-is s.home.place t.home.place (sym (ap (stands_at s.home.place) e) ∙ there) in
              ap is_named_in e ∙ (flagged (swapped was idx i) t e ∙ ap f (sym same))

      seen_new : (all : List UserPort) → AreSided all → slots_at r.side all id.0 ≡ Some r
          → map (port_seen new) all ≡ fold (after_slot r.side id.0) (map (port_seen h) all) (map (pushed_seen_at h id r) (slots_from r.ring.size r.ring.accepted_head (k + 1)))
      seen_new all sided e =
          let f = pushed_seen_at h id r in
          let step = after_slot r.side id.0 in
          let start = map (port_seen h) all in
          let done = map f (slots_from r.ring.size r.ring.accepted_head k) in
          let before : map (port_seen now) all ≡ fold step start done = so_far.seen all sided e in
          let user : k < dist r.ring.size r.ring.accepted_head r.ring.last_tail = omega (arith, can.fits.head_reach) in
          let stands : buffer_on r.side id.0 (map (port_seen now) all) at ≡ was = buffer_found now all r.side id r k sided e is user ∙ ap (λ (o : Option ℕ). unwrap_or o 0) stood in
          let one : map (port_seen new) all ≡ step (map (port_seen now) all) (f at) = ports_now now new was idx number_new all ∙ ap (λ (b : ℕ). map (port_swapped b idx) (map (port_seen now) all)) (sym stands) in
          one ∙ (ap (λ (ps : List OwnPort). step ps (f at)) before
          ∙ sym (ap (fold step start) (seen_more f r.ring.size r.ring.accepted_head k) ∙ fold-append step start done (f at ∷ [])))

      exchanged_more : AreExchanged h new id r (k + 1)
      exchanged_more = record {
        seen = seen_new;
        names = names_new;
        held = λ q. held_new q ∙ so_far.held q;
        there = λ q there. there_new q (so_far.there q there);
        named = λ i. named_new i ∙ so_far.named i;
        flags = λ f flagged. flags_new f (so_far.flags f flagged);
        bufs = bufs ∙ so_far.bufs;
        ports = ports ∙ so_far.ports;
        is_hold = is_new;
      }

    pub exchanged_next : AreExchanged h new id r (k + 1)
    exchanged_next = by_index (index_at now here) refl held_now
      where
        by_index : (o : Option ℕ) → index_at now here ≡ o → IsSome o → AreExchanged h new id r (k + 1)
        by_index None e some = absurd cc
        by_index (Some was) e some = exchanged_more was e

pub none_exchanged : (h : HoldState) (id : PortId) (r : RingSlots) → IsHold h → AreExchanged h h id r 0
none_exchanged h id r is = record { seen = λ ports sided e. refl; names = λ k below. absurd (omega arith); held = λ q. refl; there = λ q there. there; named = λ i. refl; flags = λ f flagged. flagged; bufs = refl; ports = refl; is_hold = is }

-- the buffers in some places become named ones, or are no longer
pub renamed : (h : HoldState) (named : Bool) (places : List Place) → IsHold (with_places_named named places h) → AreRenamed h (with_places_named named places h) named places
renamed h named places is = record {
  same = λ q. ap (λ (held : List Held). held_at held q) (places_kept h.cells);
  flags = λ f flagged i s e. by_cell f i s (standing_at h i) refl (sym (named_at named places h.cells i) ∙ e) flagged;
  bufs = bufs_kept h.cells;
  ports = refl;
  is_hold = is;
}
  where
    places_kept : (cells : List (Option Standing)) → places_in (map (cell_named_in named places) cells) ≡ places_in cells
    places_kept [] = refl
    places_kept (None ∷ cells) = places_kept cells
    places_kept (Some s ∷ cells) = ap (λ (held : List Held). record { place = s.home.place; buffer = s.buf.index } ∷ held) (places_kept cells)

    bufs_kept : (cells : List (Option Standing)) → map buf_in (map (cell_named_in named places) cells) ≡ map buf_in cells
    bufs_kept [] = refl
    bufs_kept (None ∷ cells) = ap (λ (bufs : List (Option Buffer)). None ∷ bufs) (bufs_kept cells)
    bufs_kept (Some s ∷ cells) = ap (λ (bufs : List (Option Buffer)). Some s.buf ∷ bufs) (bufs_kept cells)

    by_cell : (f : Place → Bool) (i : ℕ) (s : Standing) (o : Option Standing) → standing_at h i ≡ o → cell_named_in named places o ≡ Some s → FlaggedBy h f → s.home.named ≡ named_if named places f s.home.place
    by_cell f i s None e is flagged = cc
    by_cell f i s (Some t) e is flagged =
        let place : s.home.place ≡ t.home.place = ap (λ (o : Option Standing). option_map_or (λ (x : Standing). x.home.place) o t.home.place) (sym is) in
        let name : s.home.named ≡ (if is_among places t.home.place then named else t.home.named) = ap (λ (o : Option Standing). option_map_or (λ (x : Standing). x.home.named) o named) (sym is) in
        name ∙ (ap (λ (b : Bool). if is_among places t.home.place then named else b) (flagged i t e) ∙ ap (named_if named places f) (sym place))

-- a transmit push: its slots exchanged, those pushed no longer named ones, those that came back named ones
pub pushed_out : (h h1 h2 h3 : HoldState) (id : PortId) (r : RingSlots) (taken : ℕ) → AreExchanged h h1 id r (pushed_count_of r) → AreRenamed h1 h2 false (tx_places id r.ring.size r.ring.accepted_head (pushed_count_of r))
    → AreRenamed h2 h3 true (tx_places id r.ring.size r.ring.last_tail taken) → ArePushedOut h h3 id r taken
pushed_out h h1 h2 h3 id r taken exchange pushed freed =
    let same : (q : Place) → index_at h3 q ≡ index_at h1 q = (λ q. freed.same q ∙ pushed.same q) in
    record {
      seen = λ ports sided e. ports_same h1 h3 (λ q. ap (λ (o : Option ℕ). unwrap_or o 0) (same q)) ports ∙ exchange.seen ports sided e;
      held = λ q. ap is_some (same q) ∙ exchange.held q;
      flags = λ was flagged. freed.flags (named_if false (tx_places id r.ring.size r.ring.accepted_head (pushed_count_of r)) was) (pushed.flags was (exchange.flags was flagged));
      bufs = freed.bufs ∙ (pushed.bufs ∙ exchange.bufs);
      ports = freed.ports ∙ (pushed.ports ∙ exchange.ports);
      is_hold = freed.is_hold;
    }

-- what holds of each element holds of the next one that a loop changes
pub holds_for_item : {X : Type 0} (P : X → Type 0) (f : X → X) (xs ys : List X) (i : ℕ) (x : X) → i < length xs → ys ≡ map f (take i xs) ++ drop i xs → x ≡ get_or ys i x → AllByRecursion P xs → P x
holds_for_item {X = X} P f xs ys i x inside done is all = rw (is ∙ ap (λ (l : List X). get_or l i x) parts ∙ get_or_at (map f (take i xs)) (get_or xs i x) (drop (i + 1) xs) x i long) (each P xs i x inside all)
  where
    long : length (map f (take i xs)) ≡ i
    long = length-map (take i xs) f ∙ length-take-le i xs (omega arith)

    parts : ys ≡ map f (take i xs) ++ get_or xs i x ∷ drop (i + 1) xs
    parts = done ∙ ap (λ (l : List X). map f (take i xs) ++ l) (drop_more xs i x inside)

    each : {X : Type 0} (P : X → Type 0) (xs : List X) (i : ℕ) (d : X) → i < length xs → AllByRecursion P xs → P (get_or xs i d)
    each P [] i d below all = absurd (omega arith)
    each P (y ∷ ys) zero d below all = all.0
    each P (y ∷ ys) (suc i) d below all = each P ys i d (omega arith) all.1
