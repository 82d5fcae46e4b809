-- The buffers in a port's places, taken out one after another.
use Rattle.std.proofs.Common.{ℕ, zero, suc, ◌≡◌, ◌<◌, ◌≤◌, ◌+◌, ◌-◌, ◌||◌, Bool, true, false, nat_eq, nat_lt, if◌then◌else◌, List, [], ◌∷◌, ◌++◌, map, fold, set, Option, Some, None, inl, inr, refl, sym, ◌∙◌, ap, arith, append_assoc}
use Rattle.std.specs.Prelude.{unwrap_or, IsSome}
use Rattle.std.specs.List.{list_any, range_with_len}
use Rattle.std.proofs.lemmas.Bool.{cases_Bool}
use Rattle.std.proofs.lemmas.Bool.Decides.{nat_tests}
use Rattle.std.proofs.lemmas.List.{length-set, map-append, append-nil}
use Rattle.std.proofs.lemmas.List.Folds.{list_any-append}
use Rattle.std.proofs.lemmas.List.FromFn.{map-range_with_len_more}
use Rattle.std.proofs.lemmas.List.Sums.{fold-append}
use Rattle.nm_types.specs.Limits.{most_ring}
use Rattle.nm_types.specs.declared.id.PortId.{PortId}
use Rattle.nm_types.specs.declared.place.Place.{Place}
use Rattle.nm_types.specs.declared.place.Place.TheVariants.{Tx, Rx, Extra}
use Rattle.nm_types.specs.Places.{is_same_place}
use Rattle.nm_types.specs.Positions.{IsRing, dist, step_on, is_user_slot}
use Rattle.nm_types.specs.OwnSyncs.{without_bytes_of}
use Rattle.nm_types.proofs.RingSteps.{dist-below, dist-step_on, step_on-below, step_on-dist}
use Rattle.nm_types.proofs.Tests.{both_are, both_true, less_false, less_is, less_true, or_second}
use Rattle.nm_region.specs.Buffers.{Buffer}
use Rattle.nm_hold.specs.declared.standing.Standing.{Standing}
use Rattle.nm_hold.specs.Standings.{buf_in}
use Rattle.nm_hold.specs.Holds.{HoldState, buffers_of, buffer_at, index_at, standing_at, cell_at, with_cell, port_of, IsHold}
use Rattle.nm_hold.proofs.Spots.{nat_eq-is, same_place-is, same_place-refl}
use Rattle.nm_port.specs.declared.port.UserPort.{UserPort}
use Rattle.nm_port.specs.Sides.{number_at}
use Rattle.nm_port.specs.Own.{size_if, bytes_in_cell, is_filled_in}
use Rattle.nm_port.specs.Closing.{user_count, place_count, held_place, held_places, AreTaken}
use Rattle.nm_port.proofs.Seeing.{map-set}

not_less : (a b : ℕ) → nat_lt a b ≡ false → b ≤ a
not_less a b e = grind (arith, nat_tests)

same_self : (a : ℕ) → nat_eq a a ≡ true
same_self a = grind (arith, nat_tests)

-- a place among those of its port
abbrev rank : UserPort → Place → ℕ
rank p (Tx port at) = at
rank p (Rx port at) = size_if p.tx + dist p.rx.ring.size p.rx.ring.accepted_head at
rank p (Extra port at) = size_if p.tx + user_count p.rx.ring + at

pub rank_is : (p : UserPort) (k : ℕ) → IsRing p.rx.ring → rank p (held_place p k) ≡ k
rank_is p k is = elim (cases_Bool (nat_lt k (size_if p.tx))) [
  | inl slot ↦ rw slot refl
  | inr behind ↦ rw behind (let past = not_less k (size_if p.tx) behind in elim (cases_Bool (nat_lt (k - size_if p.tx) (user_count p.rx.ring))) [
    | inl received ↦ (let within = dist-below p.rx.ring.size p.rx.ring.accepted_head p.rx.ring.last_tail is.accepted in
        let few = less_is (k - size_if p.tx) (user_count p.rx.ring) received in
        let steps = dist-step_on p.rx.ring.size p.rx.ring.accepted_head (k - size_if p.tx) is.accepted (omega arith) in
        rw received (omega arith))
    | inr extra ↦ (let more = not_less (k - size_if p.tx) (user_count p.rx.ring) extra in rw extra (omega arith))
  ])
]

pub held_port : (p : UserPort) (k : ℕ) → port_of (held_place p k) ≡ p.id.0
held_port p k = elim (cases_Bool (nat_lt k (size_if p.tx))) [
  | inl slot ↦ rw slot refl
  | inr behind ↦ rw behind (elim (cases_Bool (nat_lt (k - size_if p.tx) (user_count p.rx.ring))) [
    | inl received ↦ rw received refl
    | inr extra ↦ rw extra refl
  ])
]

pub held_apart : (p : UserPort) (j k : ℕ) → IsRing p.rx.ring → j < k → is_same_place (held_place p j) (held_place p k) ≡ false
held_apart p j k is below = elim (cases_Bool (is_same_place (held_place p j) (held_place p k))) [
  | inl same ↦ absurd (let alike : j ≡ k = sym (rank_is p j is) ∙ (ap (rank p) (same_place-is (held_place p j) (held_place p k) same) ∙ rank_is p k is) in omega arith)
  | inr other ↦ other
]

-- each of them holds a buffer
pub held_filled : (p : UserPort) (k : ℕ) → IsRing p.rx.ring → k < place_count p → is_filled_in (held_place p k) p ≡ true
held_filled p k is below = elim (cases_Bool (nat_lt k (size_if p.tx))) [
  | inl slot ↦ rw (slot, same_self p.id.0) slot
  | inr behind ↦ rw behind (let past = not_less k (size_if p.tx) behind in elim (cases_Bool (nat_lt (k - size_if p.tx) (user_count p.rx.ring))) [
    | inl received ↦ rw (received, same_self p.id.0) (user (k - size_if p.tx) received)
    | inr extra ↦ (let more = not_less (k - size_if p.tx) (user_count p.rx.ring) extra in rw (extra, same_self p.id.0) (less_true (k - size_if p.tx - user_count p.rx.ring) p.extra (omega arith)))
  ])
]
  where
    user : (n : ℕ) → nat_lt n (user_count p.rx.ring) ≡ true → is_user_slot p.rx.ring (step_on p.rx.ring.size p.rx.ring.accepted_head n) ≡ true
    user n e =
        let ring = p.rx.ring in
        let within = dist-below ring.size ring.accepted_head ring.last_tail is.accepted in
        let few = less_is n (user_count p.rx.ring) e in
        let there = dist-step_on ring.size ring.accepted_head n is.accepted (omega arith) in
        let inside = step_on-below ring.size ring.accepted_head n is.accepted in
        both_true (nat_lt (step_on ring.size ring.accepted_head n) ring.size) (nat_lt (dist ring.size ring.accepted_head (step_on ring.size ring.accepted_head n)) (dist ring.size ring.accepted_head ring.last_tail))
        (less_true (step_on ring.size ring.accepted_head n) ring.size inside) (rw there e)

-- and each place that holds a buffer is one of them
pub record Ranked (p : UserPort) (q : Place) : Type 0 where
  pub below : rank p q < place_count p
  pub there : held_place p (rank p q) ≡ q

port_is : (port id : PortId) → nat_eq port.0 id.0 ≡ true → id ≡ port
port_is port id e = ap (λ (n : ℕ). let i : PortId = record { 0 = n } in i) (sym (nat_eq-is port.0 id.0 e))

pub ranked : (p : UserPort) (q : Place) → IsRing p.rx.ring → is_filled_in q p ≡ true → Ranked p q
ranked p (Tx port at) is filled =
    let both = both_are (nat_eq port.0 p.id.0) (nat_lt at (size_if p.tx)) filled in
    let below = less_is at (size_if p.tx) both.1 in
    record { below = omega arith; there = rw (both.1, port_is port p.id both.0) refl }
ranked p (Rx port at) is filled =
    let ring = p.rx.ring in
    let both = both_are (nat_eq port.0 p.id.0) (is_user_slot ring at) filled in
    let user = both_are (nat_lt at ring.size) (nat_lt (dist ring.size ring.accepted_head at) (dist ring.size ring.accepted_head ring.last_tail)) both.1 in
    let within = less_is at ring.size user.0 in
    let below = less_is (dist ring.size ring.accepted_head at) (dist ring.size ring.accepted_head ring.last_tail) user.1 in
    let past = less_false (size_if p.tx + dist ring.size ring.accepted_head at) (size_if p.tx) (omega arith) in
    let behind : size_if p.tx + dist ring.size ring.accepted_head at - size_if p.tx ≡ dist ring.size ring.accepted_head at = omega arith in
    record { below = omega arith; there = rw (past, behind, user.1, step_on-dist ring.size ring.accepted_head at is.accepted within, port_is port p.id both.0) refl }
ranked p (Extra port at) is filled =
    let ring = p.rx.ring in
    let both = both_are (nat_eq port.0 p.id.0) (nat_lt at p.extra) filled in
    let below = less_is at p.extra both.1 in
    let past = less_false (size_if p.tx + user_count ring + at) (size_if p.tx) (omega arith) in
    let more = less_false (size_if p.tx + user_count ring + at - size_if p.tx) (user_count ring) (omega arith) in
    let behind : size_if p.tx + user_count ring + at - size_if p.tx - user_count ring ≡ at = omega arith in
    record { below = omega arith; there = rw (past, more, behind, port_is port p.id both.0) refl }

none_in : (f : ℕ → Place) (q : Place) (a n : ℕ) → ((k : ℕ) → k < a + n → is_same_place (f k) q ≡ false) → list_any (λ x. is_same_place x q) (map f (range_with_len a n)) ≡ false
none_in f q a zero each = refl
none_in f q a (suc n) each = rw (each a (omega arith), none_in f q (a + 1) n (λ k below. each k (omega arith))) refl

one_in : (f : ℕ → Place) (q : Place) (a n k : ℕ) → a ≤ k → k < a + n → is_same_place (f k) q ≡ true → list_any (λ x. is_same_place x q) (map f (range_with_len a n)) ≡ true
one_in f q a zero k above below same = absurd (omega arith)
one_in f q a (suc n) k above below same = elim (cases_Bool (nat_eq a k)) [
  | inl here ↦ (let e = nat_eq-is a k here in rw (e, same) refl)
  | inr other ↦ or_second (is_same_place (f a) q) _ (one_in f q (a + 1) n k (later a k other above) (omega arith) same)
]
  where
    later : (a k : ℕ) → nat_eq a k ≡ false → a ≤ k → a + 1 ≤ k
    later a k e above = grind (arith, nat_tests)

pub not_yet : (p : UserPort) (k : ℕ) → IsRing p.rx.ring → list_any (λ x. is_same_place x (held_place p k)) (held_places p k) ≡ false
not_yet p k is = none_in (held_place p) (held_place p k) 0 k (λ j below. held_apart p j k is (omega arith))

pub elsewhere_none : (p : UserPort) (n : ℕ) (q : Place) → nat_eq (port_of q) p.id.0 ≡ false → list_any (λ x. is_same_place x q) (held_places p n) ≡ false
elsewhere_none p n q other = none_in (held_place p) q 0 n (λ k below. apart k)
  where
    apart : (k : ℕ) → is_same_place (held_place p k) q ≡ false
    apart k = elim (cases_Bool (is_same_place (held_place p k) q)) [
      | inl same ↦ absurd (clash (ap port_of (sym (same_place-is (held_place p k) q same)) ∙ held_port p k))
      | inr differs ↦ differs
    ]
      where
        clash : port_of q ≡ p.id.0 → ⊥
        clash e = let yes : nat_eq (port_of q) p.id.0 ≡ true = rw e (same_self p.id.0) in cc

pub filled_taken : (p : UserPort) (q : Place) → IsRing p.rx.ring → is_filled_in q p ≡ true → list_any (λ x. is_same_place x q) (held_places p (place_count p)) ≡ true
filled_taken p q is filled =
    let at = ranked p q is filled in
    one_in (held_place p) q 0 (place_count p) (rank p q) (omega arith) (let below = at.below in omega arith) (rw at.there (same_place-refl q))

-- a cell that is emptied
pub emptied : (cells : List (Option Standing)) (i j : ℕ) (s : Standing) → cell_at (set cells i None) j ≡ Some s → cell_at cells j ≡ Some s
emptied [] i j s e = e
emptied (c ∷ cells) zero zero s e = absurd cc
emptied (c ∷ cells) zero (suc j) s e = e
emptied (c ∷ cells) (suc i) zero s e = e
emptied (c ∷ cells) (suc i) (suc j) s e = emptied cells i j s e

pub none_taken : (h : HoldState) (before : List Buffer) → IsHold h → AreTaken h h [] before before
none_taken h before is = record { index = λ q. refl; stood = λ idx s e. e; bytes = refl; out = []; joined = sym (append-nil before); each = refl; indices = refl; ports = refl; count = refl; is_hold = is }

-- one more buffer
module _ (h now new : HoldState) (places : List Place) (before after : List Buffer) (p : Place) (buf : Buffer) (taken : AreTaken h now places before after) (fresh : list_any (λ x. is_same_place x p) places ≡ false)
    (there : index_at now p ≡ Some buf.index) (stands : buffer_at now buf.index ≡ Some buf) (cell : new ≡ with_cell now buf.index None) (index : (q : Place) → index_at new q ≡ (if is_same_place p q then None else index_at now q)) (is : IsHold new) where
  number : number_at h p ≡ buf.index
  number =
      let was : index_at now p ≡ index_at h p = taken.index p ∙ ap (λ (b : Bool). if b then None else index_at h p) fresh in
      ap (λ (o : Option ℕ). unwrap_or o 0) (sym was ∙ there)

  numbers : map (number_at h) (places ++ p ∷ []) ≡ map (number_at h) places ++ buf.index ∷ []
  numbers = map-append (number_at h) places (p ∷ []) ∙ ap (λ (n : ℕ). map (number_at h) places ++ n ∷ []) number

  stood_there : buffer_at h buf.index ≡ Some buf
  stood_there = by_cell (standing_at now buf.index) refl
    where
      by_cell : (o : Option Standing) → standing_at now buf.index ≡ o → buffer_at h buf.index ≡ Some buf
      by_cell None e = absurd (let none = ap buf_in (sym e) ∙ stands in cc)
      by_cell (Some s) e = ap buf_in (taken.stood buf.index s e) ∙ (ap buf_in (sym e) ∙ stands)

  none_or : (a b : Bool) (o : Option ℕ) → (if b then None else (if a then None else o)) ≡ (if (a || (b || false)) then None else o)
  none_or true true o = refl
  none_or true false o = refl
  none_or false true o = refl
  none_or false false o = refl

  pub taken_next : AreTaken h new (places ++ p ∷ []) before (after ++ buf ∷ [])
  taken_next = record {
    index = λ q. index q ∙ (ap (λ (o : Option ℕ). if is_same_place p q then None else o) (taken.index q) ∙ none_or (list_any (λ x. is_same_place x q) places) (is_same_place p q) (index_at h q) ∙ ap (λ (b : Bool). if b then None else index_at h q) (sym (list_any-append (λ x. is_same_place x q) places (p ∷ []))));
    stood = λ idx s e. taken.stood idx s (emptied now.cells buf.index idx s (rw cell at e));
    bytes = ap (λ (x : HoldState). map bytes_in_cell x.cells) cell ∙ (map-set bytes_in_cell now.cells buf.index None ∙ (ap (λ (b : List (List ℕ)). set b buf.index []) taken.bytes
        ∙ sym (ap (fold without_bytes_of (map bytes_in_cell h.cells)) numbers ∙ fold-append without_bytes_of (map bytes_in_cell h.cells) (map (number_at h) places) (buf.index ∷ []))));
    out = taken.out ++ buf ∷ [];
    joined = ap (λ (all : List Buffer). all ++ buf ∷ []) taken.joined ∙ append_assoc before taken.out (buf ∷ []);
    each = map-append Some taken.out (buf ∷ []) ∙ (ap (λ (all : List (Option Buffer)). all ++ Some buf ∷ []) taken.each
        ∙ (ap (λ (o : Option Buffer). map (buffer_at h) (map (number_at h) places) ++ o ∷ []) (sym stood_there)
        ∙ (sym (map-append (buffer_at h) (map (number_at h) places) (buf.index ∷ [])) ∙ ap (map (buffer_at h)) (sym numbers))));
    indices = map-append (λ (b : Buffer). b.index) taken.out (buf ∷ []) ∙ (ap (λ (xs : List ℕ). xs ++ buf.index ∷ []) taken.indices ∙ sym numbers);
    ports = ap (λ (x : HoldState). x.ports) cell ∙ taken.ports;
    count = ap buffers_of cell ∙ (ap (λ (n : ℕ). n - 2) (length-set now.cells buf.index None) ∙ taken.count);
    is_hold = is;
  }

pub held_more : (p : UserPort) (k : ℕ) → held_places p (k + 1) ≡ held_places p k ++ held_place p k ∷ []
held_more p k = map-range_with_len_more (held_place p) 0 k k (omega arith)

pub still_held : (h now : HoldState) (p : UserPort) (k : ℕ) (before after : List Buffer) → AreTaken h now (held_places p k) before after → IsRing p.rx.ring → IsSome (index_at h (held_place p k)) → IsSome (index_at now (held_place p k))
still_held h now p k before after taken is there = rw (taken.index (held_place p k), not_yet p k is) there

-- the number of places is small
pub few_places : (size first tail : ℕ) → first < size → size ≤ most_ring → dist size first tail ≤ most_ring
few_places size first tail within few = let below = dist-below size first tail within in omega arith
