-- Counters by rising port: where a port stands, and what a change there leaves.
use Rattle.std.proofs.Common.{ℕ, zero, suc, Bool, true, false, List, [], ◌∷◌, ◌≡◌, ◌≤◌, ◌<◌, ◌+◌, inl, inr, Some, None, length, set, get_or, refl, sym, ◌∙◌, ap, arith}
use Rattle.std.specs.Prelude.{position, find, insert, nat_lt}
use Rattle.std.specs.List.{position_or_len}
use Rattle.std.specs.List.Sorted.{IsPartitionedBy, IsPartitionPoint}
use Rattle.std.proofs.lemmas.Bool.{cases_Bool, cases_lt, cases_order, and_parts, and_from, both_ways, eqb-true, eqb-false, ne_eqb, ltb-true, ltb-false, lt-ltb, le-ltb}
use Rattle.std.proofs.lemmas.List.Sums.{prefix_len_passes, prefix_len_stops, prefix_len-le-length, position_or_len_is}
use Rattle.std.proofs.lemmas.List.Folds.{find_at}
use Rattle.std.proofs.lemmas.Option.{slice_get-get_or, slice_get_past}
use Rattle.nm_types.specs.declared.id.PortId.{PortId}
use Rattle.nm_types.specs.declared.id.Counts.{Counts}
use Rattle.nm_count.specs.declared.tally.Tallied.{Tallied}
use Rattle.nm_types.specs.Counters.{zero_counts, sum_of_counts}
use Rattle.nm_count.specs.Tallies.{is_port, counts_of, is_before, rank_of, tally_with, zero_tallied, tallied_after_add, tally_after_add, tally_without, are_after, IsRising}

abbrev key : Tallied → ℕ
key t = t.port.0

after_all : (port : ℕ) (tally : List Tallied) (j : ℕ) (d : Tallied) → are_after port tally ≡ true → j < length tally → port < key (get_or tally j d)
after_all port [] j d after within = absurd (omega arith)
after_all port (t ∷ tally) zero d after within = ltb-true port (key t) (and_parts (nat_lt port (key t)) (are_after port tally) after).0
after_all port (t ∷ tally) (suc j) d after within = after_all port tally j d (and_parts (nat_lt port (key t)) (are_after port tally) after).1 (omega arith)

rises : (tally : List Tallied) (i j : ℕ) (d : Tallied) → IsRising tally → i ≤ j → j < length tally → key (get_or tally i d) ≤ key (get_or tally j d)
rises [] i j d rising le within = absurd (omega arith)
rises (t ∷ tally) zero zero d rising le within = omega arith
rises (t ∷ tally) zero (suc j) d rising le within = let after = after_all (key t) tally j d rising.0 (omega arith) in omega arith
rises (t ∷ tally) (suc i) zero d rising le within = absurd (omega arith)
rises (t ∷ tally) (suc i) (suc j) d rising le within = rises tally i j d rising.1 (omega arith) (omega arith)

-- no port before the given one stands behind one that is not
pub partitioned : (port : ℕ) (tally : List Tallied) → IsRising tally → IsPartitionedBy (is_before port) tally
partitioned port tally rising i j d le within before =
    let higher = ltb-true (key (get_or tally j d)) port before in
    let lower = rises tally i j d rising le within in
    lt-ltb (key (get_or tally i d)) port (omega arith)

abbrev pub blank : Tallied
blank = record { port = record { 0 = 0 }; counts = zero_counts }

-- where the search ends
pub rank_found : (port : ℕ) (tally : List Tallied) (i : ℕ) → i ≤ length tally
    → IsPartitionPoint (λ t. is_before port t ≡ true) (λ t. is_before port t ≡ false) tally i → i ≡ rank_of port tally
rank_found port tally i within point = elim (cases_order i (rank_of port tally)) [
  | inl same ↦ same
  | inr (inl less) ↦
      let most = prefix_len-le-length (is_before port) tally in
      let passes = prefix_len_passes (is_before port) tally i blank less in
      let fails = point.1 i blank (omega arith) (omega arith) in
      absurd (both_ways (is_before port (get_or tally i blank)) fails passes)
  | inr (inr more) ↦
      let stops = prefix_len_stops (is_before port) tally blank (omega arith) in
      let passes = point.0 (rank_of port tally) blank (omega arith) more in
      absurd (both_ways (is_before port (get_or tally (rank_of port tally) blank)) stops passes)
]

pub before_not : (port : ℕ) (t : Tallied) → is_before port t ≡ true → is_port port t ≡ false
before_not port t before = let lower = ltb-true (key t) port before in ne_eqb (key t) port (λ same. absurd (omega arith))

place_here : (port : ℕ) (tally : List Tallied) (d : Tallied) → rank_of port tally < length tally → is_port port (get_or tally (rank_of port tally) d) ≡ true
    → position_or_len (is_port port) tally ≡ rank_of port tally
place_here port tally d within here =
    position_or_len_is (is_port port) tally (rank_of port tally) d (omega arith)
    (λ k less. before_not port (get_or tally k d) (prefix_len_passes (is_before port) tally k d less))
    (λ _. here)

-- a port that stands at its rank has that place
pub place_found : (port : ℕ) (tally : List Tallied) (d : Tallied) → rank_of port tally < length tally → is_port port (get_or tally (rank_of port tally) d) ≡ true
    → position (is_port port) tally ≡ Some (rank_of port tally)
place_found port tally d within here =
    let place = place_here port tally d within here in
    let reach : position_or_len (is_port port) tally < length tally = omega arith in
    let told : position (is_port port) tally ≡ Some (position_or_len (is_port port) tally) = rw (lt-ltb (position_or_len (is_port port) tally) (length tally) reach) refl in
    told ∙ ap Some place

not_there : (port : ℕ) (tally : List Tallied) (d : Tallied) (k : ℕ) → IsRising tally → (rank_of port tally < length tally → is_port port (get_or tally (rank_of port tally) d) ≡ false)
    → k < length tally → is_port port (get_or tally k d) ≡ false
not_there port tally d k rising other within = elim (cases_lt k (rank_of port tally)) [
  | inl less ↦ before_not port (get_or tally k d) (prefix_len_passes (is_before port) tally k d less)
  | inr behind ↦
      let reach : rank_of port tally < length tally = omega arith in
      let up = rises tally (rank_of port tally) k d rising behind within in
      let higher = ltb-false (key (get_or tally (rank_of port tally) d)) port (prefix_len_stops (is_before port) tally d reach) in
      let differ = eqb-false (key (get_or tally (rank_of port tally) d)) port (other reach) in
      ne_eqb (key (get_or tally k d)) port (λ same. differ (omega arith))
]

-- a port that does not stand at its rank has no place
pub place_none : (port : ℕ) (tally : List Tallied) (d : Tallied) → IsRising tally → (rank_of port tally < length tally → is_port port (get_or tally (rank_of port tally) d) ≡ false)
    → position (is_port port) tally ≡ None
place_none port tally d rising other =
    let place = position_or_len_is (is_port port) tally (length tally) d (omega arith) (λ k within. not_there port tally d k rising other within) (λ less. absurd (omega arith)) in
    rw (le-ltb (position_or_len (is_port port) tally) (length tally) (omega arith)) refl

-- a mark at the port's place is the sum at that port
abbrev grown : Counts → Tallied → Tallied
grown more t = record t { counts = sum_of_counts t.counts more }

grown_other : (port : ℕ) (more : Counts) (t : Tallied) → is_port port t ≡ false → tallied_after_add port more t ≡ t
grown_other port more t other = rw other refl

grown_same : (port : ℕ) (more : Counts) (t : Tallied) → is_port port t ≡ true → tallied_after_add port more t ≡ grown more t
grown_same port more t same = rw same refl

grown_none : (port : ℕ) (more : Counts) (tally : List Tallied) → are_after port tally ≡ true → tally_after_add port more tally ≡ tally
grown_none port more [] after = refl
grown_none port more (t ∷ tally) after =
    let parts = and_parts (nat_lt port (key t)) (are_after port tally) after in
    let higher = ltb-true port (key t) parts.0 in
    let first = grown_other port more t (ne_eqb (key t) port (λ same. absurd (omega arith))) in
    let rest = grown_none port more tally parts.1 in
    cc

pub set-tally_after_add : (tally : List Tallied) (port at : ℕ) (more : Counts) (d : Tallied) → IsRising tally → at < length tally → is_port port (get_or tally at d) ≡ true
    → set tally at (grown more (get_or tally at d)) ≡ tally_after_add port more tally
set-tally_after_add [] port at more d rising within here = absurd (omega arith)
set-tally_after_add (t ∷ tally) port zero more d rising within here =
    let same : key t ≡ port = eqb-true (key t) port here in
    let after : are_after port tally ≡ true = rw same at (rising.0) in
    let first = grown_same port more t here in
    let rest = grown_none port more tally after in
    cc
set-tally_after_add (t ∷ tally) port (suc at) more d rising within here =
    let reach : at < length tally = omega arith in
    let higher = after_all (key t) tally at d rising.0 reach in
    let same = eqb-true (key (get_or tally at d)) port here in
    let first = grown_other port more t (ne_eqb (key t) port (λ equal. absurd (omega arith))) in
    let rest = set-tally_after_add tally port at more d rising.1 reach here in
    cc

-- a port that comes has its place
after_insert : (q : ℕ) (tally : List Tallied) (i : ℕ) (z : Tallied) → are_after q tally ≡ true → q < key z → are_after q (insert tally i z) ≡ true
after_insert q [] zero z after higher = and_from (nat_lt q (key z)) true (lt-ltb q (key z) higher) refl
after_insert q [] (suc i) z after higher = and_from (nat_lt q (key z)) true (lt-ltb q (key z) higher) refl
after_insert q (t ∷ tally) zero z after higher = and_from (nat_lt q (key z)) (are_after q (t ∷ tally)) (lt-ltb q (key z) higher) after
after_insert q (t ∷ tally) (suc i) z after higher =
    let parts = and_parts (nat_lt q (key t)) (are_after q tally) after in
    and_from (nat_lt q (key t)) (are_after q (insert tally i z)) parts.0 (after_insert q tally i z parts.1 higher)

after_lower : (low high : ℕ) (tally : List Tallied) → low ≤ high → are_after high tally ≡ true → are_after low tally ≡ true
after_lower low high [] le after = refl
after_lower low high (t ∷ tally) le after =
    let parts = and_parts (nat_lt high (key t)) (are_after high tally) after in
    let higher = ltb-true high (key t) parts.0 in
    and_from (nat_lt low (key t)) (are_after low tally) (lt-ltb low (key t) (omega arith)) (after_lower low high tally le parts.1)

not_first : (port : ℕ) (t : Tallied) (tally : List Tallied) → counts_of (t ∷ tally) port ≡ None → (is_port port t ≡ false) × (counts_of tally port ≡ None)
not_first port t tally none = elim (cases_Bool (is_port port t)) [
  | inl here ↦ absurd (let wrong : Some t.counts ≡ None = rw here at none in cc)
  | inr other ↦ (other, rw other at none)
]

pub rising-tally_with : (tally : List Tallied) (port : PortId) → IsRising tally → counts_of tally port.0 ≡ None → IsRising (tally_with port tally)
rising-tally_with [] port rising none = (refl, tt)
rising-tally_with (t ∷ tally) port rising none =
    let parts = not_first port.0 t tally none in
    elim (cases_Bool (is_before port.0 t)) [
      | inl before ↦
          let next : 1 + rank_of port.0 tally ≡ suc (rank_of port.0 tally) = omega arith in
          let lower = ltb-true (key t) port.0 before in
          let rest = rising-tally_with tally port rising.1 parts.1 in
          let after = after_insert (key t) tally (rank_of port.0 tally) (zero_tallied port) rising.0 lower in
          rw (before, next) (after, rest)
      | inr behind ↦
          let least = ltb-false (key t) port.0 behind in
          let differ = eqb-false (key t) port.0 parts.0 in
          let lower : port.0 < key t = elim (cases_order port.0 (key t)) [
            | inl same ↦ absurd (differ (sym same))
            | inr (inl less) ↦ less
            | inr (inr more) ↦ absurd (omega arith)
          ] in
          let after = and_from (nat_lt port.0 (key t)) (are_after port.0 tally) (lt-ltb port.0 (key t) lower) (after_lower port.0 (key t) tally (omega arith) rising.0) in
          rw behind (after, rising)
    ]

after_without : (q port : ℕ) (tally : List Tallied) → are_after q tally ≡ true → are_after q (tally_without port tally) ≡ true
after_without q port [] after = refl
after_without q port (t ∷ tally) after =
    let parts = and_parts (nat_lt q (key t)) (are_after q tally) after in
    let rest = after_without q port tally parts.1 in
    elim (cases_Bool (is_port port t)) [
      | inl here ↦ rw here rest
      | inr other ↦ rw other (and_from (nat_lt q (key t)) (are_after q (tally_without port tally)) parts.0 rest)
    ]

pub rising-tally_without : (port : ℕ) (tally : List Tallied) → IsRising tally → IsRising (tally_without port tally)
rising-tally_without port [] rising = tt
rising-tally_without port (t ∷ tally) rising = elim (cases_Bool (is_port port t)) [
  | inl here ↦ rw here (rising-tally_without port tally rising.1)
  | inr other ↦ rw other (after_without (key t) port tally rising.0, rising-tally_without port tally rising.1)
]

pub length-tally_without : (port : ℕ) (tally : List Tallied) → length (tally_without port tally) ≤ length tally
length-tally_without port [] = omega arith
length-tally_without port (t ∷ tally) =
    let rest = length-tally_without port tally in
    elim (cases_Bool (is_port port t)) [
      | inl here ↦ rw here (omega arith)
      | inr other ↦ rw other (omega arith)
    ]

-- adding keeps the ports
after_added : (q port : ℕ) (more : Counts) (tally : List Tallied) → are_after q tally ≡ true → are_after q (tally_after_add port more tally) ≡ true
after_added q port more [] after = refl
after_added q port more (t ∷ tally) after =
    let parts = and_parts (nat_lt q (key t)) (are_after q tally) after in
    let rest = after_added q port more tally parts.1 in
    elim (cases_Bool (is_port port t)) [
      | inl here ↦ rw here (and_from (nat_lt q (key t)) (are_after q (tally_after_add port more tally)) parts.0 rest)
      | inr other ↦ rw other (and_from (nat_lt q (key t)) (are_after q (tally_after_add port more tally)) parts.0 rest)
    ]

pub rising-tally_after_add : (port : ℕ) (more : Counts) (tally : List Tallied) → IsRising tally → IsRising (tally_after_add port more tally)
rising-tally_after_add port more [] rising = tt
rising-tally_after_add port more (t ∷ tally) rising = elim (cases_Bool (is_port port t)) [
  | inl here ↦ rw here (after_added (key t) port more tally rising.0, rising-tally_after_add port more tally rising.1)
  | inr other ↦ rw other (after_added (key t) port more tally rising.0, rising-tally_after_add port more tally rising.1)
]

pub length-tally_after_add : (port : ℕ) (more : Counts) (tally : List Tallied) → length (tally_after_add port more tally) ≡ length tally
length-tally_after_add port more [] = refl
length-tally_after_add port more (t ∷ tally) = ap suc (length-tally_after_add port more tally)

-- what a place tells of the look-up
pub find_placed : (p : Tallied → Bool) (tally : List Tallied) (at : ℕ) (d : Tallied) → position p tally ≡ Some at → find p tally ≡ Some (get_or tally at d)
find_placed p tally at d placed = elim (cases_lt (position_or_len p tally) (length tally)) [
  | inl reach ↦
      let told : Some (position_or_len p tally) ≡ Some at = rw (lt-ltb (position_or_len p tally) (length tally) reach) at placed in
      let same : position_or_len p tally ≡ at = cc in
      find_at p tally ∙ (slice_get-get_or tally (position_or_len p tally) d reach ∙ ap (λ (i : ℕ). Some (get_or tally i d)) same)
  | inr past ↦ absurd (let wrong : None ≡ Some at = rw (le-ltb (position_or_len p tally) (length tally) past) at placed in cc)
]

pub find_unplaced : (p : Tallied → Bool) (tally : List Tallied) → position p tally ≡ None → find p tally ≡ None
find_unplaced p tally none = elim (cases_lt (position_or_len p tally) (length tally)) [
  | inl reach ↦ absurd (let wrong : Some (position_or_len p tally) ≡ None = rw (lt-ltb (position_or_len p tally) (length tally) reach) at none in cc)
  | inr past ↦ find_at p tally ∙ slice_get_past tally (position_or_len p tally) past
]

pub ruleset tallies = (partitioned, rank_found, place_found, place_none, set-tally_after_add, rising-tally_with, rising-tally_without, length-tally_without, rising-tally_after_add, find_placed, find_unplaced)
