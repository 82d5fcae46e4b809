-- A port among those of rising ids stands behind all of smaller ids, so it is found by halves.
use Rattle.std.proofs.Common.{ℕ, Bool, true, false, not, ◌==◌, List, [], ◌∷◌, ◌≡◌, ◌≤◌, ◌<◌, inl, inr, Some, None, length, map, get_or, refl, sym, ◌∙◌, ap, subst, arith}
use Rattle.std.specs.Prelude.{position}
use Rattle.std.specs.List.{position_or_len, prefix_len}
use Rattle.std.specs.List.Sorted.{IsNonDecreasingBy, IsPartitionedBy, IsPartitionPoint}
use Rattle.std.proofs.lemmas.Bool.{and_parts, cases_Bool, cases_lt, cases_order, both_ways, eqb-true, ltb-true, ltb-false, lt-ltb, le-ltb}
use Rattle.std.proofs.lemmas.List.Sorted.{IsPartitionedBy-ltb}
use Rattle.std.proofs.lemmas.List.Sums.{prefix_len_passes, prefix_len_stops, prefix_len-le-length, position_or_len_is}
use Rattle.std.proofs.lemmas.List.{length-map, get_or-map}
use Rattle.vale_line.specs.Lines.{new_line}
use Rattle.vale_entry.specs.World.{Port}
use Rattle.vale_entry.specs.Holdings.{PortBuffers}
use Rattle.vale_entry.specs.Laws.{Rise, id_of_port}
use Rattle.vale_entry.proofs.Rising.{rise-increases}
use Rattle.vale_port.specs.Lists.{AreRising}
use Rattle.vale_port.specs.Ports.{PortState, AreByRisingIds, AreSeatsOf, is_state_before, is_state_of, is_open_state}
use Rattle.vale_port.specs.Seat.{Seat, port_of, seats_of}
use Rattle.vale_port.proofs.Lists.{seats-ports}

abbrev id_of : PortState → ℕ
id_of p = p.id

abbrev pub blank : PortState
blank = record { id = 0; session = 0; name = []; tx = 0; extra = 0; shutting = false; line = new_line [] }

rise-weakly : (ps : List PortState) → AreByRisingIds ps → IsNonDecreasingBy id_of ps
rise-weakly ps rise i j d le within = elim (cases_lt i j) [
  | inl less ↦ let up = rise i j d less within in omega (arith, up)
  | inr more ↦
      let same : i ≡ j = omega (arith, le, more) in
      subst (λ (k : ℕ). (get_or ps k d).id ≤ (get_or ps j d).id) (sym same) (omega arith)
]

-- no port of a smaller id stands behind one of another
pub parted : (id : ℕ) (ps : List PortState) → AreByRisingIds ps → IsPartitionedBy (is_state_before id) ps
parted id ps rise = IsPartitionedBy-ltb id_of ps id (rise-weakly ps rise)

-- where the search ends
pub rank-found : (id : ℕ) (ps : List PortState) (p : PortState) (i : ℕ) → i ≤ length ps
    → IsPartitionPoint (λ p. is_state_before id p ≡ true) (λ p. is_state_before id p ≡ false) ps i → i ≡ prefix_len (is_state_before id) ps
rank-found id ps p i within point = elim (cases_order i (prefix_len (is_state_before id) ps)) [
  | inl same ↦ same
  | inr (inl less) ↦
      let most = prefix_len-le-length (is_state_before id) ps in
      let passes = prefix_len_passes (is_state_before id) ps i p less in
      let fails = point.1 i p (omega arith) (omega arith) in
      absurd (both_ways (is_state_before id (get_or ps i p)) fails passes)
  | inr (inr more) ↦
      let stops = prefix_len_stops (is_state_before id) ps p (omega arith) in
      let passes = point.0 (prefix_len (is_state_before id) ps) p (omega arith) more in
      absurd (both_ways (is_state_before id (get_or ps (prefix_len (is_state_before id) ps) p)) stops passes)
]

-- A search for one id: what it finds bears it.
module _ (id : ℕ) (test : PortState → Bool) (bears : (p : PortState) → test p ≡ true → p.id ≡ id) where
  abbrev rank : List PortState → ℕ
  rank ps = prefix_len (is_state_before id) ps

  fails-at : (p : PortState) → (p.id ≡ id → false ≡ true) → test p ≡ false
  fails-at p differ = elim (cases_Bool (test p)) [
    | inl passes ↦ absurd (let wrong : false ≡ true = differ (bears p passes) in cc)
    | inr fails ↦ fails
  ]

  fails-before : (ps : List PortState) (d : PortState) (k : ℕ) → k < rank ps → test (get_or ps k d) ≡ false
  fails-before ps d k less =
      let lower = ltb-true (get_or ps k d).id id (prefix_len_passes (is_state_before id) ps k d less) in
      fails-at (get_or ps k d) (λ same. absurd (omega (arith, lower, same)))

  fails-behind : (ps : List PortState) (d : PortState) (k : ℕ) → AreByRisingIds ps → rank ps < k → k < length ps → test (get_or ps k d) ≡ false
  fails-behind ps d k rise more within =
      let reach : rank ps < length ps = omega (arith, more, within) in
      let least = ltb-false (get_or ps (rank ps) d).id id (prefix_len_stops (is_state_before id) ps d reach) in
      let up = rise (rank ps) k d more within in
      fails-at (get_or ps k d) (λ same. absurd (omega (arith, least, up, same)))

  pub place-here : (ps : List PortState) (d : PortState) → rank ps < length ps → test (get_or ps (rank ps) d) ≡ true → position test ps ≡ Some (rank ps)
  place-here ps d within here =
      let place = position_or_len_is test ps (rank ps) d (omega (arith, within)) (λ k less. fails-before ps d k less) (λ _. here) in
      let reach : position_or_len test ps < length ps = omega (arith, within, place) in
      let told : position test ps ≡ Some (position_or_len test ps) = rw (lt-ltb (position_or_len test ps) (length ps) reach) refl in
      told ∙ ap Some place

  pub place-nowhere : (ps : List PortState) (d : PortState) → AreByRisingIds ps → (rank ps < length ps → test (get_or ps (rank ps) d) ≡ false) → position test ps ≡ None
  place-nowhere ps d rise other =
      let place = position_or_len_is test ps (length ps) d (omega arith) (λ k within. nowhere k within) (λ less. absurd (omega (arith, less))) in
      rw (le-ltb (position_or_len test ps) (length ps) (omega (arith, place))) refl
    where
      nowhere : (k : ℕ) → k < length ps → test (get_or ps k d) ≡ false
      nowhere k within = elim (cases_order k (rank ps)) [
        | inl same ↦ subst (λ (n : ℕ). test (get_or ps n d) ≡ false) (sym same) (other (omega (arith, same, within)))
        | inr (inl less) ↦ fails-before ps d k less
        | inr (inr more) ↦ fails-behind ps d k rise more within
      ]

  -- what the test finds at the place where the search ends
  pub found-by : (ps : List PortState) (d : PortState) (at : ℕ) → at ≡ rank ps → at < length ps → d ≡ get_or ps at d → test d ≡ true → Some at ≡ position test ps
  found-by ps d at is within here passes =
      let there : get_or ps (rank ps) d ≡ d = sym (here ∙ ap (λ (n : ℕ). get_or ps n d) is) in
      ap Some is ∙ sym (place-here ps d (omega (arith, is, within)) (ap test there ∙ passes))

  pub missed-here : (ps : List PortState) (d : PortState) (at : ℕ) → AreByRisingIds ps → at ≡ rank ps → d ≡ get_or ps at d → test d ≡ false → None ≡ position test ps
  missed-here ps d at rise is here fails =
      let there : get_or ps (rank ps) d ≡ d = sym (here ∙ ap (λ (n : ℕ). get_or ps n d) is) in
      sym (place-nowhere ps d rise (λ _. ap test there ∙ fails))

  pub missed-past : (ps : List PortState) (at : ℕ) → AreByRisingIds ps → at ≡ rank ps → length ps ≤ at → None ≡ position test ps
  missed-past ps at rise is past = sym (place-nowhere ps blank rise (λ reach. absurd (omega (arith, is, past, reach))))

pub bears-id : (id : ℕ) (p : PortState) → is_state_of id p ≡ true → p.id ≡ id
bears-id id p is = eqb-true p.id id is

pub open-bears : (id : ℕ) (p : PortState) → is_open_state id p ≡ true → p.id ≡ id
open-bears id p is = eqb-true p.id id (and_parts (p.id == id) (not p.shutting) is).0

-- The ports that stand for a world's are by rising ids.

same-ids : (seats : List Seat) (ps : List PortState) → AreSeatsOf seats ps → map id_of ps ≡ map id_of_port (map port_of seats)
same-ids [] [] are = refl
same-ids [] (p ∷ ps) are = absurd are
same-ids (seat ∷ seats) [] are = absurd are
same-ids (seat ∷ seats) (p ∷ ps) are =
    let first : p.id ≡ seat.port.id = are.0.id in
    let rest = same-ids seats ps are.1 in
    cc

pub by-rising-ids : (ports : List Port) (helds : List PortBuffers) (ps : List PortState) → AreRising ports helds ps → AreByRisingIds ps
by-rising-ids ports helds ps are i j d less within =
    let ids : map id_of ps ≡ map id_of_port ports = same-ids (seats_of ports helds) ps are.stand ∙ ap (λ (all : List Port). map id_of_port all) (seats-ports ports helds are.agree) in
    let rise = subst (λ (ns : List ℕ). Rise 0 ns are.high) (sym ids) are.rise in
    let long = length-map ps id_of in
    let up = rise-increases 0 (map id_of ps) are.high i j 0 rise less (omega (arith, within, long)) in
    let one = get_or-map id_of ps i d 0 (omega (arith, less, within)) in
    let two = get_or-map id_of ps j d 0 within in
    omega (arith, up, one, two)
