-- The numbers at the slots of a port's ring.
use Rattle.std.proofs.Common.{ℕ, zero, suc, ◌≡◌, ◌<◌, ◌≤◌, ◌+◌, ◌-◌, true, false, nat_eq, nat_lt, List, [], ◌∷◌, find, take, drop, get_or, Option, Some, None, inl, inr, refl, sym, ◌∙◌, ap, arith}
use Rattle.std.specs.Prelude.{slice_get, slice_range, unwrap_or, option_map}
use Rattle.std.specs.Option.{option_map_or}
use Rattle.std.proofs.lemmas.Bool.{cases_Bool}
use Rattle.std.proofs.lemmas.Bool.Decides.{nat_tests}
use Rattle.std.proofs.lemmas.List.{get_or-take, get_or-drop, length-take, get_or_past}
use Rattle.std.proofs.lemmas.Option.{get_or_from_slice_get, slice_get_within, same_Some}
use Rattle.nm_types.specs.declared.id.PortId.{PortId}
use Rattle.nm_types.specs.declared.id.Side.{Side}
use Rattle.nm_types.specs.declared.id.Side.TheVariants.{Tx, Rx}
use Rattle.nm_hold.specs.declared.standing.Standing.{Standing}
use Rattle.nm_hold.specs.declared.table.PortPlaces.{PortPlaces}
use Rattle.nm_hold.specs.declared.table.PortTable.{PortTable}
use Rattle.nm_hold.specs.Offsets.{ArePortsOnce}
use Rattle.nm_hold.specs.Tables.{ports_of, number_in, number_at, slots_in}
use Rattle.nm_hold.specs.Holds.{port_of, slot_on, size_on, AreNumbers}
use Rattle.nm_hold.specs.Ties.{IsTied}
use Rattle.nm_hold.proofs.Spots.{nat_eq-is}
use Rattle.nm_hold.proofs.Finding.{number-found}
use Rattle.nm_hold.proofs.Shown.{find-places}
use Rattle.nm_hold.proofs.Tied.{number_if, held-number}

-- what is read of a part of a list
read_within : (xs : List ℕ) (a b at idx : ℕ) → slice_get (slice_range xs a b) at ≡ Some idx → (at < b - a) × (get_or xs (a + at) 0 ≡ idx)
read_within xs a b at idx e =
    let part = drop a xs in
    let below = slice_get_within (take (b - a) part) at idx e in
    let count = length-take (b - a) part in
    let few : at < b - a = omega (arith, below, count) in
    (few, sym (get_or-drop a xs at 0) ∙ (sym (get_or-take (b - a) part at 0 few) ∙ get_or_from_slice_get (take (b - a) part) at idx 0 e))

same_port : (t : PortTable) → nat_eq t.places.port.0 t.places.port.0 ≡ true
same_port t = grind (arith, nat_tests)

number_in_slots : (t : PortTable) (side : Side) (at idx : ℕ) → slice_get (slots_in t side) at ≡ Some idx → number_in t (slot_on side t.places.port at) ≡ idx
number_in_slots t Tx at idx e =
    let r = read_within t.numbers.items 0 t.places.sizes.tx at idx e in
    let below : at < t.places.sizes.tx = omega (arith, r.0) in
    let few : nat_lt at t.places.sizes.tx ≡ true = grind (arith, nat_tests) in
    let first : at ≡ 0 + at = omega arith in
    rw (same_port t, few) (ap (λ (n : ℕ). get_or t.numbers.items n 0) first ∙ r.1)
number_in_slots t Rx at idx e =
    let r = read_within t.numbers.items t.places.sizes.tx (t.places.sizes.tx + t.places.sizes.rx) at idx e in
    let below : at < t.places.sizes.rx = omega (arith, r.0) in
    let few : nat_lt at t.places.sizes.rx ≡ true = grind (arith, nat_tests) in
    rw (same_port t, few) r.1

found_port : (tables : List PortTable) (port : ℕ) (t : PortTable) → find (λ (t : PortTable). nat_eq t.places.port.0 port) tables ≡ Some t → t.places.port.0 ≡ port
found_port [] port t e = cc
found_port (u ∷ tables) port t e = elim (cases_Bool (nat_eq u.places.port.0 port)) [
  | inl same ↦ (let there : u ≡ t = same_Some u t (rw same at e) in rw (← there) (nat_eq-is u.places.port.0 port same))
  | inr differs ↦ found_port tables port t (rw differs at e)
]

pub port_on : (side : Side) (port : PortId) (at : ℕ) → port_of (slot_on side port at) ≡ port.0
port_on Tx port at = refl
port_on Rx port at = refl

number_unwrapped : (n : ℕ) → unwrap_or (number_if n) 0 ≡ n
number_unwrapped zero = refl
number_unwrapped (suc n) = refl

-- the numbers at the slots of a table that is found are those of the buffers in them
pub slots_are : (cells : List (Option Standing)) (tables : List PortTable) (side : Side) (port : PortId) (t : PortTable) → IsTied cells tables → ArePortsOnce (ports_of tables)
    → find (λ (t : PortTable). nat_eq t.places.port.0 port.0) tables ≡ Some t → AreNumbers (record { cells = cells; ports = ports_of tables }) side port (slots_in t side)
slots_are cells tables side port t tied once found at idx e =
    let place = slot_on side port at in
    let there : t.places.port ≡ port = ap (λ (n : ℕ). let i : PortId = record { 0 = n } in i) (found_port tables port.0 t found) in
    let on : find (λ (t : PortTable). nat_eq t.places.port.0 (port_of place)) tables ≡ Some t = rw (port_on side port at) found in
    let number : number_at tables place ≡ idx =
    number-found tables place once ∙ (ap (λ (o : Option PortTable). option_map_or (λ (t : PortTable). number_in t place) o 0) on
    ∙ (ap (λ (p : PortId). number_in t (slot_on side p at)) (sym there) ∙ number_in_slots t side at idx e)) in
    ap (λ (o : Option ℕ). unwrap_or o 0) (held-number cells tables place tied) ∙ (number_unwrapped (number_at tables place) ∙ number)

-- how many there are
pub size_found : (tables : List PortTable) (side : Side) (port : ℕ) (o : Option PortTable) → o ≡ find (λ (t : PortTable). nat_eq t.places.port.0 port) tables
    → option_map (λ (t : PortTable). size_on side t.places.sizes) o ≡ option_map (λ (p : PortPlaces). size_on side p.sizes) (find (λ (p : PortPlaces). nat_eq p.port.0 port) (ports_of tables))
size_found tables side port o e = rw (find-places port tables, ← e) (by_cases o)
  where
    by_cases : (o : Option PortTable) → option_map (λ (t : PortTable). size_on side t.places.sizes) o ≡ option_map (λ (p : PortPlaces). size_on side p.sizes) (option_map (λ (t : PortTable). t.places) o)
    by_cases None = refl
    by_cases (Some t) = refl

-- the number at a transmit slot of a table that is found, or 0 if it has no such slot
number_in_tx : (t : PortTable) (at : ℕ) → number_in t (slot_on Tx t.places.port at) ≡ get_or (slots_in t Tx) at 0
number_in_tx t at =
    let tx : ℕ = t.places.sizes.tx in
    let items : List ℕ = t.numbers.items in
    let front : List ℕ = take (tx - 0) (drop 0 items) in
    elim (cases_Bool (nat_lt at tx)) [
      | inl few ↦ (let less = nat_lt-is at tx few in
          let below : at < tx - 0 = omega (arith, less) in
          let first : 0 + at ≡ at = omega arith in
          let read : get_or front at 0 ≡ get_or items at 0 = get_or-take (tx - 0) (drop 0 items) at 0 below ∙ (get_or-drop 0 items at 0 ∙ ap (λ (n : ℕ). get_or items n 0) first) in
          rw (same_port t, few) (sym read))
      | inr out ↦ (let behind = nat_lt-not at tx out in
          let count = length-take (tx - 0) (drop 0 items) in
          let past : get_or front at 0 ≡ 0 = get_or_past front at 0 (omega (arith, behind, count)) in
          rw (same_port t, out) (sym past))
    ]
  where
    nat_lt-is : (a b : ℕ) → nat_lt a b ≡ true → a < b
    nat_lt-is a b e = grind (arith, nat_tests)

    nat_lt-not : (a b : ℕ) → nat_lt a b ≡ false → b ≤ a
    nat_lt-not a b e = grind (arith, nat_tests)

pub tx_numbers : (tables : List PortTable) (port : PortId) (t : PortTable) → ArePortsOnce (ports_of tables) → find (λ (t : PortTable). nat_eq t.places.port.0 port.0) tables ≡ Some t
    → (at : ℕ) → number_at tables (slot_on Tx port at) ≡ get_or (slots_in t Tx) at 0
tx_numbers tables port t once found at =
    let place = slot_on Tx port at in
    let there : t.places.port ≡ port = ap (λ (n : ℕ). let i : PortId = record { 0 = n } in i) (found_port tables port.0 t found) in
    number-found tables place once ∙ (ap (λ (o : Option PortTable). option_map_or (λ (t : PortTable). number_in t place) o 0) found
    ∙ (ap (λ (p : PortId). number_in t (slot_on Tx p at)) (sym there) ∙ number_in_tx t at))

-- a port that is not found has no buffer
pub none_numbered : (tables : List PortTable) (port : PortId) → ArePortsOnce (ports_of tables) → find (λ (t : PortTable). nat_eq t.places.port.0 port.0) tables ≡ None → (at : ℕ) → number_at tables (slot_on Tx port at) ≡ 0
none_numbered tables port once found at =
    let place = slot_on Tx port at in
    number-found tables place once ∙ ap (λ (o : Option PortTable). option_map_or (λ (t : PortTable). number_in t place) o 0) found
