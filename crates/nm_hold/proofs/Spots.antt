-- Places, and where they stand among those of their port.
use Rattle.std.proofs.Common.{ℕ, ◌≡◌, ◌+◌, ◌<◌, Bool, true, false, ◌&&◌, nat_eq, nat_lt, if◌then◌else◌, Some, None, refl, sym, ◌∙◌, ap, arith}
use Rattle.std.proofs.lemmas.Bool.Decides.{nat_tests}
use Rattle.nm_types.specs.declared.id.PortId.{PortId}
use Rattle.nm_types.specs.declared.place.Place.{Place}
use Rattle.nm_types.specs.declared.place.Place.TheVariants.{Tx, Rx, Extra}
use Rattle.nm_types.specs.Places.{is_same_place}
use Rattle.nm_types.proofs.Tests.{both_are, both_true, less_is}
use Rattle.nm_hold.specs.declared.table.PortPlaces.{PortPlaces}
use Rattle.nm_hold.specs.Offsets.{count_of, offset_of}
use Rattle.nm_hold.specs.Holds.{port_of}

pub nat_eq-is : (a b : ℕ) → nat_eq a b ≡ true → a ≡ b
nat_eq-is a b e = grind (arith, nat_tests)

pub same_place-is : (p q : Place) → is_same_place p q ≡ true → p ≡ q
same_place-is (Tx port slot) (Tx other at) e = let both = both_are (nat_eq port.0 other.0) (nat_eq slot at) e in
    let ports : port.0 ≡ other.0 = nat_eq-is port.0 other.0 both.0 in let slots : slot ≡ at = nat_eq-is slot at both.1 in
    ap (λ (n : ℕ). Tx (record { 0 = n }) slot) ports ∙ ap (λ (n : ℕ). Tx other n) slots
same_place-is (Rx port slot) (Rx other at) e = let both = both_are (nat_eq port.0 other.0) (nat_eq slot at) e in
    let ports : port.0 ≡ other.0 = nat_eq-is port.0 other.0 both.0 in let slots : slot ≡ at = nat_eq-is slot at both.1 in
    ap (λ (n : ℕ). Rx (record { 0 = n }) slot) ports ∙ ap (λ (n : ℕ). Rx other n) slots
same_place-is (Extra port slot) (Extra other at) e = let both = both_are (nat_eq port.0 other.0) (nat_eq slot at) e in
    let ports : port.0 ≡ other.0 = nat_eq-is port.0 other.0 both.0 in let slots : slot ≡ at = nat_eq-is slot at both.1 in
    ap (λ (n : ℕ). Extra (record { 0 = n }) slot) ports ∙ ap (λ (n : ℕ). Extra other n) slots
same_place-is (Tx port slot) (Rx other at) e = cc
same_place-is (Tx port slot) (Extra other at) e = cc
same_place-is (Rx port slot) (Tx other at) e = cc
same_place-is (Rx port slot) (Extra other at) e = cc
same_place-is (Extra port slot) (Tx other at) e = cc
same_place-is (Extra port slot) (Rx other at) e = cc

nat_eq-refl : (a : ℕ) → nat_eq a a ≡ true
nat_eq-refl a = grind (arith, nat_tests)

pub same_place-refl : (p : Place) → is_same_place p p ≡ true
same_place-refl (Tx port slot) = both_true (nat_eq port.0 port.0) (nat_eq slot slot) (nat_eq-refl port.0) (nat_eq-refl slot)
same_place-refl (Rx port slot) = both_true (nat_eq port.0 port.0) (nat_eq slot slot) (nat_eq-refl port.0) (nat_eq-refl slot)
same_place-refl (Extra port slot) = both_true (nat_eq port.0 port.0) (nat_eq slot slot) (nat_eq-refl port.0) (nat_eq-refl slot)

some_if : (b : Bool) (n a : ℕ) → (if b then Some n else None) ≡ Some a → (b ≡ true) × (n ≡ a)
some_if true n a e = (refl, cc)
some_if false n a e = cc

-- a place with a number of places before it: the port, the slot within its size, the offset
pub record Stands (port other slot size before at : ℕ) : Type 0 where
  pub same : port ≡ other
  pub within : slot < size
  pub there : at ≡ before + slot

stands_by : (port other slot size before at : ℕ) → (if nat_eq port other && nat_lt slot size then Some (before + slot) else None) ≡ Some at → Stands port other slot size before at
stands_by port other slot size before at e =
    let some = some_if (nat_eq port other && nat_lt slot size) (before + slot) at e in
    let both = both_are (nat_eq port other) (nat_lt slot size) some.0 in
    record { same = nat_eq-is port other both.0; within = less_is slot size both.1; there = sym some.1 }

pub tx_stands : (p : PortPlaces) (port : PortId) (slot at : ℕ) → offset_of p (Tx port slot) ≡ Some at → Stands port.0 p.port.0 slot p.sizes.tx 0 at
tx_stands p port slot at e =
    let some = some_if (nat_eq port.0 p.port.0 && nat_lt slot p.sizes.tx) slot at e in
    let both = both_are (nat_eq port.0 p.port.0) (nat_lt slot p.sizes.tx) some.0 in
    record { same = nat_eq-is port.0 p.port.0 both.0; within = less_is slot p.sizes.tx both.1; there = omega (arith, some.1) }

pub rx_stands : (p : PortPlaces) (port : PortId) (slot at : ℕ) → offset_of p (Rx port slot) ≡ Some at → Stands port.0 p.port.0 slot p.sizes.rx p.sizes.tx at
rx_stands p port slot at e = stands_by port.0 p.port.0 slot p.sizes.rx p.sizes.tx at e

pub extra_stands : (p : PortPlaces) (port : PortId) (slot at : ℕ) → offset_of p (Extra port slot) ≡ Some at → Stands port.0 p.port.0 slot p.sizes.extra (p.sizes.tx + p.sizes.rx) at
extra_stands p port slot at e = stands_by port.0 p.port.0 slot p.sizes.extra (p.sizes.tx + p.sizes.rx) at e

pub offset-within : (p : PortPlaces) (place : Place) (at : ℕ) → offset_of p place ≡ Some at → at < count_of p.sizes
offset-within p (Tx port slot) at e = let s = tx_stands p port slot at e in omega arith
offset-within p (Rx port slot) at e = let s = rx_stands p port slot at e in omega arith
offset-within p (Extra port slot) at e = let s = extra_stands p port slot at e in omega arith

pub offset-port : (p : PortPlaces) (place : Place) (at : ℕ) → offset_of p place ≡ Some at → port_of place ≡ p.port.0
offset-port p (Tx port slot) at e = let s = tx_stands p port slot at e in s.same
offset-port p (Rx port slot) at e = let s = rx_stands p port slot at e in s.same
offset-port p (Extra port slot) at e = let s = extra_stands p port slot at e in s.same

same_tx : (port other : PortId) (slot at : ℕ) → port.0 ≡ other.0 → slot ≡ at → is_same_place (Tx port slot) (Tx other at) ≡ true
same_tx port other slot at e f = grind (arith, nat_tests)

same_rx : (port other : PortId) (slot at : ℕ) → port.0 ≡ other.0 → slot ≡ at → is_same_place (Rx port slot) (Rx other at) ≡ true
same_rx port other slot at e f = grind (arith, nat_tests)

same_extra : (port other : PortId) (slot at : ℕ) → port.0 ≡ other.0 → slot ≡ at → is_same_place (Extra port slot) (Extra other at) ≡ true
same_extra port other slot at e f = grind (arith, nat_tests)

-- no two places of a port stand at one offset
pub offset-same : (p : PortPlaces) (one two : Place) (at : ℕ) → offset_of p one ≡ Some at → offset_of p two ≡ Some at → is_same_place one two ≡ true
offset-same p (Tx port slot) (Tx other next) at e f = let s = tx_stands p port slot at e in let t = tx_stands p other next at f in same_tx port other slot next (s.same ∙ sym t.same) (omega arith)
offset-same p (Rx port slot) (Rx other next) at e f = let s = rx_stands p port slot at e in let t = rx_stands p other next at f in same_rx port other slot next (s.same ∙ sym t.same) (omega arith)
offset-same p (Extra port slot) (Extra other next) at e f = let s = extra_stands p port slot at e in let t = extra_stands p other next at f in same_extra port other slot next (s.same ∙ sym t.same) (omega arith)
offset-same p (Tx port slot) (Rx other next) at e f = let s = tx_stands p port slot at e in let t = rx_stands p other next at f in absurd (omega arith)
offset-same p (Tx port slot) (Extra other next) at e f = let s = tx_stands p port slot at e in let t = extra_stands p other next at f in absurd (omega arith)
offset-same p (Rx port slot) (Tx other next) at e f = let s = rx_stands p port slot at e in let t = tx_stands p other next at f in absurd (omega arith)
offset-same p (Rx port slot) (Extra other next) at e f = let s = rx_stands p port slot at e in let t = extra_stands p other next at f in absurd (omega arith)
offset-same p (Extra port slot) (Tx other next) at e f = let s = extra_stands p port slot at e in let t = tx_stands p other next at f in absurd (omega arith)
offset-same p (Extra port slot) (Rx other next) at e f = let s = extra_stands p port slot at e in let t = rx_stands p other next at f in absurd (omega arith)
