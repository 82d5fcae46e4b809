-- A search among ports of owned buffers finds what a search among the world's ports finds.
use Rattle.std.proofs.Common.{ℕ, zero, suc, Bool, true, false, not, ◌≡◌, ◌<◌, ◌≤◌, ◌+◌, nat_lt, List, [], ◌∷◌, length, map, find, slice_get, get_or, Option, Some, None, cond, refl, sym, ◌∙◌, ap, arith, inl, inr, Vec, Global, ◌&&◌, ◌==◌}
use Rattle.std.specs.Prelude.{◌||◌, position, filter, IfOk, IfSome, IfNone, Result, Ok, Err}
use Rattle.nm_types.specs.declared.id.PortId.{PortId}
use Rattle.nm_types.specs.Openings.{is_on_switch as is_name_on}
use Rattle.vale_entry.specs.Opening.{is_on_switch}
use Rattle.std.specs.List.{list_any, position_or_len}
use Rattle.std.proofs.lemmas.Bool.{and_right, cases_Bool, ltb-false}
use Rattle.std.proofs.lemmas.List.Quantifiers.{position-Some}
use Rattle.vale_entry.specs.World.{Port, is_open_at}
use Rattle.vale_entry.specs.Closing.{is_shutting_at}
use Rattle.vale_entry.specs.Delivered.{has_id}
use Rattle.vale_port.specs.Lists.{IsFoundAt, IsNotFound, AreOpenOn, port_id}
use Rattle.vale_port.specs.Ports.{PortState, IsSeatOf, AreSeatsOf, id_of_state, open_ids, is_open_id_on, is_open_state, is_open_state_on, is_shutting_state, is_state_of}
use Rattle.vale_port.specs.Seat.{Seat, port_of}

found-at : (test : PortState → Bool) (of : Port → Bool) → ((seat : Seat) (p : PortState) → IsSeatOf seat p → of seat.port ≡ test p)
    → (seats : List Seat) (ps : List PortState) (i : ℕ) (d : PortState) → AreSeatsOf seats ps → i < length ps → test (get_or ps i d) ≡ true
    → ((k : ℕ) → k < i → test (get_or ps k d) ≡ false) → find of (map port_of seats) ≡ slice_get (map port_of seats) i
found-at test of same [] [] i d are within hit miss = absurd (omega (arith, within))
found-at test of same [] (p ∷ ps) i d are within hit miss = absurd are
found-at test of same (s ∷ ss) [] i d are within hit miss = absurd are
found-at test of same (s ∷ ss) (p ∷ ps) zero d are within hit miss =
    let here : of s.port ≡ true = same s p are.0 ∙ hit in
    rw here refl
found-at test of same (s ∷ ss) (p ∷ ps) (suc i) d are within hit miss =
    let inside : i < length ps = omega (arith, within) in
    let first : of s.port ≡ false = same s p are.0 ∙ miss 0 (omega arith) in
    rw first (found-at test of same ss ps i d are.1 inside hit (λ k b. miss (suc k) (omega (arith, b))))

past_parts : (b : Bool) (n m : ℕ) → suc n ≤ cond (not b) (1 + m) 0 → (b ≡ false) × (n ≤ m)
past_parts true n m h = absurd (omega (arith, h))
past_parts false n m h = (refl, omega (arith, h))

none_is : {X : Type 0} (b : Bool) (x : X) → cond b (Some x) None ≡ None → b ≡ false
none_is true x e = cc
none_is false x e = refl

past-all : (test : PortState → Bool) (of : Port → Bool) → ((seat : Seat) (p : PortState) → IsSeatOf seat p → of seat.port ≡ test p)
    → (seats : List Seat) (ps : List PortState) → AreSeatsOf seats ps → length ps ≤ position_or_len test ps → find of (map port_of seats) ≡ None
past-all test of same [] [] are h = refl
past-all test of same [] (p ∷ ps) are h = absurd are
past-all test of same (s ∷ ss) [] are h = absurd are
past-all test of same (s ∷ ss) (p ∷ ps) are h =
    let parts = past_parts (test p) (length ps) (position_or_len test ps) h in
    let first : of s.port ≡ false = same s p are.0 ∙ parts.0 in
    rw first (past-all test of same ss ps are.1 parts.1)

abbrev search_by : (Port → Bool) → List Port → Option Port
search_by of ports = find of ports

pub place-some : (test : PortState → Bool) (of : Port → Bool) → ((seat : Seat) (p : PortState) → IsSeatOf seat p → of seat.port ≡ test p)
    → (ps : List PortState) (r : Option ℕ) → r ≡ position test ps → IfSome r (IsFoundAt (search_by of) ps)
place-some test of same ps None e = tt
place-some test of same [] (Some i) e = absurd (let wrong : Some i ≡ None = e in cc)
place-some test of same (p ∷ ps) (Some i) e =
    let at = position-Some test (p ∷ ps) i p (sym e) in
    record {
      within = at.0;
      found = λ seats are. found-at test of same seats (p ∷ ps) i p are at.0 at.1 at.2;
    }

pub place-none : (test : PortState → Bool) (of : Port → Bool) → ((seat : Seat) (p : PortState) → IsSeatOf seat p → of seat.port ≡ test p)
    → (ps : List PortState) (r : Option ℕ) → r ≡ position test ps → IfNone r (IsNotFound (search_by of) ps)
place-none test of same ps (Some i) e = tt
place-none test of same ps None e = λ seats are.
    past-all test of same seats ps are
    (ltb-false (position_or_len test ps) (length ps) (none_is (nat_lt (position_or_len test ps) (length ps)) (position_or_len test ps) (sym e)))

pub same-open : (id : ℕ) (seat : Seat) (p : PortState) → IsSeatOf seat p → is_open_at id seat.port ≡ is_open_state id p
same-open id seat p is = let one = is.id in let two = is.shutting in cc

pub same-shutting : (id : ℕ) (seat : Seat) (p : PortState) → IsSeatOf seat p → is_shutting_at id seat.port ≡ is_shutting_state id p
same-shutting id seat p is = let one = is.id in let two = is.shutting in cc

pub same-id : (id : ℕ) (seat : Seat) (p : PortState) → IsSeatOf seat p → has_id id seat.port ≡ is_state_of id p
same-id id seat p is = let one = is.id in cc

-- The open ports of a switch are those of the world.

same-on : (switch : List ℕ) (seat : Seat) (p : PortState) → IsSeatOf seat p → is_open_state_on switch p ≡ (not seat.port.shutting && is_on_switch switch seat.port)
same-on switch seat p is = let one = is.name in let two = is.shutting in cc

pub open-on : (switch : List ℕ) (seats : List Seat) (ps : List PortState) → AreSeatsOf seats ps
    → open_ids switch ps ≡ map port_id (filter (λ (port : Port). not port.shutting && is_on_switch switch port) (map port_of seats))
open-on switch [] [] are = refl
open-on switch [] (p ∷ ps) are = absurd are
open-on switch (s ∷ ss) [] are = absurd are
open-on switch (s ∷ ss) (p ∷ ps) are =
    let own : id_of_state p ≡ port_id s.port = let id = are.0.id in cc in
    let same = same-on switch s p are.0 in
    let rest = open-on switch ss ps are.1 in
    elim (cases_Bool (is_open_state_on switch p)) [
      | inl here ↦
          let there : (not s.port.shutting && is_on_switch switch s.port) ≡ true = sym same ∙ here in
          rw (here, there) (rw own (ap (λ (ids : List PortId). port_id s.port ∷ ids) rest))
      | inr other ↦ let away : (not s.port.shutting && is_on_switch switch s.port) ≡ false = sym same ∙ other in rw (other, away) rest
    ]

pub found-open : {E : Type 0} (switch : List ℕ) (ps : List PortState) (r : Result (Vec PortId Global) E)
    → IfOk r (λ (ids : Vec PortId Global). ids.items ≡ open_ids switch ps) → IfOk r (λ (ids : Vec PortId Global). AreOpenOn switch ps ids.items)
found-open switch ps (Ok ids) is = λ seats are. is ∙ open-on switch seats ps are
found-open switch ps (Err fault) is = tt

-- The port of an id is one of them.

abbrev is_id : ℕ → PortId → Bool
is_id id port = port.0 == id

on-and-open : (same shut on : Bool) → (not shut && on) ≡ true → ((same && not shut) && (not shut && on)) ≡ same
on-and-open true true on is = absurd cc
on-and-open true false on is = is
on-and-open false shut on is = refl

pub any-open : (switch : List ℕ) (id : ℕ) (ps : List PortState) → list_any (is_open_id_on switch id) ps ≡ list_any (is_id id) (open_ids switch ps)
any-open switch id [] = refl
any-open switch id (p ∷ ps) =
    let rest = any-open switch id ps in
    elim (cases_Bool (is_open_state_on switch p)) [
      | inl here ↦
          let first = on-and-open (p.id == id) p.shutting (is_name_on switch p.name) here in
          rw (first, here) (ap (λ (b : Bool). (p.id == id) || b) rest)
      | inr other ↦ rw (other, and_right (is_open_state id p) false refl) rest
    ]
