-- What a book's ports say of the world, and whose buffers they have.
use Rattle.std.proofs.Common.{ℕ, zero, suc, Bool, true, ◌≡◌, ◌<◌, List, [], ◌∷◌, length, slice_get, map, Option, Some, None, option_map, arith, refl, sym, ◌∙◌, ap, subst}
use Rattle.std.proofs.lemmas.Option.{slice_get-map}
use Rattle.vale_entry.specs.declared.entry.Entry.{Entry}
use Rattle.vale_entry.specs.World.{Port}
use Rattle.vale_entry.specs.Legal.{world_of, holdings_of, is_met}
use Rattle.vale_entry.proofs.HistoryLaws.{numbers-rise, holdings-agree}
use Rattle.vale_port.specs.Seat.{port_of, seats_of}
use Rattle.vale_port.specs.Lists.{IsFoundAt, IsNotFound, AreRising, StandsAt}
use Rattle.vale_port.specs.Ports.{AreByRisingIds}
use Rattle.vale_port.proofs.ByRisingIds.{by-rising-ids}
use Rattle.vale_port.proofs.Lists.{are-length, seats-ports, each_port_stands, found_is_found, not_found_is_none}
pub use Rattle.vale_entry.proofs.Each.{each-take}
use Rattle.vale_book.specs.declared.book.Book.TheInside.{Inside}
use Rattle.vale_book.specs.BookView.{StandsFor}

-- ---- ports

-- what is looked for is there, and passes
pub record IsMet {X : Type 0} (test : X → Bool) (found : Option X) : Type 0 where
  pub it : X
  pub found_is : found ≡ Some it
  pub passes : test it ≡ true

pub met : {X : Type 0} (test : X → Bool) (found : Option X) → is_met test found ≡ true → IsMet test found
met test None is = absurd cc
met test (Some x) is = record { it = x; found_is = refl; passes = is }

pub ports-rising : (pool : ℕ) (h : List Entry) (b : Inside) → StandsFor pool h b → AreRising (world_of pool h).ports (holdings_of pool h).ports b.ports.items
ports-rising pool h b stands = record {
  high = length h;
  rise = (numbers-rise pool h).ports_rise;
  agree = (holdings-agree pool h stands.legal).ports_agree;
  stand = stands.ports_are;
}

-- they are found by halves
pub by-ids : (pool : ℕ) (h : List Entry) (b : Inside) → StandsFor pool h b → AreByRisingIds b.ports.items
by-ids pool h b stands = by-rising-ids (world_of pool h).ports (holdings_of pool h).ports b.ports.items (ports-rising pool h b stands)

-- the port that a search finds at a place
pub record IsHere (pool : ℕ) (h : List Entry) (b : Inside) (search' : List Port → Option Port) (place : ℕ) (port : Port) : Type 0 where
  pub found : search' (world_of pool h).ports ≡ Some port
  pub at : StandsAt (world_of pool h).ports (holdings_of pool h).ports b.ports.items place port

pub found-here : (pool : ℕ) (h : List Entry) (b : Inside) (search' : List Port → Option Port) (place : ℕ) (port : Port) → StandsFor pool h b
    → IsFoundAt search' b.ports.items place → search' (world_of pool h).ports ≡ Some port → IsHere pool h b search' place port
found-here pool h b search' place port stands found is =
    let are = ports-rising pool h b stands in
    let here : slice_get (world_of pool h).ports place ≡ Some port = sym (found_is_found (world_of pool h).ports (holdings_of pool h).ports b.ports.items search' place are found) ∙ is in
    record { found = is; at = each_port_stands (world_of pool h).ports (holdings_of pool h).ports b.ports.items place port are here }

pub not-found : (pool : ℕ) (h : List Entry) (b : Inside) (search' : List Port → Option Port) → StandsFor pool h b → IsNotFound search' b.ports.items
    → search' (world_of pool h).ports ≡ None
not-found pool h b search' stands none =
    not_found_is_none (world_of pool h).ports (holdings_of pool h).ports b.ports.items search' (ports-rising pool h b stands) none

get-some : {X : Type 0} (xs : List X) (i : ℕ) → i < length xs → (x : X) × (slice_get xs i ≡ Some x)
get-some [] i within = absurd (omega (arith, within))
get-some (x ∷ xs) zero within = (x, refl)
get-some (x ∷ xs) (suc i) within = get-some xs i (omega (arith, within))

-- a place that a search finds has a port
pub record IsFound (pool : ℕ) (h : List Entry) (b : Inside) (search' : List Port → Option Port) (place : ℕ) : Type 0 where
  pub port : Port
  pub here : IsHere pool h b search' place port

pub found-some : (pool : ℕ) (h : List Entry) (b : Inside) (search' : List Port → Option Port) (place : ℕ) → StandsFor pool h b → IsFoundAt search' b.ports.items place
    → IsFound pool h b search' place
found-some pool h b search' place stands found =
    let w = world_of pool h in
    let x = holdings_of pool h in
    let are = ports-rising pool h b stands in
    let seats = seats_of w.ports x.ports in
    let count = are-length seats b.ports.items are.stand in
    let within = found.within in
    let seat = get-some seats place (omega (arith, count, within)) in
    let there : slice_get (map port_of seats) place ≡ Some (port_of seat.0) = slice_get-map port_of seats place ∙ ap (option_map port_of) seat.1 in
    let here : slice_get w.ports place ≡ Some (port_of seat.0) = subst (λ (ps : List Port). slice_get ps place ≡ Some (port_of seat.0)) (seats-ports w.ports x.ports are.agree) there in
    let is : search' w.ports ≡ Some (port_of seat.0) = found_is_found w.ports x.ports b.ports.items search' place are found ∙ here in
    record { port = port_of seat.0; here = found-here pool h b search' place (port_of seat.0) stands found is }
