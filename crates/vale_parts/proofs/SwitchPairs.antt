-- A port that the pairs find is an open port of their switch.
use Rattle.std.proofs.Common.{ℕ, ◌≡◌, Bool, true, false, cond, not, ◌&&◌, ◌==◌, List, find, Option, Some, None, is_some, refl, sym, ◌∙◌, subst, bytes_eq}
use Rattle.std.specs.List.{AllByRecursion as Each}
use Rattle.std.proofs.lemmas.Bool.{and_parts, and_from, eqb-true}
use Rattle.std.proofs.lemmas.Slice.Eq.{bytes_eq-Decides}
use Rattle.vale_entry.specs.World.{Port, Pair, is_open_at, open_port, is_open}
use Rattle.vale_entry.specs.Learning.{bucket_of, is_in_bucket, port_of_pair, port_of_address}
use Rattle.vale_entry.specs.Opening.{is_on_switch}
use Rattle.vale_entry.proofs.ListLaws.{place-of}
use Rattle.vale_entry.proofs.Each.{each-find}
use Rattle.vale_parts.specs.SwitchPorts.{is_open_on}
use Rattle.vale_entry.specs.Laws.{IsPairOf, IsPortOfPair}

-- a pair that an address finds, and what holds of each
pub record PairFound (ports : List Port) (switch : List ℕ) (P : Pair → Type 0) (id : ℕ) : Type 0 where
  pub pair : Pair
  pub holds : P pair
  pub switch_is : pair.switch ≡ switch
  pub port_is : pair.port ≡ id
  pub stands_open : is_open ports id ≡ true

found_by : (ports : List Port) (switch : List ℕ) (P : Pair → Type 0) (id : ℕ) (pair : Pair) (address : List ℕ) (b : Bool) → (bytes_eq pair.address address && is_open ports pair.port) ≡ b
    → P pair → bytes_eq pair.switch switch ≡ true → cond b (Some pair.port) None ≡ Some id → PairFound ports switch P id
found_by ports switch P id pair address true t holds on e =
    let same : pair.port ≡ id = cc in
    let tests = and_parts (bytes_eq pair.address address) (is_open ports pair.port) t in
    record { pair = pair; holds = holds; switch_is = (bytes_eq-Decides pair.switch switch).0 on; port_is = same; stands_open = subst (λ (k : ℕ). is_open ports k ≡ true) same tests.1 }
found_by ports switch P id pair address false t holds on e = absurd cc

pub found-pair : (ports : List Port) (pairs : List Pair) (switch address : List ℕ) (P : Pair → Type 0) (id : ℕ) → Each P pairs
    → port_of_address ports pairs switch address ≡ Some id → PairFound ports switch P id
found-pair ports pairs switch address P id all e = by_found (find (is_in_bucket switch (bucket_of address)) pairs) refl e
  where
    by_found : (found : Option Pair) → find (is_in_bucket switch (bucket_of address)) pairs ≡ found → port_of_pair ports address found ≡ Some id → PairFound ports switch P id
    by_found None none e = absurd cc
    by_found (Some pair) some e =
        let place = place-of (is_in_bucket switch (bucket_of address)) pairs pair some in
        let tests = and_parts (bucket_of pair.address == bucket_of address) (bytes_eq pair.switch switch) place.passes in
        found_by ports switch P id pair address (bytes_eq pair.address address && is_open ports pair.port) refl
        (each-find P (is_in_bucket switch (bucket_of address)) pairs pair all some) tests.1 e

-- the open port that an address finds
pub record PortFound (ports : List Port) (switch : List ℕ) (id : ℕ) : Type 0 where
  pub port : Port
  pub here : open_port ports id ≡ Some port
  pub id_is : port.id ≡ id
  pub on : is_open_on switch port ≡ true

open_found : (ports : List Port) (switch : List ℕ) (pair : Pair) (id : ℕ) → Each (IsPortOfPair pair) ports → pair.switch ≡ switch → pair.port ≡ id
    → (found : Option Port) → open_port ports id ≡ found → is_some found ≡ true → PortFound ports switch id
open_found ports switch pair id all same at None e some = absurd cc
open_found ports switch pair id all same at (Some port) e some =
    let place = place-of (is_open_at id) ports port e in
    let tests = and_parts (port.id == id) (not port.shutting) place.passes in
    let id_is : port.id ≡ id = eqb-true port.id id tests.0 in
    let on : is_on_switch pair.switch port ≡ true = each-find (IsPortOfPair pair) (is_open_at id) ports port all e (id_is ∙ sym at) in
    record {
      port = port;
      here = e;
      id_is = id_is;
      on = and_from (not port.shutting) (is_on_switch switch port) tests.1 (subst (λ (s : List ℕ). is_on_switch s port ≡ true) same on);
    }

pub found-port : (count : ℕ) (ports : List Port) (pairs : List Pair) (switch address : List ℕ) (id : ℕ) → Each (IsPairOf count ports) pairs
    → port_of_address ports pairs switch address ≡ Some id → PortFound ports switch id
found-port count ports pairs switch address id all e =
    let found = found-pair ports pairs switch address (IsPairOf count ports) id all e in
    open_found ports switch found.pair id found.holds.on_switch found.switch_is found.port_is (open_port ports id) refl found.stands_open
