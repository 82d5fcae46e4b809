-- What names answer is what the ports do.
use Rattle.std.proofs.Common.{ℕ, Bool, true, false, cond, not, ◌≡◌, ◌≤◌, ◌+◌, List, [], ◌∷◌, map, find, Option, Some, refl, sym, ◌∙◌, ap, arith, ◌&&◌, bytes_eq, count_by}
use Rattle.std.specs.Prelude.{option_map}
use Rattle.std.proofs.lemmas.Bool.{and_parts}
use Rattle.std.proofs.lemmas.Slice.Eq.{bytes_eq-Decides}
use Rattle.std.proofs.lemmas.List.Sorted.{sum_by-IsPermutation}
use Rattle.nm_types.specs.Names.{is_pipe_name, peer_name}
use Rattle.nm_types.specs.declared.fault.OpenFault.{OpenFault}
use Rattle.nm_types.specs.Openings.{open_refusal as names_refusal}
use Rattle.nm_types.proofs.PeerNames.{peer-is_pipe}
use Rattle.vale_names.specs.declared.port.NamedPort.{NamedPort}
use Rattle.vale_names.specs.Ports.{names_of}
use Rattle.vale_names.specs.Ports.{is_open_as as is_named_open}
use Rattle.vale_names.proofs.OrderLemmas.{order_says_nothing, order_finds_the_same, one_is_open}
use Rattle.vale_entry.specs.World.{Port, free_count}
use Rattle.vale_entry.specs.Opening.{names_of as port_names, refusal_or_room}
use Rattle.vale_entry.specs.Monitors.{is_open_as, open_port_as}
use Rattle.vale_parts.specs.Ids.{id_of}
use Rattle.vale_parts.specs.WorldNames.{named_port}
use Rattle.vale_parts.specs.NameLaws.{number_of, OpeningsAreAnswered, NamesFindPorts, NamesFindPeers}

abbrev one_if : Bool → ℕ
one_if b = cond b 1 0

-- ---- openings

same_names : (ports : List Port) → names_of (map named_port ports) ≡ port_names ports
same_names [] = refl
same_names (p ∷ ps) = ap (λ (rest : List (List ℕ)). p.name ∷ rest) (same_names ps)

pub openings_answered : OpeningsAreAnswered
openings_answered w names name tx rx extra are =
    let same : names_refusal (names_of (map named_port w.ports)) name tx rx extra ≡ names_refusal (port_names w.ports) name tx rx extra =
    ap (λ (all : List (List ℕ)). names_refusal all name tx rx extra) (same_names w.ports) in
    let order = order_says_nothing (map named_port w.ports) names name tx rx extra are in
    ap (λ (fault : Option OpenFault). refusal_or_room fault (tx + rx + extra) (free_count w)) (sym same ∙ order)

-- ---- look-ups

abbrev ids_of : Option NamedPort → Option ℕ
ids_of found = id_of (option_map (λ (p : NamedPort). p.id) found)

found_by : (port : Port) (names : Option NamedPort) (ports : Option Port) (a b : Bool) → a ≡ b → ids_of names ≡ option_map number_of ports
    → ids_of (cond a (Some (named_port port)) names) ≡ option_map number_of (cond b (Some port) ports)
found_by port names ports true true e rest = refl
found_by port names ports false false e rest = rest
found_by port names ports true false e rest = absurd cc
found_by port names ports false true e rest = absurd cc

turned : (a b : Bool) → (a && b) ≡ (b && a)
turned true true = refl
turned true false = refl
turned false true = refl
turned false false = refl

found_named : (name : List ℕ) (ports : List Port) → ids_of (find (is_named_open name) (map named_port ports)) ≡ option_map number_of (open_port_as ports name)
found_named name [] = refl
found_named name (p ∷ ps) =
    found_by p (find (is_named_open name) (map named_port ps)) (open_port_as ps name) (is_named_open name (named_port p)) (is_open_as name p) (turned (bytes_eq p.name name) (not p.shutting)) (found_named name ps)

pub names_find : NamesFindPorts
names_find w names name are is =
    let one : count_by (is_named_open name) (map named_port w.ports) ≤ 1 =
    (let same = sum_by-IsPermutation (λ (p : NamedPort). one_if (is_named_open name p)) (map named_port w.ports) names are in let most = one_is_open names name is in omega (arith, same, most)) in
    ap id_of (sym (order_finds_the_same (map named_port w.ports) names name one are)) ∙ found_named name w.ports

peer_test : (name : List ℕ) (port : Port) → is_pipe_name name ≡ true → (b : Bool) → is_open_as name port ≡ b → is_open_as name port ≡ (is_pipe_name port.name && is_open_as name port)
peer_test name port pipe false t = t ∙ sym (ap (λ (b : Bool). is_pipe_name port.name && b) t ∙ no_and (is_pipe_name port.name))
  where
    no_and : (a : Bool) → (a && false) ≡ false
    no_and true = refl
    no_and false = refl
peer_test name port pipe true t =
    let same : port.name ≡ name = (bytes_eq-Decides port.name name).0 (and_parts (not port.shutting) (bytes_eq port.name name) t).1 in
    let own : is_pipe_name port.name ≡ true = ap is_pipe_name same ∙ pipe in
    sym (ap (λ (b : Bool). b && is_open_as name port) own)

peer_found : (name : List ℕ) → is_pipe_name name ≡ true → (ports : List Port) → open_port_as ports name ≡ find (λ (p : Port). is_pipe_name p.name && is_open_as name p) ports
peer_found name pipe [] = refl
peer_found name pipe (p ∷ ps) =
    ap (λ (b : Bool). cond b (Some p) (open_port_as ps name)) (peer_test name p pipe (is_open_as name p) refl)
    ∙ ap (λ (found : Option Port). cond (is_pipe_name p.name && is_open_as name p) (Some p) found) (peer_found name pipe ps)

pub names_find_peers : NamesFindPeers
names_find_peers w names port are is pipe =
    names_find w names (peer_name port.name) are is ∙ ap (option_map number_of) (peer_found (peer_name port.name) (peer-is_pipe port.name pipe) w.ports)
