-- The rules of opening, over ports in place of their names.
use Rattle.std.proofs.Common.{ℕ, Bool, cond, not, ◌&&◌, ◌||◌, List, [], ◌∷◌, ◌≡◌, Option, Some, None, length, refl, ◌∙◌, ap, arith, inl, inr}
use Rattle.std.specs.Prelude.{if◌then◌else◌, nat_le, count_by}
use Rattle.std.specs.List.{list_any}
use Rattle.std.proofs.lemmas.Bool.{cases_Bool}
use Rattle.std.proofs.lemmas.List.Sums.{sum_by-cons}
use Rattle.nm_types.specs.Limits.{most_switches}
use Rattle.nm_types.specs.Names.{switch_of, is_switch_port_name}
use Rattle.nm_types.specs.Openings as rules
use Rattle.nm_types.specs.declared.fault.OpenFault.{OpenFault}
use Rattle.nm_types.specs.declared.fault.OpenFault.TheVariants.{SwitchesFull, PortsFull, NameTaken}
use Rattle.vale_names.specs.declared.port.NamedPort.{NamedPort}
use Rattle.vale_names.specs.Ports.{has_name, names_of}

abbrev pub has_switch_name : NamedPort → Bool
has_switch_name port = is_switch_port_name port.name

abbrev pub is_on_switch : List ℕ → NamedPort → Bool
is_on_switch switch port = rules.is_on_switch switch port.name

abbrev pub is_beside : List ℕ → NamedPort → Bool
is_beside name port = rules.is_beside name port.name

-- one port of each switch that has ports
abbrev pub switches_of : List NamedPort → List NamedPort
switches_of [] = []
switches_of (port ∷ ports) =
    if is_switch_port_name port.name && not (list_any (is_on_switch (switch_of port.name)) ports) then port ∷ switches_of ports else switches_of ports

abbrev pub finds_switches_full : List NamedPort → List ℕ → Bool
finds_switches_full ports name =
    is_switch_port_name name && (not (list_any (is_beside name) ports) && nat_le most_switches (length (switches_of ports)))

abbrev pub finds_ports_full : List NamedPort → List ℕ → Bool
finds_ports_full ports name = nat_le (rules.most_beside name) (count_by (is_beside name) ports)

abbrev pub name_refusal : List NamedPort → List ℕ → Option OpenFault
name_refusal ports name =
    if finds_switches_full ports name then Some SwitchesFull
    else (if finds_ports_full ports name then Some PortsFull
    else (if list_any (has_name name) ports then Some NameTaken
    else None))

-- ---- the names tell what the ports tell

any_of_names : (test : List ℕ → Bool) (ports : List NamedPort) → list_any test (names_of ports) ≡ list_any (λ port. test port.name) ports
any_of_names test [] = refl
any_of_names test (port ∷ ports) = ap (λ (b : Bool). test port.name || b) (any_of_names test ports)

any_agree : (test other : NamedPort → Bool) → ((port : NamedPort) → test port ≡ other port) → (ports : List NamedPort) → list_any test ports ≡ list_any other ports
any_agree test other same [] = refl
any_agree test other same (port ∷ ports) = rw (same port, any_agree test other same ports) refl

pub count_of_names : (test : List ℕ → Bool) (ports : List NamedPort) → count_by test (names_of ports) ≡ count_by (λ port. test port.name) ports
count_of_names test [] = refl
count_of_names test (port ∷ ports) =
    let rest = count_of_names test ports in
    let names = sum_by-cons (λ (n : List ℕ). cond (test n) 1 0) port.name (names_of ports) in
    let whole = sum_by-cons (λ (p : NamedPort). cond (test p.name) 1 0) port ports in
    omega arith

pub switches_of_names : (ports : List NamedPort) → rules.switches_of (names_of ports) ≡ names_of (switches_of ports)
switches_of_names [] = refl
switches_of_names (port ∷ ports) =
    let beside = any_of_names (rules.is_on_switch (switch_of port.name)) ports in
    let rest = switches_of_names ports in
    rw beside (elim (cases_Bool (is_switch_port_name port.name && not (list_any (is_on_switch (switch_of port.name)) ports))) [
      | inl first ↦ rw first (ap (λ (names : List (List ℕ)). port.name ∷ names) rest)
      | inr later ↦ rw later rest
    ])

length_of_names : (ports : List NamedPort) → length (names_of ports) ≡ length ports
length_of_names [] = refl
length_of_names (port ∷ ports) = let rest = length_of_names ports in omega arith

pub switches_counted : (ports : List NamedPort) → length (rules.switches_of (names_of ports)) ≡ length (switches_of ports)
switches_counted ports = ap (λ (names : List (List ℕ)). length names) (switches_of_names ports) ∙ length_of_names (switches_of ports)

full_of_names : (ports : List NamedPort) (name : List ℕ) → rules.finds_switches_full (names_of ports) name ≡ finds_switches_full ports name
full_of_names ports name = elim (cases_Bool (is_switch_port_name name)) [
  | inl is ↦
      let beside : list_any (rules.is_on_switch (switch_of name)) (names_of ports) ≡ list_any (is_beside name) ports =
      any_of_names (rules.is_on_switch (switch_of name)) ports ∙ any_agree (is_on_switch (switch_of name)) (is_beside name) (λ p. rw is refl) ports in
      let count = switches_counted ports in
      rw (is, beside, count) refl
  | inr other ↦ rw other refl
]

refusal_of : Bool → Bool → Bool → Option OpenFault
refusal_of switches ports taken = cond switches (Some SwitchesFull) (cond ports (Some PortsFull) (cond taken (Some NameTaken) None))

pub refusal_of_names : (ports : List NamedPort) (name : List ℕ) → rules.name_refusal (names_of ports) name ≡ name_refusal ports name
refusal_of_names ports name =
    rw (full_of_names ports name, count_of_names (rules.is_beside name) ports, any_of_names (rules.is_same_name name) ports) refl
