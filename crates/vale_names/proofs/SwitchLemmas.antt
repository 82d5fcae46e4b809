-- The places of the switches: which one a switch has, and what a change of one leaves.
use Rattle.std.proofs.Common.{ℕ, zero, suc, Bool, true, false, List, [], ◌∷◌, ◌++◌, ◌≡◌, ◌≢◌, ◌≤◌, ◌<◌, ◌+◌, ◌*◌, Option, Some, None, Result, Ok, Err, OnOk, OnErr, MatchResult, length, map, set, get_or, refl, sym, ◌∙◌, ap, arith, not, ◌==◌, ◌&&◌, ◌||◌, inl, inr}
use Rattle.std.specs.Prelude.{filter, find, bytes_eq, option_map, position}
use Rattle.std.specs.List.{list_any, list_all, position_or_len}
use Rattle.std.specs.Option.{option_or}
use Rattle.std.proofs.lemmas.Bool.{cases_Bool, and_parts, and_from, or_parts, or_from, both_ways, false≢true, false_from_ne_true, eqb-true, eqb-false, lt-ltb}
use Rattle.std.proofs.lemmas.Result.{on_ok_weaker}
use Rattle.std.proofs.lemmas.Slice.Eq.{bytes_eq-Decides}
use Rattle.std.proofs.lemmas.List.{append-nil, map-append, length-append, length-map, set-get_or, get_or_default}
use Rattle.std.proofs.lemmas.List.Elements.{filter-append}
use Rattle.std.proofs.lemmas.List.Folds.{list_any-append}
use Rattle.std.proofs.lemmas.List.Sums.{length-filter, count_by-le-length}
use Rattle.std.proofs.lemmas.List.Quantifiers.{position-Some}
use Rattle.nm_types.specs.Limits.{most_switch_ports}
use Rattle.nm_types.specs.Names.{switch_of, is_switch_port_name}
use Rattle.nm_types.specs.declared.fault.OpenFault.{OpenFault}
use Rattle.nm_types.specs.declared.id.PortId.{PortId}
use Rattle.nm_types.proofs.Tests.{or_none}
use Rattle.vale_names.specs.declared.port.NamedPort.{NamedPort}
use Rattle.vale_names.specs.declared.switch.Switch.{Switch}
use Rattle.vale_names.specs.Ports.{has_name, is_open_as, open_port_of, fresh_port, Joins, has_id, shut_at, shut_in, ports_without}
use Rattle.vale_names.specs.Groups.{group_refusal}
use Rattle.vale_names.specs.Switches.{is_label_of, is_for, is_on_label, shares_label, is_vacant, ports_on, IsPlace, ArePlaces, place_for, no_place, shut_place, place_without}
use Rattle.vale_names.proofs.PortLemmas.{any_at, any_none, all_filtered, find_in_filter, on_own_switch, filter_all_pass, filter_none_pass, all_exclude, all_imply, all_append, all_map, all_filter, all_joined, joins_behind, joins_before, bytes_same, group_fits}
use Rattle.vale_names.proofs.PortRules.{has_switch_name, is_on_switch, switches_of}

bytes_are : (a b : List ℕ) → bytes_eq a b ≡ true → a ≡ b
bytes_are a b same = (bytes_eq-Decides a b).0 same

-- ---- labels

-- at the label's switch the label tells what the switch does
label_same : (switch : List ℕ) (label : Option (List ℕ)) (port : NamedPort) → is_label_of switch label ≡ true → is_on_label label port ≡ is_on_switch switch port
label_same switch None port is = absurd (false≢true is)
label_same switch (Some label) port is = ap (λ (s : List ℕ). is_on_switch s port) (bytes_are (switch_of label) switch is)

label_shares : (switch : List ℕ) (label : Option (List ℕ)) (place : Switch) → is_label_of switch label ≡ true → shares_label label place ≡ is_for switch place
label_shares switch None place is = absurd (false≢true is)
label_shares switch (Some label) place is = ap (λ (s : List ℕ). is_for s place) (bytes_are (switch_of label) switch is)

-- a port on another label is on another switch
label_other : (switch : List ℕ) (label : Option (List ℕ)) (port : NamedPort) → is_label_of switch label ≡ false → is_on_label label port ≡ true → is_on_switch switch port ≡ false
label_other switch None port other on = absurd (false≢true on)
label_other switch (Some label) port other on = false_from_ne_true (is_on_switch switch port) (λ passes.
    let here = and_parts (is_switch_port_name port.name) (bytes_eq (switch_of port.name) (switch_of label)) on in
    let there = and_parts (is_switch_port_name port.name) (bytes_eq (switch_of port.name) switch) passes in
    let same : switch_of label ≡ switch = sym (bytes_are (switch_of port.name) (switch_of label) here.1) ∙ bytes_are (switch_of port.name) switch there.1 in
    both_ways (bytes_eq (switch_of label) switch) other ((bytes_eq-Decides (switch_of label) switch).1 same))

label_switch_name : (label : Option (List ℕ)) (port : NamedPort) → is_on_label label port ≡ true → has_switch_name port ≡ true
label_switch_name None port on = absurd (false≢true on)
label_switch_name (Some label) port on = (and_parts (is_switch_port_name port.name) (bytes_eq (switch_of port.name) (switch_of label)) on).0

any_shares : (switch : List ℕ) (label : Option (List ℕ)) (places : List Switch) → is_label_of switch label ≡ true → list_any (shares_label label) places ≡ false → list_any (is_for switch) places ≡ false
any_shares switch label [] is none = refl
any_shares switch label (place ∷ places) is none =
    let parts = or_parts (shares_label label place) (list_any (shares_label label) places) none in
    or_from (is_for switch place) (list_any (is_for switch) places) (sym (label_shares switch label place is) ∙ parts.0) (any_shares switch label places is parts.1)

-- ---- the ports of a place

place_all : (switch : List ℕ) (place : Switch) → IsPlace place → is_for switch place ≡ true → list_all (is_on_switch switch) place.group.ports ≡ true
place_all switch place is_place is =
    all_imply (is_on_switch switch) (is_on_label place.label) place.group.ports (λ port on. sym (label_same switch place.label port is) ∙ on) is_place.named

place_none : (switch : List ℕ) (place : Switch) → IsPlace place → is_for switch place ≡ false → list_any (is_on_switch switch) place.group.ports ≡ false
place_none switch place is_place other =
    all_exclude (is_on_switch switch) (is_on_label place.label) place.group.ports (λ port on. label_other switch place.label port other on) is_place.named

pub places_none : (switch : List ℕ) (places : List Switch) → ArePlaces places → list_any (is_for switch) places ≡ false → list_any (is_on_switch switch) (ports_on places) ≡ false
places_none switch [] are none = refl
places_none switch (place ∷ places) are none =
    let parts = or_parts (is_for switch place) (list_any (is_for switch) places) none in
    list_any-append (is_on_switch switch) place.group.ports (ports_on places)
    ∙ or_from (list_any (is_on_switch switch) place.group.ports) (list_any (is_on_switch switch) (ports_on places)) (place_none switch place are.0 parts.0) (places_none switch places are.1.1 parts.1)

pub places_switch_names : (places : List Switch) → ArePlaces places → list_all has_switch_name (ports_on places) ≡ true
places_switch_names [] are = refl
places_switch_names (place ∷ places) are =
    all_append has_switch_name place.group.ports (ports_on places)
    (all_imply has_switch_name (is_on_label place.label) place.group.ports (λ port on. label_switch_name place.label port on) are.0.named)
    (places_switch_names places are.1.1)

-- a place before another one for the switch is not for it
not_before : (switch : List ℕ) (place : Switch) (places : List Switch) (i : ℕ) (d : Switch) → list_any (shares_label place.label) places ≡ false → i < length places
    → is_for switch (get_or places i d) ≡ true → is_for switch place ≡ false
not_before switch place places i d apart within here = false_from_ne_true (is_for switch place) (λ is.
    both_ways (is_for switch (get_or places i d)) (any_at (is_for switch) places i d (any_shares switch place.label places is apart) within) here)

-- the switch's ports are those of its place
pub ports_at : (switch : List ℕ) (places : List Switch) (i : ℕ) (d : Switch) → ArePlaces places → i < length places → is_for switch (get_or places i d) ≡ true
    → filter (is_on_switch switch) (ports_on places) ≡ (get_or places i d).group.ports
ports_at switch [] i d are within here = absurd (omega arith)
ports_at switch (place ∷ places) zero d are within here =
    let all = filter_all_pass (is_on_switch switch) place.group.ports (place_all switch place are.0 here) in
    let others = places_none switch places are.1.1 (any_shares switch place.label places here are.1.0) in
    let none = filter_none_pass (is_on_switch switch) (ports_on places) others in
    filter-append (is_on_switch switch) place.group.ports (ports_on places) ∙ rw (all, none) (append-nil place.group.ports)
ports_at switch (place ∷ places) (suc i) d are within here =
    let other = not_before switch place places i d are.1.0 (omega arith) here in
    let none = filter_none_pass (is_on_switch switch) place.group.ports (place_none switch place are.0 other) in
    filter-append (is_on_switch switch) place.group.ports (ports_on places) ∙ rw none (ports_at switch places i d are.1.1 (omega arith) here)

pub only_for : (switch : List ℕ) (places : List Switch) (i k : ℕ) (d : Switch) → ArePlaces places → i < length places → is_for switch (get_or places i d) ≡ true
    → k < length places → k ≢ i → is_for switch (get_or places k d) ≡ false
only_for switch [] i k d are within here reach differ = absurd (omega arith)
only_for switch (place ∷ places) zero zero d are within here reach differ = absurd (differ refl)
only_for switch (place ∷ places) zero (suc k) d are within here reach differ = any_at (is_for switch) places k d (any_shares switch place.label places here are.1.0) (omega arith)
only_for switch (place ∷ places) (suc i) zero d are within here reach differ = not_before switch place places i d are.1.0 (omega arith) here
only_for switch (place ∷ places) (suc i) (suc k) d are within here reach differ = only_for switch places i k d are.1.1 (omega arith) here (omega arith) (λ same. differ (ap suc same))

-- ---- a change at one place

symmetric : (a b : List ℕ) → bytes_eq a b ≡ false → bytes_eq b a ≡ false
symmetric a b differ = false_from_ne_true (bytes_eq b a) (λ same. both_ways (bytes_eq a b) differ ((bytes_eq-Decides a b).1 (sym (bytes_are b a same))))

shares_not : (label : Option (List ℕ)) (name : List ℕ) (place : Switch) → place.label ≡ Some name → is_label_of (switch_of name) label ≡ false → shares_label label place ≡ false
shares_not None name place named other = refl
shares_not (Some label) name place named other = ap (is_label_of (switch_of label)) named ∙ symmetric (switch_of label) (switch_of name) other

any_set : (test : Switch → Bool) (places : List Switch) (i : ℕ) (new : Switch) → list_any test places ≡ false → test new ≡ false → list_any test (set places i new) ≡ false
any_set test [] i new none fails = refl
any_set test (place ∷ places) zero new none fails = or_from (test new) (list_any test places) fails (or_parts (test place) (list_any test places) none).1
any_set test (place ∷ places) (suc i) new none fails =
    let parts = or_parts (test place) (list_any test places) none in
    or_from (test place) (list_any test (set places i new)) parts.0 (any_set test places i new parts.1 fails)

pub places_set : (places : List Switch) (i : ℕ) (d new : Switch) (name : List ℕ) → ArePlaces places → i < length places → IsPlace new → new.label ≡ Some name
    → ((k : ℕ) → k < length places → k ≢ i → is_for (switch_of name) (get_or places k d) ≡ false) → ArePlaces (set places i new)
places_set [] i d new name are within is_place named others = tt
places_set (place ∷ places) zero d new name are within is_place named others =
    let is : is_label_of (switch_of name) new.label ≡ true = ap (is_label_of (switch_of name)) named ∙ bytes_same (switch_of name) in
    let apart : list_any (shares_label new.label) places ≡ false = any_none (shares_label new.label) places d
    (λ k reach. label_shares (switch_of name) new.label (get_or places k d) is ∙ others (suc k) (omega arith) (λ wrong. absurd (omega arith))) in
    (is_place, (apart, are.1.1))
places_set (place ∷ places) (suc i) d new name are within is_place named others =
    let first = others zero (omega arith) (λ wrong. absurd (omega arith)) in
    let apart = any_set (shares_label place.label) places i new are.1.0 (shares_not place.label name new named first) in
    (are.0, (apart, places_set places i d new name are.1.1 (omega arith) is_place named (λ k reach differ. others (suc k) (omega arith) (λ same. differ (omega arith)))))

pub joins_set : (places : List Switch) (i : ℕ) (d new : Switch) (port : NamedPort) → i < length places → Joins (get_or places i d).group.ports port new.group.ports
    → Joins (ports_on places) port (ports_on (set places i new))
joins_set [] i d new port within joins = absurd (omega arith)
joins_set (place ∷ places) zero d new port within joins = joins_before place.group.ports port new.group.ports (ports_on places) joins
joins_set (place ∷ places) (suc i) d new port within joins =
    joins_behind place.group.ports (ports_on places) port (ports_on (set places i new)) (joins_set places i d new port (omega arith) joins)

pub place_at : (places : List Switch) (i : ℕ) (d : Switch) → ArePlaces places → i < length places → IsPlace (get_or places i d)
place_at [] i d are within = absurd (omega arith)
place_at (place ∷ places) zero d are within = are.0
place_at (place ∷ places) (suc i) d are within = place_at places i d are.1.1 (omega arith)

-- ---- how many switches have ports

abbrev pub one_if_some : List NamedPort → ℕ
one_if_some [] = 0
one_if_some (port ∷ ports) = 1

abbrev pub some_count : List Switch → ℕ
some_count [] = 0
some_count (place ∷ places) = one_if_some place.group.ports + some_count places

one_switch : (switch : List ℕ) (ports others : List NamedPort) → list_all (is_on_switch switch) ports ≡ true → list_any (is_on_switch switch) others ≡ false
    → length (switches_of (ports ++ others)) ≡ one_if_some ports + length (switches_of others)
one_switch switch [] others all none = omega arith
one_switch switch (port ∷ []) others all none =
    let parts = and_parts (is_switch_port_name port.name) (bytes_eq (switch_of port.name) switch) (and_parts (is_on_switch switch port) true all).0 in
    let same = bytes_are (switch_of port.name) switch parts.1 in
    let alone : list_any (is_on_switch (switch_of port.name)) others ≡ false = ap (λ (s : List ℕ). list_any (is_on_switch s) others) same ∙ none in
    rw (parts.0, alone) (omega arith)
one_switch switch (port ∷ next ∷ ports) others all none =
    let first = and_parts (is_on_switch switch port) (list_all (is_on_switch switch) (next ∷ ports)) all in
    let second = and_parts (is_on_switch switch next) (list_all (is_on_switch switch) ports) first.1 in
    let same = bytes_are (switch_of port.name) switch (and_parts (is_switch_port_name port.name) (bytes_eq (switch_of port.name) switch) first.0).1 in
    let beside : is_on_switch (switch_of port.name) next ≡ true = ap (λ (s : List ℕ). is_on_switch s next) same ∙ second.0 in
    let rest = one_switch switch (next ∷ ports) others first.1 none in
    skipped port next (ports ++ others) beside ∙ rest
  where
    skipped : (port next : NamedPort) (rest : List NamedPort) → is_on_switch (switch_of port.name) next ≡ true → length (switches_of (port ∷ next ∷ rest)) ≡ length (switches_of (next ∷ rest))
    skipped port next rest beside = elim (cases_Bool (is_switch_port_name port.name)) [
      | inl is ↦ rw (is, beside) refl
      | inr other ↦ rw other refl
    ]

pub switch_count : (places : List Switch) → ArePlaces places → length (switches_of (ports_on places)) ≡ some_count places
switch_count [] are = refl
switch_count (place ∷ places) are = counted place.label place.group.ports are.0.named are.1.0 (switch_count places are.1.1)
  where
    counted : (label : Option (List ℕ)) (ports : List NamedPort) → list_all (is_on_label label) ports ≡ true → list_any (shares_label label) places ≡ false
        → length (switches_of (ports_on places)) ≡ some_count places → length (switches_of (ports ++ ports_on places)) ≡ one_if_some ports + some_count places
    counted None [] all apart rest = omega arith
    counted None (port ∷ ports) all apart rest = absurd (false≢true all)
    counted (Some label) ports all apart rest =
        let one = one_switch (switch_of label) ports (ports_on places) all (places_none (switch_of label) places are.1.1 apart) in
        omega arith

any_narrower : (test wide : NamedPort → Bool) (ports : List NamedPort) → ((p : NamedPort) → wide p ≡ false → test p ≡ false) → list_any wide ports ≡ false → list_any test ports ≡ false
any_narrower test wide [] narrow none = refl
any_narrower test wide (port ∷ ports) narrow none =
    let parts = or_parts (wide port) (list_any wide ports) none in
    or_from (test port) (list_any test ports) (narrow port parts.0) (any_narrower test wide ports narrow parts.1)

not_on_switch : (switch : List ℕ) (port : NamedPort) → has_switch_name port ≡ false → is_on_switch switch port ≡ false
not_on_switch switch port other = rw other refl

-- ports that are on no switch count for none
pub switches_append : (ports others : List NamedPort) → list_any has_switch_name others ≡ false → switches_of (ports ++ others) ≡ switches_of ports
switches_append [] [] none = refl
switches_append [] (other ∷ others) none =
    let parts = or_parts (has_switch_name other) (list_any has_switch_name others) none in
    rw (parts.0) (switches_append [] others parts.1)
switches_append (port ∷ ports) others none =
    let rest = switches_append ports others none in
    let away = any_narrower (is_on_switch (switch_of port.name)) has_switch_name others (not_on_switch (switch_of port.name)) none in
    let same : list_any (is_on_switch (switch_of port.name)) (ports ++ others) ≡ list_any (is_on_switch (switch_of port.name)) ports =
    list_any-append (is_on_switch (switch_of port.name)) ports others ∙ (ap (λ (b : Bool). list_any (is_on_switch (switch_of port.name)) ports || b) away ∙ or_none (list_any (is_on_switch (switch_of port.name)) ports)) in
    rw (same, rest) refl

-- ---- the place for a switch

place_within : {X : Type 0} (p : X → Bool) (xs : List X) → list_any p xs ≡ true → position_or_len p xs < length xs
place_within p [] there = absurd (false≢true there)
place_within p (x ∷ xs) there = elim (cases_Bool (p x)) [
  | inl here ↦ rw here (omega arith)
  | inr other ↦
      let later : list_any p xs ≡ true = rw other at there in
      let rest : position_or_len p xs < length xs = place_within p xs later in
      rw other (omega arith)
]

pub position_none : {X : Type 0} (p : X → Bool) (xs : List X) → position p xs ≡ None → list_any p xs ≡ false
position_none p xs none = false_from_ne_true (list_any p xs) (λ there.
    let found : position p xs ≡ Some (position_or_len p xs) = rw (lt-ltb (position_or_len p xs) (length xs) (place_within p xs there)) refl in
    let wrong : None ≡ Some (position_or_len p xs) = sym none ∙ found in
    cc)

empty_ports : (ports : List NamedPort) → (length ports == 0) ≡ true → ports ≡ []
empty_ports [] empty = refl
empty_ports (port ∷ ports) empty = let none = eqb-true (length (port ∷ ports)) 0 empty in absurd (omega arith)

one_of : (ports : List NamedPort) → (length ports == 0) ≡ false → one_if_some ports ≡ 1
one_of [] some = absurd (eqb-false 0 0 some refl)
one_of (port ∷ ports) some = refl

one_at_most : (ports : List NamedPort) → one_if_some ports ≤ 1
one_at_most [] = omega arith
one_at_most (port ∷ ports) = omega arith

pub some_at_most : (places : List Switch) → some_count places ≤ length places
some_at_most [] = omega arith
some_at_most (place ∷ places) =
    let rest = some_at_most places in
    let one = one_at_most place.group.ports in
    omega arith

pub some_all : (places : List Switch) → list_any is_vacant places ≡ false → some_count places ≡ length places
some_all [] none = refl
some_all (place ∷ places) none =
    let parts = or_parts (is_vacant place) (list_any is_vacant places) none in
    let one = one_of place.group.ports parts.0 in
    let rest = some_all places parts.1 in
    omega arith

pub some_fewer : (places : List Switch) (i : ℕ) (d : Switch) → i < length places → (get_or places i d).group.ports ≡ [] → some_count places < length places
some_fewer [] i d within empty = absurd (omega arith)
some_fewer (place ∷ places) zero d within empty =
    let rest = some_at_most places in
    let none : one_if_some place.group.ports ≡ 0 = ap one_if_some empty in
    omega arith
some_fewer (place ∷ places) (suc i) d within empty =
    let rest = some_fewer places i d (omega arith) empty in
    let one = one_at_most place.group.ports in
    omega arith

-- a place that was found: its ports are those of the switch
pub record FoundPlace (places : List Switch) (switch : List ℕ) (i : ℕ) : Type 0 where
  pub within : i < length places
  pub ports : filter (is_on_switch switch) (ports_on places) ≡ (get_or places i no_place).group.ports
  pub only : (k : ℕ) → k < length places → k ≢ i → is_for switch (get_or places k no_place) ≡ false

found_by : (places : List Switch) (switch : List ℕ) (i : ℕ) (labelled vacant : Option ℕ) → ArePlaces places → position (is_for switch) places ≡ labelled → position is_vacant places ≡ vacant
    → option_or labelled vacant ≡ Some i → FoundPlace places switch i
found_by places switch i (Some at) vacant are by_label by_room told =
    let here : Some at ≡ Some i = told in
    let same : at ≡ i = cc in
    let found = position-Some (is_for switch) places i no_place (by_label ∙ here) in
    record {
      within = found.0;
      ports = ports_at switch places i no_place are found.0 found.1;
      only = λ k reach differ. only_for switch places i k no_place are found.0 found.1 reach differ;
    }
found_by places switch i None (Some at) are by_label by_room told =
    let here : Some at ≡ Some i = told in
    let found = position-Some is_vacant places i no_place (by_room ∙ here) in
    let none = position_none (is_for switch) places by_label in
    let empty = empty_ports (get_or places i no_place).group.ports found.1 in
    record {
      within = found.0;
      ports = filter_none_pass (is_on_switch switch) (ports_on places) (places_none switch places are none) ∙ sym empty;
      only = λ k reach differ. any_at (is_for switch) places k no_place none reach;
    }
found_by places switch i None None are by_label by_room told = absurd (let wrong : None ≡ Some i = told in cc)

pub place_found : (places : List Switch) (switch : List ℕ) (i : ℕ) → ArePlaces places → place_for places switch ≡ Some i → FoundPlace places switch i
place_found places switch i are told = found_by places switch i (position (is_for switch) places) (position is_vacant places) are refl refl told

missed_by : (labelled vacant : Option ℕ) → option_or labelled vacant ≡ None → (labelled ≡ None) × (vacant ≡ None)
missed_by (Some at) vacant told = absurd (let wrong : Some at ≡ None = told in cc)
missed_by None vacant told = (refl, told)

pub place_missed : (places : List Switch) (switch : List ℕ) → place_for places switch ≡ None → (list_any (is_for switch) places ≡ false) × (list_any is_vacant places ≡ false)
place_missed places switch told =
    let none = missed_by (position (is_for switch) places) (position is_vacant places) told in
    (position_none (is_for switch) places none.0, position_none is_vacant places none.1)

-- ---- what a change at every place leaves

any_shut : (id : ℕ) (label : Option (List ℕ)) (places : List Switch) → list_any (shares_label label) (map (shut_place id) places) ≡ list_any (shares_label label) places
any_shut id label [] = refl
any_shut id None (place ∷ places) = any_shut id None places
any_shut id (Some label) (place ∷ places) = ap (λ (b : Bool). is_for (switch_of label) place || b) (any_shut id (Some label) places)

any_without : (id : ℕ) (label : Option (List ℕ)) (places : List Switch) → list_any (shares_label label) (map (place_without id) places) ≡ list_any (shares_label label) places
any_without id label [] = refl
any_without id None (place ∷ places) = any_without id None places
any_without id (Some label) (place ∷ places) = ap (λ (b : Bool). is_for (switch_of label) place || b) (any_without id (Some label) places)

pub name_kept : (id : ℕ) (port : NamedPort) → (shut_at id port).name ≡ port.name
name_kept id port = elim (cases_Bool (has_id id port)) [
  | inl here ↦ rw here refl
  | inr away ↦ rw away refl
]

label_kept : (id : ℕ) (label : Option (List ℕ)) (port : NamedPort) → is_on_label label (shut_at id port) ≡ is_on_label label port
label_kept id None port = refl
label_kept id (Some label) port = ap (λ (name : List ℕ). is_switch_port_name name && bytes_eq (switch_of name) (switch_of label)) (name_kept id port)

pub places_shut : (id : ℕ) (places : List Switch) → ArePlaces places → ArePlaces (map (shut_place id) places)
places_shut id [] are = tt
places_shut id (place ∷ places) are = (
  record {
    named = all_map (is_on_label place.label) (shut_at id) place.group.ports (label_kept id place.label) are.0.named;
    most = are.0.most;
    few = rw (length-map place.group.ports (shut_at id)) are.0.few;
  },
  (any_shut id place.label places ∙ are.1.0, places_shut id places are.1.1),
)

pub places_without : (id : ℕ) (places : List Switch) → ArePlaces places → ArePlaces (map (place_without id) places)
places_without id [] are = tt
places_without id (place ∷ places) are = (
  record {
    named = all_filter (is_on_label place.label) (λ p. not (has_id id p)) place.group.ports are.0.named;
    most = are.0.most;
    few =
        let kept = length-filter (λ p. not (has_id id p)) place.group.ports in
        let less = count_by-le-length (λ p. not (has_id id p)) place.group.ports in
        let few = are.0.few in
        omega arith;
  },
  (any_without id place.label places ∙ are.1.0, places_without id places are.1.1),
)

pub ports_on-shut : (id : ℕ) (places : List Switch) → ports_on (map (shut_place id) places) ≡ shut_in id (ports_on places)
ports_on-shut id [] = refl
ports_on-shut id (place ∷ places) =
    ap (λ (rest : List NamedPort). shut_in id place.group.ports ++ rest) (ports_on-shut id places) ∙ sym (map-append (shut_at id) place.group.ports (ports_on places))

pub ports_on-without : (id : ℕ) (places : List Switch) → ports_on (map (place_without id) places) ≡ ports_without id (ports_on places)
ports_on-without id [] = refl
ports_on-without id (place ∷ places) =
    ap (λ (rest : List NamedPort). ports_without id place.group.ports ++ rest) (ports_on-without id places) ∙ sym (filter-append (λ p. not (has_id id p)) place.group.ports (ports_on places))

-- ---- an opening and a look-up at a place

found_all : (places : List Switch) (switch : List ℕ) (i : ℕ) (d : Switch) → FoundPlace places switch i → list_all (is_on_switch switch) (get_or places i d).group.ports ≡ true
found_all places switch i d found =
    let same : get_or places i no_place ≡ get_or places i d = get_or_default places i no_place d found.within in
    let ports : filter (is_on_switch switch) (ports_on places) ≡ (get_or places i d).group.ports = rw (← same) found.ports in
    rw (← ports) (all_filtered (is_on_switch switch) (ports_on places))

pub opened_joins : (places : List Switch) (name : List ℕ) (id : PortId) (i : ℕ) (d new : Switch) (r : Result (Unit {0}) OpenFault) → ArePlaces places → place_for places (switch_of name) ≡ Some i
    → OnOk r (Joins (get_or places i d).group.ports (fresh_port name id) new.group.ports) → OnOk r (Joins (ports_on places) (fresh_port name id) (ports_on (set places i new)))
opened_joins places name id i d new r are told joined =
    on_ok_weaker r (λ joins. joins_set places i d new (fresh_port name id) (place_found places (switch_of name) i are told).within joins) joined

pub opened_places : (places : List Switch) (name : List ℕ) (id : PortId) (i : ℕ) (d new : Switch) (r : Result (Unit {0}) OpenFault) → ArePlaces places → is_switch_port_name name ≡ true
    → place_for places (switch_of name) ≡ Some i
    → OnOk r (Joins (get_or places i d).group.ports (fresh_port name id) new.group.ports) → OnOk r (new.label ≡ Some name) → new.group.most ≡ (get_or places i d).group.most
    → OnErr r (new ≡ get_or places i d) → MatchResult r (λ _. group_refusal (get_or places i d).group name ≡ None) (λ fault. group_refusal (get_or places i d).group name ≡ Some fault) → ArePlaces (set places i new)
opened_places places name id i d new (Ok done) are kind told joined label most err refusal =
    let fits = group_fits (get_or places i d).group new.group name (fresh_port name id) refusal joined in
    let found = place_found places (switch_of name) i are told in
    let port : is_on_switch (switch_of name) (fresh_port name id) ≡ true = and_from (is_switch_port_name name) (bytes_eq (switch_of name) (switch_of name)) kind (bytes_same (switch_of name)) in
    let all = all_joined (is_on_switch (switch_of name)) (get_or places i d).group.ports (fresh_port name id) new.group.ports joined (found_all places (switch_of name) i d found) port in
    let was = place_at places i d are found.within in
    let most_was = was.most in
    let is_place : IsPlace new = record { named = rw label all; most = most ∙ was.most; few = omega arith } in
    places_set places i no_place new name are found.within is_place label found.only
opened_places places name id i d new (Err fault) are kind told joined label most err refusal = rw err (rw (set-get_or places i d) are)

-- how many ports the places have, and how many of one switch
pub few_on : (places : List Switch) → ArePlaces places → length (ports_on places) ≤ most_switch_ports * length places
few_on [] are = omega arith
few_on (place ∷ places) are =
    let rest = few_on places are.1.1 in
    let few = are.0.few in
    let cut = length-append place.group.ports (ports_on places) in
    omega arith

pub few_on_switch : (switch : List ℕ) (places : List Switch) → ArePlaces places → length (filter (is_on_switch switch) (ports_on places)) ≤ most_switch_ports
few_on_switch switch [] are = omega arith
few_on_switch switch (place ∷ places) are = elim (cases_Bool (is_for switch place)) [
  | inl here ↦ rw (ports_at switch (place ∷ places) zero place are (omega arith) here) are.0.few
  | inr other ↦
      let none = filter_none_pass (is_on_switch switch) place.group.ports (place_none switch place are.0 other) in
      let same : filter (is_on_switch switch) (ports_on (place ∷ places)) ≡ filter (is_on_switch switch) (ports_on places) =
      filter-append (is_on_switch switch) place.group.ports (ports_on places) ∙ rw none refl in
      rw same (few_on_switch switch places are.1.1)
]

-- a switch port is found among the ports of its switch
pub finds_beside : (ports : List NamedPort) (name : List ℕ) (beside : List NamedPort) → is_switch_port_name name ≡ true → filter (is_on_switch (switch_of name)) ports ≡ beside
    → open_port_of ports name ≡ open_port_of beside name
finds_beside ports name beside kind is =
    let found : find (is_open_as name) ports ≡ find (is_open_as name) beside =
    sym (find_in_filter (is_open_as name) (is_on_switch (switch_of name)) ports (λ p open_as. on_own_switch name p kind (and_parts (has_name name p) (not p.shutting) open_as).0)) ∙ ap (find (is_open_as name)) is in
    ap (λ (o : Option NamedPort). option_map (λ (p : NamedPort). p.id) o) found

pub ruleset places = (places_shut, places_without, ports_on-shut, ports_on-without)
