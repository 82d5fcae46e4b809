-- What a name is answered, from the ports beside it.
use Rattle.std.proofs.Common.{ℕ, Bool, true, false, cond, List, [], ◌∷◌, ◌++◌, ◌≡◌, ◌≤◌, ◌+◌, Option, Some, None, Result, Ok, Err, OnOk, OnErr, MatchResult, length, map, get_or, refl, sym, ◌∙◌, ap, arith, not, inl, inr}
use Rattle.std.specs.Prelude.{filter, find, count_by, option_map, nat_le, bytes_eq}
use Rattle.std.specs.List.{list_any, list_all}
use Rattle.std.proofs.lemmas.Bool.{cases_Bool, and_parts, or_from, le-leb, lt-leb}
use Rattle.std.proofs.lemmas.List.{map-append, length-append, length-map}
use Rattle.std.proofs.lemmas.Slice.Eq.{bytes_eq-Decides}
use Rattle.std.proofs.lemmas.List.Elements.{filter-append}
use Rattle.std.proofs.lemmas.List.Folds.{list_any-append}
use Rattle.std.proofs.lemmas.List.Sums.{length-filter, sum_by-append, sum_by-cons, count_by-le-length}
use Rattle.nm_types.specs.Names.{switch_of, is_switch_port_name, is_pipe_name, is_monitor_name}
use Rattle.nm_types.specs.declared.id.PortId.{PortId}
use Rattle.nm_types.specs.Limits.{most_pipe_ends, most_monitors}
use Rattle.nm_types.specs.declared.fault.OpenFault.{OpenFault}
use Rattle.nm_types.specs.declared.fault.OpenFault.TheVariants.{SwitchesFull, PortsFull, NameTaken}
use Rattle.vale_names.specs.declared.port.NamedPort.{NamedPort}
use Rattle.vale_names.specs.declared.switch.Switch.{Switch}
use Rattle.vale_names.specs.Ports.{has_name, has_pipe_name, has_monitor_name, is_open_as, open_port_of, names_of, fresh_port, Joins, has_id, shut_at, shut_in, ports_without}
use Rattle.vale_names.specs.Groups.{PortGroup, group_refusal}
use Rattle.vale_names.specs.Switches.{is_for, is_vacant, ports_on, ArePlaces, place_for, no_place, refusal_at, place_refusal, shut_place, place_without}
use Rattle.vale_names.specs.Named.{all_ports, IsGroupOf, AreNamed}
use Rattle.vale_names.specs.PortNames.{HaveNamesOnce, IsNames}
use Rattle.nm_types.specs.Openings as rules
use Rattle.vale_names.proofs.PortLemmas.{any_in_filter, find_in_filter, filter_none_pass, all_exclude, all_joined, all_map, all_filter, pipe_alone, monitor_alone, beside_switch_port, beside_pipe, beside_monitor, beside_others, joins_behind, joins_before, group_fits, beside_itself_switch_port, beside_itself_pipe, beside_itself_monitor}
use Rattle.vale_names.proofs.SwitchLemmas.{FoundPlace, finds_beside, place_found, place_missed, places_none, places_switch_names, place_at, switch_count, switches_append, some_count, some_all, some_fewer, places_shut, places_without, ports_on-shut, ports_on-without, name_kept, few_on, few_on_switch, some_at_most}
use Rattle.nm_types.specs.Openings.{most_beside, are_sizes, open_refusal}
use Rattle.vale_names.proofs.PortRules.{has_switch_name, is_on_switch, is_beside, switches_of, finds_switches_full, name_refusal, finds_ports_full, switches_counted, count_of_names, refusal_of_names}

-- ---- filters and tests

any_filtered : (test : NamedPort → Bool) (ports : List NamedPort) (first : NamedPort) (rest : List NamedPort) → filter test ports ≡ first ∷ rest → list_any test ports ≡ true
any_filtered test [] first rest is = absurd (let wrong : [] ≡ first ∷ rest = is in cc)
any_filtered test (port ∷ ports) first rest is = elim (cases_Bool (test port)) [
  | inl here ↦ rw here refl
  | inr away ↦ (let later : filter test ports ≡ first ∷ rest = rw away at is in rw away (any_filtered test ports first rest later))
]

none_filtered : (test : NamedPort → Bool) (ports : List NamedPort) → filter test ports ≡ [] → list_any test ports ≡ false
none_filtered test [] is = refl
none_filtered test (port ∷ ports) is = elim (cases_Bool (test port)) [
  | inl here ↦ absurd (let wrong : port ∷ filter test ports ≡ [] = rw here at is in cc)
  | inr away ↦ (let later : filter test ports ≡ [] = rw away at is in rw away (none_filtered test ports later))
]

-- ---- the refusal of a name whose ports are those of a group

pub group_told : (ports : List NamedPort) (name : List ℕ) (group : PortGroup) → filter (is_beside name) ports ≡ group.ports → group.most ≡ most_beside name
    → ((p : NamedPort) → has_name name p ≡ true → is_beside name p ≡ true) → finds_switches_full ports name ≡ false → name_refusal ports name ≡ group_refusal group name
group_told ports name group beside most itself room =
    let count : count_by (is_beside name) ports ≡ length group.ports = sym (length-filter (is_beside name) ports) ∙ ap (λ (ps : List NamedPort). length ps) beside in
    let taken : list_any (has_name name) ports ≡ list_any (has_name name) group.ports = sym (any_in_filter (has_name name) (is_beside name) ports itself) ∙ ap (list_any (has_name name)) beside in
    first ∙ (ap (λ (m : ℕ). told m (count_by (is_beside name) ports) (list_any (has_name name) ports)) (sym most)
    ∙ (ap (λ (k : ℕ). told group.most k (list_any (has_name name) ports)) count
    ∙ ap (λ (b : Bool). told group.most (length group.ports) b) taken))
  where
    told : ℕ → ℕ → Bool → Option OpenFault
    told m k b = cond (nat_le m k) (Some PortsFull) (cond b (Some NameTaken) None)

    first : name_refusal ports name ≡ told (most_beside name) (count_by (is_beside name) ports) (list_any (has_name name) ports)
    first = rw room refl

open_beside : (name : List ℕ) (p : NamedPort) → is_open_as name p ≡ true → has_name name p ≡ true
open_beside name p open_as = (and_parts (has_name name p) (not p.shutting) open_as).0

pub group_finds : (ports : List NamedPort) (name : List ℕ) (beside_ports : List NamedPort) → filter (is_beside name) ports ≡ beside_ports
    → ((p : NamedPort) → has_name name p ≡ true → is_beside name p ≡ true) → open_port_of ports name ≡ open_port_of beside_ports name
group_finds ports name beside_ports beside itself =
    let found : find (is_open_as name) ports ≡ find (is_open_as name) beside_ports =
    sym (find_in_filter (is_open_as name) (is_beside name) ports (λ p open_as. itself p (open_beside name p open_as))) ∙ ap (find (is_open_as name)) beside in
    ap (λ (o : Option NamedPort). option_map (λ (p : NamedPort). p.id) o) found

-- ---- the three kinds of names

no_switch_names : (b c : List NamedPort) → list_all has_pipe_name b ≡ true → list_all has_monitor_name c ≡ true → list_any has_switch_name (b ++ c) ≡ false
no_switch_names b c pipes monitors =
    list_any-append has_switch_name b c
    ∙ or_from (list_any has_switch_name b) (list_any has_switch_name c)
    (all_exclude has_switch_name has_pipe_name b (λ p is. (pipe_alone p.name is).0) pipes)
    (all_exclude has_switch_name has_monitor_name c (λ p is. (monitor_alone p.name is).0) monitors)

pub names_find_switch : (s : List Switch) (p m : PortGroup) (name : List ℕ) → AreNamed s p m → is_switch_port_name name ≡ true → open_port_of (all_ports s p m) name ≡ open_port_of (ports_on s) name
names_find_switch s p m name are kind =
    let beside = beside_switch_port name (ports_on s) p.ports m.ports kind are.pipe_ends.kind are.monitor_ports.kind in
    group_finds (all_ports s p m) name (filter (is_on_switch (switch_of name)) (ports_on s)) beside (beside_itself_switch_port name kind)
    ∙ sym (finds_beside (ports_on s) name (filter (is_on_switch (switch_of name)) (ports_on s)) kind refl)

pub names_find_pipe : (s : List Switch) (p m : PortGroup) (name : List ℕ) → AreNamed s p m → is_pipe_name name ≡ true → open_port_of (all_ports s p m) name ≡ open_port_of p.ports name
names_find_pipe s p m name are kind =
    let beside = beside_pipe name (ports_on s) p.ports m.ports kind (places_switch_names s are.places) are.pipe_ends.kind are.monitor_ports.kind in
    group_finds (all_ports s p m) name p.ports beside (beside_itself_pipe name kind)

pub names_find_monitor : (s : List Switch) (p m : PortGroup) (name : List ℕ) → AreNamed s p m → is_monitor_name name ≡ true → open_port_of (all_ports s p m) name ≡ open_port_of m.ports name
names_find_monitor s p m name are kind =
    let beside = beside_monitor name (ports_on s) p.ports m.ports kind (places_switch_names s are.places) are.pipe_ends.kind are.monitor_ports.kind in
    group_finds (all_ports s p m) name m.ports beside (beside_itself_monitor name kind)

not_full : (ports : List NamedPort) (name : List ℕ) → is_switch_port_name name ≡ false → finds_switches_full ports name ≡ false
not_full ports name other = rw other refl

pub names_refuse_pipe : (s : List Switch) (p m : PortGroup) (name : List ℕ) → AreNamed s p m → is_pipe_name name ≡ true → name_refusal (all_ports s p m) name ≡ group_refusal p name
names_refuse_pipe s p m name are kind =
    let beside = beside_pipe name (ports_on s) p.ports m.ports kind (places_switch_names s are.places) are.pipe_ends.kind are.monitor_ports.kind in
    let other = (pipe_alone name kind).0 in
    group_told (all_ports s p m) name p beside (are.pipe_ends.most_is ∙ rw (other, kind) refl) (beside_itself_pipe name kind) (not_full (all_ports s p m) name other)

pub names_refuse_monitor : (s : List Switch) (p m : PortGroup) (name : List ℕ) → AreNamed s p m → is_monitor_name name ≡ true → name_refusal (all_ports s p m) name ≡ group_refusal m name
names_refuse_monitor s p m name are kind =
    let beside = beside_monitor name (ports_on s) p.ports m.ports kind (places_switch_names s are.places) are.pipe_ends.kind are.monitor_ports.kind in
    let other = (monitor_alone name kind).0 in
    let no_pipe = (monitor_alone name kind).1 in
    group_told (all_ports s p m) name m beside (are.monitor_ports.most_is ∙ rw (other, no_pipe) refl) (beside_itself_monitor name kind) (not_full (all_ports s p m) name other)

all_switches : (s : List Switch) (p m : PortGroup) → AreNamed s p m → length (switches_of (all_ports s p m)) ≡ some_count s
all_switches s p m are =
    ap (λ (ps : List NamedPort). length ps) (switches_append (ports_on s) (p.ports ++ m.ports) (no_switch_names p.ports m.ports are.pipe_ends.kind are.monitor_ports.kind))
    ∙ switch_count s are.places

-- a switch that has a place finds no want of switches
has_room : (s : List Switch) (p m : PortGroup) (name : List ℕ) (i : ℕ) → AreNamed s p m → is_switch_port_name name ≡ true → FoundPlace s (switch_of name) i
    → (ports : List NamedPort) → ports ≡ (get_or s i no_place).group.ports → filter (is_beside name) (all_ports s p m) ≡ ports → finds_switches_full (all_ports s p m) name ≡ false
has_room s p m name i are kind found [] empty beside =
    let fewer = some_fewer s i no_place found.within (sym empty) in
    let four = are.four in
    let count = all_switches s p m are in
    let few : nat_le 4 (length (switches_of (all_ports s p m))) ≡ false = lt-leb 4 (length (switches_of (all_ports s p m))) (omega arith) in
    let none = none_filtered (is_beside name) (all_ports s p m) beside in
    rw (kind, none, few) refl
has_room s p m name i are kind found (port ∷ ports) some beside =
    let there = any_filtered (is_beside name) (all_ports s p m) port ports beside in
    rw (kind, there) refl

no_room : (s : List Switch) (p m : PortGroup) (name : List ℕ) → AreNamed s p m → is_switch_port_name name ≡ true → list_any (is_for (switch_of name)) s ≡ false → list_any is_vacant s ≡ false
    → finds_switches_full (all_ports s p m) name ≡ true
no_room s p m name are kind none full =
    let beside = beside_switch_port name (ports_on s) p.ports m.ports kind are.pipe_ends.kind are.monitor_ports.kind in
    let away = filter_none_pass (is_on_switch (switch_of name)) (ports_on s) (places_none (switch_of name) s are.places none) in
    let nothing = none_filtered (is_beside name) (all_ports s p m) (beside ∙ away) in
    let all = some_all s full in
    let four = are.four in
    let count = all_switches s p m are in
    let many : nat_le 4 (length (switches_of (all_ports s p m))) ≡ true = le-leb 4 (length (switches_of (all_ports s p m))) (omega arith) in
    rw (kind, nothing, many) refl

told_at : (s : List Switch) (p m : PortGroup) (name : List ℕ) (place : Option ℕ) → AreNamed s p m → is_switch_port_name name ≡ true → place_for s (switch_of name) ≡ place
    → name_refusal (all_ports s p m) name ≡ refusal_at s name place
told_at s p m name None are kind told =
    let missed = place_missed s (switch_of name) told in
    rw (no_room s p m name are kind missed.0 missed.1) refl
told_at s p m name (Some i) are kind told =
    let found = place_found s (switch_of name) i are.places told in
    let beside = beside_switch_port name (ports_on s) p.ports m.ports kind are.pipe_ends.kind are.monitor_ports.kind ∙ found.ports in
    let most = (place_at s i no_place are.places found.within).most in
    group_told (all_ports s p m) name (get_or s i no_place).group beside (most ∙ rw kind refl) (beside_itself_switch_port name kind)
    (has_room s p m name i are kind found (get_or s i no_place).group.ports refl beside)

pub names_refuse_switch : (s : List Switch) (p m : PortGroup) (name : List ℕ) → AreNamed s p m → is_switch_port_name name ≡ true → name_refusal (all_ports s p m) name ≡ place_refusal s name
names_refuse_switch s p m name are kind = told_at s p m name (place_for s (switch_of name)) are kind refl

pub sized : (ports : List NamedPort) (name : List ℕ) (tx rx extra : ℕ) → are_sizes name tx rx extra ≡ true → open_refusal (names_of ports) name tx rx extra ≡ name_refusal ports name
sized ports name tx rx extra fits = rw fits (refusal_of_names ports name)

pub told_as : (r : Result (Unit {0}) OpenFault) (a b : Option OpenFault) → a ≡ b → MatchResult r (λ _. b ≡ None) (λ fault. b ≡ Some fault) → MatchResult r (λ _. a ≡ None) (λ fault. a ≡ Some fault)
told_as (Ok done) a b same told = same ∙ told
told_as (Err fault) a b same told = same ∙ told

-- ---- what an opening, a shutting and a going leave

pub all_shut : (id : ℕ) (s : List Switch) (p m : PortGroup) → all_ports (map (shut_place id) s) (record p { ports = shut_in id p.ports }) (record m { ports = shut_in id m.ports }) ≡ shut_in id (all_ports s p m)
all_shut id s p m =
    ap (λ (front : List NamedPort). front ++ (shut_in id p.ports ++ shut_in id m.ports)) (ports_on-shut id s)
    ∙ (ap (λ (back : List NamedPort). shut_in id (ports_on s) ++ back) (sym (map-append (shut_at id) p.ports m.ports)) ∙ sym (map-append (shut_at id) (ports_on s) (p.ports ++ m.ports)))

pub all_without : (id : ℕ) (s : List Switch) (p m : PortGroup) → all_ports (map (place_without id) s) (record p { ports = ports_without id p.ports }) (record m { ports = ports_without id m.ports }) ≡ ports_without id (all_ports s p m)
all_without id s p m =
    ap (λ (front : List NamedPort). front ++ (ports_without id p.ports ++ ports_without id m.ports)) (ports_on-without id s)
    ∙ (ap (λ (back : List NamedPort). ports_without id (ports_on s) ++ back) (sym (filter-append (λ q. not (has_id id q)) p.ports m.ports)) ∙ sym (filter-append (λ q. not (has_id id q)) (ports_on s) (p.ports ++ m.ports)))

-- ---- no two ports have one name

count_joined : (test : NamedPort → Bool) (old : List NamedPort) (port : NamedPort) (new : List NamedPort) → Joins old port new → count_by test new ≡ cond (test port) 1 0 + count_by test old
count_joined test old port new joins =
    let value : NamedPort → ℕ = λ p. cond (test p) 1 0 in
    let was : count_by test old ≡ count_by test (joins.before ++ joins.after) = ap (count_by test) joins.was in
    let is : count_by test new ≡ count_by test (joins.before ++ port ∷ joins.after) = ap (count_by test) joins.is in
    let cut_old = sum_by-append value joins.before joins.after in
    let cut_new = sum_by-append value joins.before (port ∷ joins.after) in
    let first = sum_by-cons value port joins.after in
    omega arith

none_counted : (test : NamedPort → Bool) (ports : List NamedPort) → list_any test ports ≡ false → count_by test ports ≡ 0
none_counted test ports none = sym (length-filter test ports) ∙ ap (λ (ps : List NamedPort). length ps) (filter_none_pass test ports none)

-- a name that is not refused is free
free_name : (ports : List NamedPort) (name : List ℕ) → name_refusal ports name ≡ None → list_any (has_name name) ports ≡ false
free_name ports name none = free (finds_switches_full ports name) (finds_ports_full ports name) (list_any (has_name name) ports) none
  where
    free : (switches full taken : Bool) → cond switches (Some SwitchesFull) (cond full (Some PortsFull) (cond taken (Some NameTaken) None)) ≡ None → taken ≡ false
    free true full taken none = absurd (let wrong : Some SwitchesFull ≡ None = none in cc)
    free false true taken none = absurd (let wrong : Some PortsFull ≡ None = none in cc)
    free false false true none = absurd (let wrong : Some NameTaken ≡ None = none in cc)
    free false false false none = refl

once_joined : (old : List NamedPort) (name : List ℕ) (id : PortId) (new : List NamedPort) → HaveNamesOnce old → name_refusal old name ≡ None → Joins old (fresh_port name id) new → HaveNamesOnce new
once_joined old name id new once none joins other =
    let counted : Bool → ℕ = λ b. cond b 1 0 + count_by (has_name other) old in
    let count = count_joined (has_name other) old (fresh_port name id) new joins in
    elim (cases_Bool (bytes_eq name other)) [
      | inl same ↦
          let free = none_counted (has_name name) old (free_name old name none) in
          let equal : name ≡ other = (bytes_eq-Decides name other).0 same in
          let none_of : count_by (has_name other) old ≡ 0 = ap (λ (n : List ℕ). count_by (has_name n) old) (sym equal) ∙ free in
          let one : count_by (has_name other) new ≡ 1 + count_by (has_name other) old = count ∙ ap counted same in
          omega arith
      | inr differ ↦
          let few = once other in
          let none_more : count_by (has_name other) new ≡ 0 + count_by (has_name other) old = count ∙ ap counted differ in
          omega arith
    ]

once_shut : (id : ℕ) (ports : List NamedPort) → HaveNamesOnce ports → HaveNamesOnce (shut_in id ports)
once_shut id ports once name = let few = once name in let same = alike ports in omega arith
  where
    alike : (all : List NamedPort) → count_by (has_name name) (shut_in id all) ≡ count_by (has_name name) all
    alike [] = refl
    alike (port ∷ all) =
        let shut : count_by (has_name name) (shut_in id (port ∷ all)) ≡ cond (has_name name (shut_at id port)) 1 0 + count_by (has_name name) (shut_in id all) =
        sum_by-cons (λ (p : NamedPort). cond (has_name name p) 1 0) (shut_at id port) (shut_in id all) in
        let whole : count_by (has_name name) (port ∷ all) ≡ cond (has_name name port) 1 0 + count_by (has_name name) all = sum_by-cons (λ (p : NamedPort). cond (has_name name p) 1 0) port all in
        shut ∙ (ap (λ (n : List ℕ). cond (bytes_eq n name) 1 0 + count_by (has_name name) (shut_in id all)) (name_kept id port)
        ∙ (ap (λ (k : ℕ). cond (has_name name port) 1 0 + k) (alike all) ∙ sym whole))

once_without : (id : ℕ) (ports : List NamedPort) → HaveNamesOnce ports → HaveNamesOnce (ports_without id ports)
once_without id ports once name = let few = once name in let fewer = fewer_kept (has_name name) (λ p. not (has_id id p)) ports in omega arith
  where
    fewer_kept : (test kept : NamedPort → Bool) (all : List NamedPort) → count_by test (filter kept all) ≤ count_by test all
    fewer_kept test kept [] = omega arith
    fewer_kept test kept (port ∷ all) =
        let rest = fewer_kept test kept all in
        let whole = sum_by-cons (λ (p : NamedPort). cond (test p) 1 0) port all in
        let first = sum_by-cons (λ (p : NamedPort). cond (test p) 1 0) port (filter kept all) in
        elim (cases_Bool (kept port)) [
          | inl here ↦ rw here (omega arith)
          | inr away ↦ rw away (omega arith)
        ]

-- ---- what each call leaves

pub named_switch : (s new : List Switch) (p m : PortGroup) (name : List ℕ) (id : PortId) (r : Result (Unit {0}) OpenFault) → AreNamed s p m → is_switch_port_name name ≡ true → ArePlaces new
    → length new ≡ length s → MatchResult r (λ _. place_refusal s name ≡ None) (λ fault. place_refusal s name ≡ Some fault)
    → OnOk r (Joins (ports_on s) (fresh_port name id) (ports_on new)) → OnErr r (new ≡ s) → AreNamed new p m
named_switch s new p m name id (Ok done) are kind places same refusal joined err = record {
  places = places;
  four = same ∙ are.four;
  pipe_ends = are.pipe_ends;
  monitor_ports = are.monitor_ports;
  once = once_joined (all_ports s p m) name id (all_ports new p m) are.once (names_refuse_switch s p m name are kind ∙ refusal)
      (joins_before (ports_on s) (fresh_port name id) (ports_on new) (p.ports ++ m.ports) joined);
}
named_switch s new p m name id (Err fault) are kind places same refusal joined err = rw err are

-- what an opening makes of a group
abbrev pub Opens : PortGroup → PortGroup → List ℕ → PortId → Result (Unit {0}) OpenFault → Type 0
Opens g new name id r =
    (new.most ≡ g.most) × MatchResult r (λ _. group_refusal g name ≡ None) (λ fault. group_refusal g name ≡ Some fault)
    × OnOk r (Joins g.ports (fresh_port name id) new.ports) × OnErr r (new ≡ g)

group_opened : (has_kind : NamedPort → Bool) (most : ℕ) (g new : PortGroup) (name : List ℕ) (id : PortId) → IsGroupOf has_kind most g → has_kind (fresh_port name id) ≡ true → Opens g new name id (Ok tt) → IsGroupOf has_kind most new
group_opened has_kind most g new name id are kind opened =
    let fits = group_fits g new name (fresh_port name id) opened.1 opened.2 in
    let was = are.most_is in
    record { kind = all_joined has_kind g.ports (fresh_port name id) new.ports opened.2 are.kind kind; most_is = opened.0 ∙ are.most_is; few = omega arith }

pub named_pipe : (s : List Switch) (p new m : PortGroup) (name : List ℕ) (id : PortId) (r : Result (Unit {0}) OpenFault) → AreNamed s p m → is_pipe_name name ≡ true → Opens p new name id r → AreNamed s new m
named_pipe s p new m name id (Ok done) are kind opened = record {
  places = are.places;
  four = are.four;
  pipe_ends = group_opened has_pipe_name most_pipe_ends p new name id are.pipe_ends kind opened;
  monitor_ports = are.monitor_ports;
  once = once_joined (all_ports s p m) name id (all_ports s new m) are.once (names_refuse_pipe s p m name are kind ∙ opened.1)
      (joins_behind (ports_on s) _ (fresh_port name id) _ (joins_before p.ports (fresh_port name id) new.ports m.ports opened.2));
}
named_pipe s p new m name id (Err fault) are kind opened = rw opened.3 are

pub named_monitor : (s : List Switch) (p m new : PortGroup) (name : List ℕ) (id : PortId) (r : Result (Unit {0}) OpenFault) → AreNamed s p m → is_monitor_name name ≡ true → Opens m new name id r → AreNamed s p new
named_monitor s p m new name id (Ok done) are kind opened = record {
  places = are.places;
  four = are.four;
  pipe_ends = are.pipe_ends;
  monitor_ports = group_opened has_monitor_name most_monitors m new name id are.monitor_ports kind opened;
  once = once_joined (all_ports s p m) name id (all_ports s p new) are.once (names_refuse_monitor s p m name are kind ∙ opened.1)
      (joins_behind (ports_on s) _ (fresh_port name id) _ (joins_behind p.ports m.ports (fresh_port name id) new.ports opened.2));
}
named_monitor s p m new name id (Err fault) are kind opened = rw opened.3 are

group_shut : (has_kind : NamedPort → Bool) (most id : ℕ) (g : PortGroup) → ((port : NamedPort) → has_kind (shut_at id port) ≡ has_kind port) → IsGroupOf has_kind most g → IsGroupOf has_kind most (record g { ports = shut_in id g.ports })
group_shut has_kind most id g same are = record {
  kind = all_map has_kind (shut_at id) g.ports same are.kind;
  most_is = are.most_is;
  few = rw (length-map g.ports (shut_at id)) are.few;
}

pub named_shut : (id : ℕ) (s : List Switch) (p m : PortGroup) → AreNamed s p m → AreNamed (map (shut_place id) s) (record p { ports = shut_in id p.ports }) (record m { ports = shut_in id m.ports })
named_shut id s p m are = record {
  places = places_shut id s are.places;
  four = length-map s (shut_place id) ∙ are.four;
  pipe_ends = group_shut has_pipe_name most_pipe_ends id p (λ port. ap is_pipe_name (name_kept id port)) are.pipe_ends;
  monitor_ports = group_shut has_monitor_name most_monitors id m (λ port. ap is_monitor_name (name_kept id port)) are.monitor_ports;
  once = rw (all_shut id s p m) (once_shut id (all_ports s p m) are.once);
}

group_without : (has_kind : NamedPort → Bool) (most id : ℕ) (g : PortGroup) → IsGroupOf has_kind most g → IsGroupOf has_kind most (record g { ports = ports_without id g.ports })
group_without has_kind most id g are =
    let kept = length-filter (λ q. not (has_id id q)) g.ports in
    let less = count_by-le-length (λ q. not (has_id id q)) g.ports in
    let few = are.few in
    record { kind = all_filter has_kind (λ q. not (has_id id q)) g.ports are.kind; most_is = are.most_is; few = omega arith }

pub named_without : (id : ℕ) (s : List Switch) (p m : PortGroup) → AreNamed s p m → AreNamed (map (place_without id) s) (record p { ports = ports_without id p.ports }) (record m { ports = ports_without id m.ports })
named_without id s p m are = record {
  places = places_without id s are.places;
  four = length-map s (place_without id) ∙ are.four;
  pipe_ends = group_without has_pipe_name most_pipe_ends id p are.pipe_ends;
  monitor_ports = group_without has_monitor_name most_monitors id m are.monitor_ports;
  once = rw (all_without id s p m) (once_without id (all_ports s p m) are.once);
}

-- ---- what holds of the ports together

few_beside : (s : List Switch) (p m : PortGroup) (name : List ℕ) → AreNamed s p m → length (filter (is_beside name) (all_ports s p m)) ≤ most_beside name
few_beside s p m name are = elim (cases_Bool (is_switch_port_name name)) [
  | inl is ↦
      let beside = beside_switch_port name (ports_on s) p.ports m.ports is are.pipe_ends.kind are.monitor_ports.kind in
      let few = few_on_switch (switch_of name) s are.places in
      rw (beside, is) few
  | inr other ↦ elim (cases_Bool (is_pipe_name name)) [
    | inl is ↦
        let beside = beside_pipe name (ports_on s) p.ports m.ports is (places_switch_names s are.places) are.pipe_ends.kind are.monitor_ports.kind in
        let few = are.pipe_ends.few in
        rw (beside, other, is) few
    | inr no_pipe ↦
        let beside = beside_others name (ports_on s) p.ports m.ports other no_pipe (places_switch_names s are.places) are.pipe_ends.kind are.monitor_ports.kind in
        let few = are.monitor_ports.few in
        rw (beside, other, no_pipe) few
  ]
]

pub are_names : (s : List Switch) (p m : PortGroup) → AreNamed s p m → IsNames (all_ports s p m)
are_names s p m are = record {
  once = are.once;
  beside = λ name. rw (count_of_names (rules.is_beside name) (all_ports s p m), ← (length-filter (is_beside name) (all_ports s p m))) (few_beside s p m name are);
  switches =
      let counted = switches_counted (all_ports s p m) in
      let some = all_switches s p m are in
      let most = some_at_most s in
      let four = are.four in
      omega arith;
  few =
      let on = few_on s are.places in
      let four = are.four in
      let pipes = are.pipe_ends.few in
      let monitors = are.monitor_ports.few in
      let front = length-append (ports_on s) (p.ports ++ m.ports) in
      let back = length-append p.ports m.ports in
      omega arith;
}

pub ruleset names = (group_told, group_finds, all_shut, all_without)
