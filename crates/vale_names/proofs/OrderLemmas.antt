-- The answer to an opening does not depend on the order of the ports: each part of it counts.
use Rattle.std.proofs.Common.{ℕ, zero, suc, Bool, true, false, cond, List, [], ◌∷◌, ◌≡◌, ◌≤◌, ◌+◌, Option, Some, None, length, zero-add, refl, sym, ◌∙◌, ap, arith, not, ◌&&◌, ◌==◌, inl, inr}
use Rattle.std.specs.Prelude.{filter, find, option_map, count_by, bytes_eq, IsPermutation, nat_le}
use Rattle.std.specs.List.{list_any}
use Rattle.std.proofs.lemmas.Bool.{cases_Bool, and_parts, and_from, both_ways, false≢true, false_from_ne_true, or_right, eqb-true, eq-eqb}
use Rattle.std.proofs.lemmas.Slice.Eq.{bytes_eq-Decides}
use Rattle.std.proofs.lemmas.List.Sums.{sum_by-cons}
use Rattle.std.proofs.lemmas.List.Sorted.{sum_by-IsPermutation, list_any-IsPermutation}
use Rattle.nm_types.specs.Names.{switch_of, is_switch_port_name}
use Rattle.nm_types.specs.declared.id.PortId.{PortId}
use Rattle.nm_types.specs.declared.fault.OpenFault.{OpenFault}
use Rattle.nm_types.specs.declared.fault.OpenFault.TheVariants.{BadSize, SwitchesFull, PortsFull, NameTaken}
use Rattle.vale_names.specs.declared.port.NamedPort.{NamedPort}
use Rattle.vale_names.specs.Ports.{has_name, is_open_as}
use Rattle.vale_names.specs.Laws.{OrderSaysNothing, OrderFindsTheSame, OneIsOpen}
use Rattle.vale_names.proofs.PortLemmas.{any_in_filter, bytes_same}
use Rattle.nm_types.specs.Openings.{most_beside, are_sizes}
use Rattle.vale_names.proofs.PortRules.{has_switch_name, is_on_switch, is_beside, switches_of, finds_switches_full, finds_ports_full, name_refusal, refusal_of_names}

bytes_are : (a b : List ℕ) → bytes_eq a b ≡ true → a ≡ b
bytes_are a b same = (bytes_eq-Decides a b).0 same

abbrev one_if : Bool → ℕ
one_if b = cond b 1 0

abbrev switch_count : List NamedPort → ℕ
switch_count ports = length (switches_of ports)

abbrev is_off : List ℕ → NamedPort → Bool
is_off switch port = not (is_on_switch switch port)

-- ---- one port more

count_cons : (test : NamedPort → Bool) (port : NamedPort) (ports : List NamedPort) → count_by test (port ∷ ports) ≡ one_if (test port) + count_by test ports
count_cons test port ports = sum_by-cons (λ (p : NamedPort). one_if (test p)) port ports

count_of_filter : (test kept : NamedPort → Bool) (ports : List NamedPort) → count_by test (filter kept ports) ≡ count_by (λ p. test p && kept p) ports
count_of_filter test kept [] = refl
count_of_filter test kept (port ∷ ports) =
    let rest = count_of_filter test kept ports in
    let whole = count_cons (λ p. test p && kept p) port ports in
    elim (cases_Bool (kept port)) [
      | inl here ↦
          let both : (test port && kept port) ≡ test port = ap (λ (b : Bool). test port && b) here ∙ and_true (test port) in
          let first = count_cons test port (filter kept ports) in
          let ones : one_if (test port && kept port) ≡ one_if (test port) = ap one_if both in
          let cut : filter kept (port ∷ ports) ≡ port ∷ filter kept ports = rw here refl in
          let counted : count_by test (port ∷ filter kept ports) ≡ count_by (λ p. test p && kept p) (port ∷ ports) = omega arith in
          ap (λ (ps : List NamedPort). count_by test ps) cut ∙ counted
      | inr away ↦
          let neither : (test port && kept port) ≡ false = ap (λ (b : Bool). test port && b) away ∙ and_false (test port) in
          let ones : one_if (test port && kept port) ≡ 0 = ap one_if neither in
          let cut : filter kept (port ∷ ports) ≡ filter kept ports = rw away refl in
          let counted : count_by test (filter kept ports) ≡ count_by (λ p. test p && kept p) (port ∷ ports) = omega arith in
          ap (λ (ps : List NamedPort). count_by test ps) cut ∙ counted
    ]
  where
    and_true : (b : Bool) → (b && true) ≡ b
    and_true true = refl
    and_true false = refl

    and_false : (b : Bool) → (b && false) ≡ false
    and_false true = refl
    and_false false = refl

any_counts : (test : NamedPort → Bool) (ports : List NamedPort) → list_any test ports ≡ true → 1 ≤ count_by test ports
any_counts test [] there = absurd (false≢true there)
any_counts test (port ∷ ports) there =
    let whole = count_cons test port ports in
    elim (cases_Bool (test port)) [
      | inl here ↦ (let one : one_if (test port) ≡ 1 = ap one_if here in omega arith)
      | inr away ↦
          let later : list_any test ports ≡ true = rw away at there in
          let rest = any_counts test ports later in
          omega arith
    ]

none_counts : (test : NamedPort → Bool) (ports : List NamedPort) → list_any test ports ≡ false → count_by test ports ≡ 0
none_counts test [] none = refl
none_counts test (port ∷ ports) none =
    let whole = count_cons test port ports in
    elim (cases_Bool (test port)) [
      | inl here ↦ absurd (let wrong : true ≡ false = rw here at none in cc)
      | inr away ↦
          let later : list_any test ports ≡ false = rw away at none in
          let rest = none_counts test ports later in
          let zero_one : one_if (test port) ≡ 0 = ap one_if away in
          omega arith
    ]

any_same : (test : NamedPort → Bool) (a b : List NamedPort) → count_by test a ≡ count_by test b → list_any test a ≡ list_any test b
any_same test a b same = elim (cases_Bool (list_any test a)) [
  | inl in_a ↦ elim (cases_Bool (list_any test b)) [
    | inl in_b ↦ in_a ∙ sym in_b
    | inr not_b ↦ (let some = any_counts test a in_a in let none = none_counts test b not_b in absurd (omega arith))
  ]
  | inr not_a ↦ elim (cases_Bool (list_any test b)) [
    | inl in_b ↦ (let some = any_counts test b in_b in let none = none_counts test a not_a in absurd (omega arith))
    | inr not_b ↦ not_a ∙ sym not_b
  ]
]

-- ---- the switches, ports_without one of them

count_off : (switch : List ℕ) (port : NamedPort) (a b : List NamedPort) → (has_switch_name port ≡ true → list_any (is_on_switch (switch_of port.name)) a ≡ list_any (is_on_switch (switch_of port.name)) b)
    → (d : ℕ) → switch_count a ≡ d + switch_count b → switch_count (port ∷ a) ≡ d + switch_count (port ∷ b)
count_off switch port a b same d rest = elim (cases_Bool (is_switch_port_name port.name)) [
  | inl is ↦ elim (cases_Bool (list_any (is_on_switch (switch_of port.name)) b)) [
    | inl there ↦ (let here = same is ∙ there in rw (is, here, there) rest)
    | inr none ↦ (let here = same is ∙ none in rw (is, here, none) (omega arith))
  ]
  | inr other ↦ rw other rest
]

without_switch : (switch : List ℕ) (ports : List NamedPort) → switch_count ports ≡ one_if (list_any (is_on_switch switch) ports) + switch_count (filter (is_off switch) ports)
without_switch switch [] = refl
without_switch switch (port ∷ ports) =
    let rest = without_switch switch ports in
    elim (cases_Bool (is_on_switch switch port)) [
      | inl on ↦
          let parts = and_parts (is_switch_port_name port.name) (bytes_eq (switch_of port.name) switch) on in
          let same = bytes_are (switch_of port.name) switch parts.1 in
          let beside : list_any (is_on_switch (switch_of port.name)) ports ≡ list_any (is_on_switch switch) ports = ap (λ (s : List ℕ). list_any (is_on_switch s) ports) same in
          elim (cases_Bool (list_any (is_on_switch switch) ports)) [
            | inl there ↦
                let more : switch_count (port ∷ ports) ≡ switch_count ports = (let here = beside ∙ there in rw (parts.0, here) refl) in
                let one : one_if (list_any (is_on_switch switch) ports) ≡ 1 = ap one_if there in
                rw on (more ∙ (rest ∙ (omega arith)))
            | inr none ↦
                let more : switch_count (port ∷ ports) ≡ 1 + switch_count ports = (let here = beside ∙ none in rw (parts.0, here) (omega arith)) in
                let zero_one : one_if (list_any (is_on_switch switch) ports) ≡ 0 = ap one_if none in
                rw on (more ∙ (omega arith))
          ]
      | inr off ↦
          rw off (count_off switch port ports (filter (is_off switch) ports)
          (λ is. sym (any_in_filter (is_on_switch (switch_of port.name)) (is_off switch) ports (λ p on. apart switch port p is off on)))
          (one_if (list_any (is_on_switch switch) ports)) rest)
    ]
  where
    apart : (switch : List ℕ) (port p : NamedPort) → has_switch_name port ≡ true → is_on_switch switch port ≡ false → is_on_switch (switch_of port.name) p ≡ true → is_off switch p ≡ true
    apart switch port p is off on = ap not (false_from_ne_true (is_on_switch switch p) (λ there.
        let here = and_parts (is_switch_port_name p.name) (bytes_eq (switch_of p.name) (switch_of port.name)) on in
        let away = and_parts (is_switch_port_name p.name) (bytes_eq (switch_of p.name) switch) there in
        let same : switch_of port.name ≡ switch = sym (bytes_are (switch_of p.name) (switch_of port.name) here.1) ∙ bytes_are (switch_of p.name) switch away.1 in
        let wrong : is_on_switch switch port ≡ true = and_from (is_switch_port_name port.name) (bytes_eq (switch_of port.name) switch) is ((bytes_eq-Decides (switch_of port.name) switch).1 same) in
        both_ways (is_on_switch switch port) off wrong))

only_switch_names : (ports : List NamedPort) → switch_count ports ≡ switch_count (filter has_switch_name ports)
only_switch_names [] = refl
only_switch_names (port ∷ ports) =
    let rest = only_switch_names ports in
    elim (cases_Bool (has_switch_name port)) [
      | inl is ↦
          let cut : filter has_switch_name (port ∷ ports) ≡ port ∷ filter has_switch_name ports = rw is refl in
          let told = count_off [] port ports (filter has_switch_name ports)
          (λ _. sym (any_in_filter (is_on_switch (switch_of port.name)) has_switch_name ports (λ p on. (and_parts (is_switch_port_name p.name) (bytes_eq (switch_of p.name) (switch_of port.name)) on).0)))
          0 (rest ∙ sym (zero-add (switch_count (filter has_switch_name ports)))) in
          told ∙ (zero-add (switch_count (port ∷ filter has_switch_name ports)) ∙ ap (λ (ps : List NamedPort). switch_count ps) (sym cut))
      | inr other ↦ rw other rest
    ]

fewer : (kept : NamedPort → Bool) (ports : List NamedPort) → length (filter kept ports) ≤ length ports
fewer kept [] = omega arith
fewer kept (port ∷ ports) =
    let rest = fewer kept ports in
    elim (cases_Bool (kept port)) [
      | inl here ↦ rw here (omega arith)
      | inr away ↦ rw away (omega arith)
    ]

-- ---- lists that count alike have as many switches

abbrev CountAlike : List NamedPort → List NamedPort → Type 0
CountAlike a b = (test : NamedPort → Bool) → count_by test a ≡ count_by test b

alike_filtered : (kept : NamedPort → Bool) (a b : List NamedPort) → CountAlike a b → CountAlike (filter kept a) (filter kept b)
alike_filtered kept a b alike test = count_of_filter test kept a ∙ (alike (λ p. test p && kept p) ∙ sym (count_of_filter test kept b))

alike_empty : (b : List NamedPort) → CountAlike [] b → switch_count [] ≡ switch_count b
alike_empty [] alike = refl
alike_empty (port ∷ b) alike =
    let none = alike (λ p. true) in
    let whole = count_cons (λ p. true) port b in
    absurd (omega arith)

counted_alike : (n : ℕ) (a b : List NamedPort) → length a ≤ n → CountAlike a b → switch_count a ≡ switch_count b
counted_alike n [] b few alike = alike_empty b alike
counted_alike zero (port ∷ a) b few alike = absurd (omega arith)
counted_alike (suc n) (port ∷ a) b few alike =
    let none_more = fewer has_switch_name a in
    let off_more = fewer (is_off (switch_of port.name)) a in
    elim (cases_Bool (has_switch_name port)) [
      | inl is ↦
          let on : is_on_switch (switch_of port.name) port ≡ true = and_from (is_switch_port_name port.name) (bytes_eq (switch_of port.name) (switch_of port.name)) is (bytes_same (switch_of port.name)) in
          let gone : filter (is_off (switch_of port.name)) (port ∷ a) ≡ filter (is_off (switch_of port.name)) a = rw on refl in
          let alike_off = alike_filtered (is_off (switch_of port.name)) (port ∷ a) b alike in
          let alike_rest : CountAlike (filter (is_off (switch_of port.name)) a) (filter (is_off (switch_of port.name)) b) = rw gone at alike_off in
          let rest = counted_alike n (filter (is_off (switch_of port.name)) a) (filter (is_off (switch_of port.name)) b) (omega arith) alike_rest in
          let left = without_switch (switch_of port.name) (port ∷ a) in
          let right = without_switch (switch_of port.name) b in
          let any = any_same (is_on_switch (switch_of port.name)) (port ∷ a) b (alike (is_on_switch (switch_of port.name))) in
          left ∙ (ap (λ (k : ℕ). one_if (list_any (is_on_switch (switch_of port.name)) (port ∷ a)) + k) (ap (λ (ps : List NamedPort). switch_count ps) gone ∙ rest)
          ∙ (ap (λ (t : Bool). one_if t + switch_count (filter (is_off (switch_of port.name)) b)) any ∙ sym right))
      | inr other ↦
          let gone : filter has_switch_name (port ∷ a) ≡ filter has_switch_name a = rw other refl in
          let alike_named = alike_filtered has_switch_name (port ∷ a) b alike in
          let alike_rest : CountAlike (filter has_switch_name a) (filter has_switch_name b) = rw gone at alike_named in
          let rest = counted_alike n (filter has_switch_name a) (filter has_switch_name b) (omega arith) alike_rest in
          only_switch_names (port ∷ a) ∙ (ap (λ (ps : List NamedPort). switch_count ps) gone ∙ (rest ∙ sym (only_switch_names b)))
    ]

permuted_alike : (a b : List NamedPort) → IsPermutation a b → CountAlike a b
permuted_alike a b permutes test = sym (sum_by-IsPermutation (λ (p : NamedPort). one_if (test p)) a b permutes)

same_full : (a b : List NamedPort) (name : List ℕ) → IsPermutation a b → finds_switches_full a name ≡ finds_switches_full b name
same_full a b name permutes =
    let any = list_any-IsPermutation (is_beside name) a b permutes in
    let count = counted_alike (length a) a b (omega arith) (permuted_alike a b permutes) in
    ap (λ (t : Bool). is_switch_port_name name && (not t && nat_le 4 (switch_count a))) any
    ∙ ap (λ (k : ℕ). is_switch_port_name name && (not (list_any (is_beside name) b) && nat_le 4 k)) count

abbrev refusal_of : Bool → Bool → Bool → Option OpenFault
refusal_of switches ports taken = cond switches (Some SwitchesFull) (cond ports (Some PortsFull) (cond taken (Some NameTaken) None))

same_refusal : (a b : List NamedPort) (name : List ℕ) → IsPermutation a b → name_refusal a name ≡ name_refusal b name
same_refusal a b name permutes =
    let full = same_full a b name permutes in
    let count = permuted_alike a b permutes (is_beside name) in
    let ports : finds_ports_full a name ≡ finds_ports_full b name = ap (λ (k : ℕ). nat_le (most_beside name) k) count in
    let taken = list_any-IsPermutation (has_name name) a b permutes in
    ap (λ (t : Bool). refusal_of t (finds_ports_full a name) (list_any (has_name name) a)) full
    ∙ (ap (λ (t : Bool). refusal_of (finds_switches_full b name) t (list_any (has_name name) a)) ports
    ∙ ap (λ (t : Bool). refusal_of (finds_switches_full b name) (finds_ports_full b name) t) taken)

pub order_says_nothing : OrderSaysNothing
order_says_nothing a b name tx rx extra permutes =
    let same = refusal_of_names a name ∙ (same_refusal a b name permutes ∙ sym (refusal_of_names b name)) in
    ap (λ (r : Option OpenFault). cond (not (are_sizes name tx rx extra)) (Some BadSize) r) same

-- ---- what a name finds

found_any : (test other : NamedPort → Bool) (ports : List NamedPort) (found : NamedPort) → find test ports ≡ Some found → other found ≡ true → list_any other ports ≡ true
found_any test other [] found is passes = absurd (let wrong : None ≡ Some found = is in cc)
found_any test other (port ∷ ports) found is passes = elim (cases_Bool (test port)) [
  | inl here ↦
      let told : Some port ≡ Some found = rw here at is in
      let same : port ≡ found = cc in
      let first : other port ≡ true = ap other same ∙ passes in
      rw first refl
  | inr away ↦
      let later : find test ports ≡ Some found = rw away at is in
      or_right (other port) (list_any other ports) (found_any test other ports found later passes)
]

found_passes : (test : NamedPort → Bool) (ports : List NamedPort) (found : NamedPort) → find test ports ≡ Some found → test found ≡ true
found_passes test [] found is = absurd (let wrong : None ≡ Some found = is in cc)
found_passes test (port ∷ ports) found is = elim (cases_Bool (test port)) [
  | inl here ↦
      let told : Some port ≡ Some found = rw here at is in
      let same : port ≡ found = cc in
      ap test (sym same) ∙ here
  | inr away ↦ (let later : find test ports ≡ Some found = rw away at is in found_passes test ports found later)
]

missed_none : (test : NamedPort → Bool) (ports : List NamedPort) → find test ports ≡ None → count_by test ports ≡ 0
missed_none test [] is = refl
missed_none test (port ∷ ports) is = elim (cases_Bool (test port)) [
  | inl here ↦ absurd (let wrong : Some port ≡ None = rw here at is in cc)
  | inr away ↦
      let later : find test ports ≡ None = rw away at is in
      let rest = missed_none test ports later in
      let whole = count_cons test port ports in
      let zero_one : one_if (test port) ≡ 0 = ap one_if away in
      omega arith
]

ones_split : (a b : Bool) → one_if a ≡ one_if (a && b) + one_if (a && not b)
ones_split true true = refl
ones_split true false = refl
ones_split false b = refl

count_split : (test other : NamedPort → Bool) (ports : List NamedPort) → count_by test ports ≡ count_by (λ p. test p && other p) ports + count_by (λ p. test p && not (other p)) ports
count_split test other [] = refl
count_split test other (port ∷ ports) =
    let rest = count_split test other ports in
    let ones = ones_split (test port) (other port) in
    let whole = count_cons test port ports in
    let both = count_cons (λ p. test p && other p) port ports in
    let one = count_cons (λ p. test p && not (other p)) port ports in
    omega arith

same_id : (a b : PortId) → a.0 ≡ b.0 → a ≡ b
same_id a b e = ap (λ (n : ℕ). id n) e
  where
    id : ℕ → PortId
    id n = record { 0 = n }

abbrev has_id_of : NamedPort → NamedPort → Bool
has_id_of found port = port.id.0 == found.id.0

-- the only port that passes is found in either list
found_same : (test : NamedPort → Bool) (a b : List NamedPort) (x y : NamedPort) → CountAlike a b → count_by test a ≤ 1 → find test a ≡ Some x → find test b ≡ Some y → x.id ≡ y.id
found_same test a b x y alike one in_a in_b = elim (cases_Bool (has_id_of x y)) [
  | inl same ↦ sym (same_id y.id x.id (eqb-true y.id.0 x.id.0 same))
  | inr differ ↦
      let x_passes : (test x && has_id_of x x) ≡ true = and_from (test x) (has_id_of x x) (found_passes test a x in_a) (eq-eqb x.id.0 x.id.0 refl) in
      let y_passes : (test y && not (has_id_of x y)) ≡ true = and_from (test y) (not (has_id_of x y)) (found_passes test b y in_b) (ap not differ) in
      let some_a = any_counts (λ p. test p && has_id_of x p) a (found_any test (λ p. test p && has_id_of x p) a x in_a x_passes) in
      let some_b = any_counts (λ p. test p && not (has_id_of x p)) b (found_any test (λ p. test p && not (has_id_of x p)) b y in_b y_passes) in
      let split = count_split test (has_id_of x) a in
      let carried = alike (λ p. test p && not (has_id_of x p)) in
      absurd (omega arith)
]

same_found : (test : NamedPort → Bool) (a b : List NamedPort) (in_a in_b : Option NamedPort) → CountAlike a b → count_by test a ≤ 1 → find test a ≡ in_a → find test b ≡ in_b
    → option_map (λ (p : NamedPort). p.id) in_a ≡ option_map (λ (p : NamedPort). p.id) in_b
same_found test a b None None alike one is_a is_b = refl
same_found test a b (Some x) (Some y) alike one is_a is_b = ap Some (found_same test a b x y alike one is_a is_b)
same_found test a b None (Some y) alike one is_a is_b =
    let none = missed_none test a is_a in
    let some = any_counts test b (found_any test test b y is_b (found_passes test b y is_b)) in
    let carried = alike test in
    absurd (omega arith)
same_found test a b (Some x) None alike one is_a is_b =
    let none = missed_none test b is_b in
    let some = any_counts test a (found_any test test a x is_a (found_passes test a x is_a)) in
    let carried = alike test in
    absurd (omega arith)

pub order_finds_the_same : OrderFindsTheSame
order_finds_the_same a b name one permutes =
    same_found (is_open_as name) a b (find (is_open_as name) a) (find (is_open_as name) b) (permuted_alike a b permutes) one refl refl

-- a port that is open as the name has the name
pub one_is_open : OneIsOpen
one_is_open ports name names =
    let once = names.once name in
    let split = count_split (has_name name) (λ (p : NamedPort). not p.shutting) ports in
    omega arith

pub ruleset order_laws = (order_says_nothing, order_finds_the_same, one_is_open)
