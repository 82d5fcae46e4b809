-- Lists of ports, and what a name's kind tells of the ports beside it.
use Rattle.std.proofs.Common.{ℕ, zero, suc, Bool, true, false, cond, List, [], ◌∷◌, ◌++◌, ◌≡◌, ◌<◌, ◌≤◌, ◌+◌, Option, Some, None, length, map, get_or, append_assoc, refl, sym, ◌∙◌, ap, arith, ◌&&◌, ◌||◌, inl, inr}
use Rattle.std.specs.Prelude.{filter, find, bytes_eq, nat_le}
use Rattle.std.specs.List.{list_any, list_all}
use Rattle.std.proofs.lemmas.Bool.{cases_Bool, and_parts, and_from, or_parts, or_from, both_ways, false≢true, false_from_ne_true, leb-false}
use Rattle.std.proofs.lemmas.Slice.Eq.{bytes_eq-Decides}
use Rattle.std.proofs.lemmas.List.{append-nil, length-append}
use Rattle.std.proofs.lemmas.List.Elements.{filter-append, filter_agree}
use Rattle.nm_types.specs.declared.name.Kind.{Kind}
use Rattle.nm_types.specs.declared.name.Kind.TheVariants.{Vale, Master, Slave, Monitor}
use Rattle.nm_types.specs.Names.{kind_of, switch_of, is_switch_port_name, is_pipe_name, is_monitor_name, is_switch_port_kind, is_pipe_kind, is_monitor_kind}
use Rattle.nm_types.specs.declared.fault.OpenFault.TheVariants.{PortsFull}
use Rattle.vale_names.specs.Groups.{PortGroup, group_refusal}
use Rattle.vale_names.specs.declared.port.NamedPort.{NamedPort}
use Rattle.vale_names.specs.Ports.{has_name, has_pipe_name, has_monitor_name, Joins}
use Rattle.vale_names.proofs.PortRules.{has_switch_name, is_on_switch, is_beside}

-- ---- lists

pub any_at : {X : Type 0} (test : X → Bool) (xs : List X) (i : ℕ) (d : X) → list_any test xs ≡ false → i < length xs → test (get_or xs i d) ≡ false
any_at test [] i d none within = absurd (omega arith)
any_at test (x ∷ xs) zero d none within = (or_parts (test x) (list_any test xs) none).0
any_at test (x ∷ xs) (suc i) d none within = any_at test xs i d (or_parts (test x) (list_any test xs) none).1 (omega arith)

pub any_none : {X : Type 0} (test : X → Bool) (xs : List X) (d : X) → ((i : ℕ) → i < length xs → test (get_or xs i d) ≡ false) → list_any test xs ≡ false
any_none test [] d none = refl
any_none test (x ∷ xs) d none = or_from (test x) (list_any test xs) (none zero (omega arith)) (any_none test xs d (λ i within. none (suc i) (omega arith)))

pub filter_all_pass : {X : Type 0} (test : X → Bool) (xs : List X) → list_all test xs ≡ true → filter test xs ≡ xs
filter_all_pass test [] all = refl
filter_all_pass test (x ∷ xs) all =
    let parts = and_parts (test x) (list_all test xs) all in
    rw (parts.0) (ap (λ rest. x ∷ rest) (filter_all_pass test xs parts.1))

pub filter_none_pass : {X : Type 0} (test : X → Bool) (xs : List X) → list_any test xs ≡ false → filter test xs ≡ []
filter_none_pass test [] none = refl
filter_none_pass test (x ∷ xs) none =
    let parts = or_parts (test x) (list_any test xs) none in
    rw (parts.0) (filter_none_pass test xs parts.1)

-- no element passes a test that excludes the one that all pass
pub all_exclude : {X : Type 0} (test other : X → Bool) (xs : List X) → ((x : X) → other x ≡ true → test x ≡ false) → list_all other xs ≡ true → list_any test xs ≡ false
all_exclude test other [] exclude all = refl
all_exclude test other (x ∷ xs) exclude all =
    let parts = and_parts (other x) (list_all other xs) all in
    or_from (test x) (list_any test xs) (exclude x parts.0) (all_exclude test other xs exclude parts.1)

pub all_imply : {X : Type 0} (test other : X → Bool) (xs : List X) → ((x : X) → other x ≡ true → test x ≡ true) → list_all other xs ≡ true → list_all test xs ≡ true
all_imply test other [] imply all = refl
all_imply test other (x ∷ xs) imply all =
    let parts = and_parts (other x) (list_all other xs) all in
    and_from (test x) (list_all test xs) (imply x parts.0) (all_imply test other xs imply parts.1)

pub any_in_filter : {X : Type 0} (test wide : X → Bool) (xs : List X) → ((x : X) → test x ≡ true → wide x ≡ true) → list_any test (filter wide xs) ≡ list_any test xs
any_in_filter test wide [] within = refl
any_in_filter test wide (x ∷ xs) within =
    let rest = any_in_filter test wide xs within in
    elim (cases_Bool (wide x)) [
      | inl here ↦ rw here (ap (λ b. test x || b) rest)
      | inr away ↦
          let fails : test x ≡ false = false_from_ne_true (test x) (λ passes. both_ways (wide x) away (within x passes)) in
          rw (away, fails) rest
    ]

pub find_in_filter : {X : Type 0} (test wide : X → Bool) (xs : List X) → ((x : X) → test x ≡ true → wide x ≡ true) → find test (filter wide xs) ≡ find test xs
find_in_filter test wide [] within = refl
find_in_filter test wide (x ∷ xs) within =
    let rest = find_in_filter test wide xs within in
    elim (cases_Bool (wide x)) [
      | inl here ↦ rw here (ap (λ found. cond (test x) (Some x) found) rest)
      | inr away ↦
          let fails : test x ≡ false = false_from_ne_true (test x) (λ passes. both_ways (wide x) away (within x passes)) in
          rw (away, fails) rest
    ]

pub all_filtered : {X : Type 0} (test : X → Bool) (xs : List X) → list_all test (filter test xs) ≡ true
all_filtered test [] = refl
all_filtered test (x ∷ xs) = elim (cases_Bool (test x)) [
  | inl here ↦ rw here (and_from (test x) (list_all test (filter test xs)) here (all_filtered test xs))
  | inr away ↦ rw away (all_filtered test xs)
]

pub all_append : {X : Type 0} (test : X → Bool) (xs ys : List X) → list_all test xs ≡ true → list_all test ys ≡ true → list_all test (xs ++ ys) ≡ true
all_append test [] ys left right = right
all_append test (x ∷ xs) ys left right =
    let parts = and_parts (test x) (list_all test xs) left in
    and_from (test x) (list_all test (xs ++ ys)) parts.0 (all_append test xs ys parts.1 right)

pub all_filter : {X : Type 0} (test kept : X → Bool) (xs : List X) → list_all test xs ≡ true → list_all test (filter kept xs) ≡ true
all_filter test kept [] all = refl
all_filter test kept (x ∷ xs) all =
    let parts = and_parts (test x) (list_all test xs) all in
    let rest = all_filter test kept xs parts.1 in
    elim (cases_Bool (kept x)) [
      | inl here ↦ rw here (and_from (test x) (list_all test (filter kept xs)) parts.0 rest)
      | inr away ↦ rw away rest
    ]

pub all_map : {X : Type 0} (test : X → Bool) (change : X → X) (xs : List X) → ((x : X) → test (change x) ≡ test x) → list_all test xs ≡ true → list_all test (map change xs) ≡ true
all_map test change [] same all = refl
all_map test change (x ∷ xs) same all =
    let parts = and_parts (test x) (list_all test xs) all in
    and_from (test (change x)) (list_all test (map change xs)) (same x ∙ parts.0) (all_map test change xs same parts.1)

-- ---- joining

pub all_joined : (test : NamedPort → Bool) (old : List NamedPort) (port : NamedPort) (new : List NamedPort) → Joins old port new → list_all test old ≡ true → test port ≡ true → list_all test new ≡ true
all_joined test old port new joins all here =
    let whole : list_all test (joins.before ++ joins.after) ≡ true = rw joins.was at all in
    rw joins.is (both joins.before joins.after whole)
  where
    both : (before after : List NamedPort) → list_all test (before ++ after) ≡ true → list_all test (before ++ port ∷ after) ≡ true
    both [] after whole = and_from (test port) (list_all test after) here whole
    both (x ∷ before) after whole =
        let parts = and_parts (test x) (list_all test (before ++ after)) whole in
        and_from (test x) (list_all test (before ++ port ∷ after)) parts.0 (both before after parts.1)

pub joins_behind : (front old : List NamedPort) (port : NamedPort) (new : List NamedPort) → Joins old port new → Joins (front ++ old) port (front ++ new)
joins_behind front old port new joins = record {
  before = front ++ joins.before;
  after = joins.after;
  was = ap (λ (rest : List NamedPort). front ++ rest) joins.was ∙ sym (append_assoc front joins.before joins.after);
  is = ap (λ (rest : List NamedPort). front ++ rest) joins.is ∙ sym (append_assoc front joins.before (port ∷ joins.after));
}

pub joins_before : (old : List NamedPort) (port : NamedPort) (new back : List NamedPort) → Joins old port new → Joins (old ++ back) port (new ++ back)
joins_before old port new back joins = record {
  before = joins.before;
  after = joins.after ++ back;
  was = ap (λ (front : List NamedPort). front ++ back) joins.was ∙ append_assoc joins.before joins.after back;
  is = ap (λ (front : List NamedPort). front ++ back) joins.is ∙ append_assoc joins.before (port ∷ joins.after) back;
}

pub length_joined : (old : List NamedPort) (port : NamedPort) (new : List NamedPort) → Joins old port new → length new ≡ length old + 1
length_joined old port new joins =
    let was : length old ≡ length (joins.before ++ joins.after) = ap (λ (ps : List NamedPort). length ps) joins.was in
    let is : length new ≡ length (joins.before ++ port ∷ joins.after) = ap (λ (ps : List NamedPort). length ps) joins.is in
    let cut_old = length-append joins.before joins.after in
    let cut_new = length-append joins.before (port ∷ joins.after) in
    omega arith

-- a group that does not refuse a name has room for it
pub group_fits : (old new : PortGroup) (name : List ℕ) (port : NamedPort) → group_refusal old name ≡ None → Joins old.ports port new.ports → length new.ports ≤ old.most
group_fits old new name port free joined = elim (cases_Bool (nat_le old.most (length old.ports))) [
  | inl full ↦ absurd (let wrong : Some PortsFull ≡ None = rw full at free in cc)
  | inr room ↦
      let less = leb-false old.most (length old.ports) room in
      let more = length_joined old.ports port new.ports joined in
      omega arith
]

-- ---- kinds

pub vale_is_switch_port : (name : List ℕ) → kind_of name ≡ Some Vale → is_switch_port_name name ≡ true
unfolding is_switch_port_name
vale_is_switch_port name kind = ap is_switch_port_kind kind

-- no kind is one of two
one_kind : (kind : Option Kind) → ((is_switch_port_kind kind && is_pipe_kind kind) ≡ false) × ((is_switch_port_kind kind && is_monitor_kind kind) ≡ false) × ((is_pipe_kind kind && is_monitor_kind kind) ≡ false)
one_kind (Some Vale) = (refl, refl, refl)
one_kind _ = (refl, refl, refl)

no_second : (a b : Bool) → (a && b) ≡ false → a ≡ true → b ≡ false
no_second true b none is = none
no_second false b none is = absurd (false≢true is)

no_first : (a b : Bool) → (a && b) ≡ false → b ≡ true → a ≡ false
no_first true b none is = absurd (false≢true (sym none ∙ is))
no_first false b none is = refl

pub switch_port_alone : (name : List ℕ) → is_switch_port_name name ≡ true → (is_pipe_name name ≡ false) × (is_monitor_name name ≡ false)
unfolding is_switch_port_name is_pipe_name is_monitor_name
switch_port_alone name is = let k = kind_of name in let one = one_kind k in
    (no_second (is_switch_port_kind k) (is_pipe_kind k) one.0 is, no_second (is_switch_port_kind k) (is_monitor_kind k) one.1 is)

pub pipe_alone : (name : List ℕ) → is_pipe_name name ≡ true → (is_switch_port_name name ≡ false) × (is_monitor_name name ≡ false)
unfolding is_switch_port_name is_pipe_name is_monitor_name
pipe_alone name is = let k = kind_of name in let one = one_kind k in
    (no_first (is_switch_port_kind k) (is_pipe_kind k) one.0 is, no_second (is_pipe_kind k) (is_monitor_kind k) one.2 is)

pub monitor_alone : (name : List ℕ) → is_monitor_name name ≡ true → (is_switch_port_name name ≡ false) × (is_pipe_name name ≡ false)
unfolding is_switch_port_name is_pipe_name is_monitor_name
monitor_alone name is = let k = kind_of name in let one = one_kind k in
    (no_first (is_switch_port_kind k) (is_monitor_kind k) one.1 is, no_first (is_pipe_kind k) (is_monitor_kind k) one.2 is)

pub master_is_pipe : (name : List ℕ) → kind_of name ≡ Some Master → is_pipe_name name ≡ true
unfolding is_pipe_name
master_is_pipe name kind = ap is_pipe_kind kind

pub slave_is_pipe : (name : List ℕ) → kind_of name ≡ Some Slave → is_pipe_name name ≡ true
unfolding is_pipe_name
slave_is_pipe name kind = ap is_pipe_kind kind

pub monitor_is_monitor : (name : List ℕ) → kind_of name ≡ Some Monitor → is_monitor_name name ≡ true
unfolding is_monitor_name
monitor_is_monitor name kind = ap is_monitor_kind kind

-- ---- the ports beside a name

pub named : (name : List ℕ) (port : NamedPort) → has_name name port ≡ true → port.name ≡ name
named name port has = (bytes_eq-Decides port.name name).0 has

pub bytes_same : (bytes : List ℕ) → bytes_eq bytes bytes ≡ true
bytes_same bytes = (bytes_eq-Decides bytes bytes).1 refl

pub on_own_switch : (name : List ℕ) (port : NamedPort) → is_switch_port_name name ≡ true → has_name name port ≡ true → is_on_switch (switch_of name) port ≡ true
on_own_switch name port kind has =
    let same = named name port has in
    let is : is_switch_port_name port.name ≡ true = ap is_switch_port_name same ∙ kind in
    let switch : bytes_eq (switch_of port.name) (switch_of name) ≡ true = ap (λ (n : List ℕ). bytes_eq (switch_of n) (switch_of name)) same ∙ bytes_same (switch_of name) in
    and_from (is_switch_port_name port.name) (bytes_eq (switch_of port.name) (switch_of name)) is switch

-- with the switches' ports in front, then the pipe ends, then the monitors
pub beside_switch_port : (name : List ℕ) (a b c : List NamedPort) → is_switch_port_name name ≡ true → list_all has_pipe_name b ≡ true → list_all has_monitor_name c ≡ true
    → filter (is_beside name) (a ++ (b ++ c)) ≡ filter (is_on_switch (switch_of name)) a
beside_switch_port name a b c kind pipes monitors =
    let no_b = filter_none_pass (is_on_switch (switch_of name)) b (all_exclude (is_on_switch (switch_of name)) has_pipe_name b (λ p is. rw (pipe_alone p.name is).0 refl) pipes) in
    let no_c = filter_none_pass (is_on_switch (switch_of name)) c (all_exclude (is_on_switch (switch_of name)) has_monitor_name c (λ p is. rw (monitor_alone p.name is).0 refl) monitors) in
    filter_agree (is_beside name) (is_on_switch (switch_of name)) (λ p. rw kind refl) (a ++ (b ++ c))
    ∙ (filter-append (is_on_switch (switch_of name)) a (b ++ c)
    ∙ (ap (λ (rest : List NamedPort). filter (is_on_switch (switch_of name)) a ++ rest) (filter-append (is_on_switch (switch_of name)) b c ∙ rw (no_b, no_c) refl)
    ∙ append-nil (filter (is_on_switch (switch_of name)) a)))

pub beside_pipe : (name : List ℕ) (a b c : List NamedPort) → is_pipe_name name ≡ true → list_all has_switch_name a ≡ true → list_all has_pipe_name b ≡ true → list_all has_monitor_name c ≡ true
    → filter (is_beside name) (a ++ (b ++ c)) ≡ b
beside_pipe name a b c kind switches pipes monitors =
    let no_a = filter_none_pass has_pipe_name a (all_exclude has_pipe_name has_switch_name a (λ p is. (switch_port_alone p.name is).0) switches) in
    let all_b = filter_all_pass has_pipe_name b pipes in
    let no_c = filter_none_pass has_pipe_name c (all_exclude has_pipe_name has_monitor_name c (λ p is. (monitor_alone p.name is).1) monitors) in
    let no_switch = (pipe_alone name kind).0 in
    filter_agree (is_beside name) has_pipe_name (λ p. rw (no_switch, kind) refl) (a ++ (b ++ c))
    ∙ (filter-append has_pipe_name a (b ++ c)
    ∙ rw no_a (filter-append has_pipe_name b c ∙ rw (all_b, no_c) (append-nil b)))

pub beside_others : (name : List ℕ) (a b c : List NamedPort) → is_switch_port_name name ≡ false → is_pipe_name name ≡ false → list_all has_switch_name a ≡ true → list_all has_pipe_name b ≡ true → list_all has_monitor_name c ≡ true
    → filter (is_beside name) (a ++ (b ++ c)) ≡ c
beside_others name a b c no_switch no_pipe switches pipes monitors =
    let no_a = filter_none_pass has_monitor_name a (all_exclude has_monitor_name has_switch_name a (λ p is. (switch_port_alone p.name is).1) switches) in
    let no_b = filter_none_pass has_monitor_name b (all_exclude has_monitor_name has_pipe_name b (λ p is. (pipe_alone p.name is).1) pipes) in
    let all_c = filter_all_pass has_monitor_name c monitors in
    filter_agree (is_beside name) has_monitor_name (λ p. rw (no_switch, no_pipe) refl) (a ++ (b ++ c))
    ∙ (filter-append has_monitor_name a (b ++ c)
    ∙ rw no_a (filter-append has_monitor_name b c ∙ rw (no_b, all_c) refl))

pub beside_monitor : (name : List ℕ) (a b c : List NamedPort) → is_monitor_name name ≡ true → list_all has_switch_name a ≡ true → list_all has_pipe_name b ≡ true → list_all has_monitor_name c ≡ true
    → filter (is_beside name) (a ++ (b ++ c)) ≡ c
beside_monitor name a b c kind switches pipes monitors =
    beside_others name a b c (monitor_alone name kind).0 (monitor_alone name kind).1 switches pipes monitors

-- a port of a name is among those beside the name
pub beside_itself_switch_port : (name : List ℕ) → is_switch_port_name name ≡ true → (port : NamedPort) → has_name name port ≡ true → is_beside name port ≡ true
beside_itself_switch_port name kind port has = rw kind (on_own_switch name port kind has)

pub beside_itself_pipe : (name : List ℕ) → is_pipe_name name ≡ true → (port : NamedPort) → has_name name port ≡ true → is_beside name port ≡ true
beside_itself_pipe name kind port has =
    let no_switch = (pipe_alone name kind).0 in
    rw (no_switch, kind) (ap is_pipe_name (named name port has) ∙ kind)

pub beside_itself_monitor : (name : List ℕ) → is_monitor_name name ≡ true → (port : NamedPort) → has_name name port ≡ true → is_beside name port ≡ true
beside_itself_monitor name kind port has =
    let no_switch = (monitor_alone name kind).0 in
    let no_pipe = (monitor_alone name kind).1 in
    rw (no_switch, no_pipe) (ap is_monitor_name (named name port has) ∙ kind)
