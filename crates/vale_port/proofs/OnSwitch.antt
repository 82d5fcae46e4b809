-- A name is on a switch if it begins with `vale`, the switch's text and a colon.
use Rattle.std.proofs.Common.{rules, ℕ, suc, Bool, true, false, not, cond, List, [], ◌∷◌, ◌++◌, ◌≡◌, ◌<◌, ◌≤◌, ◌&&◌, ◌+◌, ◌-◌, ◌==◌, length, take, drop, get_or, slice_index, nat_eq, nat_lt, codes, Option, Some, None, refl, sym, ◌∙◌, ap, subst, arith, inl, inr}
use Rattle.std.specs.Prelude.{bytes_eq}
use Rattle.std.specs.List.{starts_with, position_or_len, before_first}
use Rattle.std.proofs.lemmas.Bool.{cases_Bool, eqb-true, eqb-false, ltb-true, ltb-false, lt-ltb, le-ltb, and_left, and_right}
use Rattle.std.proofs.lemmas.List.{get_or-take, length-take, length-drop, take_all}
use Rattle.std.proofs.lemmas.Grind.{same_number_lists}
use Rattle.std.proofs.lemmas.Slice.Eq.{bytes_eq-Decides}
use Rattle.nm_types.specs.declared.name.Kind.{Kind}
use Rattle.nm_types.specs.declared.name.Kind.TheVariants.{Vale, Master, Slave, Monitor}
use Rattle.nm_types.specs.Limits.{name_bytes}
use Rattle.nm_types.specs.Names.{is_switch_port, is_switch_port_at, is_switch_port_kind, is_switch_port_name, pipe_kind, is_word, switch_of, colon_in, IsName}
use Rattle.nm_types.specs.Openings.{is_on_switch}
use Rattle.nm_types.proofs.SwitchNames.{kind_of-vale}
use Rattle.nm_types.proofs.Tests.{both_are}
use Rattle.vale_port.specs.Ports.{is_part, IsLastByte}

abbrev is_colon : ℕ → Bool
is_colon b = b == 58

abbrev colon_at : List ℕ → ℕ
colon_at text = position_or_len is_colon text

abbrev has_colon : List ℕ → Bool
has_colon text = nat_lt (colon_at text) (length text)

same_number : (a b : ℕ) → (a == b) ≡ (b == a)
same_number a b = elim (cases_Bool (a == b)) [
  | inl same ↦ let e : a ≡ b = eqb-true a b same in subst (λ (n : ℕ). (a == n) ≡ (n == a)) e refl
  | inr other ↦ elim (cases_Bool (b == a)) [
    | inl same ↦ absurd (eqb-false a b other (sym (eqb-true b a same)))
    | inr off ↦ other ∙ sym off
  ]
]

less_suc : (n m : ℕ) → nat_lt (suc n) (suc m) ≡ nat_lt n m
less_suc n m = elim (cases_Bool (nat_lt n m)) [
  | inl less ↦ lt-ltb (suc n) (suc m) (omega (arith, ltb-true n m less)) ∙ sym less
  | inr more ↦ le-ltb (suc n) (suc m) (omega (arith, ltb-false n m more)) ∙ sym more
]

next_is : (n : ℕ) → 1 + n ≡ suc n
next_is n = omega arith

less_next : (n m : ℕ) → nat_lt (1 + n) (suc m) ≡ nat_lt n m
less_next n m = rw (next_is n) (less_suc n m)

first_none : (b : Bool) (n m : ℕ) → nat_lt (cond (not b) (1 + n) 0) (suc m) ≡ false → (b ≡ false) × (nat_lt n m ≡ false)
first_none true n m e = absurd (omega (arith, ltb-false 0 (suc m) e))
first_none false n m e = (refl, sym (less_next n m) ∙ e)

no_part : (a b : Bool) → (a && (b && false)) ≡ false
no_part a b = and_right a (b && false) (and_right b false refl)

one_more : (c d a b e f g : Bool) → c ≡ d → (a && (b && e)) ≡ (f && g) → (a && (b && (c && e))) ≡ (f && (d && g))
one_more true d a b e f g same rest = rw (sym same) rest
one_more false d a b e f g same rest = rw (sym same) (no_part a b ∙ sym (and_right f false refl))

found-part : (switch text : List ℕ) → has_colon switch ≡ false → is_part text switch ≡ (has_colon text && bytes_eq (before_first is_colon text) switch)
found-part [] [] none = refl
found-part [] (x ∷ text) none = elim (cases_Bool (x == 58)) [
  | inl colon ↦ rw colon refl
  | inr other ↦
      let next = next_is (colon_at text) in
      rw (other, next) (and_right (nat_lt 0 (suc (length text))) false refl ∙ sym (and_right (nat_lt (suc (colon_at text)) (suc (length text))) false refl))
]
found-part (s ∷ switch) [] none =
    let more : nat_lt (suc (length switch)) 0 ≡ false = le-ltb (suc (length switch)) 0 (omega arith) in
    and_left (nat_lt (suc (length switch)) 0) ((slice_index [] (length (s ∷ switch)) == 58) && starts_with nat_eq [] (s ∷ switch)) more
found-part (s ∷ switch) (x ∷ text) none =
    let parts = first_none (s == 58) (colon_at switch) (length switch) none in
    elim (cases_Bool (x == 58)) [
      | inl colon ↦
          let is : x ≡ 58 = eqb-true x 58 colon in
          let off : (s == x) ≡ false = rw is parts.0 in
          rw (colon, off) (no_part (nat_lt (suc (length switch)) (suc (length text))) (get_or text (length switch) 0 == 58)
          ∙ sym (and_right (nat_lt 0 (suc (length text))) false refl))
      | inr other ↦
          let rest = found-part switch text parts.1 in
          let next = next_is (colon_at text) in
          rw (other, next, less_suc (length switch) (length text), less_suc (colon_at text) (length text))
          (one_more (s == x) (x == s) (nat_lt (length switch) (length text)) (get_or text (length switch) 0 == 58)
          (bytes_eq switch (take (length switch) text)) (has_colon text) (bytes_eq (before_first is_colon text) switch) (same_number s x) rest)
    ]

-- Only a name of a switch's port has a colon behind its first four bytes.

no_pipe : (word master slave : Bool) → is_switch_port_kind (cond word (cond master (Some Master) (cond slave (Some Slave) None)) None) ≡ false
no_pipe false master slave = refl
no_pipe true true slave = refl
no_pipe true false true = refl
no_pipe true false false = refl

no_other : (pipe mon word : Bool) (kind : Option Kind) → is_switch_port_kind kind ≡ false
    → is_switch_port_kind (cond pipe kind (cond mon (cond word (Some Monitor) None) None)) ≡ false
no_other true mon word kind off = off
no_other false true true kind off = refl
no_other false true false kind off = refl
no_other false false word kind off = refl

only_vale : (long vale port : Bool) (other : Option Kind) → is_switch_port_kind other ≡ false
    → is_switch_port_kind (cond long None (cond vale (cond port (Some Vale) None) other)) ≡ true → (vale ≡ true) × (port ≡ true)
only_vale true vale port other off is = absurd cc
only_vale false true true other off is = (refl, refl)
only_vale false true false other off is = absurd cc
only_vale false false port other off is = absurd cc

port_colon : (text : List ℕ) (b : Bool) (n : ℕ) → is_switch_port_at text (cond b (Some n) None) ≡ true → b ≡ true
port_colon text true n is = refl
port_colon text false n is = absurd cc

abbrev is_vale : List ℕ → Bool
is_vale name = starts_with nat_eq name (codes "vale")

port-parts : (name : List ℕ) → is_switch_port_name name ≡ true → (is_vale name ≡ true) × (has_colon (drop 4 name) ≡ true)
unfolding is_switch_port_name
port-parts name is =
    let rest = drop 4 name in
    let pipe = no_pipe (is_word (take (length rest - 1) rest)) (slice_index rest (length rest - 1) == 123) (slice_index rest (length rest - 1) == 125) in
    let other = no_other (starts_with nat_eq name (codes "pipe")) (starts_with nat_eq name (codes "mon")) (is_word (drop 3 name)) (pipe_kind rest) pipe in
    let parts = only_vale (nat_lt name_bytes (length name)) (is_vale name) (is_switch_port rest) _ other is in
    (parts.0, port_colon rest (has_colon rest) (colon_at rest) parts.1)

vale-port : (name : List ℕ) → IsName name → is_vale name ≡ true → is_switch_port_name name ≡ true
unfolding is_switch_port_name
vale-port name is begins = rw (kind_of-vale name is begins) refl

more_than_four : (name : List ℕ) → has_colon (drop 4 name) ≡ true → nat_lt 4 (length name) ≡ true
more_than_four [] is = absurd cc
more_than_four (a ∷ []) is = absurd cc
more_than_four (a ∷ b ∷ []) is = absurd cc
more_than_four (a ∷ b ∷ c ∷ []) is = absurd cc
more_than_four (a ∷ b ∷ c ∷ d ∷ []) is = absurd cc
more_than_four (a ∷ b ∷ c ∷ d ∷ e ∷ name) is = lt-ltb 4 (suc (suc (suc (suc (suc (length name)))))) (omega arith)

none_is : (b : Bool) (n : ℕ) → cond b (Some n) None ≡ None → b ≡ false
none_is true n e = absurd (let wrong : Some n ≡ None = e in cc)
none_is false n e = refl

and_true : (b : Bool) → (b && true) ≡ b
and_true true = refl
and_true false = refl

on-switch : (switch name : List ℕ) → colon_in switch ≡ None → IsName name
    → (nat_lt 4 (length name) && (is_part (drop 4 name) switch && is_vale name)) ≡ is_on_switch switch name
unfolding switch_of
on-switch switch name none is = elim (cases_Bool (is_switch_port_name name)) [
  | inl port ↦
      let parts = port-parts name port in
      let long = more_than_four name parts.1 in
      let part = found-part switch (drop 4 name) (none_is (has_colon switch) (colon_at switch) none) in
      rw (long, port, parts.0) (and_true (is_part (drop 4 name) switch) ∙ part ∙ rw (parts.1) refl)
  | inr other ↦
      let off : is_vale name ≡ false = elim (cases_Bool (is_vale name)) [
        | inl begins ↦ absurd (let wrong : true ≡ false = sym (vale-port name is begins) ∙ other in cc)
        | inr off ↦ off
      ] in
      rw (other, off) (no_part (nat_lt 4 (length name)) (is_part (drop 4 name) switch))
]

last_counts : (a b c d : Bool) → a ≡ true → b ≡ true → (a && (b && c)) ≡ d → c ≡ d
last_counts true true c d long part on = on
last_counts true false c d long part on = absurd cc
last_counts false b c d long part on = absurd cc

second_counts : (a b c d : Bool) → b ≡ false → (a && (b && c)) ≡ d → false ≡ d
second_counts a b c d off on = sym (rw off (no_first a c)) ∙ on
  where
    no_first : (a c : Bool) → (a && (false && c)) ≡ false
    no_first true c = refl
    no_first false c = refl

-- the same in three cases

pub on-vale : (switch name : List ℕ) → colon_in switch ≡ None → IsName name → 4 < length name → is_part (drop 4 name) switch ≡ true
    → is_vale name ≡ is_on_switch switch name
on-vale switch name none is long part =
    last_counts (nat_lt 4 (length name)) (is_part (drop 4 name) switch) (is_vale name) (is_on_switch switch name) (lt-ltb 4 (length name) long) part (on-switch switch name none is)

pub off-part : (switch name : List ℕ) → colon_in switch ≡ None → IsName name → is_part (drop 4 name) switch ≡ false → false ≡ is_on_switch switch name
off-part switch name none is part =
    second_counts (nat_lt 4 (length name)) (is_part (drop 4 name) switch) (is_vale name) (is_on_switch switch name) part (on-switch switch name none is)

pub off-short : (switch name : List ℕ) → colon_in switch ≡ None → IsName name → length name ≤ 4 → false ≡ is_on_switch switch name
off-short switch name none is short = sym (and_left (nat_lt 4 (length name)) (is_part (drop 4 name) switch && is_vale name) (le-ltb 4 (length name) short)) ∙ on-switch switch name none is

pub rest-is : (name : List ℕ) → take (length name - 4) (drop 4 name) ≡ drop 4 name
rest-is name = take_all (length name - 4) (drop 4 name) (let e = length-drop 4 name in omega (arith, e))

-- the text before the first colon has none

cons-none : (x : ℕ) (text : List ℕ) → (x == 58) ≡ false → has_colon text ≡ false → has_colon (x ∷ text) ≡ false
cons-none x text off none = rw off (less_next (colon_at text) (length text) ∙ none)

by_colon : (x : ℕ) (text : List ℕ) (colon : Bool) → (x == 58) ≡ colon → has_colon (before_first is_colon text) ≡ false
    → has_colon (take (cond (not colon) (1 + colon_at text) 0) (x ∷ text)) ≡ false
by_colon x text true is rest = refl
by_colon x text false is rest = rw (next_is (colon_at text)) (cons-none x (before_first is_colon text) is rest)

before-none : (text : List ℕ) → has_colon (before_first is_colon text) ≡ false
before-none [] = refl
before-none (x ∷ text) = by_colon x text (x == 58) refl (before-none text)

pub switch-none : (name : List ℕ) → colon_in (switch_of name) ≡ None
unfolding switch_of
switch-none name = rw (before-none (drop 4 name)) refl

-- a text that begins with another one, byte by byte

pub begins-same : (text with : List ℕ) → length with ≤ length text → ((k : ℕ) → k < length with → get_or text k 0 ≡ get_or with k 0)
    → starts_with nat_eq text with ≡ true
begins-same text with long each =
    let front = take (length with) text in
    let wide : length with ≡ length front = search (rules, length-take) in
    let same : with ≡ front = same_number_lists with front wide (λ k less. sym (get_or-take (length with) text k 0 less ∙ each k less)) in
    (bytes_eq-Decides with front).1 same

pub begins-other : (text with : List ℕ) (k : ℕ) → k < length with → (get_or text k 0 ≡ get_or with k 0 → ⊥) → starts_with nat_eq text with ≡ false
begins-other text with k less differ = elim (cases_Bool (starts_with nat_eq text with)) [
  | inl is ↦
      let same : with ≡ take (length with) text = (bytes_eq-Decides with (take (length with) text)).0 is in
      absurd (differ (sym (get_or-take (length with) text k 0 less) ∙ ap (λ (l : List ℕ). get_or l k 0) (sym same)))
  | inr off ↦ off
]

-- the last byte of `vale` and a switch's text stands in each name of the switch's ports

same_last : (switch : List ℕ) (a b c d last : ℕ) (rest : List ℕ) → IsLastByte switch last → codes "vale" ≡ a ∷ b ∷ c ∷ d ∷ []
    → length switch < length rest → switch ≡ take (length switch) rest → get_or (a ∷ b ∷ c ∷ d ∷ rest) (length switch + 3) 0 ≡ last
same_last [] a b c d last rest is vale long begins = sym (ap (λ (l : List ℕ). get_or l 3 0) vale) ∙ is
same_last (s ∷ switch) a b c d last rest is vale long begins =
    let place : suc (length switch) + 3 ≡ suc (suc (suc (suc (length switch)))) = omega arith in
    let here : get_or rest (length switch) 0 ≡ get_or (s ∷ switch) (length switch) 0 =
    sym (get_or-take (suc (length switch)) rest (length switch) 0 (omega arith)) ∙ ap (λ (l : List ℕ). get_or l (length switch) 0) (sym begins) in
    let there : get_or (s ∷ switch) (length switch) 0 ≡ last = subst (λ (n : ℕ). get_or (codes "vale" ++ s ∷ switch) n 0 ≡ last) place is in
    rw place (here ∙ there)

stands-in : (switch name : List ℕ) (last : ℕ) → IsLastByte switch last → nat_lt 4 (length name) ≡ true → is_part (drop 4 name) switch ≡ true
    → is_vale name ≡ true → (length switch + 3 < length name) × (get_or name (length switch + 3) 0 ≡ last)
stands-in [] [] last is long part vale = absurd cc
stands-in switch [] last is long part vale = absurd cc
stands-in switch (a ∷ []) last is long part vale = absurd cc
stands-in switch (a ∷ b ∷ []) last is long part vale = absurd cc
stands-in switch (a ∷ b ∷ c ∷ []) last is long part vale = absurd cc
stands-in switch (a ∷ b ∷ c ∷ d ∷ rest) last is long part vale =
    let first = both_are (nat_lt (length switch) (length rest)) (slice_index rest (length switch) == 58 && starts_with nat_eq rest switch) part in
    let second = both_are (slice_index rest (length switch) == 58) (starts_with nat_eq rest switch) first.1 in
    let less : length switch < length rest = ltb-true (length switch) (length rest) first.0 in
    let text : codes "vale" ≡ a ∷ b ∷ c ∷ d ∷ [] = (bytes_eq-Decides (codes "vale") (take 4 (a ∷ b ∷ c ∷ d ∷ rest))).0 vale in
    (omega (arith, less), same_last switch a b c d last rest is text less ((bytes_eq-Decides switch (take (length switch) rest)).0 second.1))

same_byte : (a b : ℕ) → a ≡ b → (a == b) ≡ true
same_byte a b is = elim (cases_Bool (a == b)) [
  | inl same ↦ same
  | inr off ↦ absurd (eqb-false a b off is)
]

abbrev stands : List ℕ → List ℕ → ℕ → Bool
stands switch name last = nat_lt (length switch + 3) (length name) && slice_index name (length switch + 3) == last

stands-on : (switch name : List ℕ) (last : ℕ) → IsLastByte switch last → colon_in switch ≡ None → IsName name → is_on_switch switch name ≡ true
    → stands switch name last ≡ true
stands-on switch name last is none named on =
    let all = on-switch switch name none named ∙ on in
    let first = both_are (nat_lt 4 (length name)) (is_part (drop 4 name) switch && is_vale name) all in
    let second = both_are (is_part (drop 4 name) switch) (is_vale name) first.1 in
    let there = stands-in switch name last is first.0 second.0 second.1 in
    rw (lt-ltb (length switch + 3) (length name) there.0) (same_byte (slice_index name (length switch + 3)) last there.1)

pub off-last : (switch name : List ℕ) (last : ℕ) → IsLastByte switch last → colon_in switch ≡ None → IsName name → stands switch name last ≡ false
    → false ≡ is_on_switch switch name
off-last switch name last is none named off = elim (cases_Bool (is_on_switch switch name)) [
  | inl on ↦ absurd (let wrong : true ≡ false = sym (stands-on switch name last is none named on) ∙ off in cc)
  | inr not_on ↦ sym not_on
]

pub ruleset switches = (switch-none)
