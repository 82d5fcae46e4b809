-- The ports of a slab, as a list.
use Rattle.std.proofs.Common.{ℕ, zero, suc, Bool, true, false, cond, List, [], ◌∷◌, ◌≡◌, ◌≢◌, ◌+◌, Option, Some, None, MutBor, length, map, get_or, refl, ◌∙◌, ap, arith, inl, inr}
use Rattle.std.specs.Prelude.{filter_map, filter, count_by, is_some, find}
use Rattle.std.specs.List.{list_any}
use Rattle.std.proofs.lemmas.Bool.{cases_Bool}
use Rattle.std.proofs.lemmas.List.Sums.{sum_by-cons}
use Rattle.slab.specs.Slab.{entries, entries_from, CalledAt, RetainsFrom}
use Rattle.vale_names.specs.declared.port.NamedPort.{NamedPort}
use Rattle.vale_names.specs.Ports.{Joins}

abbrev pub held : List (Option NamedPort) → List NamedPort
held slots = filter_map (λ slot. slot) slots

abbrev pub ports_of : List (ℕ × NamedPort) → List NamedPort
ports_of entries = map (λ e. e.1) entries

pub ports_of-entries : (key : ℕ) (slots : List (Option NamedPort)) → ports_of (entries_from key slots) ≡ held slots
ports_of-entries key [] = refl
ports_of-entries key (None ∷ slots) = ports_of-entries (key + 1) slots
ports_of-entries key (Some port ∷ slots) = ap (λ (rest : List NamedPort). port ∷ rest) (ports_of-entries (key + 1) slots)

-- a slab has as many ports as slots that hold one
pub length-held : (slots : List (Option NamedPort)) → length (held slots) ≡ count_by is_some slots
length-held [] = refl
length-held (None ∷ slots) =
    let rest = length-held slots in
    let whole = sum_by-cons (λ (s : Option NamedPort). cond (is_some s) 1 0) None slots in
    omega arith
length-held (Some port ∷ slots) =
    let rest = length-held slots in
    let whole = sum_by-cons (λ (s : Option NamedPort). cond (is_some s) 1 0) (Some port) slots in
    omega arith

same_slots : (old new : List (Option NamedPort)) → ((k : ℕ) → get_or new k None ≡ get_or old k None) → held new ≡ held old
same_slots [] [] same = refl
same_slots [] (None ∷ new) same = same_slots [] new (λ k. same (suc k))
same_slots [] (Some port ∷ new) same = absurd (let wrong : Some port ≡ None = same zero in cc)
same_slots (None ∷ old) [] same = same_slots old [] (λ k. same (suc k))
same_slots (Some port ∷ old) [] same = absurd (let wrong : None ≡ Some port = same zero in cc)
same_slots (None ∷ old) (None ∷ new) same = same_slots old new (λ k. same (suc k))
same_slots (None ∷ old) (Some port ∷ new) same = absurd (let wrong : Some port ≡ None = same zero in cc)
same_slots (Some port ∷ old) (None ∷ new) same = absurd (let wrong : None ≡ Some port = same zero in cc)
same_slots (Some port ∷ old) (Some other ∷ new) same =
    let first : Some other ≡ Some port = same zero in
    let equal : other ≡ port = cc in
    let rest = same_slots old new (λ k. same (suc k)) in
    cc

joins_more : (first : NamedPort) (old : List NamedPort) (port : NamedPort) (new : List NamedPort) → Joins old port new → Joins (first ∷ old) port (first ∷ new)
joins_more first old port new joins = record {
  before = first ∷ joins.before;
  after = joins.after;
  was = ap (λ (rest : List NamedPort). first ∷ rest) joins.was;
  is = ap (λ (rest : List NamedPort). first ∷ rest) joins.is;
}

-- a port that was put into a vacant slot joins the others
pub joins_slot : (old new : List (Option NamedPort)) (key : ℕ) (port : NamedPort) → get_or old key None ≡ None → get_or new key None ≡ Some port
    → ((k : ℕ) → k ≢ key → get_or new k None ≡ get_or old k None) → Joins (held old) port (held new)
joins_slot old [] key port vacant here others = absurd (let wrong : None ≡ Some port = here in cc)
joins_slot [] (None ∷ new) zero port vacant here others = absurd (let wrong : None ≡ Some port = here in cc)
joins_slot [] (Some first ∷ new) zero port vacant here others =
    let told : Some first ≡ Some port = here in
    let equal : first ≡ port = cc in
    let rest = same_slots [] new (λ k. others (suc k) (λ wrong. absurd (omega arith))) in
    record { before = []; after = []; was = refl; is = ap (λ (p : NamedPort). p ∷ held new) equal ∙ ap (λ (ps : List NamedPort). port ∷ ps) rest }
joins_slot (slot ∷ old) (None ∷ new) zero port vacant here others = absurd (let wrong : None ≡ Some port = here in cc)
joins_slot (Some was ∷ old) (Some first ∷ new) zero port vacant here others = absurd (let wrong : Some was ≡ None = vacant in cc)
joins_slot (None ∷ old) (Some first ∷ new) zero port vacant here others =
    let told : Some first ≡ Some port = here in
    let equal : first ≡ port = cc in
    let rest = same_slots old new (λ k. others (suc k) (λ wrong. absurd (omega arith))) in
    record { before = []; after = held old; was = refl; is = ap (λ (p : NamedPort). p ∷ held new) equal ∙ ap (λ (ps : List NamedPort). port ∷ ps) rest }
joins_slot [] (None ∷ new) (suc key) port vacant here others = joins_slot [] new key port vacant here (λ k differ. others (suc k) (λ same. differ (omega arith)))
joins_slot [] (Some first ∷ new) (suc key) port vacant here others = absurd (let wrong : Some first ≡ None = others zero (λ same. absurd (omega arith)) in cc)
joins_slot (None ∷ old) (None ∷ new) (suc key) port vacant here others = joins_slot old new key port vacant here (λ k differ. others (suc k) (λ same. differ (omega arith)))
joins_slot (None ∷ old) (Some first ∷ new) (suc key) port vacant here others = absurd (let wrong : Some first ≡ None = others zero (λ same. absurd (omega arith)) in cc)
joins_slot (Some was ∷ old) (None ∷ new) (suc key) port vacant here others = absurd (let wrong : None ≡ Some was = others zero (λ same. absurd (omega arith)) in cc)
joins_slot (Some was ∷ old) (Some first ∷ new) (suc key) port vacant here others =
    let told : Some first ≡ Some was = others zero (λ same. absurd (omega arith)) in
    let equal : first ≡ was = cc in
    let rest = joins_slot old new key port vacant here (λ k differ. others (suc k) (λ same. differ (omega arith))) in
    rw equal (joins_more was (held old) port (held new) rest)

-- what a `retain` leaves, whose closure tests and changes each port
pub retained : {F : Type 0} (step : F → ℕ → MutBor NamedPort → Bool → MutBor NamedPort → F → Type 0) (keeps : NamedPort → Bool) (change : NamedPort → NamedPort) (f : F)
    → ((key : ℕ) (old : NamedPort) (keep : Bool) (new : NamedPort) (next : F) → CalledAt step f key old keep new next → (keep ≡ keeps old) × (new ≡ change old) × (next ≡ f))
    → (key : ℕ) (slots kept : List (Option NamedPort)) → RetainsFrom step f key slots kept → held kept ≡ map change (filter keeps (held slots))
retained step keeps change f told key [] kept is = ap held is
retained step keeps change f told key (None ∷ slots) kept is = ap held is.1 ∙ retained step keeps change f told (key + 1) slots is.0 is.2
retained step keeps change f told key (Some old ∷ slots) kept is =
    let facts = told key old is.0 is.1 is.2 is.3 in
    let later : RetainsFrom step f (key + 1) slots is.4 = rw facts.2 at is.6 in
    let rest = retained step keeps change f told (key + 1) slots is.4 later in
    elim (cases_Bool (keeps old)) [
      | inl here ↦
          let keep : is.0 ≡ true = facts.0 ∙ here in
          let slot : kept ≡ Some is.1 ∷ is.4 = rw keep at is.5 in
          ap held slot ∙ rw here (ap (λ (p : NamedPort). p ∷ held is.4) facts.1 ∙ ap (λ (ps : List NamedPort). change old ∷ ps) rest)
      | inr away ↦
          let keep : is.0 ≡ false = facts.0 ∙ away in
          let slot : kept ≡ None ∷ is.4 = rw keep at is.5 in
          ap held slot ∙ rw away rest
    ]

-- an answer of a walk is that of the list
pub any_here : (test : NamedPort → Bool) (first : NamedPort) (rest : List NamedPort) → test first ≡ true → list_any test (first ∷ rest) ≡ true
any_here test first rest passes = rw passes refl

pub find_here : (test : NamedPort → Bool) (first : NamedPort) (rest : List NamedPort) → test first ≡ true → find test (first ∷ rest) ≡ Some first
find_here test first rest passes = rw passes refl

pub map_same : (ports : List NamedPort) → map (λ (p : NamedPort). p) ports ≡ ports
map_same [] = refl
map_same (port ∷ ports) = ap (λ (rest : List NamedPort). port ∷ rest) (map_same ports)

pub filter_all : (ports : List NamedPort) → filter (λ (p : NamedPort). true) ports ≡ ports
filter_all [] = refl
filter_all (port ∷ ports) = ap (λ (rest : List NamedPort). port ∷ rest) (filter_all ports)

pub ruleset groups = (ports_of-entries, length-held, joins_slot)
