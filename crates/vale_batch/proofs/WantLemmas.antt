-- The frames that go to one port alone, frame by frame.
use Rattle.std.proofs.Common.{ℕ, zero, suc, Bool, true, false, ◌≡◌, ◌+◌, ◌<◌, List, [], ◌∷◌, ◌++◌, length, map, take, get_or, slice_set, inl, inr, refl, sym, ◌∙◌, ap, arith}
use Rattle.std.proofs.lemmas.List.{get_or-map, append-nil}
use Rattle.std.specs.Prelude.{count_by, if◌then◌else◌, All, IfSome, Option, Some, None, slice_get, not, ◌==◌, cond}
use Rattle.std.specs.List.{list_any}
use Rattle.std.proofs.lemmas.List.{length-map, length-take-le, take_more}
use Rattle.std.proofs.lemmas.List.Folds.{list_any_at}
use Rattle.std.proofs.lemmas.List.Elements.{All-head, All-tail}
use Rattle.std.proofs.lemmas.List.Sums.{sum_by-cons, count_by-le-length}
use Rattle.std.proofs.lemmas.Bool.{cases_Bool, or_from, or_parts, and_parts, both_ways, eqb-true}
use Rattle.nm_types.specs.Frames.{Frame}
use Rattle.nm_types.specs.declared.id.PortId.{PortId}
use Rattle.nm_types.proofs.Tests.{not_false}
use Rattle.vale_learn.specs.AddressTable.{Entries, port_of_address}
use Rattle.vale_batch.specs.Addresses.{is_short, is_group, destination_address}
use Rattle.vale_batch.specs.declared.looking.Looked.{Looked}
use Rattle.vale_batch.specs.Looking.{looked_up, looked_up_batch, learned_from, destination_of, destination_found}
use Rattle.vale_batch.specs.declared.looking.Destination.{Destination}
use Rattle.vale_batch.specs.declared.looking.Destination.TheVariants.{Only}
use Rattle.vale_batch.specs.declared.alone.Placed.{Placed}
use Rattle.vale_batch.specs.declared.alone.Own.{Own}
use Rattle.vale_batch.specs.Wants.{Owned, owned, own_at, picked, placed_at, with_placed, with_frame, goes_alone, is_flooded, is_only, is_short_at, is_short_destination, is_to, is_owned_by, are_apart}

-- what goes to a port of one frame more
pub picked-more : (test : Looked → Bool) (first : ℕ) (all : List Looked) (looked : Looked)
    → picked test first (all ++ looked ∷ []) ≡ picked test first all ++ (if test looked then placed_at (first + length all) looked ∷ [] else [])
picked-more test first [] looked = elim (cases_Bool (test looked)) [
  | inl here ↦ (let same : first + 0 ≡ first = omega arith in rw (here, same) refl)
  | inr other ↦ rw other refl
]
picked-more test first (x ∷ xs) looked =
    let rest = picked-more test (first + 1) xs looked in
    let next : first + 1 + length xs ≡ first + suc (length xs) = omega arith in
    let behind : picked test (first + 1) (xs ++ looked ∷ []) ≡ picked test (first + 1) xs ++ (if test looked then placed_at (first + suc (length xs)) looked ∷ [] else []) =
    rest ∙ ap (λ (n : ℕ). picked test (first + 1) xs ++ (if test looked then placed_at n looked ∷ [] else [])) next in
    elim (cases_Bool (test x)) [
      | inl here ↦ rw here (ap (λ (ps : List Placed). placed_at first x ∷ ps) behind)
      | inr other ↦ rw other behind
    ]

-- the frame at a place, picked behind those before it
pub picked-next : (test : Looked → Bool) (all : List Looked) (i : ℕ) (d : Looked) → i < length all
    → picked test 0 (take (i + 1) all) ≡ picked test 0 (take i all) ++ (if test (get_or all i d) then placed_at i (get_or all i d) ∷ [] else [])
picked-next test all i d within =
    let looked = get_or all i d in
    let taken = length-take-le i all (omega (arith, within)) in
    let count : 0 + length (take i all) ≡ i = omega (arith, taken) in
    ap (picked test 0) (take_more all i d within)
    ∙ (picked-more test 0 (take i all) looked
    ∙ ap (λ (n : ℕ). picked test 0 (take i all) ++ (if test looked then placed_at n looked ∷ [] else [])) count)

pub picked-with : (test : Looked → Bool) (all : List Looked) (i : ℕ) (d : Looked) → i < length all → test (get_or all i d) ≡ true
    → picked test 0 (take (i + 1) all) ≡ picked test 0 (take i all) ++ placed_at i (get_or all i d) ∷ []
picked-with test all i d within is = rw is at (picked-next test all i d within)

pub picked-without : (test : Looked → Bool) (all : List Looked) (i : ℕ) (d : Looked) → i < length all → test (get_or all i d) ≡ false
    → picked test 0 (take (i + 1) all) ≡ picked test 0 (take i all)
picked-without test all i d within is =
    let next : picked test 0 (take (i + 1) all) ≡ picked test 0 (take i all) ++ [] = rw is at (picked-next test all i d within) in
    next ∙ append-nil (picked test 0 (take i all))

pub flooded-more : (all : List Looked) (i : ℕ) (d : Looked) (old new : List Placed) → i < length all → old ≡ picked is_flooded 0 (take i all)
    → new ≡ old ++ (if is_flooded (get_or all i d) then placed_at i (get_or all i d) ∷ [] else []) → new ≡ picked is_flooded 0 (take (i + 1) all)
flooded-more all i d old new within before added =
    added
    ∙ (ap (λ (ps : List Placed). ps ++ (if is_flooded (get_or all i d) then placed_at i (get_or all i d) ∷ [] else [])) before ∙ sym (picked-next is_flooded all i d within))

own-more : (all : List Looked) (i : ℕ) (d : Looked) (port : PortId) → i < length all → with_frame (get_or all i d) i (own_at (take i all) port) ≡ own_at (take (i + 1) all) port
own-more all i d port within = elim (cases_Bool (goes_alone port (get_or all i d))) [
  | inl here ↦ rw here (ap (λ (ps : List Placed). made port ps) (sym (picked-with (goes_alone port) all i d within here)))
  | inr other ↦ rw other (ap (λ (ps : List Placed). made port ps) (sym (picked-without (goes_alone port) all i d within other)))
]
  where
    made : PortId → List Placed → Owned
    made to frames = record { to = to; frames = frames }

owns-more : (all : List Looked) (i : ℕ) (d : Looked) (ports : List PortId) → i < length all → map (with_frame (get_or all i d) i) (map (own_at (take i all)) ports) ≡ map (own_at (take (i + 1) all)) ports
owns-more all i d [] within = refl
owns-more all i d (port ∷ ports) within =
    let here = own-more all i d port within in
    let rest = owns-more all i d ports within in
    cc

pub loop-more : (all : List Looked) (ports : List PortId) (i : ℕ) (d : Looked) (old new : List Owned) → i < length all → old ≡ map (own_at (take i all)) ports
    → new ≡ map (with_frame (get_or all i d) i) old → new ≡ map (own_at (take (i + 1) all)) ports
loop-more all ports i d old new within before added =
    added ∙ (ap (map (with_frame (get_or all i d) i)) before ∙ owns-more all i d ports within)

-- a own found at a place
pub own_found : (to : ℕ) (all : List Own) (at : ℕ) (d : Own) → at < length all → IfSome (slice_get all at) (λ (own : Own). is_to to own ≡ true) → is_to to (get_or all at d) ≡ true
own_found to [] at d within found = absurd (omega (arith, within))
own_found to (own ∷ all) zero d within found = found
own_found to (own ∷ all) (suc at) d within found = own_found to all at d (omega (arith, within)) found

abbrev IsNotTo : ℕ → Own → Type 0
IsNotTo to own = is_to to own ≡ false

pub none_to : (to : ℕ) (all : List Own) → All (λ (own : Own). is_to to own ≡ false) all → list_any (is_owned_by to) (map owned all) ≡ false
none_to to [] none = refl
none_to to (own ∷ all) none =
    or_from (is_to to own) (list_any (is_owned_by to) (map owned all)) (All-head (IsNotTo to) own all none) (none_to to all (All-tail (IsNotTo to) own all none))

-- a frame to one port changes that port's own alone
not-for : (to : PortId) (looked : Looked) (place : ℕ) (own : Owned) → looked.destination ≡ Only to → is_owned_by to.0 own ≡ false → with_frame looked place own ≡ own
not-for to looked place own only other =
    let test : goes_alone own.to looked ≡ false = ap (λ (d : Destination). is_only own.to d) only ∙ other in
    rw test refl

for-one : (to : PortId) (looked : Looked) (place : ℕ) (own : Owned) → looked.destination ≡ Only to → is_owned_by to.0 own ≡ true → with_frame looked place own ≡ with_placed (placed_at place looked) own
for-one to looked place own only here =
    let test : goes_alone own.to looked ≡ true = ap (λ (d : Destination). is_only own.to d) only ∙ here in
    rw test refl

none-changed-in : (to : PortId) (looked : Looked) (place : ℕ) (all : List Owned) → looked.destination ≡ Only to → list_any (is_owned_by to.0) all ≡ false → map (with_frame looked place) all ≡ all
none-changed-in to looked place [] only none = refl
none-changed-in to looked place (own ∷ all) only none =
    let parts = or_parts (is_owned_by to.0 own) (list_any (is_owned_by to.0) all) none in
    let here = not-for to looked place own only parts.0 in
    let rest = none-changed-in to looked place all only parts.1 in
    cc

pub none-changed : (to : PortId) (looked : Looked) (place : ℕ) (all : List Own) → looked.destination ≡ Only to → list_any (is_owned_by to.0) (map owned all) ≡ false
    → map (with_frame looked place) (map owned all) ≡ map owned all
none-changed to looked place all only none = none-changed-in to looked place (map owned all) only none

pub one-changed : (to : PortId) (looked : Looked) (place : ℕ) (all : List Own) (at : ℕ) (own new : Own) → are_apart (map owned all) ≡ true → looked.destination ≡ Only to
    → at < length all → is_to to.0 (get_or all at own) ≡ true → own ≡ get_or all at own → owned new ≡ with_placed (placed_at place looked) (owned own)
    → map owned (slice_set all at new) ≡ map (with_frame looked place) (map owned all)
one-changed to looked place [] at own new apart only within found is pushed = absurd (omega (arith, within))
one-changed to looked place (w ∷ ws) zero own new apart only within found is pushed =
    let parts = and_parts (not (list_any (is_owned_by w.to.0) (map owned ws))) (are_apart (map owned ws)) apart in
    let single = not_false (list_any (is_owned_by w.to.0) (map owned ws)) parts.0 in
    let same : w.to.0 ≡ to.0 = eqb-true w.to.0 to.0 found in
    let others : list_any (is_owned_by to.0) (map owned ws) ≡ false = ap (λ (n : ℕ). list_any (is_owned_by n) (map owned ws)) (sym same) ∙ single in
    let rest = none-changed to looked place ws only others in
    let here : owned new ≡ with_frame looked place (owned w) = pushed ∙ (ap (λ (x : Own). with_placed (placed_at place looked) (owned x)) is ∙ sym (for-one to looked place (owned w) only found)) in
    ap (λ (x : Owned). x ∷ map owned ws) here ∙ ap (λ (xs : List Owned). with_frame looked place (owned w) ∷ xs) (sym rest)
one-changed to looked place (w ∷ ws) (suc at) own new apart only within found is pushed =
    let parts = and_parts (not (list_any (is_owned_by w.to.0) (map owned ws))) (are_apart (map owned ws)) apart in
    let single = not_false (list_any (is_owned_by w.to.0) (map owned ws)) parts.0 in
    let rest = one-changed to looked place ws at own new parts.1 only (omega (arith, within)) found is pushed in
    let other : is_to to.0 w ≡ false = elim (cases_Bool (is_to to.0 w)) [
      | inl here ↦
          let same : w.to.0 ≡ to.0 = eqb-true w.to.0 to.0 here in
          let here_too : is_owned_by to.0 (get_or (map owned ws) at (owned own)) ≡ true = ap (is_owned_by to.0) (get_or-map owned ws at own (owned own) (omega (arith, within))) ∙ found in
          let there : list_any (is_owned_by to.0) (map owned ws) ≡ true = list_any_at (is_owned_by to.0) (map owned ws) at (owned own) (let size = length-map ws owned in omega (arith, within, size)) here_too in
          let none : list_any (is_owned_by to.0) (map owned ws) ≡ false = ap (λ (n : ℕ). list_any (is_owned_by n) (map owned ws)) (sym same) ∙ single in
          absurd (both_ways (list_any (is_owned_by to.0) (map owned ws)) none there)
      | inr differs ↦ differs
    ] in
    let kept = not-for to looked place (owned w) only other in
    ap (λ (x : Owned). x ∷ map owned (slice_set ws at new)) (sym kept) ∙ ap (λ (xs : List Owned). with_frame looked place (owned w) ∷ xs) rest

-- a frame that goes to no port alone changes nothing
pub nobody-changed : (looked : Looked) (place : ℕ) (all : List Owned) → ((port : PortId) → is_only port looked.destination ≡ false) → map (with_frame looked place) all ≡ all
nobody-changed looked place [] none = refl
nobody-changed looked place (own ∷ all) none =
    let test : goes_alone own.to looked ≡ false = none own.to in
    let here : with_frame looked place own ≡ own = rw test refl in
    let rest = nobody-changed looked place all none in
    cc

-- short destinations are those of short frames
found-not-short : (from : PortId) (found : Option PortId) → is_short_at (destination_found from found) ≡ false
found-not-short from None = refl
found-not-short from (Some port) = elim (cases_Bool (port.0 == from.0)) [ inl here ↦ rw here refl | inr other ↦ rw other refl ]

short-destination : (from : PortId) (entries : Entries) (frame : Frame) → is_short_at (destination_of from entries frame) ≡ is_short frame
short-destination from entries frame = elim (cases_Bool (is_short frame)) [
  | inl here ↦ rw here refl
  | inr other ↦ elim (cases_Bool (is_group (destination_address frame))) [
    | inl group ↦ rw (other, group) refl
    | inr single ↦ rw (other, single) (found-not-short from (port_of_address entries (destination_address frame)))
  ]
]

abbrev one_if : Bool → ℕ
one_if true = 1
one_if false = 0

pub short-count : (from : PortId) (entries : Entries) (frames : List Frame) → count_by is_short_destination (looked_up_batch from entries frames) ≡ count_by is_short frames
short-count from entries [] = refl
short-count from entries (frame ∷ frames) =
    let after = learned_from from entries frame in
    let rest = short-count from after frames in
    let here = short-destination from after frame in
    sum_by-cons (λ (l : Looked). cond (is_short_destination l) 1 0) (looked_up from after frame) (looked_up_batch from after frames)
    ∙ (ap (λ (b : Bool). cond b 1 0 + count_by is_short_destination (looked_up_batch from after frames)) here
    ∙ (ap (λ (n : ℕ). cond (is_short frame) 1 0 + n) rest ∙ sym (sum_by-cons (λ (f : Frame). cond (is_short f) 1 0) frame frames)))

pub length-looked : (from : PortId) (entries : Entries) (frames : List Frame) → length (looked_up_batch from entries frames) ≡ length frames
length-looked from entries [] = refl
length-looked from entries (frame ∷ frames) = let rest = length-looked from (learned_from from entries frame) frames in omega (arith, rest)

pub ruleset classes = (short-count, length-looked)

pub ruleset counts = (count_by-le-length)
