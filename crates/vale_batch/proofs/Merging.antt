-- Flooded frames and those that go to one port, merged, are what the port wants.
use Rattle.std.proofs.Common.{ℕ, zero, suc, Bool, true, false, ◌≡◌, ◌+◌, ◌<◌, ◌≤◌, List, [], ◌∷◌, length, map, get_or, inl, inr, refl, sym, ◌∙◌, ap, subst, arith}
use Rattle.std.proofs.lemmas.List.{length-map}
use Rattle.std.proofs.lemmas.List.Elements.{All-map, All-filter}
use Rattle.std.proofs.lemmas.Bool.{cases_Bool, lt-ltb, le-ltb}
use Rattle.std.specs.Prelude.{if◌then◌else◌, IfSome, Option, Some, None, option_map, slice_get, All, filter, ◌&&◌, ◌^◌, nat_lt}
use Rattle.nm_types.specs.declared.id.PortId.{PortId}
use Rattle.vale_batch.specs.declared.looking.Destination.{Destination}
use Rattle.vale_batch.specs.declared.looking.Destination.TheVariants.{Short, Nobody, Only, Others}
use Rattle.vale_batch.specs.declared.looking.Looked.{Looked}
use Rattle.vale_batch.specs.declared.alone.Placed.{Placed}
use Rattle.vale_batch.specs.declared.alone.Own.{Own}
use Rattle.vale_batch.specs.declared.lists.Dest.{Dest}
use Rattle.vale_batch.specs.Wants.{Wanted, Owned, owned, own_at, picked, placed_at, merged, merged_into, goes_alone, is_flooded, is_flooded_at, is_only, is_other, is_for, goes_to, places_from, sizes_for, place_of, slots_of, want_of, want_at, want_seen, wants_of, wants_some, flooded_to, dest_of, IsFew}

-- where nothing is flooded there are a port's own frames
merged-none : (own : List Placed) → merged own [] ≡ own
merged-none [] = refl
merged-none (first ∷ rest) = ap (λ (ps : List Placed). first ∷ ps) (merged-none rest)

abbrev made_of : PortId → List Placed → Wanted
made_of to frames = record { to = to; places = map place_of frames; sizes = map slots_of frames }

pub want-own : (to : PortId) (own : List Placed) → want_of to [] own ≡ want_of to own []
want-own to own = ap (made_of to) (sym (merged-none own))

pub none-there : (frames : List Placed) → length frames ≡ 0 → frames ≡ []
none-there [] none = refl
none-there (first ∷ rest) none = absurd (omega (arith, none))

-- the first frame stands before all of a later place
before-later : (test : Looked → Bool) (first : Placed) (rest : List Placed → List Placed) (next : ℕ) (all : List Looked) → first.place < next
    → merged_into first rest (picked test next all) ≡ first ∷ rest (picked test next all)
before-later test first rest next [] less = refl
before-later test first rest next (x ∷ xs) less = elim (cases_Bool (test x)) [
  | inl here ↦ (let low = lt-ltb first.place next less in rw (here, low) refl)
  | inr other ↦ rw other (before-later test first rest (next + 1) xs (omega (arith, less)))
]

-- a frame goes before the merged ones of later places
later-first : (test other : Looked → Bool) (first : Placed) (next : ℕ) (all : List Looked) (others : List Placed) → first.place < next
    → merged (picked test next all) (first ∷ others) ≡ first ∷ merged (picked test next all) others
later-first test other first next [] others less = refl
later-first test other first next (x ∷ xs) others less = elim (cases_Bool (test x)) [
  | inl here ↦ (let low : nat_lt next first.place ≡ false = le-ltb next first.place (omega (arith, less)) in rw (here, low) refl)
  | inr differs ↦ rw differs (later-first test other first (next + 1) xs others (omega (arith, less)))
]

-- what one of two tests picks, and not both, is what they pick, merged
pub merged-picked : (own flooded either : Looked → Bool) (first : ℕ) (all : List Looked)
    → ((looked : Looked) → own looked ≡ true → (flooded looked ≡ false) × (either looked ≡ true))
    → ((looked : Looked) → own looked ≡ false → either looked ≡ flooded looked)
    → merged (picked own first all) (picked flooded first all) ≡ picked either first all
merged-picked own flooded either first [] with_own without = refl
merged-picked own flooded either first (x ∷ xs) with_own without =
    let rest = merged-picked own flooded either (first + 1) xs with_own without in
    elim (cases_Bool (own x)) [
      | inl here ↦
          let is = with_own x here in
          rw (here, is.0, is.1) (before-later flooded (placed_at first x) (merged (picked own (first + 1) xs)) (first + 1) xs (omega arith)
          ∙ ap (λ (ps : List Placed). placed_at first x ∷ ps) rest)
      | inr other ↦
          let is = without x other in
          elim (cases_Bool (flooded x)) [
            | inl flows ↦ rw (other, is, flows) (later-first own flooded (placed_at first x) (first + 1) xs (picked flooded (first + 1) xs) (omega arith)
                ∙ ap (λ (ps : List Placed). placed_at first x ∷ ps) rest)
            | inr neither ↦ rw (other, is, neither) rest
          ]
    ]

picked-places : (from port : PortId) (first : ℕ) (all : List Looked) → map place_of (picked (goes_to from port) first all) ≡ places_from from port first all
picked-places from port first [] = refl
picked-places from port first (x ∷ xs) = elim (cases_Bool (goes_to from port x)) [
  | inl here ↦ rw here (ap (λ (ns : List ℕ). first ∷ ns) (picked-places from port (first + 1) xs))
  | inr other ↦ rw other (picked-places from port (first + 1) xs)
]

picked-sizes : (from port : PortId) (first : ℕ) (all : List Looked) → map slots_of (picked (goes_to from port) first all) ≡ sizes_for from port all
picked-sizes from port first [] = refl
picked-sizes from port first (x ∷ xs) = elim (cases_Bool (goes_to from port x)) [
  | inl here ↦ rw here (ap (λ (ns : List ℕ). x.size ∷ ns) (picked-sizes from port (first + 1) xs))
  | inr other ↦ rw other (picked-sizes from port (first + 1) xs)
]

-- whether a frame is flooded to a port
abbrev floods : PortId → PortId → Looked → Bool
floods from port looked = is_other from port && is_flooded looked

picked-none : (from port : PortId) (first : ℕ) (all : List Looked) → is_other from port ≡ false → picked (floods from port) first all ≡ []
picked-none from port first [] is = refl
picked-none from port first (x ∷ xs) is =
    let none : floods from port x ≡ false = ap (λ (b : Bool). b && is_flooded x) is in
    rw none (picked-none from port (first + 1) xs is)

picked-same : (from port : PortId) (first : ℕ) (all : List Looked) → is_other from port ≡ true → picked (floods from port) first all ≡ picked is_flooded first all
picked-same from port first [] is = refl
picked-same from port first (x ∷ xs) is =
    let same : floods from port x ≡ is_flooded x = ap (λ (b : Bool). b && is_flooded x) is in
    rw same (ap (λ (ps : List Placed). if is_flooded x then placed_at first x ∷ ps else ps) (picked-same from port (first + 1) xs is))

flooded-picked : (from port : PortId) (all : List Looked) → flooded_to from (picked is_flooded 0 all) port ≡ picked (floods from port) 0 all
flooded-picked from port all = elim (cases_Bool (is_other from port)) [
  | inl here ↦ rw here (sym (picked-same from port 0 all here))
  | inr other ↦ rw other (sym (picked-none from port 0 all other))
]

no-and : (b : Bool) → b && false ≡ false
no-and true = refl
no-and false = refl

and-yes : (b : Bool) → b && true ≡ b
and-yes true = refl
and-yes false = refl

alone-for : (from port : PortId) (to : Destination) → is_only port to ≡ true → ((is_other from port && is_flooded_at to) ≡ false) × (is_for from to port ≡ true)
alone-for from port Short is = absurd (let wrong : false ≡ true = is in cc)
alone-for from port Nobody is = absurd (let wrong : false ≡ true = is in cc)
alone-for from port (Only to) is = (no-and (is_other from port), is)
alone-for from port Others is = absurd (let wrong : false ≡ true = is in cc)

not-alone-for : (from port : PortId) (to : Destination) → is_only port to ≡ false → is_for from to port ≡ (is_other from port && is_flooded_at to)
not-alone-for from port Short is = sym (no-and (is_other from port))
not-alone-for from port Nobody is = sym (no-and (is_other from port))
not-alone-for from port (Only to) is = is ∙ sym (no-and (is_other from port))
not-alone-for from port Others is = sym (and-yes (is_other from port))

pub want-merged : (from : PortId) (all : List Looked) (port : PortId) → want_seen from (picked is_flooded 0 all) (own_at all port) ≡ want_at from all port
want-merged from all port =
    let frames : merged (picked (goes_alone port) 0 all) (flooded_to from (picked is_flooded 0 all) port) ≡ picked (goes_to from port) 0 all =
    ap (λ (ps : List Placed). merged (picked (goes_alone port) 0 all) ps) (flooded-picked from port all)
    ∙ merged-picked (goes_alone port) (floods from port) (goes_to from port) 0 all
    (λ looked is. alone-for from port looked.destination is) (λ looked is. not-alone-for from port looked.destination is) in
    ap (λ (ps : List Placed). made (map place_of ps) (map slots_of ps)) frames
    ∙ (ap (λ (ns : List ℕ). made ns (map slots_of (picked (goes_to from port) 0 all))) (picked-places from port 0 all)
    ∙ ap (λ (ns : List ℕ). made (places_from from port 0 all) ns) (picked-sizes from port 0 all))
  where
    made : List ℕ → List ℕ → Wanted
    made places sizes = record { to = port; places = places; sizes = sizes }

pub wants-merged : (from : PortId) (all : List Looked) (ports : List PortId) → map (want_seen from (picked is_flooded 0 all)) (map (own_at all) ports) ≡ map (want_at from all) ports
wants-merged from all [] = refl
wants-merged from all (port ∷ ports) =
    let here = want-merged from all port in
    let rest = wants-merged from all ports in
    cc

-- the frames of two lists are counted without merging them
into-length : (first : Placed) (rest : List Placed → List Placed) (others : List Placed) (n : ℕ) → ((ps : List Placed) → length (rest ps) ≡ n + length ps)
    → length (merged_into first rest others) ≡ suc (n + length others)
into-length first rest [] n count = let here = count [] in omega (arith, here)
into-length first rest (other ∷ others) n count = elim (cases_Bool (nat_lt first.place other.place)) [
  | inl here ↦ rw here (let all = count (other ∷ others) in omega (arith, all))
  | inr behind ↦ rw behind (let all = into-length first rest others n count in omega (arith, all))
]

pub length-merged : (own others : List Placed) → length (merged own others) ≡ length own + length others
length-merged [] others = omega arith
length-merged (first ∷ rest) others =
    let all = into-length first (merged rest) others (length rest) (λ ps. length-merged rest ps) in
    omega (arith, all)

pub count-merged : (from : PortId) (flooded : List Placed) (own : Owned) → length (want_seen from flooded own).places ≡ length own.frames + length (flooded_to from flooded own.to)
count-merged from flooded own = length-map (merged own.frames (flooded_to from flooded own.to)) place_of ∙ length-merged own.frames (flooded_to from flooded own.to)

-- those who want nothing go
pub kept-wanted : (from : PortId) (flooded : List Placed) (all : List Own)
    → map (want_seen from flooded) (map owned (filter (λ (own : Own). wants_some (want_seen from flooded (owned own))) all)) ≡ filter wants_some (map (want_seen from flooded) (map owned all))
kept-wanted from flooded [] = refl
kept-wanted from flooded (own ∷ all) = elim (cases_Bool (wants_some (want_seen from flooded (owned own)))) [
  | inl here ↦ rw here (ap (λ (ws : List Wanted). want_seen from flooded (owned own) ∷ ws) (kept-wanted from flooded all))
  | inr other ↦ rw other (kept-wanted from flooded all)
]

-- no port wants more frames than a batch has
places-few : (from port : PortId) (first : ℕ) (all : List Looked) → length (places_from from port first all) ≤ length all
places-few from port first [] = omega arith
places-few from port first (x ∷ xs) =
    let rest = places-few from port (first + 1) xs in
    elim (cases_Bool (goes_to from port x)) [
      | inl here ↦ rw here (omega (arith, rest))
      | inr other ↦ rw other (omega (arith, rest))
    ]

pub wants-few : (from : PortId) (all : List Looked) (ports : List PortId) → length all < 2 ^ 32 → All IsFew (wants_of from all ports)
wants-few from all ports few =
    All-filter wants_some IsFew (map (want_at from all) ports) (All-map IsFew (want_at from all) ports (λ k d within. (let places = places-few from (get_or ports k d) 0 all in omega (arith, places, few))))

-- what is kept is what the ports want
pub lists-are : (from : PortId) (all : List Looked) (ports : List PortId) (flooded : List Placed) (before after : List Own) → flooded ≡ picked is_flooded 0 all
    → map owned before ≡ map (own_at all) ports → map (want_seen from flooded) (map owned after) ≡ filter wants_some (map (want_seen from flooded) (map owned before))
    → map (want_seen from flooded) (map owned after) ≡ wants_of from all ports
lists-are from all ports flooded before after floods_are owns_are kept =
    kept
    ∙ (ap (λ (os : List Owned). filter wants_some (map (want_seen from flooded) os)) owns_are
    ∙ (ap (λ (ps : List Placed). filter wants_some (map (want_seen from ps) (map (own_at all) ports))) floods_are ∙ ap (filter wants_some) (wants-merged from all ports)))

pub lists-few : (from : PortId) (all : List Looked) (ports : List PortId) (flooded : List Placed) (before after : List Own) → length all < 2 ^ 32 → flooded ≡ picked is_flooded 0 all
    → map owned before ≡ map (own_at all) ports → map (want_seen from flooded) (map owned after) ≡ filter wants_some (map (want_seen from flooded) (map owned before))
    → All IsFew (map (want_seen from flooded) (map owned after))
lists-few from all ports flooded before after few floods_are owns_are kept =
    subst (All IsFew) (sym (lists-are from all ports flooded before after floods_are owns_are kept)) (wants-few from all ports few)

-- the want at a place
pub wants-length : (from : PortId) (flooded : List Placed) (owns : List Own) → length (map (want_seen from flooded) (map owned owns)) ≡ length owns
wants-length from flooded owns = length-map (map owned owns) (want_seen from flooded) ∙ length-map owns owned

pub want-found : (from : PortId) (flooded : List Placed) (owns : List Own) (i : ℕ) (own : Own) → i < length owns → own ≡ get_or owns i own
    → slice_get (map (want_seen from flooded) (map owned owns)) i ≡ Some (want_seen from flooded (owned own))
want-found from flooded [] i own within is = absurd (omega (arith, within))
want-found from flooded (x ∷ xs) zero own within is = ap (λ (o : Own). Some (want_seen from flooded (owned o))) (sym is)
want-found from flooded (x ∷ xs) (suc i) own within is = want-found from flooded xs i own (omega (arith, within)) is

pub dest-found : (from : PortId) (flooded : List Placed) (owns : List Own) (i : ℕ) (own : Own) (count : ℕ) → i < length owns → own ≡ get_or owns i own
    → count ≡ length (want_seen from flooded (owned own)).places → option_map dest_of (slice_get (map (want_seen from flooded) (map owned owns)) i) ≡ Some (record { to = own.to; count = count })
dest-found from flooded owns i own count within is counted =
    ap (option_map dest_of) (want-found from flooded owns i own within is) ∙ ap (λ (n : ℕ). Some (made n)) (sym counted)
  where
    made : ℕ → Dest
    made n = record { to = own.to; count = n }

few_of : (want : Option Wanted) (is : Wanted) → want ≡ Some is → IfSome want IsFew → IsFew is
few_of None is found few = absurd (let wrong : None ≡ Some is = found in cc)
few_of (Some want) is found few = (let same : want ≡ is = cc in subst IsFew same few)

all-at : (wants : List Wanted) (i : ℕ) (is : Wanted) → slice_get wants i ≡ Some is → All IsFew wants → IfSome (slice_get wants i) IsFew
all-at [] i is found few = absurd (let wrong : None ≡ Some is = found in cc)
all-at (want ∷ wants) zero is found few = few 0 want (omega arith)
all-at (want ∷ wants) (suc i) is found few = all-at wants i is found (λ k d within. few (suc k) d (omega (arith, within)))

pub few-found : (from : PortId) (flooded : List Placed) (owns : List Own) (i : ℕ) (own : Own) → i < length owns → own ≡ get_or owns i own
    → All IsFew (map (want_seen from flooded) (map owned owns)) → length (want_seen from flooded (owned own)).places < 2 ^ 32
few-found from flooded owns i own within is few =
    let wants = map (want_seen from flooded) (map owned owns) in
    let want = want_seen from flooded (owned own) in
    let found = want-found from flooded owns i own within is in
    few_of (slice_get wants i) want found (all-at wants i want found few)

pub ruleset merges = (length-merged, count-merged)
