-- What ports want of frames that all go to all of them but the sender's.
use Rattle.std.proofs.Common.{ℕ, suc, Bool, true, false, not, ◌≡◌, ◌+◌, ◌<◌, ◌≤◌, List, [], ◌∷◌, ◌++◌, length, map, take, get_or, replicate, inl, inr, refl, sym, ◌∙◌, ap, arith}
use Rattle.std.specs.Prelude.{All, cond, count_by, filter, nat_lt, if◌then◌else◌}
use Rattle.std.specs.List.{list_any, range_with_len}
use Rattle.std.proofs.lemmas.Bool.{cases_Bool, lt-ltb}
use Rattle.std.proofs.lemmas.List.{append-nil, map-append}
use Rattle.std.proofs.lemmas.List.Elements.{All-head, All-tail, filter_more}
use Rattle.std.proofs.lemmas.List.FromFn.{length-range_with_len}
use Rattle.std.proofs.lemmas.List.Sums.{sum_by-cons}
use Rattle.nm_types.specs.declared.id.PortId.{PortId}
use Rattle.vale_batch.specs.declared.looking.Destination.{Destination}
use Rattle.vale_batch.specs.declared.looking.Destination.TheVariants.{Short, Nobody, Only, Others}
use Rattle.vale_batch.specs.declared.looking.Looked.{Looked}
use Rattle.vale_batch.specs.Wants.{Wanted, goes_to, is_flooded, is_flooded_at, is_for, is_lone, is_lone_destination, is_lone_if, is_other, is_short_at, is_short_destination, places_from, size_of, sizes_for, want_at, want_with, wants_of, wants_some}
use Rattle.vale_batch.proofs.ToOne.{counts-none}

abbrev IsFlood : Looked → Type 0
IsFlood looked = is_flooded looked ≡ true

-- a flooded frame goes to each port but its sender's

flooded-for : (from port : PortId) (to : Destination) → is_flooded_at to ≡ true → is_for from to port ≡ is_other from port
flooded-for from port Short is = absurd (let wrong : false ≡ true = is in cc)
flooded-for from port Nobody is = absurd (let wrong : false ≡ true = is in cc)
flooded-for from port (Only to) is = absurd (let wrong : false ≡ true = is in cc)
flooded-for from port Others is = refl

flooded-short : (to : Destination) → is_flooded_at to ≡ true → is_short_at to ≡ false
flooded-short Short is = absurd (let wrong : false ≡ true = is in cc)
flooded-short Nobody is = absurd (let wrong : false ≡ true = is in cc)
flooded-short (Only to) is = absurd (let wrong : false ≡ true = is in cc)
flooded-short Others is = refl

flooded-lone : (others : Bool) (to : Destination) → is_flooded_at to ≡ true → is_lone_destination others to ≡ not others
flooded-lone others Short is = absurd (let wrong : false ≡ true = is in cc)
flooded-lone others Nobody is = absurd (let wrong : false ≡ true = is in cc)
flooded-lone others (Only to) is = absurd (let wrong : false ≡ true = is in cc)
flooded-lone others Others is = refl

-- which places and sizes a port wants

places-all : (from port : PortId) (first : ℕ) (all : List Looked) → All IsFlood all → is_other from port ≡ true → places_from from port first all ≡ range_with_len first (length all)
places-all from port first [] each other = refl
places-all from port first (x ∷ xs) each other =
    let here : goes_to from port x ≡ true = flooded-for from port x.destination (All-head IsFlood x xs each) ∙ other in
    rw here (ap (λ (ns : List ℕ). first ∷ ns) (places-all from port (first + 1) xs (All-tail IsFlood x xs each) other))

sizes-all : (from port : PortId) (all : List Looked) → All IsFlood all → is_other from port ≡ true → sizes_for from port all ≡ map size_of all
sizes-all from port [] each other = refl
sizes-all from port (x ∷ xs) each other =
    let here : goes_to from port x ≡ true = flooded-for from port x.destination (All-head IsFlood x xs each) ∙ other in
    rw here (ap (λ (ns : List ℕ). x.size ∷ ns) (sizes-all from port xs (All-tail IsFlood x xs each) other))

places-none : (from port : PortId) (first : ℕ) (all : List Looked) → All IsFlood all → is_other from port ≡ false → places_from from port first all ≡ []
places-none from port first [] each own = refl
places-none from port first (x ∷ xs) each own =
    let here : goes_to from port x ≡ false = flooded-for from port x.destination (All-head IsFlood x xs each) ∙ own in
    rw here (places-none from port (first + 1) xs (All-tail IsFlood x xs each) own)

-- what each port wants

abbrev want_of_all : List Looked → PortId → Wanted
want_of_all all port = want_with (range_with_len 0 (length all)) (map size_of all) port

wants-all : (from port : PortId) (all : List Looked) → All IsFlood all → is_other from port ≡ true → want_at from all port ≡ want_of_all all port
wants-all from port all each other =
    ap (λ (ns : List ℕ). want_with ns (sizes_for from port all) port) (places-all from port 0 all each other)
    ∙ ap (λ (ns : List ℕ). want_with (range_with_len 0 (length all)) ns port) (sizes-all from port all each other)

some-wanted : (from port : PortId) (all : List Looked) → All IsFlood all → 1 ≤ length all → is_other from port ≡ true → wants_some (want_at from all port) ≡ true
some-wanted from port all each some other =
    let many = length-range_with_len 0 (length all) in
    ap (λ (w : Wanted). wants_some w) (wants-all from port all each other)
    ∙ lt-ltb 0 (length (range_with_len 0 (length all))) (omega (arith, many, some))

none-wanted : (from port : PortId) (all : List Looked) → All IsFlood all → is_other from port ≡ false → wants_some (want_at from all port) ≡ false
none-wanted from port all each own = ap (λ (ns : List ℕ). nat_lt 0 (length ns)) (places-none from port 0 all each own)

pub others-want : (from : PortId) (all : List Looked) (ports : List PortId) → All IsFlood all → 1 ≤ length all
    → map (want_with (range_with_len 0 (length all)) (map size_of all)) (filter (is_other from) ports) ≡ wants_of from all ports
others-want from all [] each some = refl
others-want from all (port ∷ ports) each some =
    let rest = others-want from all ports each some in
    elim (cases_Bool (is_other from port)) [
      | inl other ↦
          let wants = some-wanted from port all each some other in
          rw (other, wants) (ap (λ (w : Wanted). w ∷ map (want_of_all all) (filter (is_other from) ports)) (sym (wants-all from port all each other))
          ∙ ap (λ (ws : List Wanted). want_at from all port ∷ ws) rest)
      | inr own ↦
          let none = none-wanted from port all each own in
          rw (own, none) rest
    ]

-- one port more

pub more-others : (from : PortId) (places sizes : List ℕ) (ports : List PortId) (i : ℕ) (d : PortId) → i < length ports → is_other from (get_or ports i d) ≡ true
    → map (want_with places sizes) (filter (is_other from) (take (i + 1) ports))
    ≡ map (want_with places sizes) (filter (is_other from) (take i ports)) ++ want_with places sizes (get_or ports i d) ∷ []
more-others from places sizes ports i d within other =
    let port = get_or ports i d in
    let more : filter (is_other from) (take (i + 1) ports) ≡ filter (is_other from) (take i ports) ++ port ∷ [] = rw other at (filter_more (is_other from) ports i d within) in
    ap (map (want_with places sizes)) more ∙ map-append (want_with places sizes) (filter (is_other from) (take i ports)) (port ∷ [])

pub same-others : (from : PortId) (ports : List PortId) (i : ℕ) (d : PortId) → i < length ports → is_other from (get_or ports i d) ≡ false
    → filter (is_other from) (take (i + 1) ports) ≡ filter (is_other from) (take i ports)
same-others from ports i d within own =
    let same : filter (is_other from) (take (i + 1) ports) ≡ filter (is_other from) (take i ports) ++ [] = rw own at (filter_more (is_other from) ports i d within) in
    same ∙ append-nil (filter (is_other from) (take i ports))

-- how many are short, and how many lone

pub flood-short : (all : List Looked) → All IsFlood all → 0 ≡ count_by is_short_destination all
flood-short all each = sym (counts-none is_short_destination all (λ k d within. flooded-short (get_or all k d).destination (each k d within)))

counts-all : (test : Looked → Bool) (all : List Looked) → All (λ (l : Looked). test l ≡ true) all → count_by test all ≡ length all
counts-all test [] each = refl
counts-all test (x ∷ xs) each =
    let here : test x ≡ true = All-head (λ (l : Looked). test l ≡ true) x xs each in
    let rest = counts-all test xs (All-tail (λ (l : Looked). test l ≡ true) x xs each) in
    let more : count_by test (x ∷ xs) ≡ 1 + count_by test xs =
    sum_by-cons (λ (l : Looked). cond (test l) 1 0) x xs ∙ ap (λ (b : Bool). cond b 1 0 + count_by test xs) here in
    omega (arith, more, rest)

pub lone-none : (from : PortId) (ports : List PortId) (all : List Looked) → All IsFlood all → list_any (is_other from) ports ≡ true → 0 ≡ count_by (is_lone from ports) all
lone-none from ports all each others =
    sym (counts-none (is_lone from ports) all (λ k d within. flooded-lone (list_any (is_other from) ports) (get_or all k d).destination (each k d within) ∙ ap not others))

pub lone-all : (from : PortId) (ports : List PortId) (all : List Looked) → All IsFlood all → list_any (is_other from) ports ≡ false → length all ≡ count_by (is_lone from ports) all
lone-all from ports all each none =
    sym (counts-all (is_lone from ports) all (λ k d within. flooded-lone (list_any (is_other from) ports) (get_or all k d).destination (each k d within) ∙ ap not none))

pub ruleset floods = (others-want, more-others, same-others, flood-short, lone-none, lone-all)
