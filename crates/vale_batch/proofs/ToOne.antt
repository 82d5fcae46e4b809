-- What ports want of frames that all go to one of them alone.
use Rattle.std.proofs.Common.{ℕ, zero, suc, Bool, true, false, ◌≡◌, ◌+◌, ◌<◌, ◌≤◌, List, [], ◌∷◌, length, map, get_or, replicate, inl, inr, refl, sym, ◌∙◌, ap, subst, arith}
use Rattle.std.specs.Prelude.{All, IfNone, IfSome, Option, Some, None, cond, count_by, filter, nat_lt}
use Rattle.std.specs.List.{list_any, range_with_len}
use Rattle.std.proofs.lemmas.Bool.{both_ways, cases_Bool, eq-eqb, eqb-true, eqb-false, lt-ltb, ne_eqb}
use Rattle.std.proofs.lemmas.List.{length-replicate}
use Rattle.std.proofs.lemmas.List.Elements.{All-head, All-replicate, All-tail}
use Rattle.std.proofs.lemmas.List.Sums.{sum_by-cons}
use Rattle.nm_types.specs.declared.id.PortId.{PortId}
use Rattle.vale_batch.specs.declared.looking.Destination.{Destination}
use Rattle.vale_batch.specs.declared.looking.Destination.TheVariants.{Short, Nobody, Only, Others}
use Rattle.vale_batch.specs.declared.looking.Looked.{Looked}
use Rattle.vale_batch.specs.declared.alone.Placed.{Placed}
use Rattle.vale_batch.specs.Wants.{Wanted, Owned, every, flooded_to, goes_alone, is_flooded, is_flooded_at, is_lone, is_lone_destination, is_only, is_other, is_port, is_short_at, is_short_destination, own_at, picked, place_of, placed_at, port_number, size_of, slots_of, want_of, want_seen, wants_of, wants_some, IsRising}
use Rattle.vale_batch.specs.Looking.{looked_one}
use Rattle.vale_batch.proofs.Merging.{count-merged, want-own, wants-merged}

abbrev GoesTo : PortId → Looked → Type 0
GoesTo port looked = goes_alone port looked ≡ true

-- what is known of a destination that is one port

only-short : (port : PortId) (to : Destination) → is_only port to ≡ true → is_short_at to ≡ false
only-short port Short is = absurd (let wrong : false ≡ true = is in cc)
only-short port Nobody is = refl
only-short port (Only to) is = refl
only-short port Others is = refl

only-lone : (others : Bool) (port : PortId) (to : Destination) → is_only port to ≡ true → is_lone_destination others to ≡ false
only-lone others port Short is = refl
only-lone others port Nobody is = absurd (let wrong : false ≡ true = is in cc)
only-lone others port (Only to) is = refl
only-lone others port Others is = absurd (let wrong : false ≡ true = is in cc)

only-flooded : (port : PortId) (to : Destination) → is_only port to ≡ true → is_flooded_at to ≡ false
only-flooded port Short is = refl
only-flooded port Nobody is = refl
only-flooded port (Only to) is = refl
only-flooded port Others is = absurd (let wrong : false ≡ true = is in cc)

only-other : (port other : PortId) (to : Destination) → is_only port to ≡ true → (port.0 ≡ other.0 → ⊥) → is_only other to ≡ false
only-other port other Short is differ = refl
only-other port other Nobody is differ = refl
only-other port other (Only to) is differ = ne_eqb other.0 to.0 (λ same. differ (eqb-true port.0 to.0 is ∙ sym same))
only-other port other Others is differ = refl

-- a test that no frame passes counts none and picks none

pub counts-none : (test : Looked → Bool) (all : List Looked) → All (λ (l : Looked). test l ≡ false) all → count_by test all ≡ 0
counts-none test [] none = refl
counts-none test (x ∷ xs) none =
    let here : test x ≡ false = All-head (λ (l : Looked). test l ≡ false) x xs none in
    let rest = counts-none test xs (All-tail (λ (l : Looked). test l ≡ false) x xs none) in
    let more : count_by test (x ∷ xs) ≡ 0 + count_by test xs =
    sum_by-cons (λ (l : Looked). cond (test l) 1 0) x xs ∙ ap (λ (b : Bool). cond b 1 0 + count_by test xs) here in
    omega (arith, more, rest)

picks-none : (test : Looked → Bool) (first : ℕ) (all : List Looked) → All (λ (l : Looked). test l ≡ false) all → picked test first all ≡ []
picks-none test first [] none = refl
picks-none test first (x ∷ xs) none =
    let here : test x ≡ false = All-head (λ (l : Looked). test l ≡ false) x xs none in
    rw here (picks-none test (first + 1) xs (All-tail (λ (l : Looked). test l ≡ false) x xs none))

picks-all : (test : Looked → Bool) (first : ℕ) (all : List Looked) → All (λ (l : Looked). test l ≡ true) all → picked test first all ≡ picked every first all
picks-all test first [] each = refl
picks-all test first (x ∷ xs) each =
    let here : test x ≡ true = All-head (λ (l : Looked). test l ≡ true) x xs each in
    rw here (ap (λ (ps : List Placed). placed_at first x ∷ ps) (picks-all test (first + 1) xs (All-tail (λ (l : Looked). test l ≡ true) x xs each)))

pub none-short : (port : PortId) (all : List Looked) → All (λ (l : Looked). goes_alone port l ≡ true) all → 0 ≡ count_by is_short_destination all
none-short port all alone =
    sym (counts-none is_short_destination all (λ k d within. only-short port (get_or all k d).destination (alone k d within)))

pub none-lone : (from port : PortId) (ports : List PortId) (all : List Looked) → All (λ (l : Looked). goes_alone port l ≡ true) all → 0 ≡ count_by (is_lone from ports) all
none-lone from port ports all alone =
    sym (counts-none (is_lone from ports) all (λ k d within. only-lone (list_any (is_other from) ports) port (get_or all k d).destination (alone k d within)))

none-flooded : (port : PortId) (all : List Looked) → All (λ (l : Looked). goes_alone port l ≡ true) all → picked is_flooded 0 all ≡ []
none-flooded port all alone =
    picks-none is_flooded 0 all (λ k d within. only-flooded port (get_or all k d).destination (alone k d within))

-- what a port wants

no-flood : (from port : PortId) → flooded_to from [] port ≡ []
no-flood from port = elim (cases_Bool (is_other from port)) [
  | inl here ↦ rw here refl
  | inr other ↦ rw other refl
]

counted : (from : PortId) (own : Owned) → length (want_seen from [] own).places ≡ length own.frames
counted from own =
    let none : length (flooded_to from [] own.to) ≡ 0 = ap (λ (ps : List Placed). length ps) (no-flood from own.to) in
    let all = count-merged from [] own in
    omega (arith, all, none)

abbrev pub want_made : PortId → List ℕ → List ℕ → Wanted
want_made port places sizes = record { to = port; places = places; sizes = sizes }

abbrev own_with : PortId → List Placed → Owned
own_with port frames = record { to = port; frames = frames }

wants-none : (from port other : PortId) (all : List Looked) → All (λ (l : Looked). goes_alone port l ≡ true) all → (port.0 ≡ other.0 → ⊥)
    → wants_some (want_seen from [] (own_at all other)) ≡ false
wants-none from port other all alone differ =
    let frames : picked (goes_alone other) 0 all ≡ [] =
    picks-none (goes_alone other) 0 all (λ k d within. only-other port other (get_or all k d).destination (alone k d within) differ) in
    let none : length (want_seen from [] (own_at all other)).places ≡ 0 = counted from (own_at all other) ∙ ap (λ (ps : List Placed). length ps) frames in
    ap (λ (n : ℕ). nat_lt 0 n) none

some-picked : (first : ℕ) (all : List Looked) → 1 ≤ length all → 0 < length (picked every first all)
some-picked first [] some = absurd (omega (arith, some))
some-picked first (x ∷ xs) some = omega arith

wants-all : (from port : PortId) (all : List Looked) → 1 ≤ length all → wants_some (want_seen from [] (own_with port (picked every 0 all))) ≡ true
wants-all from port all some =
    let count = counted from (own_with port (picked every 0 all)) in
    let more = some-picked 0 all some in
    lt-ltb 0 (length (want_seen from [] (own_with port (picked every 0 all))).places) (omega (arith, count, more))

same_port : (port other : PortId) → other.0 ≡ port.0 → other ≡ port
same_port port other e = ap (λ (n : ℕ). numbered n) e
  where
    numbered : ℕ → PortId
    numbered n = record { 0 = n }

abbrev wants_in : PortId → List Looked → List PortId → List Wanted
wants_in from all ports = filter wants_some (map (want_seen from []) (map (own_at all) ports))

-- the ports that want some, where a list has not the one to which all frames go, and where it has it

none-in : (from port : PortId) (ports : List PortId) (all : List Looked) → All (λ (l : Looked). goes_alone port l ≡ true) all
    → list_any (is_port port) ports ≡ false → wants_in from all ports ≡ []
none-in from port [] all alone none = refl
none-in from port (p ∷ ps) all alone none = elim (cases_Bool (is_port port p)) [
  | inl here ↦ absurd (let wrong : true ≡ false = rw here at none in cc)
  | inr other ↦
      let rest : list_any (is_port port) ps ≡ false = rw other at none in
      let differ = eqb-false p.0 port.0 other in
      let off = wants-none from port p all alone (λ same. differ (sym same)) in
      rw off (none-in from port ps all alone rest)
]

above : (port : PortId) (ports : List PortId) → ((k d : ℕ) → k < length ports → port.0 < get_or (map port_number ports) k d) → list_any (is_port port) ports ≡ false
above port [] higher = refl
above port (p ∷ ps) higher =
    let more = higher 0 0 (omega arith) in
    let off : is_port port p ≡ false = ne_eqb p.0 port.0 (λ same. omega (arith, more, same)) in
    rw off (above port ps (λ k d within. higher (suc k) d (omega (arith, within))))

rising-tail : (p : PortId) (ps : List PortId) → IsRising (map port_number (p ∷ ps)) → IsRising (map port_number ps)
rising-tail p ps rising i j d less within = rising (suc i) (suc j) d (omega (arith, less)) (omega (arith, within))

length-numbers : (ports : List PortId) → length (map port_number ports) ≡ length ports
length-numbers [] = refl
length-numbers (p ∷ ps) = let rest = length-numbers ps in omega (arith, rest)

one-in : (from port : PortId) (ports : List PortId) (all : List Looked) → All (λ (l : Looked). goes_alone port l ≡ true) all → 1 ≤ length all
    → IsRising (map port_number ports) → list_any (is_port port) ports ≡ true
    → wants_in from all ports ≡ want_seen from [] (own_with port (picked every 0 all)) ∷ []
one-in from port [] all alone some rising there = absurd (let wrong : false ≡ true = there in cc)
one-in from port (p ∷ ps) all alone some rising there = elim (cases_Bool (is_port port p)) [
  | inl here ↦
      let same : p.0 ≡ port.0 = eqb-true p.0 port.0 here in
      let frames : own_at all p ≡ own_with port (picked every 0 all) =
      ap (λ (q : PortId). own_at all q) (same_port port p same) ∙ ap (own_with port) (picks-all (goes_alone port) 0 all alone) in
      let wants : wants_some (want_seen from [] (own_at all p)) ≡ true = ap (λ (o : Owned). wants_some (want_seen from [] o)) frames ∙ wants-all from port all some in
      let behind = above port ps (λ k d within. (let size = length-numbers ps in let up = rising 0 (suc k) d (omega arith) (omega (arith, within, size)) in omega (arith, up, same))) in
      rw wants (ap (λ (o : Owned). want_seen from [] o ∷ wants_in from all ps) frames
      ∙ ap (λ (ws : List Wanted). want_seen from [] (own_with port (picked every 0 all)) ∷ ws) (none-in from port ps all alone behind))
  | inr other ↦
      let rest : list_any (is_port port) ps ≡ true = rw other at there in
      let differ = eqb-false p.0 port.0 other in
      let off = wants-none from port p all alone (λ same. differ (sym same)) in
      rw off (one-in from port ps all alone some (rising-tail p ps rising) rest)
]

wants-are : (from port : PortId) (ports : List PortId) (all : List Looked) → All (λ (l : Looked). goes_alone port l ≡ true) all → wants_in from all ports ≡ wants_of from all ports
wants-are from port ports all alone =
    ap (λ (ps : List Placed). filter wants_some (map (want_seen from ps) (map (own_at all) ports))) (sym (none-flooded port all alone))
    ∙ ap (filter wants_some) (wants-merged from all ports)

pub none-wanted : (port : PortId) (ports : List PortId) (all : List Looked) → All (λ (l : Looked). goes_alone port l ≡ true) all → list_any (is_port port) ports ≡ false
    → (from : PortId) → [] ≡ wants_of from all ports
none-wanted port ports all alone none from = sym (none-in from port ports all alone none) ∙ wants-are from port ports all alone

-- the one want, made at once

places-every : (first : ℕ) (all : List Looked) → range_with_len first (length all) ≡ map place_of (picked every first all)
places-every first [] = refl
places-every first (x ∷ xs) = ap (λ (ns : List ℕ). first ∷ ns) (places-every (first + 1) xs)

sizes-every : (first : ℕ) (all : List Looked) → map size_of all ≡ map slots_of (picked every first all)
sizes-every first [] = refl
sizes-every first (x ∷ xs) = ap (λ (ns : List ℕ). x.size ∷ ns) (sizes-every (first + 1) xs)

wants-every : (from port : PortId) (all : List Looked) → want_made port (range_with_len 0 (length all)) (map size_of all) ≡ want_seen from [] (own_with port (picked every 0 all))
wants-every from port all =
    ap (λ (ns : List ℕ). want_made port ns (map size_of all)) (places-every 0 all)
    ∙ (ap (λ (ns : List ℕ). want_made port (map place_of (picked every 0 all)) ns) (sizes-every 0 all)
    ∙ (want-own port (picked every 0 all)
    ∙ ap (λ (ps : List Placed). want_of port (picked every 0 all) ps) (sym (no-flood from port))))

pub every-wanted : (port : PortId) (ports : List PortId) (all : List Looked) → All (λ (l : Looked). goes_alone port l ≡ true) all → 1 ≤ length all
    → IsRising (map port_number ports) → list_any (is_port port) ports ≡ true → (want : Wanted)
    → want ≡ want_made port (range_with_len 0 (length all)) (map size_of all) → (from : PortId) → want ∷ [] ≡ wants_of from all ports
every-wanted port ports all alone some rising there want is from =
    ap (λ (w : Wanted). w ∷ []) (is ∙ wants-every from port all)
    ∙ (sym (one-in from port ports all alone some rising there) ∙ wants-are from port ports all alone)

-- the sizes of frames of one slot each

abbrev ones_of : ℕ → List ℕ
ones_of n = replicate n 1

pub single-sizes : (all : List Looked) → All (λ (l : Looked). l.size ≡ 1) all → ones_of (length all) ≡ map size_of all
single-sizes [] single = refl
single-sizes (x ∷ xs) single =
    let here : x.size ≡ 1 = All-head (λ (l : Looked). l.size ≡ 1) x xs single in
    let rest = single-sizes xs (All-tail (λ (l : Looked). l.size ≡ 1) x xs single) in
    ap (λ (n : ℕ). n ∷ ones_of (length xs)) (sym here) ∙ ap (λ (ns : List ℕ). x.size ∷ ns) rest

pub alike-sizes : (to : Destination) (n : ℕ) → ones_of n ≡ map size_of (replicate n (looked_one to))
alike-sizes to zero = refl
alike-sizes to (suc n) = ap (λ (ns : List ℕ). 1 ∷ ns) (alike-sizes to n)

pub ruleset singles = (single-sizes, alike-sizes)

-- frames that go to one place go to one port alone, or to none

pub alike-alone : (port : PortId) (n : ℕ) → All (λ (l : Looked). goes_alone port l ≡ true) (replicate n (looked_one (Only port)))
alike-alone port n = All-replicate (λ (l : Looked). goes_alone port l ≡ true) n (looked_one (Only port)) (eq-eqb port.0 port.0 refl)

pub alike-other : (to : Destination) (n : ℕ) → ((port : PortId) → is_only port to ≡ false) → (port : PortId) → 1 ≤ length (replicate n (looked_one to))
    → All (λ (l : Looked). goes_alone port l ≡ true) (replicate n (looked_one to)) → ⊥
alike-other to zero other port some alone = let none = length-replicate zero (looked_one to) in omega (arith, some, none)
alike-other to (suc n) other port some alone =
    both_ways (is_only port to) (other port) (All-head (λ (l : Looked). goes_alone port l ≡ true) (looked_one to) (replicate n (looked_one to)) alone)

pub alike-some : (to : Destination) (n : ℕ) (r : Option PortId) → 0 < n → IfSome r (λ (port : PortId). 1 ≤ length (replicate n (looked_one to)))
alike-some to n (Some port) more = let long = length-replicate n (looked_one to) in omega (arith, more, long)
alike-some to n None more = tt

pub alike-sole : (to : Destination) (n : ℕ) (r : Option PortId) → IfSome r (λ (port : PortId). to ≡ Only port)
    → IfSome r (λ (port : PortId). All (λ (l : Looked). goes_alone port l ≡ true) (replicate n (looked_one to)))
alike-sole to n (Some port) is = subst (λ (d : Destination). All (λ (l : Looked). goes_alone port l ≡ true) (replicate n (looked_one d))) (sym is) (alike-alone port n)
alike-sole to n None is = tt

pub alike-none : (to : Destination) (n : ℕ) (r : Option PortId) → IfNone r ((port : PortId) → is_only port to ≡ false)
    → IfNone r ((port : PortId) → 1 ≤ length (replicate n (looked_one to)) → All (λ (l : Looked). goes_alone port l ≡ true) (replicate n (looked_one to)) → ⊥)
alike-none to n (Some port) is = tt
alike-none to n None is = alike-other to n is

-- what the sole port tells of all frames

pub sole-short : (all : List Looked) (r : Option PortId) → IfSome r (λ (port : PortId). All (λ (l : Looked). goes_alone port l ≡ true) all)
    → IfSome r (λ (port : PortId). 0 ≡ count_by is_short_destination all)
sole-short all (Some port) alone = none-short port all alone
sole-short all None alone = tt

pub sole-lone : (from : PortId) (all : List Looked) (r : Option PortId) → IfSome r (λ (port : PortId). All (λ (l : Looked). goes_alone port l ≡ true) all)
    → IfSome r (λ (port : PortId). (ports : List PortId) → 0 ≡ count_by (is_lone from ports) all)
sole-lone from all (Some port) alone = λ ports. none-lone from port ports all alone
sole-lone from all None alone = tt
