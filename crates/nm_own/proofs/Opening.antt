-- A port that is opened: its places, and how it is seen.
use Rattle.std.proofs.Common.{ℕ, zero, suc, ◌≡◌, ◌≢◌, ◌<◌, ◌≤◌, ◌+◌, ◌-◌, ◌&&◌, ◌||◌, Bool, true, false, nat_eq, nat_lt, nat_le, if◌then◌else◌, List, [], ◌∷◌, ◌++◌, length, map, fold, set, Option, Some, None, inl, inr, refl, sym, ◌∙◌, ap, arith}
use Rattle.std.specs.Prelude.{is_some, unwrap_or}
use Rattle.std.specs.List.{AllByRecursion, IsDistinct, list_any, range_with_len, zip}
use Rattle.std.proofs.lemmas.Bool.{cases_Bool, cases_lt}
use Rattle.std.proofs.lemmas.Bool.Decides.{nat_tests}
use Rattle.std.proofs.lemmas.List.{map-append}
use Rattle.std.proofs.lemmas.List.Sums.{fold-append}
use Rattle.nm_types.specs.declared.id.PortId.{PortId}
use Rattle.nm_types.specs.declared.id.PortSizes.{PortSizes}
use Rattle.nm_types.specs.declared.place.Place.{Place}
use Rattle.nm_types.specs.declared.place.Place.TheVariants as place
use Rattle.nm_types.specs.Places.{is_same_place}
use Rattle.nm_types.specs.Buffers.{cleared_but}
use Rattle.nm_types.specs.Chain.{linked, chain_head, opened_links}
use Rattle.nm_types.specs.OwnPorts.{OwnPort, port_with_id}
use Rattle.nm_types.specs.OwnSyncs.{with_arrival, with_link, with_links}
use Rattle.nm_types.proofs.Tests.{less_true, or_second, same_true, turned, false_true}
use Rattle.nm_hold.specs.declared.table.PortPlaces.{PortPlaces}
use Rattle.nm_hold.specs.Offsets.{has_place, has_port, offset_of}
use Rattle.nm_hold.specs.Holds.{HoldState, port_of}
use Rattle.nm_hold.proofs.Spots.{nat_eq-is, same_place-is, same_place-refl}
use Rattle.nm_port.specs.declared.fill.Row.{Row}
use Rattle.nm_port.specs.declared.fill.Row.TheVariants.{Slots, Extras}
use Rattle.nm_port.specs.declared.port.UserPort.{UserPort}
use Rattle.nm_port.specs.Own.{port_seen, own_seen, is_filled, is_filled_in, places_of_port}
use Rattle.nm_port.specs.Filling.{place_in, index_with, named_with, bytes_with}
use Rattle.nm_own.specs.Opening.{blank_arrival, blank_arrivals}
use Rattle.nm_port.proofs.Filling.{row_apart}
use Rattle.nm_port.proofs.PortOut.{IsOther}

-- no port has this id
pub no_port : (h : HoldState) (ports : List UserPort) (id : ℕ) → port_with_id (own_seen h ports) id ≡ None → AllByRecursion (IsOther id) ports
no_port h [] id e = tt
no_port h (p ∷ ports) id e = elim (cases_Bool (nat_eq p.id.0 id)) [
  | inl here ↦ absurd (some_none (port_seen h p) (rw here at e))
  | inr other ↦ (other, no_port h ports id (rw other at e))
]
  where
    some_none : (x : OwnPort) → Some x ≡ None → ⊥
    some_none x e = cc

pub unfilled_in : (p : UserPort) (id : ℕ) (q : Place) → port_of q ≡ id → IsOther id p → is_filled_in q p ≡ false
unfilled_in p id (place.Tx port at) e other = rw (e, turned p.id.0 id other) refl
unfilled_in p id (place.Rx port at) e other = rw (e, turned p.id.0 id other) refl
unfilled_in p id (place.Extra port at) e other = rw (e, turned p.id.0 id other) refl

pub unfilled : (ports : List UserPort) (id : ℕ) (q : Place) → port_of q ≡ id → AllByRecursion (IsOther id) ports → is_filled ports q ≡ false
unfilled [] id q e none = refl
unfilled (p ∷ ports) id q e none = rw (unfilled_in p id q e none.0, unfilled ports id q e none.1) refl

pub no_places_of : (ports : List UserPort) (id : ℕ) → AllByRecursion (IsOther id) ports → has_port (map places_of_port ports) id ≡ false
no_places_of [] id none = refl
no_places_of (p ∷ ports) id none = rw (none.0, no_places_of ports id none.1) refl

pub row_port : (port : PortId) (row : Row) (at : ℕ) → port_of (place_in port row at) ≡ port.0
row_port port Slots at = refl
row_port port Extras at = refl

pub none_if : (o : Option ℕ) → is_some o ≡ false → o ≡ None
none_if None e = refl
none_if (Some x) e = absurd cc

-- the new port has its places
pub has_new : (ports : List PortPlaces) (new : PortPlaces) (q : Place) → is_some (offset_of new q) ≡ true → has_place (ports ++ new ∷ []) q ≡ true
has_new [] new q e = rw e refl
has_new (p ∷ ports) new q e = or_second (is_some (offset_of p q)) (has_place (ports ++ new ∷ []) q) (has_new ports new q e)

abbrev pub row_size : Row → PortSizes → ℕ
row_size Slots sizes = sizes.tx
row_size Extras sizes = sizes.extra

pub has_row : (ports : List PortPlaces) (port : PortId) (sizes : PortSizes) (row : Row) (at : ℕ) → at < row_size row sizes
    → has_place (ports ++ record { port = port; sizes = sizes } ∷ []) (place_in port row at) ≡ true
has_row ports port sizes Slots at below = has_new ports (record { port = port; sizes = sizes }) (place.Tx port at) (rw (same_true port.0 port.0 refl, less_true at sizes.tx below) refl)
has_row ports port sizes Extras at below = has_new ports (record { port = port; sizes = sizes }) (place.Extra port at) (rw (same_true port.0 port.0 refl, less_true at sizes.extra below) refl)

-- bytes: one cell after another
pub set_twice : {X : Type 0} (xs : List X) (i : ℕ) (x y : X) → set (set xs i x) i y ≡ set xs i y
set_twice [] i x y = refl
set_twice (z ∷ zs) zero x y = refl
set_twice {X = X} (z ∷ zs) (suc i) x y = ap (λ (ws : List X). z ∷ ws) (set_twice zs i x y)

set_alike : {X : Type 0} (xs : List X) (i j : ℕ) (x : X) → set (set xs i x) j x ≡ set (set xs j x) i x
set_alike [] i j x = refl
set_alike (z ∷ zs) zero zero x = refl
set_alike (z ∷ zs) zero (suc j) x = refl
set_alike (z ∷ zs) (suc i) zero x = refl
set_alike {X = X} (z ∷ zs) (suc i) (suc j) x = ap (λ (ws : List X). z ∷ ws) (set_alike zs i j x)

lower : (i j : ℕ) → nat_eq (suc i) (suc j) ≡ false → nat_eq i j ≡ false
lower i j e = grind (arith, nat_tests)

pub set_apart : {X : Type 0} (xs : List X) (i j : ℕ) (x y : X) → nat_eq i j ≡ false → set (set xs i x) j y ≡ set (set xs j y) i x
set_apart [] i j x y e = refl
set_apart (z ∷ zs) zero zero x y e = absurd cc
set_apart (z ∷ zs) zero (suc j) x y e = refl
set_apart (z ∷ zs) (suc i) zero x y e = refl
set_apart {X = X} (z ∷ zs) (suc i) (suc j) x y e = ap (λ (ws : List X). z ∷ ws) (set_apart zs i j x y (lower i j e))

cleared_set : (idxs : List ℕ) (b : List (List ℕ)) (i : ℕ) → bytes_with Slots idxs (set b i (cleared_but [])) ≡ set (bytes_with Slots idxs b) i (cleared_but [])
cleared_set [] b i = refl
cleared_set (x ∷ xs) b i = ap (λ (c : List (List ℕ)). set c x (cleared_but [])) (cleared_set xs b i) ∙ set_alike (bytes_with Slots xs b) i x (cleared_but [])

pub cleared_all : (idxs : List ℕ) (b : List (List ℕ)) → fold with_arrival b (blank_arrivals idxs) ≡ bytes_with Slots idxs b
cleared_all [] b = refl
cleared_all (x ∷ xs) b = cleared_all xs (set b x (cleared_but [])) ∙ cleared_set xs b x

links_set : (idxs : List ℕ) (b : List (List ℕ)) (i : ℕ) (v : List ℕ) → AllByRecursion (λ y. nat_eq i y ≡ false) idxs
    → fold with_link (set b i v) (zip idxs (opened_links idxs)) ≡ set (fold with_link b (zip idxs (opened_links idxs))) i v
links_set [] b i v apart = refl
links_set (x ∷ xs) b i v apart =
    ap (λ (c : List (List ℕ)). fold with_link c (zip xs (opened_links xs))) (set_apart b i x v (linked (chain_head xs) (cleared_but [])) apart.0)
    ∙ links_set xs (set b x (linked (chain_head xs) (cleared_but []))) i v apart.1

pub linked_all : (idxs : List ℕ) (b : List (List ℕ)) → IsDistinct nat_eq idxs → with_links idxs (bytes_with Slots idxs b) ≡ bytes_with Extras idxs b
unfolding IsDistinct
linked_all [] b once = refl
linked_all (x ∷ xs) b once =
    let link = linked (chain_head xs) (cleared_but []) in
    ap (λ (c : List (List ℕ)). fold with_link c (zip xs (opened_links xs))) (set_twice (bytes_with Slots xs b) x (cleared_but []) link)
    ∙ (links_set xs (bytes_with Slots xs b) x link once.0 ∙ ap (λ (c : List (List ℕ)). set c x link) (linked_all xs b once.1))

pub opened_bytes : (tx extra : List ℕ) (b : List (List ℕ)) → IsDistinct nat_eq extra
    → bytes_with Extras extra (bytes_with Slots tx b) ≡ with_links extra (fold with_arrival b (blank_arrivals (tx ++ extra)))
opened_bytes tx extra b once =
    let cleared : fold with_arrival b (blank_arrivals (tx ++ extra)) ≡ bytes_with Slots extra (bytes_with Slots tx b) =
    ap (fold with_arrival b) (map-append blank_arrival tx extra) ∙ (fold-append with_arrival b (blank_arrivals tx) (blank_arrivals extra)
    ∙ (ap (λ (c : List (List ℕ)). fold with_arrival c (blank_arrivals extra)) (cleared_all tx b) ∙ cleared_all extra (bytes_with Slots tx b))) in
    sym (ap (with_links extra) cleared ∙ linked_all extra (bytes_with Slots tx b) once)

-- what stands in the places of a row
pub index_off : (port : PortId) (row : Row) (start : ℕ) (idxs : List ℕ) (q : Place) (o : Option ℕ) → ((k : ℕ) → is_same_place (place_in port row k) q ≡ false) → index_with port row start idxs q o ≡ o
index_off port row start [] q o apart = refl
index_off port row start (idx ∷ idxs) q o apart = rw (apart start) (index_off port row (start + 1) idxs q o apart)

pub other_port : (port : PortId) (row : Row) (q : Place) → nat_eq port.0 (port_of q) ≡ false → (k : ℕ) → is_same_place (place_in port row k) q ≡ false
other_port port Slots (place.Tx other at) e k = rw e refl
other_port port Slots (place.Rx other at) e k = refl
other_port port Slots (place.Extra other at) e k = refl
other_port port Extras (place.Tx other at) e k = refl
other_port port Extras (place.Rx other at) e k = refl
other_port port Extras (place.Extra other at) e k = rw e refl

abbrev pub in_range : ℕ → ℕ → ℕ → Bool
in_range start count x = nat_le start x && nat_lt x (start + count)

no_range : (start x : ℕ) → in_range start 0 x ≡ false
no_range start x = grind (arith, nat_tests)

first_in : (start count : ℕ) → in_range start (suc count) start ≡ true
first_in start count = grind (arith, nat_tests)

others_in : (start count x : ℕ) → start ≢ x → in_range (start + 1) count x ≡ in_range start (suc count) x
others_in start count x other = grind (arith, nat_tests)

pub index_row : (port : PortId) (row : Row) (start : ℕ) (idxs : List ℕ) (x : ℕ) (o : Option ℕ) → is_some (index_with port row start idxs (place_in port row x) o) ≡ (in_range start (length idxs) x || is_some o)
index_row port row start [] x o = rw (no_range start x) refl
index_row port row start (idx ∷ idxs) x o = elim (cases_Bool (nat_eq start x)) [
  | inl here ↦ (let same : start ≡ x = nat_eq-is start x here in rw (← same, same_place-refl (place_in port row start), first_in start (length idxs)) refl)
  | inr away ↦ (let other : start ≢ x = (λ e. false_true (sym away ∙ same_true start x e)) in
      rw (row_apart port row start x other) (index_row port row (start + 1) idxs x o ∙ ap (λ (b : Bool). b || is_some o) (others_in start (length idxs) x other)))
]

pub row_numbers : (port : PortId) (row : Row) (start : ℕ) (idxs : List ℕ) (was : ℕ → Option ℕ) (f : ℕ → ℕ)
    → ((x : ℕ) → start ≤ x → f x ≡ unwrap_or (index_with port row start idxs (place_in port row x) (was x)) 0) → map f (range_with_len start (length idxs)) ≡ idxs
row_numbers port row start [] was f numbers = refl
row_numbers port row start (idx ∷ idxs) was f numbers =
    let first : f start ≡ idx = numbers start (omega arith) ∙ rw (same_place-refl (place_in port row start)) refl in
    rw first (ap (λ (xs : List ℕ). idx ∷ xs) (row_numbers port row (start + 1) idxs was f
    (λ x above. numbers x (omega arith) ∙ rw (row_apart port row start x (λ e. absurd (omega arith))) refl)))

-- which of them are named ones
abbrev IsNamedFrom : PortId → Row → ℕ → ℕ → List ℕ → (Place → Bool) → Place → Type 0
IsNamedFrom port row named at idxs f q = named_with port row named at idxs f q ≡ (list_any (λ x. is_same_place x q) (map (place_in port row) (range_with_len at (named - at))) || f q)

pub named_is : (port : PortId) (row : Row) (named at : ℕ) (idxs : List ℕ) (f : Place → Bool) (q : Place) → named ≤ at + length idxs → ((k : ℕ) → f (place_in port row k) ≡ false)
    → named_with port row named at idxs f q ≡ (list_any (λ x. is_same_place x q) (map (place_in port row) (range_with_len at (named - at))) || f q)
named_is port row named at [] f q le none = let zero : named - at ≡ 0 = omega arith in rw zero refl
named_is port row named at (idx ∷ idxs) f q le none = elim (cases_lt at named) [
  | inl below ↦ (let more : named - at ≡ suc (named - (at + 1)) = omega arith in rw more (here (named_is port row named (at + 1) idxs f q (omega arith) none) below (is_same_place (place_in port row at) q) refl))
  | inr over ↦ (let zero : named - at ≡ 0 = omega arith in rw zero (past (named_is port row named (at + 1) idxs f q (omega arith) none) over (is_same_place (place_in port row at) q) refl))
]
  where
    here : IsNamedFrom port row named (at + 1) idxs f q → at < named → (b : Bool) → is_same_place (place_in port row at) q ≡ b
        → (if b then nat_lt at named else named_with port row named (at + 1) idxs f q) ≡ ((b || list_any (λ x. is_same_place x q) (map (place_in port row) (range_with_len (at + 1) (named - (at + 1))))) || f q)
    here rest below true e = less_true at named below
    here rest below false e = rest

    past : IsNamedFrom port row named (at + 1) idxs f q → named ≤ at → (b : Bool) → is_same_place (place_in port row at) q ≡ b → (if b then nat_lt at named else named_with port row named (at + 1) idxs f q) ≡ f q
    past rest over true e = not_less at named over ∙ (sym (none at) ∙ ap f (same_place-is (place_in port row at) q e))
      where
        not_less : (a b : ℕ) → b ≤ a → nat_lt a b ≡ false
        not_less a b h = grind (arith, nat_tests)
    past rest over false e = let zero : named - (at + 1) ≡ 0 = omega arith in rest ∙ rw zero refl

pub named_off : (port : PortId) (named at k : ℕ) (idxs : List ℕ) (f : Place → Bool) → named_with port Slots named at idxs f (place.Extra port k) ≡ f (place.Extra port k)
named_off port named at k [] f = refl
named_off port named at k (idx ∷ idxs) f = named_off port named (at + 1) k idxs f

pub named_from : (port : PortId) (row : Row) (named : ℕ) (idxs : List ℕ) (f : Place → Bool) (q : Place) → named ≤ length idxs → ((k : ℕ) → f (place_in port row k) ≡ false)
    → named_with port row named 0 idxs f q ≡ (list_any (λ x. is_same_place x q) (map (place_in port row) (range_with_len 0 named)) || f q)
named_from port row named idxs f q le none =
    let same : named - 0 ≡ named = omega arith in
    named_is port row named 0 idxs f q (omega arith) none ∙ ap (λ (n : ℕ). list_any (λ x. is_same_place x q) (map (place_in port row) (range_with_len 0 n)) || f q) same
