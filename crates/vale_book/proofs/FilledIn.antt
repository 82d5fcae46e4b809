-- A lease that is filled, by what is its session's own, is filled for the port that waits for it.
use Rattle.std.proofs.Common.{ℕ, zero, suc, ◌-◌, ◌≡◌, Bool, true, false, cond, not, ◌==◌, List, [], ◌∷◌, ◌++◌, map, filter, find, flat_map, Option, Some, None, is_some, refl, sym, ◌∙◌, ap, subst, slice_get}
use Rattle.std.specs.Prelude.{option_map}
use Rattle.std.specs.List.{AllByRecursion as Each, zip}
use Rattle.std.specs.Option.{option_or}
use Rattle.std.proofs.lemmas.Bool.{and_parts, eqb-true}
use Rattle.std.proofs.lemmas.List.Folds.{find-append}
use Rattle.std.proofs.lemmas.Map.Entries.{option_filter}
use Rattle.vale_entry.specs.declared.entry.Ask.{Ask}
use Rattle.vale_entry.specs.declared.entry.Ask.TheVariants.{Enter, Open, Send, Grant, Done, Sync, Reset, Shut, Finish, Leave, Put, PutKept, Get, Watch, Stat}
use Rattle.vale_entry.specs.declared.entry.Entry.{Entry}
use Rattle.vale_entry.specs.World.{Lot, is_owed_by}
use Rattle.vale_entry.specs.Delivery.{is_lease, lease_at, line_of}
use Rattle.vale_entry.specs.Laws.{bears_number}
use Rattle.vale_entry.specs.Legal.{IsEnabled, IsLegal}
use Rattle.vale_entry.proofs.Each.{each-weaker, each-find}
use Rattle.vale_entry.proofs.ListLaws.{place-of}
use Rattle.vale_entry.proofs.HistoryLaws.{history-stands}
use Rattle.vale_own.specs.Own.{HeldLot, leases_at, is_lease_of}
use Rattle.vale_own.proofs.Finds.{find-kept}
use Rattle.vale_own.proofs.Sides.{each-zip}
use Rattle.vale_own.proofs.Single.{only-lots}
use Rattle.vale_line.specs.Leased.{Leased}
use Rattle.vale_port.specs.Ports.{frames_of_seat}
use Rattle.vale_port.specs.Seat.{LotSeat, lease_among}
use Rattle.vale_steps.specs.Granting.{lease_id}
use Rattle.vale_steps.specs.Offering.{IsFilledIn}
use Rattle.vale_own.specs.Recorded.{Recorded, standing}
use Rattle.vale_book.specs.Leases.{WasGranted, IsFilledBy, grants_to, is_grant_to, is_held_as}
use Rattle.vale_book.proofs.Placed.{HasPlaced, IsPlaced, met-there, lots-placed}

-- ---- lists side by side

each-at : {X : Type 0} (P : X → Type 0) (xs : List X) (k : ℕ) (x : X) → Each P xs → slice_get xs k ≡ Some x → P x
each-at P [] k x all e = absurd cc
each-at P (y ∷ ys) zero x all e = let same : y ≡ x = cc in subst P same all.0
each-at P (y ∷ ys) (suc k) x all e = each-at P ys k x all.1 e

each-parts : {X : Type 0} (P : X → Type 0) (xs ys : List X) → Each P (xs ++ ys) → Each P xs × Each P ys
each-parts P [] ys all = (tt, all)
each-parts P (x ∷ xs) ys all = let rest = each-parts P xs ys all.1 in ((all.0, rest.0), rest.1)

each-flat : {X Y : Type 0} (P : Y → Type 0) (f : X → List Y) (xs : List X) (k : ℕ) (x : X) → Each P (flat_map f xs) → slice_get xs k ≡ Some x → Each P (f x)
each-flat P f [] k x all e = absurd cc
each-flat P f (y ∷ ys) zero x all e = let same : y ≡ x = cc in subst (λ z. Each P (f z)) same (each-parts P (f y) (flat_map f ys) all).0
each-flat P f (y ∷ ys) (suc k) x all e = each-flat P f ys k x (each-parts P (f y) (flat_map f ys) all).1 e

zip-get : {X Y : Type 0} (xs : List X) (ys : List Y) (k : ℕ) (x : X) (y : Y) → slice_get (zip xs ys) k ≡ Some (x, y) → (slice_get xs k ≡ Some x) × (slice_get ys k ≡ Some y)
zip-get [] ys k x y e = absurd cc
zip-get (a ∷ more) [] k x y e = absurd cc
zip-get {X} {Y} (a ∷ more) (b ∷ rest) zero x y e =
    let same : (a, b) ≡ (x, y) = cc in
    (ap (λ (z : X × Y). let some : Option X = Some z.0 in some) same, ap (λ (z : X × Y). let some : Option Y = Some z.1 in some) same)
zip-get (a ∷ more) (b ∷ rest) (suc k) x y e = zip-get more rest k x y e

-- the place at which something is found
find-flat : {X Y : Type 0} (p : Y → Bool) (f : X → List Y) (xs : List X) (y : Y) → find p (flat_map f xs) ≡ Some y → (k : ℕ) × (x : X) × (slice_get xs k ≡ Some x) × (find p (f x) ≡ Some y)
find-flat p f [] y e = absurd cc
find-flat {X} {Y} p f (x ∷ xs) y e = by (find p (f x)) refl (find-flat p f xs y) (sym (find-append p (f x) (flat_map f xs)) ∙ e)
  where
    by : (found : Option Y) → find p (f x) ≡ found → (find p (flat_map f xs) ≡ Some y → (k : ℕ) × (z : X) × (slice_get xs k ≡ Some z) × (find p (f z) ≡ Some y))
        → option_or found (find p (flat_map f xs)) ≡ Some y → (k : ℕ) × (z : X) × (slice_get (x ∷ xs) k ≡ Some z) × (find p (f z) ≡ Some y)
    by None here rest e = let r = rest e in (suc r.0, r.1, r.2, r.3)
    by (Some z) here rest e = (zero, x, refl, here ∙ e)

kept-found : {X : Type 0} (p : X → Bool) (found : Option X) (x : X) → option_filter p found ≡ Some x → found ≡ Some x
kept-found p None x e = absurd cc
kept-found {X} p (Some y) x e = by (p y) e
  where
    by : (b : Bool) → cond b (Some y) None ≡ Some x → Some y ≡ Some x
    by true e = e
    by false e = absurd cc

-- a lot among those of one line, each with its buffers
among : (n : ℕ) (line : List Lot) (lists : List (List ℕ)) (held : HeldLot) → find (is_held_as n) (zip line lists) ≡ Some held → lease_among n line lists ≡ Some (record { lot = held.0; buffers = held.1 })
among n [] lists held e = absurd cc
among n (lot ∷ line) [] held e = absurd cc
among n (lot ∷ line) (list ∷ lists) held e = by (is_lease n lot) (among n line lists held) e
  where
    by : (b : Bool) → (find (is_held_as n) (zip line lists) ≡ Some held → lease_among n line lists ≡ Some (record { lot = held.0; buffers = held.1 }))
        → cond b (Some (lot, list)) (find (is_held_as n) (zip line lists)) ≡ Some held
        → cond b (Some (record { lot = lot; buffers = list })) (lease_among n line lists) ≡ Some (record { lot = held.0; buffers = held.1 })
    by true rest e = let same : (lot, list) ≡ held = cc in ap (λ (h : HeldLot). let some : Option LotSeat = Some (record { lot = h.0; buffers = h.1 }) in some) same
    by false rest e = rest e

-- only one lot bears the number, so it is found among all in its line
in-line : (n session : ℕ) (line : List Lot) (lists : List (List ℕ)) (held : HeldLot) (lot : Lot) → Each (λ (l : Lot). bears_number n l ≡ true → l ≡ lot) line
    → find (is_held_as n) (filter (is_lease_of session) (zip line lists)) ≡ Some held → find (is_held_as n) (zip line lists) ≡ Some held
in-line n session line lists held lot all e =
    let zs = zip line lists in
    let each : Each (λ (z : HeldLot). bears_number n z.0 ≡ true → z.0 ≡ lot) zs = each-zip (λ (l : Lot). bears_number n l ≡ true → l ≡ lot) line lists all in
    let bears : (z : HeldLot) → is_held_as n z ≡ true → bears_number n z.0 ≡ true = λ z is. (and_parts (z.0.number == n) (not z.0.is_done) is).0 in
    let kept = find-kept (is_lease_of session) (is_held_as n) zs (λ y found.
    let here : y.0 ≡ lot = each-find (λ (z : HeldLot). bears_number n z.0 ≡ true → z.0 ≡ lot) (is_held_as n) zs y each found (bears y (place-of (is_held_as n) zs y found).passes) in
    each-weaker (λ (z : HeldLot). bears_number n z.0 ≡ true → z.0 ≡ lot) (λ (z : HeldLot). is_held_as n z ≡ true → is_lease_of session z ≡ is_lease_of session y)
    (λ z one is. ap (is_owed_by session) (one (bears z is) ∙ sym here)) zs each) in
    kept-found (is_lease_of session) (find (is_held_as n) zs) held (sym kept ∙ e)

-- ---- an entry grants to one port

granted-one : (ask : Ask) (i j : ℕ) → grants_to i ask ≡ true → grants_to j ask ≡ true → i ≡ j
granted-one (Grant origin to) i j a b = sym (eqb-true to.0 i a) ∙ eqb-true to.0 j b
granted-one (Enter user) i j a b = absurd cc
granted-one (Open session name tx rx extra) i j a b = absurd cc
granted-one (Send port frames) i j a b = absurd cc
granted-one (Done lease) i j a b = absurd cc
granted-one (Sync port back) i j a b = absurd cc
granted-one (Reset port side fault) i j a b = absurd cc
granted-one (Shut port) i j a b = absurd cc
granted-one (Finish port bufs chain) i j a b = absurd cc
granted-one (Leave session) i j a b = absurd cc
granted-one (Put port offered) i j a b = absurd cc
granted-one (PutKept port offered) i j a b = absurd cc
granted-one (Get port back) i j a b = absurd cc
granted-one (Watch monitor target sides) i j a b = absurd cc
granted-one (Stat port) i j a b = absurd cc

same-grant : (h : List Entry) (n i j : ℕ) → WasGranted h n i → WasGranted h n j → i ≡ j
same-grant h n i j a b =
    let x = met-there (is_grant_to i) (slice_get h (n - 1)) a in
    let y = met-there (is_grant_to j) (slice_get h (n - 1)) b in
    let same : x.0 ≡ y.0 = let e = sym x.1 ∙ y.1 in cc in
    granted-one x.0.ask i j x.2 (subst (λ (e : Entry). is_grant_to j e ≡ true) (sym same) y.2)

-- ---- at the book

found-some : {X : Type 0} (found : Option X) → is_some found ≡ true → (x : X) × (found ≡ Some x)
found-some None e = absurd cc
found-some (Some x) e = (x, refl)

pub filled-in : (b : Recorded) (session : ℕ) (lease : Leased) → IsLegal b.pool b.entries → IsEnabled (standing b) (Done (lease_id lease.id)) → IsFilledBy b session lease → IsFilledIn (standing b) lease
filled-in b session lease legal enabled by =
    let s = standing b in
    let n = lease.id in
    let k = history-stands b.pool b.entries legal in
    let one = found-some (lease_at s.world.ports n) enabled in
    let at = find-flat (is_held_as n) (leases_at session) (zip s.world.ports s.holdings.ports) by.held by.own in
    let port = at.1.0 in
    let held = at.1.1 in
    let here = zip-get s.world.ports s.holdings.ports at.0 port held at.2 in
    let line = each-flat (λ (l : Lot). bears_number n l ≡ true → l ≡ one.0) line_of s.world.ports at.0 port (only-lots n s.world.ports one.0 k.single one.1) here.0 in
    let found = in-line n session port.line held.lots by.held one.0 line at.3 in
    let placed = each-zip (IsPlaced b.entries port.id) port.line held.lots (each-at (HasPlaced b.entries) s.world.ports at.0 port (lots-placed b.pool b.entries legal) here.0) in
    let passes = and_parts (by.held.0.number == n) (not by.held.0.is_done) (place-of (is_held_as n) (zip port.line held.lots) by.held found).passes in
    let was = each-find (λ (z : HeldLot). IsPlaced b.entries port.id z.0) (is_held_as n) (zip port.line held.lots) by.held placed found (undone by.held.0.is_done passes.1) in
    let number : by.held.0.number ≡ n = eqb-true by.held.0.number n passes.0 in
    record {
      seat = record { port = port; held = held };
      at = record { place = at.0; port_here = here.0; held_here = here.1 };
      to = same-grant b.entries n lease.to port.id by.granted (subst (λ (m : ℕ). WasGranted b.entries m port.id) number was);
      filled = ap (option_map frames_of_seat) (among n port.line held.lots by.held found) ∙ ap (λ x. Some x) by.filled;
    }
  where
    undone : (b : Bool) → not b ≡ true → b ≡ false
    undone true e = absurd cc
    undone false e = refl

-- what is found by what it is mapped to
pub find-mapped : {X Y : Type 0} (f : X → Y) (p : Y → Bool) (xs : List X) (x : X) → find (λ (z : X). p (f z)) xs ≡ Some x → is_some (find p (map f xs)) ≡ true
find-mapped f p [] x e = absurd cc
find-mapped {X} {Y} f p (z ∷ zs) x e = by (p (f z)) (find-mapped f p zs x) e
  where
    by : (b : Bool) → (find (λ (y : X). p (f y)) zs ≡ Some x → is_some (find p (map f zs)) ≡ true) → cond b (Some z) (find (λ (y : X). p (f y)) zs) ≡ Some x
        → is_some (cond b (Some (f z)) (find p (map f zs))) ≡ true
    by true rest e = refl
    by false rest e = rest e
