-- What is found is the only one of its kind: a port by its id, a lot by its number.
use Rattle.std.proofs.Common.{ℕ, ◌+◌, ◌<◌, ◌≤◌, ◌≡◌, Bool, true, false, cond, not, ◌==◌, List, [], ◌∷◌, ◌++◌, map, find, flat_map, count_by, Some, refl, ap, arith}
use Rattle.std.specs.List.{AllByRecursion as Each}
use Rattle.std.proofs.lemmas.List.Sums.{sum_by-cons}
use Rattle.std.proofs.lemmas.Bool.{and_parts}
use Rattle.vale_entry.specs.World.{Port, Lot}
use Rattle.vale_entry.specs.Delivery.{is_lease, lease_at, line_of}
use Rattle.vale_entry.specs.Laws.{Rise, id_of_port, AreSingle, bears_number}
use Rattle.vale_entry.proofs.ListLaws.{sum-flat_map}
use Rattle.vale_entry.proofs.Each.{each-weaker, each-find, each-unmap}
use Rattle.vale_entry.proofs.Rising.{rise-above}

-- the ids rise, so the port found is the only one of its id
pub above : (low : ℕ) (ports : List Port) (high : ℕ) → Rise low (map id_of_port ports) high → Each (λ (p : Port). low < p.id) ports
above low ports high r = each-unmap (λ (n : ℕ). low < n) id_of_port ports (rise-above low (map id_of_port ports) high r)

pub only-found : (test : Port → Bool) (low : ℕ) (ports : List Port) (high : ℕ) (port : Port) → Rise low (map id_of_port ports) high → find test ports ≡ Some port
    → Each (λ (p : Port). p.id ≡ port.id → p ≡ port) ports
only-found test low [] high port r e = tt
only-found test low (p ∷ ps) high port r e = by (test p) refl (λ f. only-found test p.id ps high port r.1 f)
  where
    by : (b : Bool) → test p ≡ b → (find test ps ≡ Some port → Each (λ (q : Port). q.id ≡ port.id → q ≡ port) ps) → Each (λ (q : Port). q.id ≡ port.id → q ≡ port) (p ∷ ps)
    by true t later =
        let is : p ≡ port = let f : cond (test p) (Some p) (find test ps) ≡ Some port = e in let g : Some p ≡ Some port = rw t at f in cc in (
          (λ same. is),
          each-weaker (λ (q : Port). p.id < q.id) (λ (q : Port). q.id ≡ port.id → q ≡ port)
              (λ q more same. absurd (let i : p.id ≡ port.id = ap (λ (x : Port). x.id) is in omega arith)) ps (above p.id ps high r.1),
        )
    by false t later =
        let found : find test ps ≡ Some port = let f : cond (test p) (Some p) (find test ps) ≡ Some port = e in rw t at f in
        let more : p.id < port.id = each-find (λ (q : Port). p.id < q.id) test ps port (above p.id ps high r.1) found in
        ((λ same. absurd (omega arith)), later found)

-- where as few as one element is counted, the one that is found is the only one
pub none-counted : {X : Type 0} (p : X → Bool) (xs : List X) → count_by p xs ≤ 0 → Each (λ x. p x ≡ false) xs
none-counted p [] few = tt
none-counted {X} p (x ∷ xs) few = by (p x) refl (none-counted p xs)
  where
    by : (b : Bool) → p x ≡ b → (count_by p xs ≤ 0 → Each (λ y. p y ≡ false) xs) → (p x ≡ false) × Each (λ y. p y ≡ false) xs
    by true t rest = absurd (let sum : count_by p (x ∷ xs) ≡ cond (p x) 1 0 + count_by p xs = sum_by-cons (λ y. cond (p y) 1 0) x xs in let one : cond {A = ℕ} (p x) 1 0 ≡ 1 = rw t refl in omega arith)
    by false t rest = (t, rest (let sum : count_by p (x ∷ xs) ≡ cond (p x) 1 0 + count_by p xs = sum_by-cons (λ y. cond (p y) 1 0) x xs in omega arith))

found-counted : {X : Type 0} (p q : X → Bool) → ((x : X) → q x ≡ true → p x ≡ true) → (xs : List X) (x : X) → find q xs ≡ Some x → 1 ≤ count_by p xs
found-counted p q implies [] x e = absurd cc
found-counted {X} p q implies (y ∷ ys) x e = by (q y) refl (found-counted p q implies ys x)
  where
    by : (b : Bool) → q y ≡ b → (find q ys ≡ Some x → 1 ≤ count_by p ys) → 1 ≤ count_by p (y ∷ ys)
    by true t rest = let sum : count_by p (y ∷ ys) ≡ cond (p y) 1 0 + count_by p ys = sum_by-cons (λ z. cond (p z) 1 0) y ys in let one : cond {A = ℕ} (p y) 1 0 ≡ 1 = rw (implies y t) refl in omega arith
    by false t rest =
        let found : find q ys ≡ Some x = let f : cond (q y) (Some y) (find q ys) ≡ Some x = e in rw t at f in
        let sum : count_by p (y ∷ ys) ≡ cond (p y) 1 0 + count_by p ys = sum_by-cons (λ z. cond (p z) 1 0) y ys in let more = rest found in omega arith

only-counted : {X : Type 0} (p q : X → Bool) → ((x : X) → q x ≡ true → p x ≡ true) → (xs : List X) (x : X) → count_by p xs ≤ 1 → find q xs ≡ Some x → Each (λ y. p y ≡ true → y ≡ x) xs
only-counted p q implies [] x few e = tt
only-counted {X} p q implies (y ∷ ys) x few e = by (q y) refl (only-counted p q implies ys x) (found-counted p q implies ys x)
  where
    sum : count_by p (y ∷ ys) ≡ cond (p y) 1 0 + count_by p ys
    sum = sum_by-cons (λ z. cond (p z) 1 0) y ys

    head : (b : Bool) → p y ≡ b → 1 ≤ count_by p ys → p y ≡ true → y ≡ x
    head true t some e = absurd (let s = sum in let one : cond {A = ℕ} (p y) 1 0 ≡ 1 = rw t refl in omega arith)
    head false t some e = absurd cc

    by : (b : Bool) → q y ≡ b → (count_by p ys ≤ 1 → find q ys ≡ Some x → Each (λ z. p z ≡ true → z ≡ x) ys) → (find q ys ≡ Some x → 1 ≤ count_by p ys) → Each (λ z. p z ≡ true → z ≡ x) (y ∷ ys)
    by true t rest some =
        let is : y ≡ x = let f : cond (q y) (Some y) (find q ys) ≡ Some x = e in let g : Some y ≡ Some x = rw t at f in cc in
        let s = sum in let one : cond {A = ℕ} (p y) 1 0 ≡ 1 = rw (implies y t) refl in
        let none : count_by p ys ≤ 0 = omega arith in
        ((λ _. is), each-weaker (λ z. p z ≡ false) (λ z. p z ≡ true → z ≡ x) (λ z no yes. absurd cc) ys (none-counted p ys none))
    by false t rest some =
        let found : find q ys ≡ Some x = let f : cond (q y) (Some y) (find q ys) ≡ Some x = e in rw t at f in
        let s = sum in
        let fewer : count_by p ys ≤ 1 = omega arith in
        (head (p y) refl (some found), rest fewer found)

each-left : {X : Type 0} (P : X → Type 0) (xs ys : List X) → Each P (xs ++ ys) → Each P xs × Each P ys
each-left P [] ys all = (tt, all)
each-left P (x ∷ xs) ys all = let rest = each-left P xs ys all.1 in ((all.0, rest.0), rest.1)

each-lines : (P : Lot → Type 0) (ports : List Port) → Each P (flat_map line_of ports) → Each (λ (port : Port). Each P port.line) ports
each-lines P [] all = tt
each-lines P (port ∷ ports) all = let parts = each-left P port.line (flat_map line_of ports) all in (parts.0, each-lines P ports parts.1)

-- the lease that is found is the only lot of its number
pub only-lots : (number : ℕ) (ports : List Port) (lot : Lot) → AreSingle ports → lease_at ports number ≡ Some lot
    → Each (λ (l : Lot). bears_number number l ≡ true → l ≡ lot) (flat_map line_of ports)
only-lots number ports lot single found =
    let few : count_by (bears_number number) (flat_map line_of ports) ≤ 1 = let s = single number in let c = sum-flat_map (λ (l : Lot). cond (bears_number number l) 1 0) line_of ports in omega arith in
    only-counted (bears_number number) (is_lease number) (λ l e. (and_parts (l.number == number) (not l.is_done) e).0) (flat_map line_of ports) lot few found

pub only-lot : (number : ℕ) (ports : List Port) (lot : Lot) → AreSingle ports → lease_at ports number ≡ Some lot
    → Each (λ (port : Port). Each (λ (l : Lot). bears_number number l ≡ true → l ≡ lot) port.line) ports
only-lot number ports lot single found = each-lines (λ (l : Lot). bears_number number l ≡ true → l ≡ lot) ports (only-lots number ports lot single found)
