-- What a pass makes, in numbers, and a user's turns with more of them.
use Rattle.std.proofs.Common.{ℕ, ◌+◌, ◌<◌, ◌≤◌, ◌≡◌, ◌⊎◌, inl, inr, List, [], ◌∷◌, ◌++◌, length, take, refl, sym, ◌∙◌, ap, subst, arith, le_refl, append_assoc}
use Rattle.std.proofs.lemmas.List.{take-append-le, take_all}
use mathlib.Core.List.{IsPrefix}
use Rattle.nm_turn.specs.Numbered.{numbered, Stands, IsPicked, numbers}
use Rattle.nm_turn.specs.Passes.{Told}
use Rattle.nm_turn.proofs.Prefixes.{prefix_length, prefix_trans}
use Rattle.vale_entry.specs.declared.entry.Entry.{Entry}
use Rattle.vale_entry.specs.Laws.{Rise}
use Rattle.vale_fabric.specs.Roots.{root_of}
use Rattle.vale_fabric.specs.Fabrics.{Knowing}
use Rattle.vale_replay.specs.Machine.{Machine}
use Rattle.vale_replay.specs.Replay.{TakesTurns, ReplaysUser, last_behind, last_of}
use Rattle.vale_replay.proofs.Numbers.{rise-within, rise-back, rise-wider, rise-last}
use Rattle.vale_replay.proofs.Turns.{pieces-one, reads-to-last}
use Rattle.vale_player.specs.Users.{Works}

-- ---- rising numbers

rise-then : (low : ℕ) (ns : List ℕ) (between : ℕ) (ms : List ℕ) (top : ℕ) → Rise low ns between → Rise between ms top → Rise low (ns ++ ms) top
rise-then low [] between ms top one two = rise-wider low between ms top one two
rise-then low (n ∷ ns) between ms top one two = (one.0, rise-then n ns between ms top one.1 two)

last-then : (low : ℕ) (ns : List ℕ) (n : ℕ) (ms : List ℕ) → last_behind low (ns ++ n ∷ ms) ≡ last_behind n ms
last-then low [] n ms = refl
last-then low (m ∷ ns) n ms = last-then m ns n ms

picked-rise : (low n top : ℕ) (es : List Entry) (xs : List (ℕ × Entry)) → low < n → n + length es ≡ top + 1 → IsPicked xs (numbered n es) → Rise low (numbers xs) top
picked-rise low n top es [] up count p = omega (arith, up, count)
picked-rise low n top [] (x ∷ xs) up count p = absurd p
picked-rise low n top (e ∷ es) (x ∷ xs) up count p =
    by p (picked-rise n (n + 1) top es xs (omega arith) (omega (arith, count))) (picked-rise low (n + 1) top es (x ∷ xs) (omega (arith, up)) (omega (arith, count)))
  where
    by : ((x ≡ (n, e)) × IsPicked xs (numbered (n + 1) es)) ⊎ IsPicked (x ∷ xs) (numbered (n + 1) es)
        → (IsPicked xs (numbered (n + 1) es) → Rise n (numbers xs) top) → (IsPicked (x ∷ xs) (numbered (n + 1) es) → Rise low (numbers (x ∷ xs)) top)
        → Rise low (numbers (x ∷ xs)) top
    by (inl here) first rest =
        let number : n ≡ x.0 = ap (λ (m : ℕ × Entry). m.0) (sym here.0) in
        subst (λ (k : ℕ). (low < k) × Rise k (numbers xs) top) number (up, first here.1)
    by (inr later) first rest = rest later

pub numbers-then : (xs ys : List (ℕ × Entry)) → numbers (xs ++ ys) ≡ numbers xs ++ numbers ys
numbers-then [] ys = refl
numbers-then (x ∷ xs) ys = ap (λ (ns : List ℕ). x.0 ∷ ns) (numbers-then xs ys)

-- what a call added rises, past all that was seen before
pub added-rise : (v w : Knowing) (added : List (ℕ × Entry)) → Told root_of v w w.seen added → Rise (length v.seen) (numbers added) (length w.seen)
added-rise v w added told = by added told mine
  where
    mine : Rise 0 (numbers added) (length w.seen)
    mine =
        let all : Rise 0 (numbers w.mine) (length w.seen) = picked-rise 0 1 (length w.seen) w.seen w.mine (omega arith) (omega arith) told.picked in
        rise-back 0 (numbers v.mine) (numbers added) (length w.seen)
        (subst (λ (ns : List ℕ). Rise 0 ns (length w.seen)) (ap (λ (l : List (ℕ × Entry)). numbers l) told.mine ∙ numbers-then v.mine added) all)

    by : (xs : List (ℕ × Entry)) → Told root_of v w w.seen xs → Rise 0 (numbers xs) (length w.seen) → Rise (length v.seen) (numbers xs) (length w.seen)
    by [] t r = prefix_length v.seen w.seen t.begins
    by (x ∷ xs) t r = ((t.stand 0 x.0 x.1 refl).0, r.1)

-- each of such numbers is above the first bound, and at most the last of them
pub stands-low : (low : ℕ) (xs : List (ℕ × Entry)) (top k : ℕ) → Rise low (numbers xs) top → Stands k xs → low < k
stands-low low [] top k r st = absurd st
stands-low low (x ∷ xs) top k r (inl e) = let up = r.0 in omega (arith, up, e)
stands-low low (x ∷ xs) top k r (inr st) = let up = r.0 in let rest = stands-low x.0 xs top k r.1 st in omega (arith, up, rest)

pub stands-last : (low : ℕ) (xs : List (ℕ × Entry)) (top k : ℕ) → Rise low (numbers xs) top → Stands k xs → k ≤ last_behind low (numbers xs)
stands-last low [] top k r st = absurd st
stands-last low (x ∷ xs) top k r (inl e) = let last = rise-last x.0 (numbers xs) top r.1 in omega (arith, last, e)
stands-last low (x ∷ xs) top k r (inr st) = stands-last x.0 xs top k r.1 st

-- ---- turns

pub begins-cut : (h k : List Entry) → IsPrefix h k → take (length h) k ≡ h
begins-cut h k begins =
    ap (take (length h)) (sym begins.1) ∙ (take-append-le (length h) h begins.0 (le_refl (length h)) ∙ take_all (length h) h (le_refl (length h)))

pub replays-of : {pool : ℕ} {began knows : Knowing} {first after : Machine} (works : Works pool began knows first after) → ReplaysUser pool knows.seen first (numbers works.added) after
replays-of {pool} {began} {knows} {first} {after} works =
    record { rise = rise-wider 0 (length began.seen) (numbers works.added) (length knows.seen) (omega arith) works.rise; turns = works.turns }

pub last-within : {pool : ℕ} {began knows : Knowing} {first after : Machine} (works : Works pool began knows first after) → last_of (numbers works.added) ≤ length knows.seen
last-within {pool} {began} {knows} {first} {after} works = rise-within 0 (numbers works.added) (length knows.seen) (replays-of works).rise

-- a user's turns are those of every longer history
pub longer-replays : (pool : ℕ) (h k : List Entry) (before : Machine) (ns : List ℕ) (after : Machine) → IsPrefix h k → ReplaysUser pool h before ns after → ReplaysUser pool k before ns after
longer-replays pool h k before ns after begins r =
    (reads-to-last pool k (length h) before ns after (rise-within 0 ns (length h) r.rise)).1 (subst (λ (es : List Entry). ReplaysUser pool es before ns after) (sym (begins-cut h k begins)) r)

-- with those of one call more
pub record WorksOn (pool : ℕ) (began w : Knowing) (first after : Machine) (all : List (ℕ × Entry)) : Type 0 where
  pub works : Works pool began w first after
  pub added_is : works.added ≡ all

pub works-then : {pool : ℕ} {began v : Knowing} {first between : Machine} (w : Knowing) (added : List (ℕ × Entry)) (after : Machine) (works : Works pool began v first between) → Told root_of v w w.seen added
    → TakesTurns pool w.seen between (numbers added) after → WorksOn pool began w first after (works.added ++ added)
works-then {pool} {began} {v} {first} {between} w added after works told turns =
    let ns = numbers works.added in
    let ms = numbers added in
    let both : numbers (works.added ++ added) ≡ ns ++ ms = numbers-then works.added added in
    let rise = rise-then (length began.seen) ns (length v.seen) ms (length w.seen) works.rise (added-rise v w added told) in
    let all : Rise 0 (ns ++ ms) (length w.seen) = rise-wider 0 (length began.seen) (ns ++ ms) (length w.seen) (omega arith) rise in
    let front = longer-replays pool v.seen w.seen first ns between told.begins (replays-of works) in
    let joined = (pieces-one pool w.seen first ns ms after all).1 (record { between = between; front = front; back = record { rise = rise-back 0 ns ms (length w.seen) all; turns = turns } }) in
    record {
      works = record {
        added = works.added ++ added;
        mine = told.mine ∙ (ap (λ (l : List (ℕ × Entry)). l ++ added) works.mine ∙ append_assoc began.mine works.added added);
        begins = prefix_trans began.seen v.seen w.seen works.begins told.begins;
        part = told.part ∙ works.part;
        rise = subst (λ (l : List ℕ). Rise (length began.seen) l (length w.seen)) (sym both) rise;
        turns = subst (λ (l : List ℕ). TakesTurns pool w.seen first l after) (sym both) joined.turns;
      };
      added_is = refl;
    }

-- the last number behind such a call
pub last-added : (xs : List (ℕ × Entry)) (number : ℕ) (e : Entry) (ys : List (ℕ × Entry)) → last_of (numbers (xs ++ (number, e) ∷ ys)) ≡ last_behind number (numbers ys)
last-added xs number e ys = ap last_of (numbers-then xs ((number, e) ∷ ys)) ∙ last-then 0 (numbers xs) number (numbers ys)
