-- What the passes of users have made, counted, and the users at their places.
use Rattle.std.proofs.Common.{ℕ, zero, suc, ◌+◌, ◌≡◌, List, [], ◌∷◌, ◌++◌, map, slice_get, slice_set, Some, refl, ap, subst, arith}
use Rattle.std.specs.Prelude.{flat_map}
use Rattle.nm_turn.specs.Numbered.{numbers}
use Rattle.vale_entry.proofs.Counting.{count_of}
use Rattle.vale_entry.specs.declared.entry.Entry.{Entry}
use Rattle.vale_fabric.specs.Fabrics.{Knowing}
use Rattle.vale_replay.proofs.Members.{among-cons}
use Rattle.vale_replay.specs.Replay.{times_among}
use Rattle.vale_replay.specs.Machine.{Machine}
use Rattle.vale_act.specs.declared.seat.Seat.{Seat}
use Rattle.vale_act.specs.Units.{AreUsersFrom, IsUserAt, knows_at, times_made}

pub made-cons : (n : ℕ) (v : Knowing) (passes : List Knowing) → times_made n (v ∷ passes) ≡ count_of n (numbers v.mine) + times_made n passes
made-cons n v passes = among-cons n (numbers v.mine) (map (λ (w : Knowing). numbers w.mine) passes)

pub made-append : (n : ℕ) (passes more : List Knowing) → times_made n (passes ++ more) ≡ times_made n passes + times_made n more
made-append n [] more = omega arith
made-append n (v ∷ passes) more =
    let rest = made-append n passes more in
    let one = made-cons n v passes in
    let two : times_made n (v ∷ (passes ++ more)) ≡ count_of n (numbers v.mine) + times_made n (passes ++ more) = made-cons n v (passes ++ more) in
    omega (arith, rest, one, two)

-- the passes of the users from this seat on
pub made-seats : (n : ℕ) (seat : Seat) (seats : List Seat) → times_made n (flat_map knows_at (seat ∷ seats)) ≡ times_made n (knows_at seat) + times_made n (flat_map knows_at seats)
made-seats n seat seats = made-append n (knows_at seat) (flat_map knows_at seats)

-- one seat changes
pub made-set : (n : ℕ) (seats : List Seat) (i : ℕ) (before after : Seat) → slice_get seats i ≡ Some before
    → times_made n (flat_map knows_at (slice_set seats i after)) + times_made n (knows_at before) ≡ times_made n (flat_map knows_at seats) + times_made n (knows_at after)
made-set n [] i before after here = absurd cc
made-set n (seat ∷ seats) zero before after here =
    let is : seat ≡ before = cc in
    let same : times_made n (knows_at seat) ≡ times_made n (knows_at before) = ap (λ (s : Seat). times_made n (knows_at s)) is in
    let one = made-seats n seat seats in
    let two = made-seats n after seats in
    omega (arith, same, one, two)
made-set n (seat ∷ seats) (suc i) before after here =
    let rest = made-set n seats i before after here in
    let one = made-seats n seat seats in
    let two = made-seats n seat (slice_set seats i after) in
    omega (arith, rest, one, two)

-- in the unit of one user
pub made-share : (n : ℕ) (main next : Knowing) (seats : List Seat) (i : ℕ) (before after : Seat) (lists : List (List ℕ)) → slice_get seats i ≡ Some before
    → times_made n (next ∷ knows_at after) ≡ times_made n (main ∷ knows_at before) + times_among n lists
    → times_made n (next ∷ flat_map knows_at (slice_set seats i after)) ≡ times_made n (main ∷ flat_map knows_at seats) + times_among n lists
made-share n main next seats i before after lists here made =
    let changed = made-set n seats i before after here in
    let one = made-cons n next (knows_at after) in
    let two = made-cons n main (knows_at before) in
    let three = made-cons n next (flat_map knows_at (slice_set seats i after)) in
    let four = made-cons n main (flat_map knows_at seats) in
    omega (arith, made, changed, one, two, three, four)

-- in a block
pub made-block : (n : ℕ) (main next : Knowing) (befores afters : List Seat) (lists : List (List ℕ)) → next.mine ≡ main.mine
    → times_made n (flat_map knows_at afters) ≡ times_made n (flat_map knows_at befores) + times_among n lists
    → times_made n (next ∷ flat_map knows_at afters) ≡ times_made n (main ∷ flat_map knows_at befores) + times_among n lists
made-block n main next befores afters lists mine made =
    let same : count_of n (numbers next.mine) ≡ count_of n (numbers main.mine) = ap (λ (l : List (ℕ × Entry)). count_of n (numbers l)) mine in
    let one = made-cons n next (flat_map knows_at afters) in
    let two = made-cons n main (flat_map knows_at befores) in
    omega (arith, made, same, one, two)

-- a user that did this
pub made-more : (n : ℕ) (before after : Seat) (befores afters : List Seat) (ns : List ℕ) (lists : List (List ℕ))
    → times_made n (knows_at after) ≡ times_made n (knows_at before) + times_among n (ns ∷ [])
    → times_made n (flat_map knows_at afters) ≡ times_made n (flat_map knows_at befores) + times_among n lists
    → times_made n (flat_map knows_at (after ∷ afters)) ≡ times_made n (flat_map knows_at (before ∷ befores)) + times_among n (ns ∷ lists)
made-more n before after befores afters ns lists here rest =
    let one = made-seats n before befores in
    let two = made-seats n after afters in
    let three = among-cons n ns lists in
    let four : times_among n (ns ∷ []) ≡ count_of n ns + 0 = among-cons n ns [] in
    omega (arith, here, rest, one, two, three, four)

-- and one that did nothing
pub made-idle : (n : ℕ) (before after : Seat) (befores afters : List Seat) (ns : List ℕ) (lists : List (List ℕ)) → ns ≡ []
    → times_made n (knows_at after) ≡ times_made n (knows_at before) + times_among n (ns ∷ [])
    → times_made n (flat_map knows_at afters) ≡ times_made n (flat_map knows_at befores) + times_among n lists
    → times_made n (flat_map knows_at (after ∷ afters)) ≡ times_made n (flat_map knows_at (before ∷ befores)) + times_among n lists
made-idle n before after befores afters ns lists none here rest =
    let one = made-seats n before befores in
    let two = made-seats n after afters in
    let three : times_among n (ns ∷ []) ≡ 0 = ap (λ (ms : List ℕ). times_among n (ms ∷ [])) none in
    omega (arith, here, rest, one, two, three)

-- ---- the users at their places

pub record UserIn (pool number : ℕ) (seat : Seat) (users : List Machine) (i : ℕ) : Type 0 where
  pub user : Machine
  pub here : slice_get users i ≡ Some user
  pub at : IsUserAt pool number seat user

-- a list begins with a number
at-next : (pool number : ℕ) (seat : Seat) (users : List Machine) (user : Machine) (i : ℕ) → UserIn pool (number + 1 + i) seat users i → UserIn pool (number + suc i) seat (user ∷ users) (suc i)
at-next pool number seat users user i found =
    let same : number + 1 + i ≡ number + suc i = omega arith in
    record { user = found.user; here = found.here; at = subst (λ (k : ℕ). IsUserAt pool k seat found.user) same found.at }

pub user-in : (pool number : ℕ) (seats : List Seat) (users : List Machine) (i : ℕ) (seat : Seat) → AreUsersFrom pool number seats users → slice_get seats i ≡ Some seat → UserIn pool (number + i) seat users i
user-in pool number [] [] i seat are here = absurd cc
user-in pool number [] (user ∷ users) i seat are here = absurd are
user-in pool number (first ∷ seats) [] i seat are here = absurd are
user-in pool number (first ∷ seats) (user ∷ users) zero seat are here =
    let is : first ≡ seat = cc in
    let same : number ≡ number + 0 = omega arith in
    record { user = user; here = refl; at = subst (λ (k : ℕ). IsUserAt pool k seat user) same (subst (λ (s : Seat). IsUserAt pool number s user) is are.0) }
user-in pool number (first ∷ seats) (user ∷ users) (suc i) seat are here =
    at-next pool number seat users user i (user-in pool (number + 1) seats users i seat are.1 here)

pub users-set : (pool number : ℕ) (seats : List Seat) (users : List Machine) (i : ℕ) (seat : Seat) (user : Machine) → AreUsersFrom pool number seats users → IsUserAt pool (number + i) seat user
    → AreUsersFrom pool number (slice_set seats i seat) (slice_set users i user)
users-set pool number [] [] i seat user are at = tt
users-set pool number [] (other ∷ users) i seat user are at = absurd are
users-set pool number (first ∷ seats) [] i seat user are at = absurd are
users-set pool number (first ∷ seats) (other ∷ users) zero seat user are at =
    let same : number + 0 ≡ number = omega arith in
    (subst (λ (k : ℕ). IsUserAt pool k seat user) same at, are.1)
users-set pool number (first ∷ seats) (other ∷ users) (suc i) seat user are at =
    let same : number + suc i ≡ number + 1 + i = omega arith in
    (are.0, users-set pool (number + 1) seats users i seat user are.1 (subst (λ (k : ℕ). IsUserAt pool k seat user) same at))
