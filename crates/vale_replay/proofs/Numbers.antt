-- Rising numbers: their last one, and that a range is the only rising list of its numbers.
use Rattle.std.proofs.Common.{zero, subst, Bool, true, false, cond, ℕ, suc, ◌+◌, ◌-◌, ◌<◌, ◌≤◌, ◌≡◌, ◌⊎◌, inl, inr, List, [], ◌∷◌, ◌++◌, refl, sym, ◌∙◌, ap, arith}
use Rattle.std.specs.Prelude.{◌==◌, ◌&&◌, nat_lt, nat_le}
use Rattle.std.specs.List.{range_with_len}
use Rattle.std.proofs.lemmas.Bool.{eq-eqb, ne_eqb, cases_lt, lt-ltb, le-ltb, le-leb, lt-leb}
use Rattle.vale_entry.specs.Laws.{Rise}
use Rattle.vale_entry.proofs.Counting.{count_of, count_of-cons, count_of-append}
use Rattle.vale_entry.proofs.Rising.{rise-bounds}
use Rattle.vale_replay.specs.Replay.{last_behind, AreSplit}

pub rise-last : (low : ℕ) (ns : List ℕ) (high : ℕ) → Rise low ns high → low ≤ last_behind low ns
rise-last low [] high r = omega arith
rise-last low (n ∷ ns) high r = let a = r.0 in let b = rise-last n ns high r.1 in omega (arith, a, b)

pub rise-within : (low : ℕ) (ns : List ℕ) (high : ℕ) → Rise low ns high → last_behind low ns ≤ high
rise-within low [] high r = r
rise-within low (n ∷ ns) high r = rise-within n ns high r.1

pub rise-cut : (low : ℕ) (ns : List ℕ) (high other : ℕ) → Rise low ns high
    → last_behind low ns ≤ other → Rise low ns other
rise-cut low [] high other r within = within
rise-cut low (n ∷ ns) high other r within = (r.0, rise-cut n ns high other r.1 within)

pub rise-wider : (less low : ℕ) (ns : List ℕ) (high : ℕ) → less ≤ low → Rise low ns high
    → Rise less ns high
rise-wider less low [] high down r = let up : low ≤ high = r in omega (arith, down, up)
rise-wider less low (n ∷ ns) high down r = let a = r.0 in (omega (arith, down, a), r.1)

pub rise-front : (low : ℕ) (ns ms : List ℕ) (high : ℕ) → Rise low (ns ++ ms) high → Rise low ns high
rise-front low [] ms high r = rise-bounds low ms high r
rise-front low (n ∷ ns) ms high r = (r.0, rise-front n ns ms high r.1)

pub rise-back : (low : ℕ) (ns ms : List ℕ) (high : ℕ) → Rise low (ns ++ ms) high → Rise low ms high
rise-back low [] ms high r = r
rise-back low (n ∷ ns) ms high r = let a = r.0 in rise-wider low n ms high (omega (arith, a)) (rise-back n ns ms high r.1)

-- no number of a rising list is at or below the first bound
pub rise-above : (low : ℕ) (ns : List ℕ) (high b : ℕ) → Rise low ns high → b ≤ low
    → count_of b ns ≡ 0
rise-above low [] high b r below = refl
rise-above low (n ∷ ns) high b r below =
    let up = r.0 in
    let miss : (n == b) ≡ false = ne_eqb n b (λ e. omega (arith, up, below, e)) in
    let rest = rise-above n ns high b r.1 (omega (arith, up, below)) in
    rw (count_of-cons b n ns, miss) (omega (arith, rest))

-- the numbers above one up to another, each once
record AreThese (low last : ℕ) (ns : List ℕ) : Type 0 where
  within : (b : ℕ) → low < b → b ≤ last → count_of b ns ≡ 1
  below : (b : ℕ) → b ≤ low → count_of b ns ≡ 0
  above : (b : ℕ) → last < b → count_of b ns ≡ 0

these-first : (low last n : ℕ) (ns : List ℕ) (high : ℕ) → Rise low (n ∷ ns) high
    → AreThese low last (n ∷ ns) → (n ≡ low + 1) × (n ≤ last)
these-first low last n ns high r these = by_last (cases_lt last n)
  where
    hit : (n == n) ≡ true
    hit = eq-eqb n n refl

    by_first : n ≤ last → (low + 1 < n) ⊎ (n ≤ low + 1) → (n ≡ low + 1) × (n ≤ last)
    by_first within (inl later) =
        let one = these.within (low + 1) (omega arith) (omega (arith, later, within)) in
        let none = rise-above (low + 1) (n ∷ ns) high (low + 1) (later, r.1) (omega arith) in
        absurd (omega (arith, one, none))
    by_first within (inr here) = let up = r.0 in (omega (arith, here, up), within)

    by_last : (last < n) ⊎ (n ≤ last) → (n ≡ low + 1) × (n ≤ last)
    by_last (inl past) =
        let none = these.above n past in
        let front = count_of-cons n n ns in
        let one : count_of n (n ∷ ns) ≡ 1 + count_of n ns = front ∙ ap (λ (b : Bool). cond b 1 0 + count_of n ns) hit in
        absurd (omega (arith, none, one))
    by_last (inr within) = by_first within (cases_lt (low + 1) n)

these-rest : (low last n : ℕ) (ns : List ℕ) (high : ℕ) → Rise low (n ∷ ns) high → n ≡ low + 1
    → AreThese low last (n ∷ ns) → AreThese n last ns
these-rest low last n ns high r first these = record {
  within = λ b up down.
      let miss : (n == b) ≡ false = ne_eqb n b (λ e. omega (arith, up, e)) in
      let all = these.within b (omega (arith, up, first)) down in
      let front : count_of b (n ∷ ns) ≡ 0 + count_of b ns = count_of-cons b n ns ∙ ap (λ (x : Bool). cond x 1 0 + count_of b ns) miss in
      omega (arith, all, front);
  below = λ b down. rise-above n ns high b r.1 down;
  above = λ b up.
      let all = these.above b up in
      let front = count_of-cons b n ns in
      omega (arith, all, front);
}

-- a range is the only rising list of its numbers
these-range : (low last : ℕ) (ns : List ℕ) (high : ℕ) → Rise low ns high → AreThese low last ns
    → ns ≡ range_with_len (low + 1) (last - low)
these-range low last [] high r these = by_last (cases_lt low last)
  where
    by_last : (low < last) ⊎ (last ≤ low) → [] ≡ range_with_len (low + 1) (last - low)
    by_last (inl more) = let one = these.within (low + 1) (omega arith) (omega (arith, more)) in absurd cc
    by_last (inr none) = let empty : 0 ≡ last - low = omega (arith, none) in ap (range_with_len (low + 1)) empty
these-range low last (n ∷ ns) high r these =
    let first = these-first low last n ns high r these in
    let is : n ≡ low + 1 = first.0 in
    let in' = first.1 in
    let rest = these-range n last ns high r.1 (these-rest low last n ns high r is these) in
    let count : suc (last - n) ≡ last - low = omega (arith, is, in') in
    let next : n + 1 ≡ low + 1 + 1 = omega (arith, is) in
    ap (λ (m : ℕ). m ∷ ns) is ∙ ap (λ (ms : List ℕ). (low + 1) ∷ ms) (rest ∙ ap (λ (m : ℕ). range_with_len m (last - n)) next) ∙ ap (range_with_len (low + 1)) count

-- so it is the list of a unit's only user
pub split-one : (first last : ℕ) (ns : List ℕ) (high : ℕ) → first ≤ high → Rise 0 ns high
    → AreSplit first last (ns ∷ []) → ns ≡ range_with_len (first + 1) (last - first)
split-one first last ns high up r split = these-range first last ns high (from-first ns r these.below) these
  where
    alone : (b : ℕ) → count_of b (ns ++ []) ≡ count_of b ns
    alone b = let all = count_of-append b ns [] in omega (arith, all)

    by_first : (b : ℕ) → last < b → (first < b) ⊎ (b ≤ first) → count_of b ns ≡ 0
    by_first b past (inl more) =
        let one : nat_lt first b ≡ true = lt-ltb first b more in
        let none : nat_le b last ≡ false = lt-leb b last past in
        sym (alone b) ∙ (split b ∙ ap (λ (x : Bool). cond (x && nat_le b last) 1 0) one ∙ ap (λ (x : Bool). cond x 1 0) none)
    by_first b past (inr less) =
        let none : nat_lt first b ≡ false = le-ltb first b less in
        sym (alone b) ∙ (split b ∙ ap (λ (x : Bool). cond (x && nat_le b last) 1 0) none)

    these : AreThese first last ns
    these = record {
      within = λ b up down.
          let one : nat_lt first b ≡ true = lt-ltb first b up in
          let two : nat_le b last ≡ true = le-leb b last down in
          let said : count_of b (ns ++ []) ≡ 1 = split b ∙ ap (λ (x : Bool). cond (x && nat_le b last) 1 0) one ∙ ap (λ (x : Bool). cond x 1 0) two in
          sym (alone b) ∙ said;
      below = λ b down.
          let none : nat_lt first b ≡ false = le-ltb first b down in
          sym (alone b) ∙ (split b ∙ ap (λ (x : Bool). cond (x && nat_le b last) 1 0) none);
      above = λ b up. by_first b up (cases_lt first b);
    }

    from-first : (ms : List ℕ) → Rise 0 ms high → ((b : ℕ) → b ≤ first → count_of b ms ≡ 0)
        → Rise first ms high
    from-first [] rr none = up
    from-first (m ∷ ms) rr none = by_lt (cases_lt first m)
      where
        by_lt : (first < m) ⊎ (m ≤ first) → Rise first (m ∷ ms) high
        by_lt (inl more) = (more, rr.1)
        by_lt (inr less) =
            let zero' = none m less in
            let hit : (m == m) ≡ true = eq-eqb m m refl in
            let front : count_of m (m ∷ ms) ≡ 1 + count_of m ms = count_of-cons m m ms ∙ ap (λ (x : Bool). cond x 1 0 + count_of m ms) hit in
            absurd (omega (arith, zero', front))

-- And back: a range is the list of a unit's only user.

pub rise-past : (low : ℕ) (ns : List ℕ) (high b : ℕ) → Rise low ns high → high < b
    → count_of b ns ≡ 0
rise-past low [] high b r past = refl
rise-past low (n ∷ ns) high b r past =
    let up = rise-bounds n ns high r.1 in
    let miss : (n == b) ≡ false = ne_eqb n b (λ e. omega (arith, up, past, e)) in
    let rest = rise-past n ns high b r.1 past in
    rw (count_of-cons b n ns, miss) (omega (arith, rest))

pub range-rises : (low count : ℕ) → Rise low (range_with_len (low + 1) count) (low + count)
range-rises low zero = omega arith
range-rises low (suc count) =
    let next : low + 1 + count ≡ low + suc count = omega arith in
    (omega arith, subst (λ (high : ℕ). Rise (low + 1) (range_with_len (low + 1 + 1) count) high) next (range-rises (low + 1) count))

range-once : (low count b : ℕ) → low < b → b ≤ low + count
    → count_of b (range_with_len (low + 1) count) ≡ 1
range-once low zero b up down = absurd (omega (arith, up, down))
range-once low (suc count) b up down = by_first (cases_lt (low + 1) b) (range-once (low + 1) count b)
  where
    front : count_of b (range_with_len (low + 1) (suc count)) ≡ cond ((low + 1) == b) 1 0 + count_of b (range_with_len (low + 1 + 1) count)
    front = count_of-cons b (low + 1) (range_with_len (low + 1 + 1) count)

    by_first : (low + 1 < b) ⊎ (b ≤ low + 1)
        → (low + 1 < b → b ≤ low + 1 + count → count_of b (range_with_len (low + 1 + 1) count) ≡ 1)
        → count_of b (range_with_len (low + 1) (suc count)) ≡ 1
    by_first (inl later) rest =
        let one = rest later (omega (arith, down)) in
        let miss : ((low + 1) == b) ≡ false = ne_eqb (low + 1) b (λ e. omega (arith, later, e)) in
        front ∙ ap (λ (x : Bool). cond x 1 0 + count_of b (range_with_len (low + 1 + 1) count)) miss ∙ omega (arith, one)
    by_first (inr here) rest =
        let hit : ((low + 1) == b) ≡ true = eq-eqb (low + 1) b (omega (arith, up, here)) in
        let none = rise-above (low + 1) (range_with_len (low + 1 + 1) count) (low + 1 + count) b (range-rises (low + 1) count) here in
        front ∙ ap (λ (x : Bool). cond x 1 0 + count_of b (range_with_len (low + 1 + 1) count)) hit ∙ omega (arith, none)

pub range-split : (first count : ℕ)
    → AreSplit first (first + count) (range_with_len (first + 1) count ∷ [])
range-split first count b = alone ∙ by_low (cases_lt first b)
  where
    alone : count_of b (range_with_len (first + 1) count ++ []) ≡ count_of b (range_with_len (first + 1) count)
    alone = let all = count_of-append b (range_with_len (first + 1) count) [] in omega (arith, all)

    by_high : first < b → (first + count < b) ⊎ (b ≤ first + count)
        → count_of b (range_with_len (first + 1) count) ≡ cond (nat_lt first b && nat_le b (first + count)) 1 0
    by_high up (inl past) =
        let one : nat_lt first b ≡ true = lt-ltb first b up in
        let none : nat_le b (first + count) ≡ false = lt-leb b (first + count) past in
        rw (one, none) (rise-past first (range_with_len (first + 1) count) (first + count) b (range-rises first count) past)
    by_high up (inr down) =
        let one : nat_lt first b ≡ true = lt-ltb first b up in
        let two : nat_le b (first + count) ≡ true = le-leb b (first + count) down in
        rw (one, two) (range-once first count b up down)

    by_low : (first < b) ⊎ (b ≤ first)
        → count_of b (range_with_len (first + 1) count) ≡ cond (nat_lt first b && nat_le b (first + count)) 1 0
    by_low (inl up) = by_high up (cases_lt (first + count) b)
    by_low (inr below) =
        let none : nat_lt first b ≡ false = le-ltb first b below in
        rw none (rise-above first (range_with_len (first + 1) count) (first + count) b (range-rises first count) below)
