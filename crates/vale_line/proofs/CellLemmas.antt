-- Buffers in cells that stand one behind the other.
use Rattle.std.proofs.Common.{ℕ, zero, suc, ◌≡◌, ◌+◌, ◌-◌, ◌<◌, ◌≤◌, List, [], ◌∷◌, ◌++◌, length, take, drop, map, reverse, Option, Some, None, is_some, true, get_or, slice_set, refl, subst, sym, ◌∙◌, ap, arith}
use Rattle.std.proofs.lemmas.List.{append_assoc, reverse-append, length-append, length-map, map-append, take-append-drop, length-drop, length-take-le}
use Rattle.nm_reach.specs.Cells.{refilled}
use Rattle.nm_region.specs.Buffers.{Buffer}
use Rattle.vale_line.specs.declared.got.Got.{Got}
use Rattle.vale_line.specs.Cells.{gots_in, AreFull, AreEmpty, emptied, with_buffer}
use Rattle.vale_line.specs.Gots.{blank}

abbrev Cells : Type 0
Cells = List (Option Got)

pub gots-append : (xs ys : Cells) → gots_in (xs ++ ys) ≡ gots_in xs ++ gots_in ys
gots-append [] ys = refl
gots-append (None ∷ xs) ys = gots-append xs ys
gots-append (Some got ∷ xs) ys = ap (λ (gs : List Got). got ∷ gs) (gots-append xs ys)

pub gots-most : (xs : Cells) → length (gots_in xs) ≤ length xs
gots-most [] = omega arith
gots-most (None ∷ xs) = let rest = gots-most xs in omega (arith, rest)
gots-most (Some got ∷ xs) = let rest = gots-most xs in omega (arith, rest)

pub gots-blank : (bs : List Buffer) → gots_in (map with_buffer bs) ≡ map blank bs
gots-blank [] = refl
gots-blank (b ∷ bs) = ap (λ (l : List Got). blank b ∷ l) (gots-blank bs)

-- the buffers of a vector, which is turned round first, go into cells one by one
pub cells-next : (cells now : Cells) (bufs left : List Buffer) (b : Buffer) → now ≡ cells ++ with_buffer b ∷ [] → bufs ≡ left ++ b ∷ []
    → now ++ map with_buffer (reverse left) ≡ cells ++ map with_buffer (reverse bufs)
cells-next cells now bufs left b is was =
    ap (λ (cs : Cells). cs ++ map with_buffer (reverse left)) is
    ∙ (append_assoc cells (with_buffer b ∷ []) (map with_buffer (reverse left)) ∙ ap (λ (bs : List Buffer). cells ++ map with_buffer bs) (sym (ap reverse was ∙ reverse-append left (b ∷ []))))

pub gots-emptied : (xs : Cells) → gots_in (map emptied xs) ≡ []
gots-emptied [] = refl
gots-emptied (x ∷ xs) = gots-emptied xs

-- both parts of full cells are full
pub full-parts : (xs ys : Cells) → AreFull (xs ++ ys) → (AreFull xs) × (AreFull ys)
full-parts xs ys full =
    let all = ap length (gots-append xs ys) ∙ length-append (gots_in xs) (gots_in ys) in
    let count = length-append xs ys in
    let first = gots-most xs in
    let second = gots-most ys in
    (omega (arith, full, all, count, first, second), omega (arith, full, all, count, first, second))

pub full-both : (xs ys : Cells) → AreFull xs → AreFull ys → AreFull (xs ++ ys)
full-both xs ys first second =
    let all = ap length (gots-append xs ys) ∙ length-append (gots_in xs) (gots_in ys) in
    let count = length-append xs ys in
    omega (arith, first, second, all, count)

-- and of empty ones empty
pub empty-parts : (xs ys : Cells) → AreEmpty (xs ++ ys) → (AreEmpty xs) × (AreEmpty ys)
empty-parts xs ys empty = by (gots_in xs) (gots_in ys) (sym (gots-append xs ys) ∙ empty)
  where
    by : (gs bs : List Got) → gs ++ bs ≡ [] → (gs ≡ []) × (bs ≡ [])
    by [] bs e = (refl, e)
    by (g ∷ gs) bs e = absurd (let wrong : g ∷ (gs ++ bs) ≡ [] = e in cc)

pub empty-both : (xs ys : Cells) → AreEmpty xs → AreEmpty ys → AreEmpty (xs ++ ys)
empty-both xs ys first second = gots-append xs ys ∙ (ap (λ (gs : List Got). gs ++ gots_in ys) first ∙ second)

-- a full cell holds a buffer
pub full-head : (x : Option Got) (xs : Cells) → AreFull (x ∷ xs) → AreFull (x ∷ [])
full-head x xs full = (full-parts (x ∷ []) xs full).0

pub full-some : (x : Option Got) → AreFull (x ∷ []) → is_some x ≡ true
full-some None full = absurd (omega (arith, full))
full-some (Some g) full = refl

-- and an empty one nothing
pub empty-none : (x : Option Got) → AreEmpty (x ∷ []) → x ≡ None
empty-none None empty = refl
empty-none (Some g) empty = absurd (let wrong : g ∷ [] ≡ [] = empty in cc)

pub gots-take-more : (xs : Cells) (n : ℕ) (g : Got) (left : Cells) → drop n xs ≡ Some g ∷ left → gots_in (take (n + 1) xs) ≡ gots_in (take n xs) ++ g ∷ []
gots-take-more [] zero g left e = absurd (let wrong : [] ≡ Some g ∷ left = e in cc)
gots-take-more [] (suc n) g left e = absurd (let wrong : [] ≡ Some g ∷ left = e in cc)
gots-take-more (x ∷ xs) zero g left e = let same : x ≡ Some g = cc in rw same refl
gots-take-more (None ∷ xs) (suc n) g left e = let next : suc n + 1 ≡ suc (n + 1) = omega arith in rw next (gots-take-more xs n g left e)
gots-take-more (Some y ∷ xs) (suc n) g left e = let next : suc n + 1 ≡ suc (n + 1) = omega arith in rw next (ap (λ (ys : List Got). y ∷ ys) (gots-take-more xs n g left e))

-- the cell that is emptied next
pub full-at : (xs : Cells) (i : ℕ) (d : Option Got) → i < length xs → AreFull (drop i xs) → AreFull (get_or (map emptied (take i xs) ++ drop i xs) i d ∷ [])
full-at [] i d within full = absurd (omega (arith, within))
full-at (x ∷ xs) zero d within full = full-head x xs full
full-at (x ∷ xs) (suc i) d within full = full-at xs i d (omega (arith, within)) full

pub drop-at : (xs : Cells) (i : ℕ) (d : Option Got) (g : Got) → i < length xs → get_or (map emptied (take i xs) ++ drop i xs) i d ≡ Some g → drop i xs ≡ Some g ∷ drop (i + 1) xs
drop-at [] i d g within is = absurd (omega (arith, within))
drop-at (x ∷ xs) zero d g within is = ap (λ (c : Option Got). c ∷ xs) is
drop-at (x ∷ xs) (suc i) d g within is = let next : suc i + 1 ≡ suc (i + 1) = omega arith in rw next (drop-at xs i d g (omega (arith, within)) is)

pub emptied-more : (xs : Cells) (i : ℕ) → i < length xs → slice_set (map emptied (take i xs) ++ drop i xs) i None ≡ map emptied (take (i + 1) xs) ++ drop (i + 1) xs
emptied-more [] i within = absurd (omega (arith, within))
emptied-more (x ∷ xs) zero within = refl
emptied-more (x ∷ xs) (suc i) within = let next : suc i + 1 ≡ suc (i + 1) = omega arith in rw next (ap (λ (cs : Cells). None ∷ cs) (emptied-more xs i (omega (arith, within))))

-- cells of which the first were emptied are as many as before
emptied-within : (xs cells : Cells) (i : ℕ) → cells ≡ map emptied (take i xs) ++ drop i xs → i < length cells → i < length xs
emptied-within xs cells i are within =
    let same = ap length are in
    let parts = length-append (map emptied (take i xs)) (drop i xs) in
    let count = length-map (take i xs) emptied in
    let whole = ap length (take-append-drop i xs) in
    let both = length-append (take i xs) (drop i xs) in
    omega (arith, same, parts, count, whole, both, within)

-- what is known once the buffer of the cell i was taken
pub record Emptied (xs : Cells) (i : ℕ) (g : Got) : Type 0 where
  pub cells : slice_set (map emptied (take i xs) ++ drop i xs) i None ≡ map emptied (take (i + 1) xs) ++ drop (i + 1) xs
  pub gots : gots_in (take (i + 1) xs) ≡ gots_in (take i xs) ++ g ∷ []
  pub full : AreFull (drop (i + 1) xs)
  pub count : length (drop i xs) ≡ 1 + length (drop (i + 1) xs)

pub emptied-at : (xs cells : Cells) (i : ℕ) (d : Option Got) (g : Got) → cells ≡ map emptied (take i xs) ++ drop i xs → i < length cells → AreFull (drop i xs) → get_or cells i d ≡ Some g → Emptied xs i g
emptied-at xs cells i d g are within full is =
    let inside = emptied-within xs cells i are within in
    let there : get_or (map emptied (take i xs) ++ drop i xs) i d ≡ Some g = rw (← are) is in
    let rest = drop-at xs i d g inside there in
    record {
      cells = emptied-more xs i inside;
      gots = gots-take-more xs i g (drop (i + 1) xs) rest;
      full = (full-parts (Some g ∷ []) (drop (i + 1) xs) (subst AreFull rest full)).1;
      count = (let e = ap length rest in omega (arith, e));
    }

pub full-next : (xs cells : Cells) (i : ℕ) (d : Option Got) → cells ≡ map emptied (take i xs) ++ drop i xs → i < length cells → AreFull (drop i xs) → is_some (get_or cells i d) ≡ true
full-next xs cells i d are within full =
    let inside = emptied-within xs cells i are within in
    full-some (get_or cells i d) (subst (λ (cs : Cells). AreFull (get_or cs i d ∷ [])) (sym are) (full-at xs i d inside full))

-- the cell that is filled next
pub empty-at : (xs ys : Cells) (i : ℕ) (d : Option Got) → suc i ≤ length xs → AreEmpty (take (suc i) xs) → get_or (take (suc i) xs ++ ys) i d ≡ None
empty-at [] ys i d within empty = absurd (omega (arith, within))
empty-at (None ∷ xs) ys zero d within empty = refl
empty-at (Some g ∷ xs) ys zero d within empty = absurd (let wrong : g ∷ [] ≡ [] = empty in cc)
empty-at (None ∷ xs) ys (suc i) d within empty = empty-at xs ys i d (omega (arith, within)) empty
empty-at (Some g ∷ xs) ys (suc i) d within empty = absurd (let wrong : g ∷ gots_in (take (suc i) xs) ≡ [] = empty in cc)

pub set-last : (xs ys : Cells) (i : ℕ) (c : Option Got) → suc i ≤ length xs → slice_set (take (suc i) xs ++ ys) i c ≡ take i xs ++ c ∷ ys
set-last [] ys i c within = absurd (omega (arith, within))
set-last (x ∷ xs) ys zero c within = refl
set-last (x ∷ xs) ys (suc i) c within = ap (λ (cs : Cells). x ∷ cs) (set-last xs ys i c (omega (arith, within)))

pub empty-less : (xs : Cells) (i : ℕ) → AreEmpty (take (suc i) xs) → AreEmpty (take i xs)
empty-less [] zero empty = refl
empty-less [] (suc i) empty = refl
empty-less (x ∷ xs) zero empty = refl
empty-less (None ∷ xs) (suc i) empty = empty-less xs i empty
empty-less (Some g ∷ xs) (suc i) empty = absurd (let wrong : g ∷ gots_in (take (suc i) xs) ≡ [] = empty in cc)

module _ {X : Type 0} where
  no-end : (ys : List X) (g : X) → [] ≡ ys ++ g ∷ [] → ⊥
  no-end [] g e = let wrong : [] ≡ g ∷ [] = e in cc
  no-end (y ∷ ys) g e = let wrong : [] ≡ y ∷ (ys ++ g ∷ []) = e in cc

  pub last-taken : (gs : List X) (n : ℕ) (ys : List X) (g : X) → suc n ≤ length gs → take (suc n) gs ≡ ys ++ g ∷ [] → (ys ≡ take n gs) × (drop n gs ≡ g ∷ drop (suc n) gs)
  last-taken [] n ys g within e = absurd (omega (arith, within))
  last-taken (x ∷ gs) zero [] g within e = (refl, (let same : x ≡ g = cc in ap (λ (z : X). z ∷ gs) same))
  last-taken (x ∷ gs) zero (y ∷ ys) g within e = absurd (no-end ys g (let rest : [] ≡ ys ++ g ∷ [] = cc in rest))
  last-taken (x ∷ []) (suc n) ys g within e = absurd (omega (arith, within))
  last-taken (x ∷ z ∷ gs) (suc n) [] g within e = absurd (let wrong : z ∷ take n gs ≡ [] = cc in let wrong2 : z ∷ take n gs ≡ [] = wrong in cc)
  last-taken (x ∷ z ∷ gs) (suc n) (y ∷ ys) g within e =
      let rest : take (suc n) (z ∷ gs) ≡ ys ++ g ∷ [] = cc in
      let first : x ≡ y = cc in
      let both = last-taken (z ∷ gs) n ys g (omega (arith, within)) rest in
      let same = both.0 in
      (cc, both.1)

  -- two parts of a list as long as its own
  pub parts-at : (n : ℕ) (vs us ws : List X) → length us ≡ length (take n vs) → length ws ≡ length (drop n vs) → (take n (us ++ ws) ≡ us) × (drop n (us ++ ws) ≡ ws)
  parts-at zero vs [] ws a b = (refl, refl)
  parts-at zero vs (u ∷ us) ws a b = absurd (omega (arith, a))
  parts-at (suc n) [] [] [] a b = (refl, refl)
  parts-at (suc n) [] [] (w ∷ ws) a b = absurd (omega (arith, b))
  parts-at (suc n) [] (u ∷ us) ws a b = absurd (omega (arith, a))
  parts-at (suc n) (v ∷ vs) [] ws a b = absurd (omega (arith, a))
  parts-at (suc n) (v ∷ vs) (u ∷ us) ws a b =
      let rest = parts-at n vs us ws (omega (arith, a)) b in
      (ap (λ (l : List X). u ∷ l) rest.0, rest.1)

  pub refilled-all : (vs ws : List X) → length ws ≡ length vs → refilled vs ws ≡ ws
  refilled-all [] [] e = refl
  refilled-all [] (w ∷ ws) e = absurd (omega (arith, e))
  refilled-all (v ∷ vs) [] e = absurd (omega (arith, e))
  refilled-all (v ∷ vs) (w ∷ ws) e = ap (λ (l : List X). w ∷ l) (refilled-all vs ws (omega (arith, e)))

  -- the first part of a list written anew, and the second
  abbrev pub first_written : ℕ → List X → List X → List X
  first_written n vs ws = refilled (take n vs) ws ++ drop n vs

  abbrev pub second_written : ℕ → List X → List X → List X
  second_written n vs ws = take n vs ++ refilled (drop n vs) ws

  pub first-is : (n : ℕ) (vs ws : List X) → length ws ≡ length (take n vs) → first_written n vs ws ≡ ws ++ drop n vs
  first-is n vs ws e = ap (λ (l : List X). l ++ drop n vs) (refilled-all (take n vs) ws e)

  pub second-is : (n : ℕ) (vs ws : List X) → length ws ≡ length (drop n vs) → second_written n vs ws ≡ take n vs ++ ws
  second-is n vs ws e = ap (λ (l : List X). take n vs ++ l) (refilled-all (drop n vs) ws e)

-- cells emptied in two parts
pub taken-back : (n : ℕ) (vs w : Cells) → w ≡ map emptied (take n vs) → drop n (first_written n vs w) ≡ drop n vs
taken-back n vs w is =
    let long : length w ≡ length (take n vs) = ap length is ∙ length-map (take n vs) emptied in
    ap (λ (l : Cells). drop n l) (first-is n vs w long) ∙ (parts-at n vs w (drop n vs) long refl).1

pub taken-all : (n : ℕ) (vs w w2 : Cells) → w ≡ map emptied (take n vs) → w2 ≡ map emptied (drop n (first_written n vs w)) → second_written n (first_written n vs w) w2 ≡ map emptied vs
taken-all n vs w w2 is is2 =
    let long : length w ≡ length (take n vs) = ap length is ∙ length-map (take n vs) emptied in
    let first = first-is n vs w long in
    let parts = parts-at n vs w (drop n vs) long refl in
    let v1 = first_written n vs w in
    let front : take n v1 ≡ w = ap (λ (l : Cells). take n l) first ∙ parts.0 in
    let back : drop n v1 ≡ drop n vs = ap (λ (l : Cells). drop n l) first ∙ parts.1 in
    let long2 : length w2 ≡ length (drop n v1) = ap length is2 ∙ length-map (drop n v1) emptied in
    second-is n v1 w2 long2
    ∙ (ap (λ (l : Cells). l ++ w2) (front ∙ is)
    ∙ (ap (λ (l : Cells). map emptied (take n vs) ++ l) (is2 ∙ ap (λ (l : Cells). map emptied l) back)
    ∙ (sym (map-append emptied (take n vs) (drop n vs)) ∙ ap (λ (l : Cells). map emptied l) (take-append-drop n vs))))

-- cells filled in two parts, the second one first
module _ {G : Type 0} (f : G → Option Got) (n : ℕ) (vs w w2 : Cells) (gs gs1 : List G) (all : length gs ≡ length vs)
    (is : w ≡ map f (drop (length gs - length (drop n vs)) gs)) (rest : gs1 ≡ take (length gs - length (drop n vs)) gs) where
  abbrev k : ℕ
  k = length gs - length (drop n vs)

  counts : length (take n vs) + length (drop n vs) ≡ length vs
  counts = sym (length-append (take n vs) (drop n vs)) ∙ ap length (take-append-drop n vs)

  long : length w ≡ length (drop n vs)
  long = let one = ap length is ∙ length-map (drop k gs) f in let two = length-drop k gs in let sum = counts in omega (arith, one, two, all, sum)

  pub put-front : take n (second_written n vs w) ≡ take n vs
  put-front = ap (λ (l : Cells). take n l) (second-is n vs w long) ∙ (parts-at n vs (take n vs) w refl long).0

  pub put-count : length (take n (second_written n vs w)) ≡ length gs1
  put-count =
      let one = ap length put-front in
      let two = ap length rest in
      let sum = counts in
      let three = length-take-le k gs (omega (arith)) in
      omega (arith, one, two, three, sum, all)

  module _ (is2 : w2 ≡ map f (drop (length gs1 - length (take n (second_written n vs w))) gs1)) where
    pub put-all : first_written n (second_written n vs w) w2 ≡ map f gs
    put-all =
        let v1 = second_written n vs w in
        let back : drop n v1 ≡ w = ap (λ (l : Cells). drop n l) (second-is n vs w long) ∙ (parts-at n vs (take n vs) w refl long).1 in
        let zero_is : length gs1 - length (take n v1) ≡ 0 = (let same = put-count in omega (arith, same)) in
        let whole : w2 ≡ map f gs1 = is2 ∙ ap (λ (j : ℕ). map f (drop j gs1)) zero_is in
        let long2 : length w2 ≡ length (take n v1) = (let one = ap length whole ∙ length-map gs1 f in one ∙ sym put-count) in
        first-is n v1 w2 long2
        ∙ (ap (λ (l : Cells). w2 ++ l) (back ∙ is)
        ∙ (ap (λ (l : Cells). l ++ map f (drop k gs)) (whole ∙ ap (λ (l : List G). map f l) rest)
        ∙ (sym (map-append f (take k gs) (drop k gs)) ∙ ap (λ (l : List G). map f l) (take-append-drop k gs))))

  pub put-rest : take (length gs1 - length (take n (second_written n vs w))) gs1 ≡ []
  put-rest = let same = put-count in let none : length gs1 - length (take n (second_written n vs w)) ≡ 0 = omega (arith, same) in ap (λ (j : ℕ). take j gs1) none

-- what is known once the cell before `at` was filled
module _ {G : Type 0} (f : G → Option Got) (xs cells : Cells) (gs : List G) (k at : ℕ) where
  pub record Filled (g : G) (left : List G) : Type 0 where
    pub set : slice_set cells (at - 1) (f g) ≡ take (at - 1) xs ++ map f (drop (k + (at - 1)) gs)
    pub rest : left ≡ take (k + (at - 1)) gs
    pub empty : AreEmpty (take (at - 1) xs)

  pub empty-next : (d : Option Got) → 0 < at → at ≤ length xs → cells ≡ take at xs ++ map f (drop (k + at) gs) → AreEmpty (take at xs) → get_or cells (at - 1) d ≡ None
  empty-next d some within are empty =
      let next : at ≡ suc (at - 1) = omega (arith, some) in
      let ys = map f (drop (k + at) gs) in
      let here : get_or (take (suc (at - 1)) xs ++ ys) (at - 1) d ≡ None =
      empty-at xs ys (at - 1) d (omega (arith, some, within)) (subst (λ (n : ℕ). AreEmpty (take n xs)) next empty) in
      ap (λ (cs : Cells). get_or cs (at - 1) d) (are ∙ ap (λ (n : ℕ). take n xs ++ ys) next) ∙ here

  pub filled-at : (left : List G) (g : G) → 0 < at → at ≤ length xs → k + at ≤ length gs → cells ≡ take at xs ++ map f (drop (k + at) gs) → AreEmpty (take at xs) → take (k + at) gs ≡ left ++ g ∷ [] → Filled g left
  filled-at left g some within enough are empty last =
      let next : at ≡ suc (at - 1) = omega (arith, some) in
      let more : k + at ≡ suc (k + (at - 1)) = omega (arith, some) in
      let ys = map f (drop (k + at) gs) in
      let taken = last-taken gs (k + (at - 1)) left g (omega (arith, some, enough)) (ap (λ (n : ℕ). take n gs) (sym more) ∙ last) in
      let set = set-last xs ys (at - 1) (f g) (omega (arith, some, within)) in
      record {
        set =
            ap (λ (cs : Cells). slice_set cs (at - 1) (f g)) (are ∙ ap (λ (n : ℕ). take n xs ++ ys) next)
            ∙ (set ∙ ap (λ (l : Cells). take (at - 1) xs ++ l)
            (ap (λ (n : ℕ). f g ∷ map f (drop n gs)) more ∙ ap (λ (l : List G). map f l) (sym taken.1)));
        rest = taken.0;
        empty = empty-less xs (at - 1) (subst (λ (n : ℕ). AreEmpty (take n xs)) next empty);
      }

pub ruleset cells = (gots-append, gots-blank, gots-emptied, gots-take-more)

pub ruleset runs = (gots-append, gots-blank, gots-emptied)
