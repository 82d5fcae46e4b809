-- Lines that are added one after another.
use Rattle.std.proofs.Common.{ℕ, zero, suc, ◌+◌, ◌-◌, ◌*◌, ◌≤◌, ◌≡◌, Bool, true, false, cond, List, [], ◌∷◌, ◌++◌, length, map, flat_map, refl, sym, ap, ◌∙◌, arith, add-one, append_assoc, append-nil, length-append}
use Rattle.std.specs.List.{range_with_len}
use Rattle.std.proofs.lemmas.Grind.{flat_map-append}
use Rattle.std.proofs.lemmas.List.FromFn.{map-range_with_len_more, length-map-range_with_len}
use Rattle.vale_script.specs.declared.script.Line.{Line}
use Rattle.vale_gen.specs.Load.{Deed, syncs, is_followed, frame_deeds, user_deeds, numbered}
use Rattle.vale_gen.specs.Sheets.{Sheet, with_deeds}

numbered-append : (at : ℕ) (xs ys : List Deed) → numbered at (xs ++ ys) ≡ numbered at xs ++ numbered (at + length xs) ys
numbered-append at [] ys = ap (λ (k : ℕ). numbered k ys) (omega arith)
numbered-append at (x ∷ xs) ys =
    let line : Line = record { at = at; user = x.user; act = x.act } in
    let same : (at + 1) + length xs ≡ at + length (x ∷ xs) = omega arith in
    ap (λ (lines : List Line). line ∷ lines) (numbered-append (at + 1) xs ys ∙ ap (λ (k : ℕ). numbered (at + 1) xs ++ numbered k ys) same)

sheet-is : (a b : ℕ) (x y : List Line) → a ≡ b → x ≡ y → (let s : Sheet = record { next = a; lines = x } in s) ≡ record { next = b; lines = y }
sheet-is a b x y p q = ap (λ (k : ℕ). let s : Sheet = record { next = k; lines = x } in s) p ∙ ap (λ (l : List Line). let s : Sheet = record { next = b; lines = l } in s) q

-- deeds added behind others
pub with_more : (s : Sheet) (xs ys : List Deed) → with_deeds (with_deeds s xs) ys ≡ with_deeds s (xs ++ ys)
with_more s xs ys =
    sheet-is (s.next + length xs + length ys) (s.next + length (xs ++ ys)) ((s.lines ++ numbered s.next xs) ++ numbered (s.next + length xs) ys) (s.lines ++ numbered s.next (xs ++ ys))
    (omega (arith, length-append xs ys))
    (append_assoc s.lines (numbered s.next xs) (numbered (s.next + length xs) ys) ∙ ap (λ (lines : List Line). s.lines ++ lines) (sym (numbered-append s.next xs ys)))

pub with_none : (s : Sheet) → with_deeds s [] ≡ s
with_none s = sheet-is (s.next + 0) s.next (s.lines ++ []) s.lines (omega arith) (append-nil s.lines)

pub range_more : (a k : ℕ) → range_with_len a (k + 1) ≡ range_with_len a k ++ (a + k) ∷ []
range_more a zero = ap (λ (n : ℕ). n ∷ []) (omega arith)
range_more a (suc k) =
    let same : (a + 1) + k ≡ a + suc k = omega arith in
    ap (range_with_len a) (add-one (suc k)) ∙ ap (λ (n : ℕ). a ∷ range_with_len (a + 1) n) (sym (add-one k)) ∙ ap (λ (ns : List ℕ). a ∷ ns) (range_more (a + 1) k ∙ ap (λ (n : ℕ). range_with_len (a + 1) k ++ n ∷ []) same)

pub flat_range_more : {X : Type 0} (f : ℕ → List X) (a k : ℕ) → flat_map f (range_with_len a (k + 1)) ≡ flat_map f (range_with_len a k) ++ f (a + k)
flat_range_more f a k =
    ap (flat_map f) (range_more a k) ∙ flat_map-append f (range_with_len a k) ((a + k) ∷ [])
    ∙ ap (λ xs. flat_map f (range_with_len a k) ++ xs) (append-nil (f (a + k)))

pub no_deeds : (n user : ℕ) → user_deeds n user 0 ≡ []
unfolding user_deeds
no_deeds n user = refl

pub deeds_more : (n user frame : ℕ) → user_deeds n user (frame + 1) ≡ user_deeds n user frame ++ frame_deeds n user frame
unfolding user_deeds
deeds_more n user frame = flat_range_more (frame_deeds n user) 0 frame ∙ ap (λ (j : ℕ). flat_map (frame_deeds n user) (range_with_len 0 frame) ++ frame_deeds n user j) (omega arith)

-- The next user's deeds behind those of the users before it.

pub flat_users_more : (f : ℕ → List Deed) (s : Sheet) (user : ℕ) → 1 ≤ user → with_deeds (with_deeds s (flat_map f (range_with_len 1 (user - 1)))) (f user) ≡ with_deeds s (flat_map f (range_with_len 1 (user + 1 - 1)))
flat_users_more f s user least =
    let this : 1 + (user - 1) ≡ user = omega (arith, least) in
    let next : user - 1 + 1 ≡ user + 1 - 1 = omega (arith, least) in
    with_more s (flat_map f (range_with_len 1 (user - 1))) (f user)
    ∙ ap (λ (k : ℕ). with_deeds s (flat_map f (range_with_len 1 (user - 1)) ++ f k)) (sym this)
    ∙ ap (λ (deeds : List Deed). with_deeds s deeds) (sym (flat_range_more f 1 (user - 1)))
    ∙ ap (λ (k : ℕ). with_deeds s (flat_map f (range_with_len 1 k))) next

pub map_users_more : {X : Type 0} (f : ℕ → X) (user : ℕ) → 1 ≤ user → map f (range_with_len 1 (user - 1)) ++ f user ∷ [] ≡ map f (range_with_len 1 (user + 1 - 1))
map_users_more f user least =
    let this : 1 + (user - 1) ≡ user = omega (arith, least) in
    let next : user - 1 + 1 ≡ user + 1 - 1 = omega (arith, least) in
    sym (map-range_with_len_more f 1 (user - 1) user this) ∙ ap (λ (k : ℕ). map f (range_with_len 1 k)) next

pub users_more : (f : ℕ → Deed) (s : Sheet) (user : ℕ) → 1 ≤ user → with_deeds (with_deeds s (map f (range_with_len 1 (user - 1)))) (f user ∷ []) ≡ with_deeds s (map f (range_with_len 1 (user + 1 - 1)))
users_more f s user least =
    with_more s (map f (range_with_len 1 (user - 1))) (f user ∷ [])
    ∙ ap (λ (deeds : List Deed). with_deeds s deeds) (map_users_more f user least)

-- each of those before has a number
pub users_next : (f : ℕ → Deed) (start now : Sheet) (count : ℕ) → now ≡ with_deeds start (map f (range_with_len 1 count)) → now.next ≡ start.next + count
users_next f start now count is =
    ap (λ (s : Sheet). s.next) is ∙ ap (λ (k : ℕ). start.next + k) (length-map-range_with_len f 1 count)

-- How many lines there are.

cond-length : (b : Bool) (user : ℕ) → length (cond b (syncs user) []) ≤ 2
cond-length true user = omega arith
cond-length false user = omega arith

flat-length : {X : Type 0} (f : ℕ → List X) (most : ℕ) → ((j : ℕ) → length (f j) ≤ most) → (a k : ℕ) → length (flat_map f (range_with_len a k)) ≤ most * k
flat-length f most each a zero = omega arith
flat-length f most each a (suc k) = omega (arith, length-append (f a) (flat_map f (range_with_len (a + 1) k)), each a, flat-length f most each (a + 1) k)

pub deeds_length : (n user frames : ℕ) → length (user_deeds n user frames) ≤ 3 * frames
unfolding user_deeds
deeds_length n user frames = flat-length (frame_deeds n user) 3 (λ j. let few = cond-length (is_followed j) user in omega (arith, few)) 0 frames

pub block_length : (n users : ℕ) → length (flat_map (λ user. user_deeds n user 2000) (range_with_len 1 users)) ≤ 6000 * users
block_length n users = flat-length (λ user. user_deeds n user 2000) 6000 (λ user. let few = deeds_length n user 2000 in omega (arith, few)) 1 users
