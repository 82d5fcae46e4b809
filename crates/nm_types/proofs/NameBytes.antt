-- The bytes of a name are graphic: each is printable, and no blank.
use Rattle.std.proofs.Common.{ℕ, suc, ◌+◌, ◌-◌, ◌<◌, ◌≤◌, ◌≡◌, ◌==◌, ◌||◌, ◌&&◌, Bool, true, false, cond, nat_lt, nat_le, nat_eq, List, [], ◌∷◌, length, take, drop, get_or, slice_index, codes, Option, Some, None, is_some, refl, sym, ◌∙◌, ap, subst, arith, add-one, drop-cons, take-append-drop}
use Rattle.std.specs.List.{starts_with, list_all}
use Rattle.std.proofs.lemmas.Bool.{and_parts, eqb-true, leb-true, le-leb, ltb-false}
use Rattle.std.proofs.lemmas.List.Folds.{list_all-append}
use Rattle.std.proofs.lemmas.List.Quantifiers.{position-Some}
use Rattle.std.proofs.Math.ListN.{drop_of_length-le}
use Rattle.std.specs.Cmp.Lexicographic.{same_text}
use Rattle.nm_types.specs.Names.{is_word_byte, are_word_bytes, is_word, is_switch_port_at, colon_in, is_switch_port, pipe_end, pipe_kind, is_name}
use Rattle.nm_types.specs.declared.name.Kind.{Kind}
use Rattle.nm_types.specs.declared.name.Kind.TheVariants.{Vale, Master, Slave, Monitor}

abbrev pub is_graphic : ℕ → Bool
is_graphic b = nat_le 33 b && nat_le b 126

abbrev pub are_graphic : List ℕ → Bool
are_graphic bytes = list_all is_graphic bytes

no-truth : {X : Type 0} → false ≡ true → X
no-truth e = absurd cc

pub both : (a b : Bool) → a ≡ true → b ≡ true → (a && b) ≡ true
both true b p q = q
both false b p q = no-truth p

either : {X : Type 0} (a b : Bool) → (a ≡ true → X) → (b ≡ true → X) → (a || b) ≡ true → X
either true b left right h = left refl
either false b left right h = right h

within : (b : ℕ) → 33 ≤ b → b ≤ 126 → is_graphic b ≡ true
within b low high = both (nat_le 33 b) (nat_le b 126) (le-leb 33 b low) (le-leb b 126 high)

between : (low high b : ℕ) → 33 ≤ low → high ≤ 126 → (nat_le low b && nat_le b high) ≡ true → is_graphic b ≡ true
between low high b least most h =
    let parts = and_parts (nat_le low b) (nat_le b high) h in
    let above = leb-true low b parts.0 in
    let below = leb-true b high parts.1 in
    within b (omega (arith, above, least)) (omega (arith, below, most))

equal-byte : (c b : ℕ) → is_graphic c ≡ true → (b == c) ≡ true → is_graphic b ≡ true
equal-byte c b good h = subst (λ (x : ℕ). is_graphic x ≡ true) (sym (eqb-true b c h)) good

word-byte : (b : ℕ) → is_word_byte b ≡ true → is_graphic b ≡ true
word-byte b h =
    let small : Bool = nat_le 97 b && nat_le b 122 in
    let capital : Bool = nat_le 65 b && nat_le b 90 in
    let digit : Bool = nat_le 48 b && nat_le b 57 in
    either (((small || capital) || digit) || (b == 95)) (b == 45)
    (either ((small || capital) || digit) (b == 95)
    (either (small || capital) digit
    (either small capital (between 97 122 b (omega arith) (omega arith)) (between 65 90 b (omega arith) (omega arith)))
    (between 48 57 b (omega arith) (omega arith)))
    (equal-byte 95 b refl))
    (equal-byte 45 b refl) h

pub are-graphic : (xs : List ℕ) → are_word_bytes xs ≡ true → are_graphic xs ≡ true
are-graphic [] h = refl
are-graphic (x ∷ xs) h =
    let parts = and_parts (is_word_byte x) (are_word_bytes xs) h in
    both (is_graphic x) (are_graphic xs) (word-byte x parts.0) (are-graphic xs parts.1)

is-word : (xs : List ℕ) → is_word xs ≡ true → are_graphic xs ≡ true
is-word xs h = are-graphic xs (and_parts (nat_lt 0 (length xs)) (are_word_bytes xs) h).1

joined : (n : ℕ) (xs : List ℕ) → are_graphic (take n xs) ≡ true → are_graphic (drop n xs) ≡ true → are_graphic xs ≡ true
joined n xs front back =
    subst (λ (ys : List ℕ). are_graphic ys ≡ true) (take-append-drop n xs)
    (list_all-append is_graphic (take n xs) (drop n xs) ∙ both (are_graphic (take n xs)) (are_graphic (drop n xs)) front back)

switch-bytes : (rest : List ℕ) (found : Option ℕ) → colon_in rest ≡ found → is_switch_port_at rest found ≡ true → are_graphic rest ≡ true
switch-bytes rest None is h = no-truth h
switch-bytes rest (Some k) is h =
    let parts = and_parts (are_word_bytes (take k rest)) (is_word (drop (k + 1) rest)) h in
    let at = position-Some (λ (b : ℕ). b == 58) rest k 0 is in
    let colon = equal-byte 58 (get_or rest k 0) refl at.1 in
    let behind : are_graphic (drop (suc k) rest) ≡ true = subst (λ (n : ℕ). are_graphic (drop n rest) ≡ true) (add-one k) (is-word (drop (k + 1) rest) parts.1) in
    let whole = both (is_graphic (get_or rest k 0)) (are_graphic (drop (suc k) rest)) colon behind in
    joined k rest (are-graphic (take k rest) parts.0) (subst (λ (ys : List ℕ). are_graphic ys ≡ true) (sym (drop-cons rest k 0 at.0)) whole)

end-byte : (b : ℕ) → is_some (pipe_end b) ≡ true → is_graphic b ≡ true
end-byte b h = by_master (b == 123) (b == 125) refl refl h
  where
    by_master : (m s : Bool) → (b == 123) ≡ m → (b == 125) ≡ s → is_some (cond m (Some Master) (cond s (Some Slave) None)) ≡ true → is_graphic b ≡ true
    by_master true s is other h = equal-byte 123 b refl is
    by_master false true is other h = equal-byte 125 b refl other
    by_master false false is other h = no-truth h

pipe-by : (w : Bool) (last : Option Kind) → is_some (cond w last None) ≡ true → (w ≡ true) × (is_some last ≡ true)
pipe-by true last h = (refl, h)
pipe-by false last h = no-truth h

pipe-bytes : (rest : List ℕ) → is_some (pipe_kind rest) ≡ true → are_graphic rest ≡ true
pipe-bytes [] h = refl
pipe-bytes (x ∷ xs) h =
    let rest : List ℕ = x ∷ xs in
    let n : ℕ = length rest - 1 in
    let parts = pipe-by (is_word (take n rest)) (pipe_end (slice_index rest n)) h in
    let last = end-byte (slice_index rest n) parts.1 in
    let inside : n < length rest = omega arith in
    let none : drop (suc n) rest ≡ [] = drop_of_length-le rest {i = suc n} (omega arith) in
    let ends : drop n rest ≡ get_or rest n 0 ∷ [] = drop-cons rest n 0 inside ∙ ap (λ (t : List ℕ). get_or rest n 0 ∷ t) none in
    joined n rest (is-word (take n rest) parts.0) (subst (λ (ys : List ℕ). are_graphic ys ≡ true) (sym ends) (both (is_graphic (get_or rest n 0)) true last refl))

begins : (head text : List ℕ) (n : ℕ) → n ≡ length head → are_graphic head ≡ true → starts_with nat_eq text head ≡ true → are_graphic (drop n text) ≡ true → are_graphic text ≡ true
begins head text n is word h back =
    let front : head ≡ take (length head) text = same_text head (take (length head) text) (sym h) in
    joined (length head) text (subst (λ (ys : List ℕ). are_graphic ys ≡ true) front word) (subst (λ (k : ℕ). are_graphic (drop k text) ≡ true) is back)

kind-by : {X : Type 0} (long vale port pipe mon word : Bool) (kind : Option Kind) → (vale ≡ true → port ≡ true → X) → (pipe ≡ true → is_some kind ≡ true → X)
    → (mon ≡ true → word ≡ true → X)
    → is_some (cond long None (cond vale (cond port (Some Vale) None) (cond pipe kind (cond mon (cond word (Some Monitor) None) None)))) ≡ true → X
kind-by true vale port pipe mon word kind a b c h = no-truth h
kind-by false true true pipe mon word kind a b c h = a refl refl
kind-by false true false pipe mon word kind a b c h = no-truth h
kind-by false false port true mon word kind a b c h = b refl h
kind-by false false port false true true kind a b c h = c refl refl
kind-by false false port false true false kind a b c h = no-truth h
kind-by false false port false false word kind a b c h = no-truth h

pub name_graphic : (text : List ℕ) → is_name text ≡ true → are_graphic text ≡ true
unfolding is_name
name_graphic text h =
    kind-by (nat_lt 16 (length text)) (starts_with nat_eq text (codes "vale")) (is_switch_port (drop 4 text)) (starts_with nat_eq text (codes "pipe"))
    (starts_with nat_eq text (codes "mon")) (is_word (drop 3 text)) (pipe_kind (drop 4 text))
    (λ head port. begins (codes "vale") text 4 refl refl head (switch-bytes (drop 4 text) (colon_in (drop 4 text)) refl port))
    (λ head kind. begins (codes "pipe") text 4 refl refl head (pipe-bytes (drop 4 text) kind))
    (λ head word. begins (codes "mon") text 3 refl refl head (is-word (drop 3 text) word)) h

-- a name has a byte, and at most sixteen
pub name_sizes : (text : List ℕ) → is_name text ≡ true → (0 < length text) × (length text ≤ 16)
unfolding is_name
name_sizes [] h = no-truth h
name_sizes (x ∷ xs) h = (omega arith, by_long (nat_lt 16 (length (x ∷ xs))) _ refl h)
  where
    by_long : (long : Bool) (kind : Option Kind) → nat_lt 16 (length (x ∷ xs)) ≡ long → is_some (cond long None kind) ≡ true → length (x ∷ xs) ≤ 16
    by_long true kind is some = no-truth some
    by_long false kind is some = ltb-false 16 (length (x ∷ xs)) is
