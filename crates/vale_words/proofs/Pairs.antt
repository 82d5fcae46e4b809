-- What six pairs of hexadecimal digits are, read one after another.
use Rattle.std.proofs.Common.{◌≡◌, ℕ, ◌+◌, ◌*◌, ◌==◌, Bool, true, false, ◌&&◌, cond, List, [], ◌∷◌, length, slice_index, Option, Some, None, refl, ◌∙◌}
use Rattle.nm_types.specs.declared.id.Mac.{Mac}
use Rattle.vale_words.specs.Words.{is_hex, hex_value, is_pair_at, byte_at, are_pairs, are_joined, is_mac, mac_value, mac_of}
use Rattle.vale_words.specs.Pairs.{◌>>=◌, pair_read, pairs_read}

two : (p q : Bool) (m n : ℕ) → (cond p (Some m) None >>= (λ (high : ℕ). cond q (Some n) None >>= (λ (low : ℕ). Some (high * 16 + low)))) ≡ cond (p && q) (Some (m * 16 + n)) None
two true true m n = refl
two true false m n = refl
two false q m n = refl

pair-is : (word : List ℕ) (i : ℕ) → pair_read word i ≡ cond (is_pair_at word i) (Some (byte_at word i)) None
pair-is word i = two (is_hex (slice_index word i)) (is_hex (slice_index word (i + 1))) (hex_value (slice_index word i)) (hex_value (slice_index word (i + 1)))

abbrev six : Option ℕ → Option ℕ → Option ℕ → Option ℕ → Option ℕ → Option ℕ → Option Mac
six u v w x y z =
    u >>= (λ (a : ℕ). v >>= (λ (b : ℕ). w >>= (λ (c : ℕ). x >>= (λ (d : ℕ). y >>= (λ (e : ℕ). z >>= (λ (f : ℕ). Some (record { 0 = a ∷ b ∷ c ∷ d ∷ e ∷ f ∷ [] })))))))

all-six : (p q r s t u : Bool) (a b c d e f : ℕ) → six (cond p (Some a) None) (cond q (Some b) None) (cond r (Some c) None) (cond s (Some d) None) (cond t (Some e) None) (cond u (Some f) None)
    ≡ cond (p && (q && (r && (s && (t && u))))) (Some (record { 0 = a ∷ b ∷ c ∷ d ∷ e ∷ f ∷ [] })) None
all-six true true true true true true a b c d e f = refl
all-six true true true true true false a b c d e f = refl
all-six true true true true false u a b c d e f = refl
all-six true true true false t u a b c d e f = refl
all-six true true false s t u a b c d e f = refl
all-six true false r s t u a b c d e f = refl
all-six false q r s t u a b c d e f = refl

pairs-are : (word : List ℕ) → pairs_read word ≡ cond (are_pairs word) (Some (mac_value word)) None
pairs-are word =
    (λ i. six (pair-is word 0 i) (pair-is word 3 i) (pair-is word 6 i) (pair-is word 9 i) (pair-is word 12 i) (pair-is word 15 i))
    ∙ all-six (is_pair_at word 0) (is_pair_at word 3) (is_pair_at word 6) (is_pair_at word 9) (is_pair_at word 12) (is_pair_at word 15) (byte_at word 0) (byte_at word 3)
    (byte_at word 6) (byte_at word 9) (byte_at word 12) (byte_at word 15)

with-parts : (p q r : Bool) (read value : Option Mac) → read ≡ cond q value None → p ≡ true → r ≡ true → read ≡ cond (p && (q && r)) value None
with-parts true true true read value e long apart = e
with-parts true false true read value e long apart = e
with-parts true q false read value e long apart = absurd cc
with-parts false q r read value e long apart = absurd cc

short : (p q r : Bool) (value : Option Mac) → p ≡ false → None ≡ cond (p && (q && r)) value None
short true q r value h = absurd cc
short false q r value h = refl

apart : (p q r : Bool) (value : Option Mac) → r ≡ false → None ≡ cond (p && (q && r)) value None
apart true true false value h = refl
apart true false r value h = refl
apart false q r value h = refl
apart true true true value h = absurd cc

pub mac_read : (word : List ℕ) → (length word == 17) ≡ true → are_joined word ≡ true → pairs_read word ≡ mac_of word
unfolding mac_of is_mac
mac_read word long joined =
    with-parts (length word == 17) (are_pairs word) (are_joined word) (pairs_read word) (Some (mac_value word)) (pairs-are word) long joined

pub no_mac_by_length : (word : List ℕ) → (length word == 17) ≡ false → None ≡ mac_of word
unfolding mac_of is_mac
no_mac_by_length word h = short (length word == 17) (are_pairs word) (are_joined word) (Some (mac_value word)) h

pub no_mac_by_colons : (word : List ℕ) → are_joined word ≡ false → None ≡ mac_of word
unfolding mac_of is_mac
no_mac_by_colons word h = apart (length word == 17) (are_pairs word) (are_joined word) (Some (mac_value word)) h

pub ruleset macs = (mac_read, no_mac_by_length, no_mac_by_colons)
