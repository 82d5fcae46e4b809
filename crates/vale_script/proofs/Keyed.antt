-- Tables by numbers that stand for names say of names what tables by names would say.
use Rattle.std.proofs.Common.{ℕ, ◌≤◌, ◌≡◌, ◌==◌, Bool, true, false, cond, nat_le, nat_eq, List, [], ◌∷◌, ◌++◌, length, bytes_eq, Option, Some, None, unwrap_or, refl, sym, ◌∙◌, ap, subst, arith}
use Rattle.std.specs.HashMap.{HashMap, get}
use Rattle.std.specs.Map.{lookup}
use Rattle.std.proofs.Math.Path.{fun_ext}
use Rattle.std.proofs.lemmas.Bool.{and_parts, cond-true, cond-false, eqb-true, eq-eqb, leb-true, lt-ltb}
use Rattle.std.proofs.lemmas.Slice.Eq.{bytes_eq-Decides}
use Rattle.nm_types.specs.Names.{are_word_bytes, IsName}
use Rattle.vale_script.specs.Keys.{packed, before_blank, behind_blank, is_port_text, port_number, port_eq, numbers_seen, ports_seen}
use Rattle.vale_script.specs.Rules.{port_key}
use Rattle.vale_script.specs.Sound.{IsUserName}
use Rattle.vale_script.specs.Tables.{updated}
use Rattle.vale_words.specs.Words.{is_graphic, are_graphic, has_bytes, has_up_to, is_user_name, is_file_name, text_of}
use Rattle.nm_types.proofs.NameBytes.{both, are-graphic, name_graphic, name_sizes}

-- Words of graphic bytes that are one number are one word.

graphic-range : (b : ℕ) → is_graphic b ≡ true → (33 ≤ b) × (b ≤ 126)
graphic-range b h = let parts = and_parts (nat_le 33 b) (nat_le b 126) h in (leb-true 33 b parts.0, leb-true b 126 parts.1)

packed-same : (xs ys : List ℕ) → are_graphic xs ≡ true → are_graphic ys ≡ true → packed xs ≡ packed ys → xs ≡ ys
packed-same [] [] p q e = refl
packed-same [] (y ∷ ys) p q e = let low = (graphic-range y (and_parts (is_graphic y) (are_graphic ys) q).0).0 in absurd (omega (arith, e, low))
packed-same (x ∷ xs) [] p q e = let low = (graphic-range x (and_parts (is_graphic x) (are_graphic xs) p).0).0 in absurd (omega (arith, e, low))
packed-same (x ∷ xs) (y ∷ ys) p q e =
    let left = and_parts (is_graphic x) (are_graphic xs) p in
    let right = and_parts (is_graphic y) (are_graphic ys) q in
    let most = (graphic-range x left.0).1 in
    let other = (graphic-range y right.0).1 in
    let front : x ≡ y = omega (arith, e, most, other) in
    let back : packed xs ≡ packed ys = omega (arith, e, most, other) in
    ap (λ (b : ℕ). b ∷ xs) front ∙ ap (λ (bs : List ℕ). y ∷ bs) (packed-same xs ys left.1 right.1 back)

user-graphic : (user : List ℕ) → is_user_name user ≡ true → are_graphic user ≡ true
user-graphic user named = are-graphic user (and_parts (has_up_to 16 user) (are_word_bytes user) named).1

word-graphic : (word : List ℕ) → is_file_name word ≡ true → are_graphic word ≡ true
word-graphic word named = (and_parts (has_bytes word) (are_graphic word) named).1

-- A table by keys, of which each valid word has its own.

by-word : {X : Type 0} (valid same : Bool) (new old w : Option X) → (same ≡ true → (valid ≡ true) × (new ≡ w)) → (same ≡ false → valid ≡ true → new ≡ old)
    → cond valid new None ≡ cond same w (cond valid old None)
by-word valid true new old w here apart = cond-true valid new None (here refl).0 ∙ (here refl).1
by-word true false new old w here apart = apart refl refl
by-word false false new old w here apart = refl

module _ {K X : Type 0} (valid : List ℕ → Bool) (key : List ℕ → K) (eq : K → K → Bool) (one : (a b : List ℕ) → valid a ≡ true → valid b ≡ true → eq (key a) (key b) ≡ true → a ≡ b)
    (alike : (k : K) → eq k k ≡ true) where
  keyed : (old new : K → Option X) (word : List ℕ) (w : Option X) → valid word ≡ true → ((k : K) → new k ≡ cond (eq (key word) k) w (old k))
      → (λ (other : List ℕ). cond (valid other) (new (key other)) None) ≡ updated (λ (other : List ℕ). cond (valid other) (old (key other)) None) word w
  keyed old new word w is changed = fun_ext (λ (other : List ℕ).
      by-word (valid other) (bytes_eq word other) (new (key other)) (old (key other)) w
      (λ (e : bytes_eq word other ≡ true).
      let same : word ≡ other = (bytes_eq-Decides word other).0 e in (
        subst (λ (a : List ℕ). valid a ≡ true) same is,
        subst (λ (a : List ℕ). new (key a) ≡ w) same (changed (key word) ∙ cond-true (eq (key word) (key word)) w (old (key word)) (alike (key word))),
      ))
      (λ (e : bytes_eq word other ≡ false) (there : valid other ≡ true).
      changed (key other) ∙ cond-false (eq (key word) (key other)) w (old (key other)) (by_key other e there (eq (key word) (key other)) refl)))
    where
      no : (other : List ℕ) → bytes_eq word other ≡ false → word ≡ other → true ≡ false
      no other e same = sym ((bytes_eq-Decides word other).1 same) ∙ e

      by_key : (other : List ℕ) → bytes_eq word other ≡ false → valid other ≡ true → (b : Bool) → eq (key word) (key other) ≡ b → eq (key word) (key other) ≡ false
      by_key other e there false h = h
      by_key other e there true h = h ∙ no other e (one word other is there h)

-- Users.

user-one : (a b : List ℕ) → is_user_name a ≡ true → is_user_name b ≡ true → nat_eq (packed a) (packed b) ≡ true → a ≡ b
user-one a b left right e = packed-same a b (user-graphic a left) (user-graphic b right) (eqb-true (packed a) (packed b) e)

nat-alike : (n : ℕ) → nat_eq n n ≡ true
nat-alike n = eq-eqb n n refl

pub numbers_updated : {S : Type 0} (old new : HashMap ℕ ℕ S) (user : List ℕ) (key : ℕ) (w : Option ℕ) → IsUserName user → key ≡ packed user
    → ((k : ℕ) → get nat_eq new k ≡ cond (nat_eq key k) w (get nat_eq old k)) → numbers_seen new ≡ updated (numbers_seen old) user w
unfolding numbers_seen
numbers_updated old new user key w named is changed =
    keyed is_user_name packed nat_eq user-one nat-alike (get nat_eq old) (get nat_eq new) user w named
    (subst (λ (n : ℕ). (k : ℕ) → get nat_eq new k ≡ cond (nat_eq n k) w (get nat_eq old k)) is changed)

pub number_at : {S : Type 0} (table : HashMap ℕ ℕ S) (user : List ℕ) (key : ℕ) → IsUserName user → key ≡ packed user → get nat_eq table key ≡ numbers_seen table user
unfolding numbers_seen
number_at table user key named is =
    ap (λ (k : ℕ). get nat_eq table k) is ∙ sym (cond-true (is_user_name user) (get nat_eq table (packed user)) None named)

-- Ports.

not-blank : (b : ℕ) → is_graphic b ≡ true → (b == 32) ≡ false
not-blank b h = by (b == 32) refl
  where
    by : (c : Bool) → (b == 32) ≡ c → c ≡ false
    by false e = refl
    by true e = let same = eqb-true b 32 e in let low = (graphic-range b h).0 in absurd (omega (arith, same, low))

before-key : (user word : List ℕ) → are_graphic user ≡ true → before_blank (user ++ (32 ∷ []) ++ word) ≡ user
before-key [] word h = refl
before-key (b ∷ bs) word h =
    let parts = and_parts (is_graphic b) (are_graphic bs) h in
    cond-false (b == 32) _ _ (not-blank b parts.0) ∙ ap (λ (w : List ℕ). b ∷ w) (before-key bs word parts.1)

behind-key : (user word : List ℕ) → are_graphic user ≡ true → behind_blank (user ++ (32 ∷ []) ++ word) ≡ word
behind-key [] word h = refl
behind-key (b ∷ bs) word h =
    let parts = and_parts (is_graphic b) (are_graphic bs) h in
    cond-false (b == 32) _ _ (not-blank b parts.0) ∙ behind-key bs word parts.1

-- a text is what stands before its first blank, the blank, and what stands behind it
whole-by : (b : ℕ) (bs : List ℕ) (blank : Bool) → (b == 32) ≡ blank → (has_bytes (behind_blank bs) ≡ true → before_blank bs ++ (32 ∷ []) ++ behind_blank bs ≡ bs)
    → has_bytes (cond blank bs (behind_blank bs)) ≡ true → cond blank [] (b ∷ before_blank bs) ++ (32 ∷ []) ++ cond blank bs (behind_blank bs) ≡ b ∷ bs
whole-by b bs true e more some = ap (λ (c : ℕ). c ∷ bs) (sym (eqb-true b 32 e))
whole-by b bs false e more some = ap (λ (w : List ℕ). b ∷ w) (more some)

whole : (text : List ℕ) → has_bytes (behind_blank text) ≡ true → before_blank text ++ (32 ∷ []) ++ behind_blank text ≡ text
whole [] some = absurd cc
whole (b ∷ bs) some = whole-by b bs (b == 32) refl (whole bs) some

port-one : (a b : List ℕ) → is_port_text a ≡ true → is_port_text b ≡ true → port_eq (port_number a) (port_number b) ≡ true → a ≡ b
port-one a b left right e =
    let first = and_parts (is_user_name (before_blank a)) (is_file_name (behind_blank a)) left in
    let second = and_parts (is_user_name (before_blank b)) (is_file_name (behind_blank b)) right in
    let equal = and_parts (nat_eq (packed (before_blank a)) (packed (before_blank b))) (nat_eq (packed (behind_blank a)) (packed (behind_blank b))) e in
    let users = user-one (before_blank a) (before_blank b) first.0 second.0 equal.0 in
    let words = packed-same (behind_blank a) (behind_blank b) (word-graphic (behind_blank a) first.1) (word-graphic (behind_blank b) second.1)
    (eqb-true (packed (behind_blank a)) (packed (behind_blank b)) equal.1) in
    sym (whole a (and_parts (has_bytes (behind_blank a)) (are_graphic (behind_blank a)) first.1).0)
    ∙ ap (λ (w : List ℕ). w ++ (32 ∷ []) ++ behind_blank a) users
    ∙ ap (λ (w : List ℕ). before_blank b ++ (32 ∷ []) ++ w) words
    ∙ whole b (and_parts (has_bytes (behind_blank b)) (are_graphic (behind_blank b)) second.1).0

port-alike : (k : ℕ × ℕ) → port_eq k k ≡ true
port-alike k = both (nat_eq k.0 k.0) (nat_eq k.1 k.1) (nat-alike k.0) (nat-alike k.1)

name-file : (name : List ℕ) → IsName name → is_file_name name ≡ true
name-file name named = both (has_bytes name) (are_graphic name) (lt-ltb 0 (length name) (name_sizes name named).0) (name_graphic name named)

name-text : (name : List ℕ) → IsName name → unwrap_or (text_of name) [] ≡ name
unfolding text_of
name-text name named = ap (λ (text : Option (List ℕ)). unwrap_or text []) (cond-true (is_file_name name) (Some name) None (name-file name named))

key-before : (user name : List ℕ) → IsUserName user → before_blank (port_key user name) ≡ user
key-before user name named = before-key user (unwrap_or (text_of name) []) (user-graphic user named)

key-behind : (user name : List ℕ) → IsUserName user → IsName name → behind_blank (port_key user name) ≡ name
key-behind user name named port = behind-key user (unwrap_or (text_of name) []) (user-graphic user named) ∙ name-text name port

key-text : (user name : List ℕ) → IsUserName user → IsName name → is_port_text (port_key user name) ≡ true
key-text user name named port =
    both (is_user_name (before_blank (port_key user name))) (is_file_name (behind_blank (port_key user name)))
    (subst (λ (w : List ℕ). is_user_name w ≡ true) (sym (key-before user name named)) named)
    (subst (λ (w : List ℕ). is_file_name w ≡ true) (sym (key-behind user name named port)) (name-file name port))

key-number : (user name : List ℕ) → IsUserName user → IsName name → port_number (port_key user name) ≡ (packed user, packed name)
key-number user name named port =
    ap (λ (w : List ℕ). (packed w, packed (behind_blank (port_key user name)))) (key-before user name named)
    ∙ ap (λ (w : List ℕ). (packed user, packed w)) (key-behind user name named port)

pub ports_updated : {S : Type 0} (old new : HashMap (ℕ × ℕ) Bool S) (user name : List ℕ) (key : ℕ × ℕ) (w : Option Bool) → IsUserName user → IsName name
    → key ≡ (packed user, packed name) → ((k : ℕ × ℕ) → get port_eq new k ≡ cond (port_eq key k) w (get port_eq old k))
    → ports_seen new ≡ updated (ports_seen old) (port_key user name) w
unfolding ports_seen
ports_updated old new user name key w named port is changed =
    let at : key ≡ port_number (port_key user name) = is ∙ sym (key-number user name named port) in
    keyed is_port_text port_number port_eq port-one port-alike (get port_eq old) (get port_eq new) (port_key user name) w (key-text user name named port)
    (subst (λ (n : ℕ × ℕ). (k : ℕ × ℕ) → get port_eq new k ≡ cond (port_eq n k) w (get port_eq old k)) at changed)

pub port_at : {S : Type 0} (table : HashMap (ℕ × ℕ) Bool S) (user name : List ℕ) (key : ℕ × ℕ) → IsUserName user → IsName name → key ≡ (packed user, packed name)
    → get port_eq table key ≡ ports_seen table (port_key user name)
unfolding ports_seen
port_at table user name key named port is =
    ap (λ (k : ℕ × ℕ). get port_eq table k) (is ∙ sym (key-number user name named port))
    ∙ sym (cond-true (is_port_text (port_key user name)) (get port_eq table (port_number (port_key user name))) None (key-text user name named port))

-- An empty table says nothing.

none-found : {X : Type 0} (valid : Bool) (found : Option X) → found ≡ None → cond valid found None ≡ None
none-found true found e = e
none-found false found e = refl

pub no_numbers : {S : Type 0} (table : HashMap ℕ ℕ S) → table.entries ≡ [] → numbers_seen table ≡ (λ (name : List ℕ). None)
unfolding numbers_seen
no_numbers table none = fun_ext (λ (name : List ℕ).
    none-found (is_user_name name) (get nat_eq table (packed name)) (ap (λ (es : List (ℕ × ℕ)). lookup (nat_eq (packed name)) es) none))

pub no_ports : {S : Type 0} (table : HashMap (ℕ × ℕ) Bool S) → table.entries ≡ [] → ports_seen table ≡ (λ (text : List ℕ). None)
unfolding ports_seen
no_ports table none = fun_ext (λ (text : List ℕ).
    none-found (is_port_text text) (get port_eq table (port_number text)) (ap (λ (es : List ((ℕ × ℕ) × Bool)). lookup (port_eq (port_number text)) es) none))

pub ruleset empty_tables = (no_numbers, no_ports)
