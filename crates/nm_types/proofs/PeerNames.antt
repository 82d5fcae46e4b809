-- The name of a pipe's other end is again a name of a pipe's end.
use Rattle.std.proofs.Common.{ℕ, zero, suc, Bool, true, false, cond, List, [], ◌∷◌, ◌≡◌, ◌<◌, ◌≤◌, ◌+◌, ◌-◌, ◌++◌, ◌==◌, is_some, replicate, Option, Some, None, length, take, drop, set, get_or, nat_eq, nat_lt, codes, refl, sym, ◌∙◌, ap, arith}
use Rattle.std.specs.List.{starts_with}
use Rattle.std.proofs.lemmas.Bool.{and_parts, ltb-true}
use Rattle.std.proofs.lemmas.List.{take-set-le, take-set, drop-set-add, get_or-set_same, take-append-drop, drop-set-lt, get_or-take, length-take-le, length-set, length-drop}
use Rattle.std.proofs.Math.Seq.{take-set-lt, drop-append_seam}
use Rattle.nm_types.specs.declared.name.Kind.{Kind}
use Rattle.nm_types.specs.declared.name.Kind.TheVariants.{Vale, Monitor}
use Rattle.nm_types.specs.Names.{kind_of, pipe_end, is_pipe_kind, is_switch_port, is_word, is_pipe_name, is_name, peer_name, peer_byte}

-- what a pipe's name is made of
record IsPipeText (text : List ℕ) : Type 0 where
  short : nat_lt 16 (length text) ≡ false
  other : starts_with nat_eq text (codes "vale") ≡ false
  pipe : starts_with nat_eq text (codes "pipe") ≡ true
  word : is_word (take (length (drop 4 text) - 1) (drop 4 text)) ≡ true

-- such a text names the end that its last byte tells
kind_of-text : (text : List ℕ) → IsPipeText text → kind_of text ≡ pipe_end (get_or (drop 4 text) (length (drop 4 text) - 1) 0)
kind_of-text text is = rw (is.short, is.other, is.pipe, is.word) refl

by_kind : (short other pipe word : Bool) (vale_kind monitor_kind : Option Kind) (end : Option Kind)
    → is_pipe_kind vale_kind ≡ false → is_pipe_kind monitor_kind ≡ false
    → is_pipe_kind (cond short None (cond other vale_kind (cond pipe (cond word end None) monitor_kind))) ≡ true
    → (short ≡ false) × ((other ≡ false) × ((pipe ≡ true) × (word ≡ true)))
by_kind true other pipe word v m end no_v no_m is = absurd cc
by_kind false true pipe word v m end no_v no_m is = absurd cc
by_kind false false true true v m end no_v no_m is = (refl, (refl, (refl, refl)))
by_kind false false true false v m end no_v no_m is = absurd cc
by_kind false false false word v m end no_v no_m is = absurd cc

not_pipe_if : (b : Bool) (kind : Kind) → is_pipe_kind (Some kind) ≡ false → is_pipe_kind (cond b (Some kind) None) ≡ false
not_pipe_if true kind is = is
not_pipe_if false kind is = refl

monitor_kind : (starts word : Bool) → is_pipe_kind (cond starts (cond word (Some Monitor) None) None) ≡ false
monitor_kind true true = refl
monitor_kind true false = refl
monitor_kind false word = refl

pipe_text : (text : List ℕ) → is_pipe_kind (kind_of text) ≡ true → IsPipeText text
pipe_text text is =
    let parts = by_kind (nat_lt 16 (length text)) (starts_with nat_eq text (codes "vale")) (starts_with nat_eq text (codes "pipe"))
    (is_word (take (length (drop 4 text) - 1) (drop 4 text)))
    (cond (is_switch_port (drop 4 text)) (Some Vale) None)
    (cond (starts_with nat_eq text (codes "mon")) (cond (is_word (drop 3 text)) (Some Monitor) None) None)
    (pipe_end (get_or (drop 4 text) (length (drop 4 text) - 1) 0))
    (not_pipe_if (is_switch_port (drop 4 text)) Vale refl)
    (monitor_kind (starts_with nat_eq text (codes "mon")) (is_word (drop 3 text))) is in
    record { short = parts.0; other = parts.1.0; pipe = parts.1.1.0; word = parts.1.1.1 }

-- a pipe's name has at least six bytes
long : (text : List ℕ) → IsPipeText text → 6 ≤ length text
long text is =
    let parts = and_parts (nat_lt 0 (length (take (length (drop 4 text) - 1) (drop 4 text)))) _ is.word in
    let some = ltb-true 0 (length (take (length (drop 4 text) - 1) (drop 4 text))) parts.0 in
    let cut = take-most (length (drop 4 text) - 1) (drop 4 text) in
    let rest = length-drop 4 text in
    omega arith
  where
    take-most : (n : ℕ) (xs : List ℕ) → length (take n xs) ≤ n
    take-most zero xs = omega arith
    take-most (suc n) [] = omega arith
    take-most (suc n) (x ∷ xs) = let rest = take-most n xs in omega arith

rest-set : (text : List ℕ) (b : ℕ) → 6 ≤ length text → drop 4 (set text (length text - 1) b) ≡ set (drop 4 text) (length (drop 4 text) - 1) b
rest-set text b size =
    let rest = length-drop 4 text in
    let place : length text - 1 ≡ 4 + (length (drop 4 text) - 1) = omega arith in
    rw place (drop-set-add 4 text (length (drop 4 text) - 1) b)

-- with another last byte it is such a text still
text-set : (text : List ℕ) (b : ℕ) → IsPipeText text → IsPipeText (set text (length text - 1) b)
text-set text b is =
    let size = long text is in
    let len = length-set text (length text - 1) b in
    let front : take 4 (set text (length text - 1) b) ≡ take 4 text = take-set-le 4 text (length text - 1) b (omega arith) in
    let rest = rest-set text b size in
    let rest_len = length-set (drop 4 text) (length (drop 4 text) - 1) b in
    record {
      short = rw len is.short;
      other = rw front is.other;
      pipe = rw front is.pipe;
      word = rw (rest, rest_len, take-set (drop 4 text) (length (drop 4 text) - 1) b) is.word;
    }

last-set : (text : List ℕ) (b : ℕ) → 6 ≤ length text → get_or (drop 4 (set text (length text - 1) b)) (length (drop 4 (set text (length text - 1) b)) - 1) 0 ≡ b
last-set text b size =
    let rest = rest-set text b size in
    let rest_len = length-set (drop 4 text) (length (drop 4 text) - 1) b in
    let len = length-drop 4 text in
    let within : length (drop 4 text) - 1 < length (drop 4 text) = omega arith in
    rw (rest, rest_len) (get_or-set_same (drop 4 text) (length (drop 4 text) - 1) b 0 within)

kind-set : (text : List ℕ) (b : ℕ) → IsPipeText text → kind_of (set text (length text - 1) b) ≡ pipe_end b
kind-set text b is = kind_of-text (set text (length text - 1) b) (text-set text b is) ∙ ap pipe_end (last-set text b (long text is))

peer_end : (b : ℕ) → (is_some (pipe_end (peer_byte b)) ≡ true) × (is_pipe_kind (pipe_end (peer_byte b)) ≡ true)
peer_end b = by_test (b == 123)
  where
    by_test : (t : Bool) → (is_some (pipe_end (cond t 125 123)) ≡ true) × (is_pipe_kind (pipe_end (cond t 125 123)) ≡ true)
    by_test true = (refl, refl)
    by_test false = (refl, refl)

pub peer-is_name : (text : List ℕ) → is_pipe_name text ≡ true → is_name (peer_name text) ≡ true
unfolding is_pipe_name is_name peer_name
peer-is_name text is =
    let b = peer_byte (get_or text (length text - 1) 0) in
    rw (kind-set text b (pipe_text text is)) (peer_end (get_or text (length text - 1) 0)).0

pub peer-is_pipe : (text : List ℕ) → is_pipe_name text ≡ true → is_pipe_name (peer_name text) ≡ true
unfolding is_pipe_name peer_name
peer-is_pipe text is =
    let b = peer_byte (get_or text (length text - 1) 0) in
    rw (kind-set text b (pipe_text text is)) (peer_end (get_or text (length text - 1) 0)).1

pipe_is_long : (text : List ℕ) → is_pipe_name text ≡ true → 6 ≤ length text
unfolding is_pipe_name
pipe_is_long text is = long text (pipe_text text is)

-- the bytes of a name, and of its peer's
pub record IsNameIn (bytes : List ℕ) (len : ℕ) : Type 0 where
  pub size : length bytes ≡ 16
  pub within : len ≤ 16
  pub padded : bytes ≡ take len bytes ++ replicate (16 - len) 0
  pub pipe : is_pipe_name (take len bytes) ≡ true

abbrev pub peer_bytes : List ℕ → ℕ → List ℕ
peer_bytes bytes len = set bytes (len - 1) (peer_byte (get_or bytes (len - 1) 0))

pub some_bytes : (bytes : List ℕ) (len : ℕ) → IsNameIn bytes len → 1 ≤ len
some_bytes bytes len is =
    let size = pipe_is_long (take len bytes) is.pipe in
    let cut = length-take-le len bytes (rw is.size is.within) in
    omega (arith, size, cut)

pub peer-text : (bytes : List ℕ) (len : ℕ) → IsNameIn bytes len → take len (peer_bytes bytes len) ≡ peer_name (take len bytes)
unfolding peer_name
peer-text bytes len is =
    let some = some_bytes bytes len is in
    let cut : length (take len bytes) ≡ len = length-take-le len bytes (rw is.size is.within) in
    let last : get_or (take len bytes) (len - 1) 0 ≡ get_or bytes (len - 1) 0 = get_or-take len bytes (len - 1) 0 (omega arith) in
    rw (cut, last) (take-set-lt len bytes (len - 1) (peer_byte (get_or bytes (len - 1) 0)) (omega arith))

pub peer-padded : (bytes : List ℕ) (len : ℕ) → IsNameIn bytes len → peer_bytes bytes len ≡ take len (peer_bytes bytes len) ++ replicate (16 - len) 0
peer-padded bytes len is =
    let some = some_bytes bytes len is in
    let cut : length (take len bytes) ≡ len = length-take-le len bytes (rw is.size is.within) in
    let pad : drop len bytes ≡ replicate (16 - len) 0 =
    ap (λ (xs : List ℕ). drop len xs) is.padded ∙ (ap (λ (n : ℕ). drop n (take len bytes ++ replicate (16 - len) 0)) (sym cut) ∙ drop-append_seam (take len bytes) (replicate (16 - len) 0)) in
    let behind : drop len (peer_bytes bytes len) ≡ drop len bytes = drop-set-lt len bytes (len - 1) (peer_byte (get_or bytes (len - 1) 0)) (omega arith) in
    sym (take-append-drop len (peer_bytes bytes len)) ∙ ap (λ (rest : List ℕ). take len (peer_bytes bytes len) ++ rest) (behind ∙ pad)

pub peer-size : (bytes : List ℕ) (len : ℕ) → IsNameIn bytes len → length (peer_bytes bytes len) ≡ 16
peer-size bytes len is = length-set bytes (len - 1) (peer_byte (get_or bytes (len - 1) 0)) ∙ is.size
