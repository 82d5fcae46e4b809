-- Equal transcripts are of equal histories: the lines are equal one by one, and each tells its entry.
use Rattle.std.specs.List.{AllByRecursion as Each}
use Rattle.std.proofs.Common.{ℕ, ◌+◌, ◌<◌, ◌≡◌, List, [], ◌∷◌, ◌++◌, drop, length, codes, decimal, refl, sym, ◌∙◌, ap, arith, append_assoc}
use Rattle.vale_entry.specs.declared.entry.Entry.{Entry}
use Rattle.vale_entry.specs.Transcript.{entry_line, entry_lines, start_line, end_line, text_of}
use Rattle.vale_entry.specs.Laws.{ArePrintable}
use Rattle.vale_entry.specs.Fits.{FitsU64, FitsEntry}
use Rattle.vale_text.specs.Laws.{TranscriptsTellHistories}
use Rattle.vale_fields.proofs.Cuts.{cut, spell, spell-same}
use Rattle.vale_fields.proofs.Texts.{IsDigit, decimal-digits, decimal-word, decimal-same, no-number}
use Rattle.vale_text.proofs.Lines.{said_entry, words, line-spelled, are-words, words-same, Says, says}

-- an entry's line, and what stands behind it
line-same : (v n : ℕ) (d e : Entry) (a b : List ℕ) → Says n d → Says n e → entry_line v n d ++ a ≡ entry_line v n e ++ b → (d ≡ e) × (a ≡ b)
line-same v n d e a b one other same =
    let first : entry_line v n d ++ a ≡ spell (decimal n) (words v one.said) a = ap (λ (x : Entry). entry_line v n x ++ a) one.is ∙ line-spelled v n one.said a in
    let second : entry_line v n e ++ b ≡ spell (decimal n) (words v other.said) b = ap (λ (x : Entry). entry_line v n x ++ b) other.is ∙ line-spelled v n other.said b in
    let parts = spell-same (decimal n) (decimal n) (words v one.said) (words v other.said) a b (decimal-word n) (decimal-word n) (are-words v one.said one.plain) (are-words v other.said other.plain)
    (sym first ∙ (same ∙ second)) in
    let said = words-same v one.said other.said one.plain other.plain parts.1.0 in
    (one.is ∙ (ap (said_entry n) said ∙ sym other.is), parts.1.1)

-- no line of an entry begins with a letter, as the last line does
spell-number : (n x : ℕ) (ws : List (List ℕ)) (a b : List ℕ) → 58 < x → spell (decimal n) ws a ≡ x ∷ b → ⊥
spell-number n x [] a b big e = no-number (decimal n) 10 x a b (decimal-digits n) big (omega arith) e
spell-number n x (w ∷ ws) a b big e = no-number (decimal n) 32 x (spell w ws a) b (decimal-digits n) big (omega arith) e

pub line-end : (v n : ℕ) (e : Entry) (a b : List ℕ) → Says n e → entry_line v n e ++ a ≡ 101 ∷ b → ⊥
line-end v n e a b one same =
    let first : entry_line v n e ++ a ≡ spell (decimal n) (words v one.said) a = ap (λ (x : Entry). entry_line v n x ++ a) one.is ∙ line-spelled v n one.said a in
    spell-number n 101 (words v one.said) a b (omega arith) (sym first ∙ same)

-- the lines of entries up to a line that begins with a letter
lines-same : (v n : ℕ) (h k : List Entry) (a b : List ℕ) → ArePrintable n h → ArePrintable n k → Each FitsEntry h → Each FitsEntry k
    → entry_lines v n h ++ 101 ∷ a ≡ entry_lines v n k ++ 101 ∷ b → h ≡ k
lines-same v n [] [] a b ph pk fh fk e = refl
lines-same v n [] (y ∷ ys) a b ph pk fh fk e =
    absurd (line-end v n y (entry_lines v (n + 1) ys ++ 101 ∷ b) a (says n y pk.0 fk.0) (sym (append_assoc (entry_line v n y) (entry_lines v (n + 1) ys) (101 ∷ b)) ∙ sym e))
lines-same v n (x ∷ xs) [] a b ph pk fh fk e =
    absurd (line-end v n x (entry_lines v (n + 1) xs ++ 101 ∷ a) b (says n x ph.0 fh.0) (sym (append_assoc (entry_line v n x) (entry_lines v (n + 1) xs) (101 ∷ a)) ∙ e))
lines-same v n (x ∷ xs) (y ∷ ys) a b ph pk fh fk e =
    let parts = line-same v n x y (entry_lines v (n + 1) xs ++ 101 ∷ a) (entry_lines v (n + 1) ys ++ 101 ∷ b) (says n x ph.0 fh.0) (says n y pk.0 fk.0)
    (sym (append_assoc (entry_line v n x) (entry_lines v (n + 1) xs) (101 ∷ a)) ∙ (e ∙ append_assoc (entry_line v n y) (entry_lines v (n + 1) ys) (101 ∷ b))) in
    let head : x ≡ y = parts.0 in
    let tail : xs ≡ ys = lines-same v (n + 1) xs ys a b ph.1 pk.1 fh.1 fk.1 parts.1 in
    cc

feed-not_digit : IsDigit 10 → ⊥
feed-not_digit h = absurd (omega (arith, h.0))

blank-not_digit : IsDigit 32 → ⊥
blank-not_digit h = absurd (omega (arith, h.0))

-- a first line, and what stands behind it
start-is : (v p : ℕ) (a : List ℕ) → start_line v p ++ a ≡ codes "vale " ++ (decimal v ++ 32 ∷ (codes "pool " ++ (decimal p ++ 10 ∷ a)))
unfolding start_line
start-is v p a =
    let version : List ℕ = decimal v in
    let pool : List ℕ = decimal p in
    ap (λ (t : List ℕ). codes "vale " ++ t)
    (append_assoc (version ++ codes " pool " ++ pool) (10 ∷ []) a
    ∙ append_assoc (version ++ codes " pool ") pool (10 ∷ a)
    ∙ append_assoc version (codes " pool ") (pool ++ 10 ∷ a))

pub start-same : (v w p q : ℕ) (a b : List ℕ) → FitsU64 v → FitsU64 w → FitsU64 p → FitsU64 q → start_line v p ++ a ≡ start_line w q ++ b → (v ≡ w) × ((p ≡ q) × (a ≡ b))
start-same v w p q a b fv fw fp fq e =
    let versions = cut IsDigit (decimal v) (decimal w) 32 32 (codes "pool " ++ (decimal p ++ 10 ∷ a)) (codes "pool " ++ (decimal q ++ 10 ∷ b)) blank-not_digit blank-not_digit (decimal-digits v) (decimal-digits w)
    (ap (drop 5) (sym (start-is v p a) ∙ (e ∙ start-is w q b))) in
    let pools = cut IsDigit (decimal p) (decimal q) 10 10 a b feed-not_digit feed-not_digit (decimal-digits p) (decimal-digits q) (ap (drop 5) versions.1.1) in
    (decimal-same v w fv fw versions.0, (decimal-same p q fp fq pools.0, pools.1.1))

-- the last line begins with a letter
ends-same : (v : ℕ) (h k : List Entry) (c d f g : ℕ) → ArePrintable 1 h → ArePrintable 1 k → Each FitsEntry h → Each FitsEntry k
    → entry_lines v 1 h ++ end_line c f ≡ entry_lines v 1 k ++ end_line d g → h ≡ k
unfolding end_line
ends-same v h k c d f g ph pk fh fk e = lines-same v 1 h k (drop 1 (end_line c f)) (drop 1 (end_line d g)) ph pk fh fk e

pub transcripts-tell : TranscriptsTellHistories
unfolding text_of
transcripts-tell v w p q h k f g fv fw fp fq ph pk fh fk e =
    let one : List ℕ = end_line (length h) f in
    let other : List ℕ = end_line (length k) g in
    let start = start-same v w p q (entry_lines v 1 h ++ one) (entry_lines w 1 k ++ other) fv fw fp fq
    (sym (append_assoc (start_line v p) (entry_lines v 1 h) one) ∙ (e ∙ append_assoc (start_line w q) (entry_lines w 1 k) other)) in
    let lines : entry_lines v 1 h ++ one ≡ entry_lines v 1 k ++ other = start.1.1 ∙ ap (λ (n : ℕ). entry_lines n 1 k ++ other) (sym start.0) in
    (start.0, start.1.0, ends-same v h k (length h) (length k) f g ph pk fh fk lines)
