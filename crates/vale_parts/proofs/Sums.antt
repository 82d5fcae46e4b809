-- Sums of counters.
use Rattle.std.proofs.Common.{ℕ, Bool, true, false, ◌≡◌, ◌+◌, ◌==◌, refl, sym, ◌∙◌, ap, arith}
use Rattle.std.proofs.lemmas.Bool.{eqb-true, eqb-false, eq-eqb, ne_eqb}
use Rattle.nm_types.specs.declared.id.Counts.{Counts}
use Rattle.nm_types.specs.Counters.{zero_counts, sum_of_counts}

abbrev counts_by : ℕ → ℕ → ℕ → ℕ → ℕ → ℕ → Counts
counts_by sent short lone given full read = record { sent = sent; short = short; lone = lone; given = given; full = full; read = read }

six : {a b c d e f k l m n o p : ℕ} → a ≡ k → b ≡ l → c ≡ m → d ≡ n → e ≡ o → f ≡ p → counts_by a b c d e f ≡ counts_by k l m n o p
six {a} {b} {c} {d} {e} {f} {k} {l} {m} {n} {o} {p} one two three four five other =
    ap (λ (x : ℕ). counts_by x b c d e f) one
    ∙ (ap (λ (x : ℕ). counts_by k x c d e f) two
    ∙ (ap (λ (x : ℕ). counts_by k l x d e f) three
    ∙ (ap (λ (x : ℕ). counts_by k l m x e f) four
    ∙ (ap (λ (x : ℕ). counts_by k l m n x f) five ∙ ap (λ (x : ℕ). counts_by k l m n o x) other))))

none : (n : ℕ) → n + 0 ≡ n
none n = omega arith

moved : (a b c : ℕ) → a + b + c ≡ a + (b + c)
moved a b c = omega arith

pub sum-zero : (c : Counts) → sum_of_counts c zero_counts ≡ c
sum-zero c = six (none c.sent) (none c.short) (none c.lone) (none c.given) (none c.full) (none c.read)

pub sum-sum : (a b c : Counts) → sum_of_counts (sum_of_counts a b) c ≡ sum_of_counts a (sum_of_counts b c)
sum-sum a b c =
    six (moved a.sent b.sent c.sent) (moved a.short b.short c.short) (moved a.lone b.lone c.lone) (moved a.given b.given c.given) (moved a.full b.full c.full) (moved a.read b.read c.read)

turned_by : (a b : ℕ) (t : Bool) → (a == b) ≡ t → (b == a) ≡ t
turned_by a b true e = eq-eqb b a (sym (eqb-true a b e))
turned_by a b false e = ne_eqb b a (λ same. eqb-false a b e (sym same))

pub eqb-turned : (a b : ℕ) → (b == a) ≡ (a == b)
eqb-turned a b = turned_by a b (a == b) refl
