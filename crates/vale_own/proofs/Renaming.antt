-- The exchange of pushed slots, one after another, is a renaming of buffers.
use Rattle.std.proofs.Common.{ℕ, ◌+◌, ◌≤◌, ◌≡◌, ◌≢◌, Bool, true, false, cond, ◌==◌, nat_eq, List, [], ◌∷◌, map, refl, sym, ◌∙◌, ap, arith, inl, inr, eq-eqb}
use Rattle.std.specs.List.{AllByRecursion as Each, IsDistinct}
use Rattle.std.proofs.lemmas.Bool.{cases_Bool, eqb-true}
use Rattle.std.proofs.lemmas.Bool.Decides.{nat_tests}
use Rattle.nm_types.specs.Slots.{Pushed}
use Rattle.nm_types.specs.Exchange.{swapped}
use Rattle.nm_types.proofs.Exchanges.{swapped-first, swapped-other}
use Rattle.vale_entry.proofs.Counting.{count_of, count_of-cons}

-- one slot more: the buffer now in its place and the one that it names change places
abbrev pub renamed_by : (ℕ → ℕ) → Pushed → ℕ → ℕ
renamed_by g p b = swapped (g p.was) p.slot.buf_idx (g b)

abbrev pub renamed : (ℕ → ℕ) → List Pushed → ℕ → ℕ
renamed g [] = g
renamed g (p ∷ ps) = renamed (renamed_by g p) ps

swapped-back : (a c x : ℕ) → swapped a c (swapped a c x) ≡ x
swapped-back a c x = grind (arith, nat_tests)

swapped-apart : (a c x y : ℕ) → swapped a c x ≡ swapped a c y → x ≡ y
swapped-apart a c x y e = sym (swapped-back a c x) ∙ (ap (swapped a c) e ∙ swapped-back a c y)

swapped-test : (a c x b : ℕ) → (swapped a c x == b) ≡ (x == swapped a c b)
swapped-test a c x b = grind (arith, nat_tests)

-- how often a buffer stands in a list in which two have changed places
count-swapped : (a c b : ℕ) (g : ℕ → ℕ) (xs : List ℕ) → count_of b (map (λ (x : ℕ). swapped a c (g x)) xs) ≡ count_of (swapped a c b) (map g xs)
count-swapped a c b g [] = refl
count-swapped a c b g (x ∷ xs) =
    let rest = count-swapped a c b g xs in
    let here = swapped-test a c (g x) b in
    count_of-cons b (swapped a c (g x)) (map (λ (y : ℕ). swapped a c (g y)) xs)
    ∙ (ap (λ (t : Bool). cond t 1 0 + count_of b (map (λ (y : ℕ). swapped a c (g y)) xs)) here
    ∙ (ap (λ (n : ℕ). cond (g x == swapped a c b) 1 0 + n) rest ∙ sym (count_of-cons (swapped a c b) (g x) (map g xs))))

-- a renaming of buffers that are named: it leaves how often each buffer stands, and those that are not named
pub record Renames (named : ℕ → Bool) (all : List ℕ) (g : ℕ → ℕ) : Type 0 where
  pub apart : (x y : ℕ) → g x ≡ g y → x ≡ y
  pub counts : (b : ℕ) → count_of b (map g all) ≡ count_of b all
  pub stays : (b : ℕ) → named b ≡ true → named (g b) ≡ true
  pub fixed : (b : ℕ) → named b ≡ false → g b ≡ b

module _ (named : ℕ → Bool) (all : List ℕ) (once : (b : ℕ) → count_of b all ≤ 1) (within : (b : ℕ) → named b ≡ true → 1 ≤ count_of b all) where
  not_same : (x y : ℕ) → named x ≡ false → named y ≡ true → x ≢ y
  not_same x y e f same = absurd (let both = sym e ∙ (ap named same ∙ f) in cc)

  -- which of two cases a swap meets
  swapped-by : (P : ℕ → Type 0) (a c x : ℕ) → P c → P a → P x → P (swapped a c x)
  swapped-by P a c x first second other = elim (cases_Bool (x == a)) [
    | inl is ↦ rw is first
    | inr not ↦ rw not (elim (cases_Bool (x == c)) [
      | inl is ↦ rw is second
      | inr differs ↦ rw differs other
    ])
  ]

  pub renames-one : (g : ℕ → ℕ) (p : Pushed) → Renames named all g → named p.was ≡ true → named p.slot.buf_idx ≡ true → Renames named all (renamed_by g p)
  renames-one g p k was name = record {
    apart = λ x y e. k.apart x y (swapped-apart (g p.was) p.slot.buf_idx (g x) (g y) e);
    counts = λ b. count-swapped (g p.was) p.slot.buf_idx b g all ∙ (k.counts (swapped (g p.was) p.slot.buf_idx b) ∙ same b);
    stays = λ b is. swapped-by (λ (x : ℕ). named x ≡ true) (g p.was) p.slot.buf_idx (g b) name (k.stays p.was was) (k.stays b is);
    fixed = λ b not. ap (swapped (g p.was) p.slot.buf_idx) (k.fixed b not)
        ∙ swapped-other (g p.was) p.slot.buf_idx b (not_same b (g p.was) not (k.stays p.was was)) (not_same b p.slot.buf_idx not name);
  }
    where
      one : (b : ℕ) → named b ≡ true → count_of b all ≡ 1
      one b is = let low = within b is in let high = once b in omega (arith, low, high)

      same : (b : ℕ) → count_of (swapped (g p.was) p.slot.buf_idx b) all ≡ count_of b all
      same b = elim (cases_Bool (b == g p.was)) [
        | inl is ↦ rw is (one p.slot.buf_idx name ∙ sym (ap (λ (x : ℕ). count_of x all) (eqb-true b (g p.was) is) ∙ one (g p.was) (k.stays p.was was)))
        | inr not ↦ rw not (elim (cases_Bool (b == p.slot.buf_idx)) [
          | inl is ↦ rw is (one (g p.was) (k.stays p.was was) ∙ sym (ap (λ (x : ℕ). count_of x all) (eqb-true b p.slot.buf_idx is) ∙ one p.slot.buf_idx name))
          | inr differs ↦ rw differs refl
        ])
      ]

  pub renames : (g : ℕ → ℕ) (ps : List Pushed) → Renames named all g → Each (λ (p : Pushed). named p.was ≡ true) ps → Each (λ (p : Pushed). named p.slot.buf_idx ≡ true) ps → Renames named all (renamed g ps)
  renames g [] k was name = k
  renames g (p ∷ ps) k was name = renames (renamed_by g p) ps (renames-one g p k was.0 name.0) was.1 name.1

-- a slot that has what it names keeps it, while no later one has its place or its name
later-stays : (g : ℕ → ℕ) (ps : List Pushed) (was idx : ℕ) → ((x y : ℕ) → g x ≡ g y → x ≡ y) → g was ≡ idx
    → Each (λ y. nat_eq was y ≡ false) (map (λ (p : Pushed). p.was) ps) → Each (λ y. nat_eq idx y ≡ false) (map (λ (p : Pushed). p.slot.buf_idx) ps)
    → renamed g ps was ≡ idx
later-stays g [] was idx apart is wases names = is
later-stays g (p ∷ ps) was idx apart is wases names =
    let not_place : g was ≢ g p.was = (λ e. not_equal was p.was wases.0 (apart was p.was e)) in
    let not_name : g was ≢ p.slot.buf_idx = (λ e. not_equal idx p.slot.buf_idx names.0 (sym is ∙ e)) in
    later-stays (renamed_by g p) ps was idx (λ x y e. apart x y (swapped-apart (g p.was) p.slot.buf_idx (g x) (g y) e))
    (swapped-other (g p.was) p.slot.buf_idx (g was) not_place not_name ∙ is) wases.1 names.1
  where
    not_equal : (x y : ℕ) → nat_eq x y ≡ false → x ≢ y
    not_equal x y e same = absurd (let yes = eq-eqb x y same in cc)

-- each place pushed then has what its slot names
pub renamed-names : (g : ℕ → ℕ) (ps : List Pushed) → ((x y : ℕ) → g x ≡ g y → x ≡ y) → IsDistinct nat_eq (map (λ (p : Pushed). p.was) ps) → IsDistinct nat_eq (map (λ (p : Pushed). p.slot.buf_idx) ps)
    → Each (λ (p : Pushed). renamed g ps p.was ≡ p.slot.buf_idx) ps
unfolding IsDistinct
renamed-names g [] apart wases names = tt
renamed-names g (p ∷ ps) apart wases names =
    let more : (x y : ℕ) → renamed_by g p x ≡ renamed_by g p y → x ≡ y = (λ x y e. apart x y (swapped-apart (g p.was) p.slot.buf_idx (g x) (g y) e)) in (
      later-stays (renamed_by g p) ps p.was p.slot.buf_idx more (swapped-first (g p.was) p.slot.buf_idx) wases.0 names.0,
      renamed-names (renamed_by g p) ps more wases.1 names.1,
    )
