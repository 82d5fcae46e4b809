-- What a tally answers after an opening, an addition and a removal.
use Rattle.std.proofs.Common.{ℕ, zero, suc, cond, ◌+◌, List, [], ◌∷◌, ◌≡◌, Option, Some, None, refl, sym, ◌∙◌, ap, arith, ◌==◌, inl, inr, true, false}
use Rattle.std.specs.Prelude.{find, insert, option_map}
use Rattle.nm_count.proofs.TallyLemmas.{before_not}
use Rattle.nm_types.specs.declared.id.Counts.{Counts}
use Rattle.nm_count.specs.declared.tally.Tallied.{Tallied}
use Rattle.std.proofs.lemmas.Bool.{cases_Bool, eqb-true, eqb-false, eq-eqb, ne_eqb}
use Rattle.nm_count.specs.Tallies.{is_port, counts_of, is_before, rank_of, tally_with, zero_tallied, tally_without}
use Rattle.nm_count.specs.Laws.{OpeningStartsAtZero, AddingSums, GoneIsOut}

abbrev counts_in : Option Tallied → Option Counts
counts_in found = option_map (λ (t : Tallied). t.counts) found

find_insert : (tally : List Tallied) (i : ℕ) (z : Tallied) (q : ℕ) → is_port q z ≡ false → find (is_port q) (insert tally i z) ≡ find (is_port q) tally
find_insert [] zero z q other = rw other refl
find_insert [] (suc i) z q other = rw other refl
find_insert (t ∷ tally) zero z q other = rw other refl
find_insert (t ∷ tally) (suc i) z q other = ap (λ (rest : Option Tallied). cond (is_port q t) (Some t) rest) (find_insert tally i z q other)

find_opened : (tally : List Tallied) (z : Tallied) (q : ℕ) → is_port q z ≡ true → find (is_port q) (insert tally (rank_of q tally) z) ≡ Some z
find_opened [] z q here = rw here refl
find_opened (t ∷ tally) z q here = elim (cases_Bool (is_before q t)) [
  | inl before ↦
      let next : 1 + rank_of q tally ≡ suc (rank_of q tally) = omega arith in
      let other = before_not q t before in
      let rest = find_opened tally z q here in
      rw (before, next) (rw other rest)
  | inr behind ↦ rw behind (rw here refl)
]

pub opening_starts_at_zero : OpeningStartsAtZero
opening_starts_at_zero tally port other = elim (cases_Bool (port.0 == other)) [
  | inl same ↦
      let equal : port.0 ≡ other = eqb-true port.0 other same in
      let found : find (is_port port.0) (tally_with port tally) ≡ Some (zero_tallied port) = find_opened tally (zero_tallied port) port.0 (eq-eqb port.0 port.0 refl) in
      ap (counts_of (tally_with port tally)) (sym equal) ∙ (ap counts_in found ∙ rw same refl)
  | inr apart ↦ ap counts_in (find_insert tally (rank_of port.0 tally) (zero_tallied port) other apart) ∙ rw apart refl
]

pub adding_sums : AddingSums
adding_sums [] port more other = refl
adding_sums (t ∷ tally) port more other =
    let rest = adding_sums tally port more other in
    elim (cases_Bool (is_port port t)) [
      | inl here ↦ elim (cases_Bool (is_port other t)) [
        | inl found ↦
            let equal : port ≡ other = sym (eqb-true t.port.0 port here) ∙ eqb-true t.port.0 other found in
            let same = eq-eqb port other equal in
            rw (here, found) (rw same refl)
        | inr missed ↦ rw (here, missed) rest
      ]
      | inr away ↦ elim (cases_Bool (is_port other t)) [
        | inl found ↦
            let apart : (port == other) ≡ false = ne_eqb port other (λ equal. eqb-false t.port.0 port away (eqb-true t.port.0 other found ∙ sym equal)) in
            rw (away, found) (rw apart refl)
        | inr missed ↦ rw (away, missed) rest
      ]
    ]

gone_same : (tally : List Tallied) (port : ℕ) → find (is_port port) (tally_without port tally) ≡ None
gone_same [] port = refl
gone_same (t ∷ tally) port = elim (cases_Bool (is_port port t)) [
  | inl here ↦ rw here (gone_same tally port)
  | inr other ↦ rw other (rw other (gone_same tally port))
]

gone_other : (tally : List Tallied) (port other : ℕ) → (port == other) ≡ false → find (is_port other) (tally_without port tally) ≡ find (is_port other) tally
gone_other [] port other apart = refl
gone_other (t ∷ tally) port other apart =
    let rest = gone_other tally port other apart in
    elim (cases_Bool (is_port port t)) [
      | inl here ↦
          let missed : is_port other t ≡ false = ne_eqb t.port.0 other (λ equal. eqb-false port other apart (sym (eqb-true t.port.0 port here) ∙ equal)) in
          rw here (rw missed rest)
      | inr away ↦ rw away (ap (λ (found : Option Tallied). cond (is_port other t) (Some t) found) rest)
    ]

pub gone_is_out : GoneIsOut
gone_is_out tally port other = elim (cases_Bool (port == other)) [
  | inl same ↦
      let equal : port ≡ other = eqb-true port other same in
      ap (counts_of (tally_without port tally)) (sym equal) ∙ (ap counts_in (gone_same tally port) ∙ rw same refl)
  | inr apart ↦ ap counts_in (gone_other tally port other apart) ∙ rw apart refl
]

pub ruleset tally_laws = (opening_starts_at_zero, adding_sums, gone_is_out)
