-- Marks behind which none is marked.
use Rattle.std.proofs.Common.{ℕ, zero, suc, ◌≡◌, ◌≤◌, ◌<◌, ◌+◌, ◌-◌, Bool, true, false, List, [], ◌∷◌, ◌++◌, length, slice_set, get_or, refl, sym, ◌∙◌, ap, arith, append_assoc}
use Rattle.std.proofs.lemmas.List.{length-append, length-replicate, length-set, replicate-append-replicate, set-append_left, set-get_or, set_past}
use Rattle.nm_port.specs.MarkLists.{blanks, with_blanks}

long_behind : (more : ℕ) (marks : List Bool) → length (marks ++ blanks more) ≡ length marks + more
long_behind more marks = length-append marks (blanks more) ∙ ap (λ (n : ℕ). length marks + n) (length-replicate {A = Bool} more false)

pub long_marks : (count : ℕ) (marks : List Bool) → length marks ≤ count → length (with_blanks count marks) ≡ count
long_marks count marks h = omega (arith, long_behind (count - length marks) marks, h)

-- more of them lie in memory
blanks_behind : (count more : ℕ) (marks : List Bool) → length marks + more ≤ count → with_blanks count (marks ++ blanks more) ≡ with_blanks count marks
blanks_behind count more marks h =
    ap (λ (n : ℕ). (marks ++ blanks more) ++ blanks (count - n)) (long_behind more marks)
    ∙ (append_assoc marks (blanks more) (blanks (count - (length marks + more)))
    ∙ ap (λ (xs : List Bool). marks ++ xs) (replicate-append-replicate {A = Bool} more (count - (length marks + more)) false
    ∙ ap (λ (n : ℕ). blanks n) (omega (arith, h))))

-- one that lies in memory is another
pub mark_set : (count idx : ℕ) (mark : Bool) (marks : List Bool) → idx < length marks → slice_set (with_blanks count marks) idx mark ≡ with_blanks count (slice_set marks idx mark)
mark_set count idx mark marks there =
    set-append_left marks (blanks (count - length marks)) idx mark there
    ∙ ap (λ (n : ℕ). slice_set marks idx mark ++ blanks (count - n)) (sym (length-set marks idx mark))

pub mark_put : (count idx missing : ℕ) (marks now : List Bool) → idx < count → length marks ≤ count → missing ≡ idx + 1 - length marks → now ≡ marks ++ blanks missing
    → slice_set (with_blanks count marks) idx true ≡ with_blanks count (slice_set now idx true)
mark_put count idx missing marks now below within few is =
    let long : length now ≡ length marks + missing = ap length is ∙ long_behind missing marks in
    ap (λ (xs : List Bool). slice_set xs idx true) (sym (ap (with_blanks count) is ∙ blanks_behind count missing marks (omega (arith, below, within, few))))
    ∙ mark_set count idx true now (omega (arith, long, few))

pub mark_past : (count idx : ℕ) (mark : Bool) (marks : List Bool) → length marks ≤ count → count ≤ idx → slice_set (with_blanks count marks) idx mark ≡ with_blanks count marks
mark_past count idx mark marks within past = set_past (with_blanks count marks) idx mark (omega (arith, long_marks count marks within, past))

blank_behind : (marks : List Bool) (n i : ℕ) → length marks ≤ i → get_or (marks ++ blanks n) i false ≡ false
blank_behind [] zero i h = refl
blank_behind [] (suc n) zero h = refl
blank_behind [] (suc n) (suc i) h = blank_behind [] n i (omega arith)
blank_behind (x ∷ xs) n zero h = absurd (omega (arith, h))
blank_behind (x ∷ xs) n (suc i) h = blank_behind xs n i (omega (arith, h))

-- where none lies in memory there is no mark to clear
pub mark_none : (count idx : ℕ) (marks : List Bool) → length marks ≤ idx → slice_set (with_blanks count marks) idx false ≡ with_blanks count marks
mark_none count idx marks past =
    ap (λ (b : Bool). slice_set (with_blanks count marks) idx b) (sym (blank_behind marks (count - length marks) idx past))
    ∙ set-get_or (with_blanks count marks) idx false
