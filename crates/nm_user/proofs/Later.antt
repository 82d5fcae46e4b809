-- What a session has at the step of its call, and after it.
use Rattle.std.proofs.Common.{ℕ, ◌+◌, ◌-◌, ◌≤◌, ◌≡◌, ⊎_elim, List, [], ◌∷◌, ◌++◌, length, sym, ap, subst, arith, slice_get, length-append, refl, ◌∙◌, take, suc}
use Rattle.std.specs.Prelude.{min, Some, All}
use Rattle.std.specs.List.{AllByRecursion as Each}
use mathlib.Core.List.{IsPrefix}
use Rattle.std.proofs.Math.Nat.{min-eq_left}
use Rattle.std.proofs.Math.Seq.{take-append-add}
use Rattle.std.proofs.lemmas.List.Elements.{All-from_recursion}
use Rattle.std.proofs.lemmas.Option.{slice_get_within}
use Rattle.nm_turn.specs.Numbered.{Stands}
use Rattle.nm_turn.proofs.Prefixes.{get_right, prefix_get}
use Rattle.vale_entry.specs.declared.entry.Ask.{Ask}
use Rattle.vale_entry.specs.declared.entry.Entry.{Entry}
use Rattle.vale_entry.specs.Legal.{IsLegal, standing_of}
use Rattle.vale_own.specs.Laws.{IsOfOther}
use Rattle.vale_own.specs.Own.{own_of}
use Rattle.vale_own.proofs.OwnKept.{own-kept, legal-split}
use Rattle.vale_fabric.specs.declared.kept.Fixed.{Fixed}
use Rattle.vale_fabric.specs.Roots.{root_of}
use Rattle.vale_fabric.specs.Fabrics.{Knowing, Makes, MakesNone, earlier, entry_by}

pub each-get : {X : Type 0} (P : X → Type 0) (xs : List X) → ((k : ℕ) (x : X) → slice_get xs k ≡ Some x → P x) → Each P xs
each-get P [] all = tt
each-get P (x ∷ xs) all = (all 0 x refl, each-get P xs (λ k y e. all (suc k) y e))

-- entries of which none has a session as its root, behind so many, are others'
others-of : (session n : ℕ) (more : List Entry) → session ≤ n → ((k : ℕ) (e : Entry) → slice_get more k ≡ Some e → ¬ (root_of e (n + k + 1) ≡ session)) → All (IsOfOther session) more
others-of session n more come none =
    All-from_recursion (IsOfOther session) more (each-get (IsOfOther session) more (λ k e here same. none k e here (ap (λ (m : ℕ). min m (n + k + 1)) same ∙ min-eq_left (omega arith))))

-- the history at the step goes on from what the pass had seen by entries of others
pub record Between (fixed : Fixed) (v w : Knowing) (session : ℕ) : Type 0 where
  pub more : List Entry
  pub is : earlier w.seen ≡ v.seen ++ more
  pub others : All (IsOfOther session) more
  pub legal : IsLegal fixed.pool (v.seen ++ more)

pub between : {fixed : Fixed} {v w : Knowing} {ask : Ask} (session : ℕ) → Makes fixed v w ask → session ≤ length v.seen → Stands session v.mine → Between fixed v w session
between {fixed} {v} {w} {ask} session m come st =
    let rest = m.told.begins.0 in
    let all : v.seen ++ rest ≡ w.seen = m.told.begins.1 in
    let entry = entry_by m.session ask m.reply in
    let new = (m.told.stand 0 (length w.seen) entry refl).0 in
    let long : length w.seen ≡ length v.seen + length rest = ap length (sym all) ∙ length-append v.seen rest in
    let count = length w.seen - 1 - length v.seen in
    let at : length w.seen - 1 ≡ length v.seen + count = omega (arith, new) in
    let more = take count rest in
    let is : earlier w.seen ≡ v.seen ++ more = ap (λ (h : List Entry). take (length w.seen - 1) h) (sym all) ∙ (ap (λ (n : ℕ). take n (v.seen ++ rest)) at ∙ take-append-add v.seen rest count) in
    let whole : w.seen ≡ (v.seen ++ more) ++ entry ∷ [] = m.seen ∙ ap (λ (h : List Entry). h ++ entry ∷ []) is in
    let few : length w.seen ≡ length v.seen + length more + 1 = ap length whole ∙ (length-append (v.seen ++ more) (entry ∷ []) ∙ ap (λ (n : ℕ). n + 1) (length-append v.seen more)) in
    record {
      more = more;
      is = is;
      legal = (legal-split fixed.pool (v.seen ++ more) (entry ∷ []) (subst (IsLegal fixed.pool) whole m.legal)).0;
      others = others-of session (length v.seen) more come (λ k e here root.
          let within = slice_get_within more k e here in
          let there : slice_get w.seen (length v.seen + k) ≡ Some e = prefix_get (v.seen ++ more) w.seen (length v.seen + k) e (entry ∷ [], sym whole) (get_right v.seen more k e here) in
          m.told.others (length v.seen + k) e (omega arith) there
          (λ s. ⊎_elim (λ (q : length v.seen + k + 1 ≡ length w.seen). absurd (omega (arith, q, few, within))) (λ (z : ⊥). absurd z) s)
          (subst (λ (n : ℕ). Stands n v.mine) (sym root) st));
    }

-- so what is the session's own is what it was
pub same-own : {fixed : Fixed} {v w : Knowing} {session : ℕ} (b : Between fixed v w session) → own_of session (standing_of fixed.pool (earlier w.seen)) ≡ own_of session (standing_of fixed.pool v.seen)
same-own {fixed} {v} {w} {session} b =
    ap (λ (h : List Entry). own_of session (standing_of fixed.pool h)) b.is ∙ own-kept fixed.pool v.seen b.more session b.legal b.others

-- a history that goes on from one that was seen, and has no root of these entries in it, does so by
-- entries of others than a session of theirs
pub goes-on : (history seen : List Entry) (mine : List (ℕ × Entry)) (session : ℕ) → IsPrefix seen history
    → ((at : ℕ) (e : Entry) → length seen ≤ at → slice_get history at ≡ Some e → ¬ Stands (root_of e (at + 1)) mine)
    → session ≤ length seen → Stands session mine → (more : List Entry) × ((history ≡ seen ++ more) × All (IsOfOther session) more)
goes-on history seen mine session begins none come st =
    let more = begins.0 in
    let is : history ≡ seen ++ more = sym begins.1 in
    let others = others-of session (length seen) more come (λ k e here root.
    none (length seen + k) e (omega arith) (ap (λ (h : List Entry). slice_get h (length seen + k)) is ∙ get_right seen more k e here) (subst (λ (n : ℕ). Stands n mine) (sym root) st)) in
    (more, (is, others))

-- the history that a call without an entry found goes on by entries of others
pub between-none : {fixed : Fixed} {v w : Knowing} (session : ℕ) → MakesNone fixed v w → session ≤ length v.seen → Stands session v.mine
    → (more : List Entry) × ((w.seen ≡ v.seen ++ more) × All (IsOfOther session) more)
between-none {fixed} {v} {w} session m come st = goes-on w.seen v.seen v.mine session m.told.begins (λ at e le there. m.told.others at e le there (λ s. absurd s)) come st
