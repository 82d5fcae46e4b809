-- What others made since a pass saw the history leaves what its sessions may ask as it was.
use Rattle.std.proofs.Common.{ℕ, ◌+◌, ◌<◌, ◌≡◌, List, [], ◌∷◌, ◌++◌, length, sym, ap, subst, arith, inr, slice_get, length-append, refl, suc, ◌∙◌}
use Rattle.std.specs.Prelude.{min, Some, All}
use Rattle.std.specs.List.{AllByRecursion as Each}
use Rattle.std.proofs.Math.Nat.{min-eq_left}
use Rattle.std.proofs.lemmas.List.Elements.{All-from_recursion}
use mathlib.Core.List.{IsPrefix}
use Rattle.nm_turn.specs.Numbered.{numbered, Stands, IsPicked}
use Rattle.nm_turn.specs.Passes.{Knows, NoRootPast}
use Rattle.nm_turn.specs.Turns.{AddsOne}
use Rattle.nm_turn.proofs.Prefixes.{get_right}
use Rattle.nm_turn.proofs.Joining.{picked-Stands, numbered-within}
use Rattle.vale_entry.specs.declared.entry.Entry.{Entry}
use Rattle.vale_own.specs.Laws.{IsOfOther}
use Rattle.vale_fabric.specs.Roots.{root_of}

each-get : {X : Type 0} (P : X → Type 0) (xs : List X) → ((k : ℕ) (x : X) → slice_get xs k ≡ Some x → P x) → Each P xs
each-get P [] all = tt
each-get P (x ∷ xs) all = (all 0 x refl, each-get P xs (λ k y e. all (suc k) y e))

-- the pass has seen the Enter of its session
pub own-within : (history seen : List Entry) (mine : List (ℕ × Entry)) (session : ℕ) → Knows root_of history seen mine → Stands session mine → session < 1 + length seen
own-within history seen mine session knows st = numbered-within session 1 seen (picked-Stands session mine (numbered 1 seen) knows.stands st)

-- no entry that a pass has not seen is of a session of which the Enter is the pass's own
pub others-beyond : (history seen : List Entry) (mine : List (ℕ × Entry)) (session : ℕ) → IsPrefix seen history → NoRootPast root_of seen mine history → IsPicked mine (numbered 1 seen) → Stands session mine
    → (more : List Entry) × (history ≡ seen ++ more) × All (IsOfOther session) more
others-beyond history seen mine session begins no_root picked st =
    let more = begins.0 in
    let is : history ≡ seen ++ more = sym begins.1 in
    let within = numbered-within session 1 seen (picked-Stands session mine (numbered 1 seen) picked st) in (
      more,
      is,
      All-from_recursion (IsOfOther session) more (each-get (IsOfOther session) more (λ k e here same.
          let at : slice_get history (length seen + k) ≡ Some e = ap (λ (h : List Entry). slice_get h (length seen + k)) is ∙ get_right seen more k e here in
          let root : root_of e (length seen + k + 1) ≡ session = ap (λ (n : ℕ). min n (length seen + k + 1)) same ∙ min-eq_left (omega arith) in
          no_root (length seen + k) e (omega arith) at (subst (λ (n : ℕ). Stands n mine) (sym root) st))),
    )

pub others-past : (history seen : List Entry) (mine : List (ℕ × Entry)) (session : ℕ) → Knows root_of history seen mine → Stands session mine
    → (more : List Entry) × (history ≡ seen ++ more) × All (IsOfOther session) more
others-past history seen mine session knows st = others-beyond history seen mine session knows.begins knows.no_root knows.stands st

-- so an entry of that session may be added
pub adds-own : (history seen : List Entry) (mine : List (ℕ × Entry)) (e : Entry) (after : List Entry) → Knows root_of history seen mine → Stands e.session.0 mine
    → after ≡ history ++ e ∷ [] → AddsOne root_of history mine after
adds-own history seen mine e after knows st grown =
    let within = own-within history seen mine e.session.0 knows st in
    let long : length history ≡ length seen + length knows.begins.0 = ap length (sym knows.begins.1) ∙ length-append seen knows.begins.0 in
    let root : root_of e (length history + 1) ≡ e.session.0 = min-eq_left (omega arith) in
    (e, grown, inr (subst (λ (n : ℕ). Stands n mine) (sym root) st))
