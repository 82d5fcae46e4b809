-- What calls tell, for the layers that are made of them.
use Rattle.std.proofs.Common.{◌≡◌, ℕ, ◌+◌, ◌-◌, ◌<◌, ◌≤◌, List, [], ◌∷◌, ◌++◌, length, slice_get, Some, sym, ap, ◌∙◌, subst, ⊎_elim, arith, append_assoc, length-append}
use mathlib.Core.List.{IsPrefix}
use mathlib.Core.Logic.{dite}
use native.Mathlib.Decide.{dec_le}
use Rattle.nm_turn.specs.declared.view.TurnStage.{TurnStage}
use Rattle.nm_turn.specs.declared.view.TurnStage.TheVariants.{Out}
use Rattle.nm_turn.specs.declared.view.PassView.{PassView}
use Rattle.nm_turn.specs.Numbered.{Stands}
use Rattle.nm_turn.specs.Passes.{Told, listed, at_stage, new_since}
use Rattle.nm_turn.proofs.Numbered.{Stands-left, Stands-right}
use Rattle.nm_turn.proofs.Prefixes.{prefix_trans, prefix_length, prefix_get, prefix_within, get_joined, new_since-more}
use Rattle.nm_turn.proofs.Calls.{new_since-same}

module _ {E F : Type 0} (root : E → ℕ → ℕ) where
  -- what is told of a pass that has entered is told of the pass before it did
  pub told_outside : (stage : TurnStage E) (v w : PassView E F) (history : List E) (added : List (ℕ × E)) → Told root (at_stage stage v) w history added → Told root v w history added
  told_outside stage v w history added t = record { begins = t.begins; seen = t.seen; part = t.part; mine = t.mine; picked = t.picked; stand = t.stand; others = t.others }

  -- a call that entered, and left with one entry more
  pub told_made : (v entered w : PassView E F) (before after : List E) (e : E) → entered ≡ at_stage (Out before) v → after ≡ before ++ e ∷ [] → Told root entered w after (new_since (listed entered.stage) after) → Told root v w after ((length after, e) ∷ [])
  told_made v entered w before after e is grown t =
      let long : length after ≡ 1 + length before = ap length grown ∙ (length-append before (e ∷ []) ∙ omega arith) in
      let added : new_since before after ≡ (length after, e) ∷ [] = ap (new_since before) grown ∙ (new_since-more before (e ∷ []) ∙ ap (λ (n : ℕ). (n, e) ∷ []) (sym long)) in
      let of_pass : Told root (at_stage (Out before) v) w after (new_since before after) = subst (λ (x : PassView E F). Told root x w after (new_since (listed x.stage) after)) is t in
      subst (Told root v w after) added (told_outside (Out before) v w after (new_since before after) of_pass)

  -- a call that entered, and left with the same entries
  pub told_none : (v entered w : PassView E F) (before after : List E) → entered ≡ at_stage (Out before) v → after ≡ before → Told root entered w after (new_since (listed entered.stage) after) → Told root v w after []
  told_none v entered w before after is same t =
      let of_pass : Told root (at_stage (Out before) v) w after (new_since before after) = subst (λ (x : PassView E F). Told root x w after (new_since (listed x.stage) after)) is t in
      subst (Told root v w after) (new_since-same before after same) (told_outside (Out before) v w after (new_since before after) of_pass)

  -- one call after another
  pub told_then : (v w x : PassView E F) (before after : List E) (first second : List (ℕ × E)) → Told root v w before first → Told root w x after second → Told root v x after (first ++ second)
  told_then v w x before after first second t u =
      let goes_on = subst (λ (l : List E). IsPrefix l after) t.seen u.begins in
      let seen : length w.seen ≡ length before = ap length t.seen in
      let le = prefix_length v.seen before t.begins in record {
        begins = prefix_trans v.seen before after t.begins goes_on;
        seen = u.seen;
        part = u.part ∙ t.part;
        mine = u.mine ∙ (ap (λ (l : List (ℕ × E)). l ++ second) t.mine ∙ append_assoc v.mine first second);
        picked = u.picked;
        stand = λ k number e h. ⊎_elim
            (λ (a : slice_get first k ≡ Some (number, e)). let s = t.stand k number e a in (s.0, prefix_get before after (number - 1) e goes_on s.1))
            (λ (b : (length first ≤ k) × (slice_get second (k - length first) ≡ Some (number, e))). let s = u.stand (k - length first) number e b.1 in let lt = s.0 in (omega arith, s.1))
            (get_joined first second k (number, e) h);
        others = λ at e past h not. dite (dec_le (length w.seen) at)
            (λ ge st. u.others at e ge h (λ s. not (Stands-right (at + 1) first second s)) (subst (Stands (root e (at + 1))) (sym t.mine) (Stands-left (root e (at + 1)) v.mine first st)))
            (λ lt. let inside : at < length before = omega arith in t.others at e past (prefix_within before after at e goes_on inside h) (λ s. not (Stands-left (at + 1) first second s)));
      }
