use Rattle.std.proofs.Common.{◌+◌, ◌*◌, ◌∷◌, [], ◌++◌, List, ℕ, rules, refl, sym, ap, ◌∙◌, append-nil, append_assoc}
use mathlib.Core.List.{map-append}
use Rattle.nm_turn.specs.Samples.{spread}
use Rattle.nm_turn.specs.Numbered.{values}
use Rattle.nm_turn.specs.Turns.{view_of}
use Rattle.nm_turn.proofs.Samples.{spread-none, spread-more}
use Rattle.nm_tests.proofs.turn.add_all.Goals as goal

pub loop-k-init : goal.loop-k-init
loop-k-init g c =
    let old = values (view_of c.args.pass).mine in record {
      of_turn = search rules;
      outside = search rules;
      part = refl;
      added = sym (ap (λ (l : List ℕ). old ++ l) (spread-none c.args.first) ∙ append-nil old);
    }

pub loop-k-preserved : goal.loop-k-preserved
loop-k-preserved g c =
    let told = c.in_default.ensures.told in
    let before = c.loop-k.invariant in
    let old : List ℕ = values (view_of c.args.pass).mine in
    let last : List ℕ = (c.args.first + c.loop-k.k * 2) ∷ [] in
    let so_far : List ℕ = spread c.args.first c.loop-k.k in record {
      of_turn = c.in_default.ensures.pass.0;
      outside = c.in_default.ensures.pass.1;
      part = told.part ∙ before.part;
      added = ap (λ (l : List (ℕ × ℕ)). values l) told.mine
          ∙ (map-append (λ (m : ℕ × ℕ). m.1) (view_of c.loop-k.pass).mine _ ∙ (ap (λ (l : List ℕ). l ++ last) before.added ∙ (append_assoc old so_far last ∙ ap (λ (l : List ℕ). old ++ l) (sym (spread-more c.args.first c.loop-k.k)))));
    }
