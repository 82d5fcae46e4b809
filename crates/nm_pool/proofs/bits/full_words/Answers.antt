use Rattle.std.proofs.Common.{ℕ, ◌≡◌, ◌≤◌, ◌+◌, ◌-◌, ◌*◌, ◌^◌, List, ◌∷◌, [], ◌++◌, map, sym, ap, ◌∙◌, arith}
use Rattle.std.specs.Prelude.{min}
use Rattle.std.specs.List.{range_with_len}
use Rattle.std.proofs.lemmas.List.FromFn.{map-range_with_len_more}
use Rattle.nm_pool.proofs.Marked.{full-set, full-clear}
use Rattle.nm_pool.proofs.bits.full_words.Goals as goal

pub loop-at-preserved : goal.loop-at-preserved
loop-at-preserved c =
    let f = λ (w : ℕ). 2 ^ min (c.args.count - w * 64) 64 - 1 in
    let at = c.loop-at.at in
    let inv = c.loop-at.invariant in
    let push = c.push_reserved.ensures in
    let here : 0 + at ≡ at = omega arith in
    record {
      items = push.items ∙ (ap (λ (ws : List ℕ). ws ++ c.full_word.result ∷ []) inv.items
          ∙ (ap (λ (x : ℕ). map f (range_with_len 0 at) ++ x ∷ []) c.full_word.ensures ∙ sym (map-range_with_len_more f 0 at at here)));
      made = omega (arith, inv.made, push.len);
      room = omega (arith, inv.room, push.capacity);
    }

pub returns-clause-set : goal.returns-clause-set
returns-clause-set c = λ k h.
    let enough : c.args.count ≤ c.loop-at.at * 64 = omega (arith, c.loop-at-test.false) in
    full-set c.args.count c.loop-at.at c.loop-at.words.items c.loop-at.invariant.items enough k h

pub returns-clause-clear : goal.returns-clause-clear
returns-clause-clear c = λ k h. full-clear c.args.count c.loop-at.at c.loop-at.words.items c.loop-at.invariant.items k h
