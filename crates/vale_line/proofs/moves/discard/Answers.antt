use Rattle.std.proofs.Common.{◌≡◌, ◌++◌, ◌∷◌, [], reverse, ap, ◌∙◌, arith, rules}
use Rattle.std.specs.Prelude.{sum_by}
use Rattle.std.proofs.lemmas.List.{reverse-append}
use Rattle.std.proofs.lemmas.List.Sums.{sum_by-cons}
use Rattle.vale_line.specs.Gots.{last_count}
use Rattle.vale_line.proofs.FrameLemmas.{few-lasts}
use Rattle.vale_line.proofs.moves.discard.Goals as goal

pub overflow_add-count : goal.overflow_add-count
overflow_add-count c =
    let left = c.pop.new.self.items in
    let got = c.in-Some.got in
    let had : c.loop-got.gots.items ≡ left ++ got ∷ [] = search rules in
    let turned = ap (λ l. sum_by last_count (reverse l)) had ∙ ap (sum_by last_count) (reverse-append left (got ∷ [])) ∙ sum_by-cons last_count got (reverse left) in
    let before = c.loop-got.invariant.count in
    let most = few-lasts c.args.gots.items in
    let few = c.requires.few in
    let last = c.last_count-count.ensures in
    omega (arith, turned, before, most, few, last)
