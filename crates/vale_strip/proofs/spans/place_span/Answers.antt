use Rattle.std.proofs.Common.{◌≡◌, ◌+◌, get_or, refl, arith, rules}
use Rattle.vale_strip.proofs.WrittenSpans.{alone-placed, run-placed}
use Rattle.vale_strip.proofs.spans.place_span.Goals as goal

pub returns-then-numbers-k-clause-placed : goal.returns-then-numbers-k-clause-placed
returns-then-numbers-k-clause-placed c =
    let numbers = c.args.numbers.now in
    let apart : get_or numbers (c.args.k + 1) 0 ≡ get_or numbers c.args.k 0 + 1 → ⊥ = search rules in
    alone-placed numbers c.args.k (get_or numbers c.args.k 0) (omega (arith, c.requires.inside)) refl apart c.in-Some.ensures.placed

pub returns-clause-placed : goal.returns-clause-placed
returns-clause-placed c =
    let numbers = c.args.numbers.now in
    let next = c.run_end-next in
    run-placed numbers c.args.k (get_or numbers c.args.k 0) next.result.1 next.result.0 next.ensures.run next.ensures.last (omega (arith, next.ensures.within.0)) next.ensures.within.1 next.ensures.later.0
    c.in-Some.ensures.placed c.place_next-end.ensures.placed
