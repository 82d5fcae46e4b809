use Rattle.std.proofs.Common.{◌≤◌, ◌+◌, ℕ, length, decimal, sym, subst, arith}
use Rattle.std.proofs.lemmas.Fmt.{length-decimal-le}
use Rattle.vale_strip.proofs.numerals.place_little.Goals as goal

pub returns-clause-within : goal.returns-clause-within
returns-clause-within c =
    let n = c.args.number in
    let digits : length (decimal n) ≤ 2 = length-decimal-le 2 n (omega arith) (omega (arith, c.requires.0)) (omega (arith, c.requires.0)) in
    subst (λ (e : ℕ). e ≤ c.args.at + 3) (sym c.place_head.ensures.moved) (omega (arith, digits))
