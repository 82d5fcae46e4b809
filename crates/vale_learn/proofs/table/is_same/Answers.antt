use Rattle.std.proofs.Common.{◌≡◌, length, sym, arith, rules}
use Rattle.std.proofs.lemmas.Grind.{same_number_lists}
use Rattle.std.proofs.lemmas.Slice.Eq.{bytes_eq-Decides}
use Rattle.vale_learn.proofs.table.is_same.Goals as goal

pub returns : goal.returns
returns c =
    let xs = c.args.address.now.0 in
    let ys = c.args.other.now.0 in
    let long : length xs ≡ 6 = search rules in
    let wide : length ys ≡ 6 = search rules in
    let end : c.loop-i.i ≡ 6 = search rules in
    let same = same_number_lists xs ys (omega (arith, long, wide)) (λ k less. c.loop-i.invariant k (omega (arith, less, long, end))) in
    sym ((bytes_eq-Decides xs ys).1 same)
