use Rattle.std.proofs.Common.{◌≡◌, ◌<◌, ◌+◌, ◌-◌, ℕ, length, drop, get_or, ap, subst, arith, rules}
use Rattle.std.proofs.lemmas.List.{take_rest, get_or_past}
use Rattle.vale_strip.specs.Spans.{ArePlaced}
use Rattle.vale_strip.proofs.WrittenSpans.{alone-placed, both-placed}
use Rattle.vale_strip.proofs.spans.place_spans.Goals as goal

pub returns-clause-placed : goal.returns-clause-placed
returns-clause-placed c =
    let numbers = c.args.numbers.now in
    let many = c.place_many-end in
    let end = c.place_next-end in
    let done : ℕ = many.result.2 in
    let last : done ≡ length numbers - 1 = search rules in
    let some : 0 < length numbers = search rules in
    let whole : done + 1 ≡ length numbers = omega (arith, last, some) in
    let past : get_or numbers (done + 1) 0 ≡ 0 = get_or_past numbers (done + 1) 0 (omega (arith, whole)) in
    rw (take_rest numbers (length numbers))
    (subst (λ (j : ℕ). ArePlaced c.args.buf.now end.new.buf c.args.at end.result.0 numbers (drop j numbers)) whole
    (both-placed c.args.buf.now many.new.buf end.new.buf c.args.at many.result.0 end.result.0 numbers (drop done numbers) (drop (done + 1) numbers) many.ensures.placed
    (alone-placed numbers done (get_or numbers (length numbers - 1) 0) (omega (arith, whole)) (ap (λ (j : ℕ). get_or numbers j 0) last) (λ is. absurd (omega (arith, past, is))) end.ensures.placed)))
