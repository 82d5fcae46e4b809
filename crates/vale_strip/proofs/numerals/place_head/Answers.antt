use Rattle.std.proofs.Common.{◌≡◌, ◌+◌, ◌-◌, ◌*◌, ◌∷◌, List, take, drop, get_or, decimal, sym, subst, ℕ, arith, rules}
use Rattle.std.specs.Simd.Lanes.{put_chunk}
use Rattle.vale_strip.specs.Placed.{Placed}
use Rattle.vale_strip.specs.declared.numerals.TheConstants.{NUMBERS}
use Rattle.vale_strip.proofs.Hundreds.{placed-little, placed-over}
use Rattle.vale_strip.proofs.numerals.place_head.Goals as goal

pub returns-then-mark-ne44 : goal.returns-then-mark-ne44
returns-then-mark-ne44 c =
    placed-over c.args.mark (omega (arith, c.requires.1)) (placed-little c.args.buf.now c.args.at c.args.number c.requires.0 c.requires.1)

pub returns-else-mark-ne44 : goal.returns-else-mark-ne44
returns-else-mark-ne44 c =
    let n = c.args.number in
    let text : List ℕ = take 4 (take (600 - n * 4) (drop (n * 4) NUMBERS)) in
    let comma : c.args.mark ≡ 44 = search rules in
    subst (λ (m : ℕ). Placed c.args.buf.now (put_chunk c.args.at c.args.buf.now text) c.args.at (m ∷ decimal n) (c.args.at + (get_or NUMBERS (n * 4 + 3) 0 - 2))) (sym comma)
    (placed-little c.args.buf.now c.args.at n c.requires.0 c.requires.1)
