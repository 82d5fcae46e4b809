use Rattle.std.proofs.Common.{◌≡◌, ◌+◌, ◌-◌, ◌/◌, ◌^◌, ◌∷◌, decimal, sym, subst, ℕ, arith, rules}
use Rattle.std.specs.Simd.Lanes.{put_chunk}
use Rattle.vale_strip.specs.Placed.{Placed}
use Rattle.vale_strip.proofs.Hundreds.{placed-heads, placed-over}
use Rattle.vale_strip.proofs.numerals.place_hundreds.Goals as goal

pub returns-then-mark-ne44 : goal.returns-then-mark-ne44
returns-then-mark-ne44 c =
    let h = c.args.hundreds in
    placed-over c.args.mark (omega (arith, c.requires.room)) (placed-heads c.args.buf.now h.text c.args.at (2 ^ 64 - h.below) h.len c.requires.hundreds c.requires.room)

pub returns-else-mark-ne44 : goal.returns-else-mark-ne44
returns-else-mark-ne44 c =
    let h = c.args.hundreds in
    let comma : c.args.mark ≡ 44 = search rules in
    subst (λ (m : ℕ). Placed c.args.buf.now (put_chunk c.args.at c.args.buf.now h.text) c.args.at (m ∷ decimal ((2 ^ 64 - h.below) / 100)) (c.args.at + (h.len - 2))) (sym comma)
    (placed-heads c.args.buf.now h.text c.args.at (2 ^ 64 - h.below) h.len c.requires.hundreds c.requires.room)
