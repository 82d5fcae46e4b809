use Rattle.std.proofs.Common.{◌≡◌, ℕ, ◌/◌, ◌%◌, List, length, map, take, length-take-le, ap, ◌∙◌}
use Rattle.std.proofs.lemmas.Simd.{zip2_splat}
use Rattle.vale_entry.specs.Transcript.{hex_digit}
use Rattle.vale_strip.proofs.Blocks.{placed-block}
use Rattle.vale_strip.proofs.hex.place_block.Goals as goal

pub returns : goal.returns
returns c =
    let xs : List ℕ = take 16 c.args.bytes.now in
    let long : length xs ≡ 16 = length-take-le 16 c.args.bytes.now c.requires.0 in
    placed-block c.args.buf.now xs c.digits_of-high.result c.digits_of-low.result c.args.at long
    (c.digits_of-high.ensures ∙ ap (map hex_digit) (zip2_splat (λ a b. a / b) xs 16 16 long))
    (c.digits_of-low.ensures ∙ ap (map hex_digit) (zip2_splat (λ a b. a % b) xs 16 16 long))
    c.requires.1
