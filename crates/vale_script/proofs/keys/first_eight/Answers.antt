use Rattle.std.proofs.Common.{◌≡◌, ℕ, List, length, take, ap, ◌∙◌, rules}
use Rattle.vale_script.specs.Keys.{packed}
use Rattle.vale_script.proofs.Packing.{cut, eight_as_number}
use Rattle.vale_script.proofs.keys.first_eight.Goals as goal

pub returns : goal.returns
returns c =
    let word : List ℕ = c.args.word.now in
    let bytes : List ℕ = c.copy_from_slice.new.self in
    let same : bytes ≡ take 8 word = search rules in
    c.from_le_bytes.ensures ∙ eight_as_number bytes (ap length same ∙ (cut word c.requires).0) ∙ ap packed same
