use Rattle.std.proofs.Common.{ℕ, ◌*◌, ◌%◌, ◌^◌, ap, ◌∙◌, arith, w64, bit_or}
use Rattle.std.specs.Int.{bit_at}
use Rattle.std.proofs.lemmas.Nat.Bits.{bit_at_set_same, bit_at_set_other}
use Rattle.nm_pool.proofs.Marked.{changed-same, changed-other, word_read}
use Rattle.nm_pool.proofs.bits.set_bit.Goals as goal

pub returns-clause-same : goal.returns-clause-same
returns-clause-same c =
    let k = c.args.k in
    let w = c.index_mut.result.now in
    changed-same c.args.words.now.items k (bit_or w (1 * 2 ^ (k % 64) % 2 ^ 64)) c.requires ∙ bit_at_set_same w64 w (k % 64) (omega arith)

pub returns-clause-other : goal.returns-clause-other
returns-clause-other c =
    let k = c.args.k in
    let w = c.index_mut.result.now in
    let is = word_read c.args.words.now.items k w c.requires c.index_mut.ensures.value in
    changed-other c.args.words.now.items k (bit_or w (1 * 2 ^ (k % 64) % 2 ^ 64)) c.requires (λ i low apart. bit_at_set_other w64 w (k % 64) (omega arith) i apart ∙ ap (λ (x : ℕ). bit_at x i) is)
