use Rattle.std.proofs.Common.{◌≡◌, ◌∙◌, ◌+◌, ◌*◌, ℕ, List, [], ◌∷◌, ◌++◌, length, map, sym, ap, arith}
use Rattle.std.specs.List.{range_with_len}
use Rattle.std.proofs.lemmas.List.FromFn.{map-range_with_len_more, length-map-range_with_len}
use Rattle.vale_words.specs.Words.{byte_at}
use Rattle.vale_words.proofs.words.bytes_of.Goals as goal

pub loop-k-preserved : goal.loop-k-preserved
loop-k-preserved c =
    let k : ℕ = c.loop-k.k in
    let word : List ℕ = c.args.word.now in
    let start : 0 + k ≡ k = omega arith in
    c.in_ok-push.ensures.items
    ∙ ap (λ (bytes : List ℕ). bytes ++ c.byte_at.result ∷ []) c.loop-k.invariant
    ∙ ap (λ (b : ℕ). map (λ (i : ℕ). byte_at word (2 * i)) (range_with_len 0 k) ++ b ∷ []) c.byte_at.ensures
    ∙ sym (map-range_with_len_more (λ (i : ℕ). byte_at word (2 * i)) 0 k k start)

pub returns-clause-half : goal.returns-clause-half
returns-clause-half c =
    let word : List ℕ = c.args.word.now in
    let many : length c.loop-k.bytes.items ≡ c.loop-k.k =
    ap length c.loop-k.invariant ∙ length-map-range_with_len (λ (k : ℕ). byte_at word (2 * k)) 0 c.loop-k.k in
    omega (arith, many, c.loop-k.auto.k-end, c.loop-k-test.false)
