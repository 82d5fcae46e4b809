use Rattle.std.proofs.Common.{◌≡◌, ℕ, ◌+◌, true, not, List, [], ◌∷◌, ◌++◌, take, drop, get_or, map, filter, Some, ◌∙◌, rules}
use Rattle.std.specs.List.{position}
use Rattle.vale_words.specs.Words.{is_blank, has_bytes, words_of, is_graphic, are_line_bytes}
use Rattle.vale_words.proofs.Plain.{line_goes_on, one_more}
use Rattle.vale_words.proofs.words.cut_plain_words.Goals as goal

pub loop-at-preserved : goal.loop-at-preserved
loop-at-preserved c =
    let rest : List ℕ = c.loop-at.rest.now in
    let at : ℕ = c.in-Some.at in
    let found : position (λ b. not (is_graphic b)) rest ≡ Some at = search rules in
    let blank : is_blank (get_or rest at 0) ≡ true = search rules in
    let before : c.around.result.0.now ≡ take at rest = c.around.ensures.before in
    let behind : c.around.result.1.now ≡ drop (at + 1) rest = c.around.ensures.behind in
    record {
      words = (λ i. c.in_ok-add_word.ensures i ++ words_of (behind i))
          ∙ (λ i. (map (λ w. w.now) c.loop-at.words.items ++ filter has_bytes (before i ∷ [])) ++ words_of (drop (at + 1) rest))
          ∙ one_more (map (λ w. w.now) c.loop-at.words.items) (words_of c.args.line.now) rest at found blank c.loop-at.invariant.words;
      bytes = (λ i. are_line_bytes (behind i)) ∙ line_goes_on rest at found blank ∙ c.loop-at.invariant.bytes;
    }
