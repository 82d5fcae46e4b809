use Rattle.std.proofs.Common.{ℕ, List, ◌+◌, ◌-◌, ◌≤◌, ◌≡◌, [], ◌∷◌, ◌++◌, map, ap, ◌∙◌, arith}
use Rattle.std.specs.List.{range_with_len}
use Rattle.vale_gen.specs.Load.{user_name}
use Rattle.vale_gen.proofs.Adding.{map_users_more}
use Rattle.vale_gen.proofs.generator.user_words.Goals as goal

one-more : (words more : List (List ℕ)) (word : List ℕ) (user : ℕ) → 1 ≤ user → words ≡ map user_name (range_with_len 1 (user - 1)) → word ≡ user_name user → more ≡ words ++ word ∷ [] → more ≡ map user_name (range_with_len 1 (user + 1 - 1))
one-more words more word user least before is added =
    added ∙ ap (λ (front : List (List ℕ)). front ++ word ∷ []) before
    ∙ ap (λ (last : List ℕ). map user_name (range_with_len 1 (user - 1)) ++ last ∷ []) is
    ∙ map_users_more user_name user least

pub loop-user-preserved : goal.loop-user-preserved
loop-user-preserved c =
    one-more c.loop-user.words.items c.push.new.self.items c.in_ok-new.field-0 c.loop-user.user c.loop-user.auto.user c.loop-user.invariant
    (c.in_ok-new.ensures ∙ c.as_str.ensures.value ∙ c.in_ok-name.ensures) c.in_ok-push.ensures.items

pub returns : goal.returns
returns c =
    let last : c.loop-user.user - 1 ≡ 4 = omega arith in
    c.loop-user.invariant ∙ ap (λ (k : ℕ). map user_name (range_with_len 1 k)) last
