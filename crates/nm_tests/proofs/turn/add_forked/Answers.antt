use Rattle.std.proofs.Common.{◌≡◌, ◌<◌, ◌∷◌, [], ◌++◌, List, length, ℕ, refl, ap, ◌∙◌, subst}
use Rattle.nm_turn.specs.Numbered.{numbered, merged}
use Rattle.nm_turn.specs.Shares.{half}
use Rattle.nm_turn.specs.Turns.{view_of}
use Rattle.nm_turn.proofs.Samples.{two_entries}
use Rattle.nm_turn.proofs.Joining.{joined_whole, joined_mine}
use Rattle.nm_tests.proofs.turn.add_forked.Goals as goal

pub returns : goal.returns
returns g c =
    let start = c.in_ok-turn.ensures.1 in
    let made = view_of c.add-first.new.pass in
    let kept = view_of c.fork-other.new.pass in
    let other = view_of c.add-second.new.pass in
    let all = view_of c.join.new.pass in
    let items = c.close.result in
    let first = c.in_ok-first.ensures.told in
    let second = c.in_ok-second.ensures.told in
    let whole_before = first.part ∙ ap (λ v. v.part) start in
    let has_all = c.close.ensures.whole (joined_whole kept other all (ap (λ v. v.part) c.fork-other.ensures.kept.1 ∙ ap (λ p. half p) whole_before)
    (second.part ∙ (ap (λ v. v.part) c.fork-other.ensures.given.2 ∙ ap (λ p. half p) whole_before)) c.join.ensures.joined) in
    let one : kept.mine ≡ (length made.seen, 5) ∷ [] = ap (λ v. v.mine) c.fork-other.ensures.kept.1 ∙ (first.mine ∙ ap (λ v. v.mine ++ (length made.seen, 5) ∷ []) start) in
    let two : other.mine ≡ (length other.seen, 6) ∷ [] = second.mine ∙ ap (λ v. v.mine ++ (length other.seen, 6) ∷ []) c.fork-other.ensures.given.2 in
    let later : length made.seen < length other.seen = subst (λ v. length v.seen < length other.seen) c.fork-other.ensures.given.2 (second.stand 0 (length other.seen) 6 refl).0 in
    c.into_items-items.ensures ∙ two_entries items (length made.seen) (length other.seen) 5 6 later (subst (λ (t : List (ℕ × ℕ) × List (ℕ × ℕ)). merged t.0 t.1 ≡ numbered 1 items) (λ i. (one i, two i)) (joined_mine items kept other all c.join.ensures.joined has_all))
