-- How often an entry stands among the own ones of passes.
use Rattle.std.proofs.Common.{ℕ, ◌+◌, ◌≡◌, ◌==◌, List, [], ◌∷◌, ◌++◌, ◌∙◌, ap, arith}
use Rattle.vale_player.proofs.Working.{numbers-then}
use Rattle.nm_turn.specs.Numbered.{numbers}
use Rattle.nm_turn.proofs.Joining.{counted-merged}
use Rattle.vale_entry.specs.declared.entry.Entry.{Entry}
use Rattle.vale_entry.proofs.Counting.{count_of, count_of-append}
use Rattle.vale_fabric.specs.Fabrics.{Knowing}
use Rattle.vale_replay.specs.Replay.{times_among}
use Rattle.vale_replay.proofs.Members.{among-cons}
use Rattle.vale_act.specs.Units.{times_made, JoinedIsBoth, CutIsWhole, AddedIsMade, FrontIsFree}
use Rattle.vale_act.proofs.SharesCounts.{made-cons}

-- two passes in front
made-two : (n : ℕ) (v w : Knowing) (passes : List Knowing) → times_made n (v ∷ w ∷ passes) ≡ count_of n (numbers v.mine) + (count_of n (numbers w.mine) + times_made n passes)
made-two n v w passes = let one = made-cons n v (w ∷ passes) in let two = made-cons n w passes in omega (arith, one, two)

counts-of : (n : ℕ) (mine other : List (ℕ × Entry)) → mine ≡ other → count_of n (numbers mine) ≡ count_of n (numbers other)
counts-of n mine other same = ap (λ (l : List (ℕ × Entry)). count_of n (numbers l)) same

pub front-free : FrontIsFree
front-free n v w passes = let one = made-two n v w passes in let two = made-two n w v passes in omega (arith, one, two)

pub joined-both : JoinedIsBoth
joined-both n v w joined passes mine =
    let one = made-cons n joined passes in
    let two = made-two n v w passes in
    let all : count_of n (numbers joined.mine) ≡ count_of n (numbers v.mine) + count_of n (numbers w.mine) =
    ap (λ (l : List (ℕ × Entry)). count_of n (numbers l)) mine ∙ counted-merged (λ (k : ℕ). k == n) v.mine w.mine in
    omega (arith, one, two, all)

pub cut-whole : CutIsWhole
cut-whole n v kept given passes mine none =
    let one = made-two n kept given passes in
    let two = made-cons n v passes in
    let same = counts-of n kept.mine v.mine mine in
    let nothing : count_of n (numbers given.mine) ≡ 0 = ap (λ (l : List (ℕ × Entry)). count_of n (numbers l)) none in
    omega (arith, one, two, same, nothing)

pub made-added : AddedIsMade
made-added n v w added passes mine =
    let one = made-cons n w passes in
    let two = made-cons n v passes in
    let three : times_among n (numbers added ∷ []) ≡ count_of n (numbers added) + 0 = among-cons n (numbers added) [] in
    let all : count_of n (numbers w.mine) ≡ count_of n (numbers v.mine ++ numbers added) = ap (λ (l : List (ℕ × Entry)). count_of n (numbers l)) mine ∙ ap (count_of n) (numbers-then v.mine added) in
    let both = count_of-append n (numbers v.mine) (numbers added) in
    omega (arith, one, two, three, all, both)
