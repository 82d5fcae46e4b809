-- Parts of the whole. A part stands for share / 2 ^ depth.
use Rattle.std.specs.Prelude.{◌≡◌, ℕ, ◌+◌, ◌-◌, ◌*◌, ◌^◌, max, List, [], ◌∷◌}
use Rattle.nm_turn.specs.declared.view.Share.{Share}

abbrev pub share_of : ℕ → ℕ → Share
share_of share depth = record { share = share; depth = depth }

abbrev pub whole : Share
whole = share_of 1 0

abbrev pub nothing : Share
nothing = share_of 0 0

abbrev pub IsWhole : Share → Type 0
IsWhole p = p.share ≡ 2 ^ p.depth

-- one of two halves
abbrev pub half : Share → Share
half p = share_of p.share (p.depth + 1)

-- what the part counts at this depth, which is at least its own
abbrev pub weight : ℕ → Share → ℕ
weight depth p = p.share * 2 ^ (depth - p.depth)

abbrev pub both_parts : Share → Share → Share
both_parts p q =
    let depth : ℕ = max p.depth q.depth in
    share_of (weight depth p + weight depth q) depth

abbrev pub deepest : List Share → ℕ
deepest [] = 0
deepest (p ∷ ps) = max p.depth (deepest ps)

abbrev pub total : ℕ → List Share → ℕ
total depth [] = 0
total depth (p ∷ ps) = weight depth p + total depth ps

-- the parts make up the whole, each counted at the greatest depth
abbrev pub AddUp : List Share → Type 0
AddUp ps = total (deepest ps) ps ≡ 2 ^ deepest ps
