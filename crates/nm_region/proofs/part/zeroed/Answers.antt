use Rattle.std.proofs.Common.{ℕ, ◌≡◌, replicate, ap, ◌∙◌, arith}
use Rattle.nm_region.proofs.part.zeroed.Goals as goal

pub returns : goal.returns
returns c =
    let all : c.loop.counter ≡ 2048 = omega (arith, c.loop-test.false, c.loop.auto.counter-end) in
    let inv = c.loop.invariant in
    (inv.items ∙ ap (λ (n : ℕ). replicate n 0) all, inv.room, inv.place)
