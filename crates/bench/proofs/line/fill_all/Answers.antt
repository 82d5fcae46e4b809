use Rattle.std.proofs.Common.{ℕ, List, ◌≡◌, length, replicate, refl, arith}
use Rattle.bench.proofs.Rounds.{filling-filled}
use Rattle.bench.proofs.line.fill_all.Goals as goal

pub loop-lease-preserved : goal.loop-lease-preserved
loop-lease-preserved c =
    let bytes : List ℕ = replicate 60 90 in
    let size : length bytes ≡ 60 = refl in
    filling-filled c.args.lease.now c.loop-lease.lease c.fill.new.self bytes (omega (arith, size)) c.loop-lease.invariant c.fill.ensures.lease
