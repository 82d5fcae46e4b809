use Rattle.std.proofs.Common.{◌≡◌, ◌+◌, [], replicate, None, rules, arith}
use Rattle.nm_hold.proofs.Begun.{held_none}
use Rattle.nm_hold.proofs.hold.Hold.new.Goals as goal

pub invariant_of-result : goal.invariant_of-result
invariant_of-result c =
    let cells : c.in_ok-new.field-0 ≡ replicate (c.args.buffers + 2) None = search rules in
    let tables : c.new-2.result.tables ≡ [] = search rules in
    rw (cells, tables) (held_none (c.args.buffers + 2) (omega (arith, c.requires)) (omega (arith, c.requires)))
