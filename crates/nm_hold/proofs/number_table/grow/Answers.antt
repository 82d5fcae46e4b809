use Rattle.std.proofs.Common.{◌-◌, ◌%◌, rules, arith}
use Rattle.nm_hold.proofs.Zeros.{reach_first, reach_before, reach_behind, start_before}
use Rattle.nm_hold.proofs.number_table.grow.Goals as goal

pub returns-then-is_empty-clause-reaches : goal.returns-then-is_empty-clause-reaches
returns-then-is_empty-clause-reaches c =
    reach_first c.args.idx c.args.first (c.args.idx - c.args.idx % 512) c.args.numbers.now.items c.push_zeros.new.numbers.items (start_before c.args.idx)
    (search rules) c.push_zeros.ensures.items

pub returns-then-idx-first-clause-reaches : goal.returns-then-idx-first-clause-reaches
returns-then-idx-first-clause-reaches c =
    reach_before c.args.idx c.args.first (c.args.idx - c.args.idx % 512) c.args.numbers.now.items c.push_zeros-then-idx-first.new.numbers.items c.rotate_right.new.self.items (start_before c.args.idx)
    (omega arith) c.push_zeros-then-idx-first.ensures.items (search rules)

pub returns-else-idx-first-clause-reaches : goal.returns-else-idx-first-clause-reaches
returns-else-idx-first-clause-reaches c =
    reach_behind c.args.idx c.args.first c.saturating_sub-missing.result c.args.numbers.now.items c.push_zeros-else-idx-first.new.numbers.items
    (omega arith) (search rules) c.push_zeros-else-idx-first.ensures.items
