use Rattle.std.proofs.Common.{◌≡◌, ◌-◌, flat_map}
use Rattle.std.specs.List.{range_with_len}
use Rattle.vale_gen.specs.Load.{user_deeds}
use Rattle.vale_gen.specs.Sheets.{with_deeds}
use Rattle.vale_gen.proofs.generator.block.Given as goal

abbrev pub invariant-loop-user : goal.invariant-loop-user
invariant-loop-user l = l.sheet ≡ with_deeds l.initial.sheet (flat_map (λ user. user_deeds l.n user 2000) (range_with_len 1 (l.user - 1)))
