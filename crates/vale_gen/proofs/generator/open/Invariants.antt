use Rattle.std.proofs.Common.{◌≡◌, ◌-◌, map}
use Rattle.std.specs.List.{range_with_len}
use Rattle.vale_gen.specs.Load.{opens}
use Rattle.vale_gen.specs.Sheets.{with_deeds}
use Rattle.vale_gen.proofs.generator.open.Given as goal

abbrev pub invariant-loop-user : goal.invariant-loop-user
invariant-loop-user l = l.sheet ≡ with_deeds l.initial.sheet (map opens (range_with_len 1 (l.user - 1)))
