use Rattle.std.proofs.Common.{◌≡◌, ◌-◌, map}
use Rattle.std.specs.List.{range_with_len}
use Rattle.vale_gen.specs.Load.{user_name}
use Rattle.vale_gen.proofs.generator.user_words.Given as goal

abbrev pub invariant-loop-user : goal.invariant-loop-user
invariant-loop-user l = l.words.items ≡ map user_name (range_with_len 1 (l.user - 1))
