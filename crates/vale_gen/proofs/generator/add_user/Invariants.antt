use Rattle.std.proofs.Common.{◌≡◌}
use Rattle.vale_gen.specs.Load.{user_deeds}
use Rattle.vale_gen.specs.Sheets.{with_deeds}
use Rattle.vale_gen.proofs.generator.add_user.Given as goal

abbrev pub invariant-loop : goal.invariant-loop
invariant-loop l = record {
  sheet : l.sheet ≡ with_deeds l.initial.sheet (user_deeds l.n l.user l.counter);
  work : l.work ≡ record { n = l.n; user = l.user; frame = l.counter };
}
