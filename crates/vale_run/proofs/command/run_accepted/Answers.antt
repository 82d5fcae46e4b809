use Rattle.std.proofs.Common.{ℕ, ◌≤◌, length, subst, arith}
use Rattle.std.specs.Str.Lines.{lines}
use Rattle.vale_captures.proofs.Few.{counts-few}
use Rattle.nm_types.specs.Limits.{most_counts}
use Rattle.vale_run.proofs.command.run_accepted.Goals as goal

pub counts_of-count-requires : goal.counts_of-count-requires
counts_of-count-requires g c =
    let said = c.requires.said in
    let few : length (lines said.script) ≤ 10000 = said.few in
    counts-few said.script c.args.script.now said.says c.requires.sound (omega (arith, few))

pub returns-clause-ends : goal.returns-clause-ends
returns-clause-ends g c = λ name accepted.
    c.run_counted.ensures.ends name (record {
      accepted = accepted;
      few_counts = subst (λ (n : ℕ). n ≤ most_counts) c.counts_of-count.ensures
          c.if-count-gt-MAX_COUNTS.false;
    })
