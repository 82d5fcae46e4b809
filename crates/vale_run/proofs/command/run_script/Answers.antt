use Rattle.std.proofs.Common.{ℕ, ◌≤◌, subst}
use Rattle.nm_types.specs.Limits.{most_script_lines}
use Rattle.vale_run.proofs.command.run_script.Goals as goal

pub returns-in-Ok-clause-ends : goal.returns-in-Ok-clause-ends
returns-in-Ok-clause-ends g c = λ name told.
    c.run_accepted-status.ensures.ends name (record {
      script = c.args.bytes.now;
      is_script = record { told = told; short = c.requires };
      few_lines = subst (λ (n : ℕ). n ≤ most_script_lines) c.line_count-count.ensures
          c.if-count-gt-MAX_SCRIPT_LINES.false;
      says = c.in-Ok.ensures.ok;
    })
