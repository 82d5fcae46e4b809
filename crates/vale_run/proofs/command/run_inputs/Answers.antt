use Rattle.std.proofs.Common.{ℕ, ◌≤◌, subst}
use Rattle.nm_types.specs.Limits.{most_played}
use Rattle.vale_run.proofs.command.run_inputs.Goals as goal

pub returns-clause-ends : goal.returns-clause-ends
returns-clause-ends g c = λ name has.
    let few = subst (λ (n : ℕ). n ≤ most_played) c.frames_played-count.ensures c.if-count-gt-MAX_PLAYED.false in
    c.run_ready.ensures.ends name (record { has_inputs = has; few_frames = few })
