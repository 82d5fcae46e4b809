use Rattle.std.proofs.Common.{ℕ, ◌+◌, ◌<◌, ◌≤◌, List, length, rules}
use Rattle.vale_words.proofs.Ends.{ends_in_load}
use Rattle.vale_words.proofs.words.end_of_rest.Goals as goal

pub returns-then-run-lt-HALF_LANES : goal.returns-then-run-lt-HALF_LANES
returns-then-run-lt-HALF_LANES c =
    let bytes : List ℕ = c.args.bytes.now in
    let room : c.args.from + 8 ≤ length bytes = search rules in
    let few : c.word_run_half-run.result < 8 = search rules in
    ends_in_load bytes c.args.from 8 c.word_run_half-run.result room few c.requires.before c.word_run_half-run.ensures
