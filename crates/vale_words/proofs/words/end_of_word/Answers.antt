use Rattle.std.proofs.Common.{ℕ, ◌+◌, ◌<◌, ◌≤◌, List, length, rules}
use Rattle.vale_words.proofs.Ends.{ends_in_load}
use Rattle.vale_words.proofs.words.end_of_word.Goals as goal

pub returns-then-run-lt-LANES : goal.returns-then-run-lt-LANES
returns-then-run-lt-LANES c =
    let bytes : List ℕ = c.args.bytes.now in
    let room : c.loop-from.from + 16 ≤ length bytes = search rules in
    let few : c.word_run-run.result < 16 = search rules in
    ends_in_load bytes c.loop-from.from 16 c.word_run-run.result room few c.loop-from.invariant.before c.word_run-run.ensures
