use Rattle.std.proofs.Common.{◌-◌, get_or}
use Rattle.std.proofs.lemmas.List.{take_rest}
use Rattle.vale_strip.proofs.Runs.{first-of-run, run-last}
use Rattle.vale_strip.proofs.spans.first_span.Goals as goal

pub returns-clause-some : goal.returns-clause-some
returns-clause-some c =
    let first = get_or c.args.numbers.now 0 0 in
    let len = c.run_len-len.result in
    rw (take_rest c.args.numbers.now len)
    (first-of-run c.args.version c.args.numbers.now first len (get_or c.args.numbers.now (len - 1) 0) c.if-version-eq1.false c.run_len-len.ensures
    (run-last c.args.numbers.now first len 0 c.run_len-len.ensures))
