use Rattle.std.proofs.lemmas.Result.{err_from_is_err_and}
use Rattle.vale_text.proofs.Entries.{behind_nothing, grows_none}
use Rattle.vale_text.proofs.transcript.put_start.Goals as goal

pub returns-in_err-gather-clause-writes : goal.returns-in_err-gather-clause-writes
returns-in_err-gather-clause-writes g c = rw ((err_from_is_err_and c.from_residual.result c.from_residual.ensures.1).1) (grows_none _ _)

pub returns-in_err-put_gathered-clause-writes : goal.returns-in_err-put_gathered-clause-writes
returns-in_err-put_gathered-clause-writes g c =
    rw ((err_from_is_err_and c.from_residual-in_err-put_gathered.result c.from_residual-in_err-put_gathered.ensures.1).1)
    (rw (behind_nothing _ _ _ c.requires c.in_ok-gather.ensures.ok) at c.in_err-put_gathered.ensures.writes)

pub returns-clause-writes : goal.returns-clause-writes
returns-clause-writes g c = rw (behind_nothing _ _ _ c.requires c.in_ok-gather.ensures.ok) at c.in_ok-put_gathered.ensures.writes
