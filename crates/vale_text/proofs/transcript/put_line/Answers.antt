use Rattle.std.proofs.lemmas.Result.{err_from_is_err_and}
use Rattle.vale_text.proofs.Entries.{gathered_behind, gathered_over, grows_as, grows_none}
use Rattle.vale_text.proofs.transcript.put_line.Goals as goal

pub returns-in_err-gather-clause-gathers : goal.returns-in_err-gather-clause-gathers
returns-in_err-gather-clause-gathers g c = rw ((err_from_is_err_and c.from_residual.result c.from_residual.ensures.1).1) (grows_none _ _)

pub returns-in_err-put_gathered-clause-gathers : goal.returns-in_err-put_gathered-clause-gathers
returns-in_err-put_gathered-clause-gathers g c =
    rw ((err_from_is_err_and c.from_residual-in_err-put_gathered.result c.from_residual-in_err-put_gathered.ensures.1).1)
    (grows_as _ _ c.args.lines.now.bytes _ (g.T.Text.text c.args.line.now) c.in_ok-gather.ensures.ok c.in_err-put_gathered.ensures.writes)

pub returns-in_ok-put_gathered-clause-gathers : goal.returns-in_ok-put_gathered-clause-gathers
returns-in_ok-put_gathered-clause-gathers g c =
    gathered_over _ _ _ _ _ _ c.in_ok-gather.ensures.ok c.in_ok-put_gathered.ensures.writes c.in_ok-put_gathered.ensures.emptied

pub returns-else-bytes-ge-PAGE_BYTES-clause-gathers : goal.returns-else-bytes-ge-PAGE_BYTES-clause-gathers
returns-else-bytes-ge-PAGE_BYTES-clause-gathers g c = gathered_behind _ _ _ _ c.in_ok-gather.ensures.ok
