use Rattle.std.proofs.Common.{◌++◌}
use Rattle.std.proofs.lemmas.Result.{err_from_is_err_and}
use Rattle.vale_entry.specs.Transcript.{entry_line}
use Rattle.vale_text.proofs.Entries.{gathered_behind, gathered_front, grows_front, grows_none}
use Rattle.vale_text.proofs.transcript.put_entry.Goals as goal

pub returns-in_err-gather_entry-clause-gathers : goal.returns-in_err-gather_entry-clause-gathers
returns-in_err-gather_entry-clause-gathers g c = rw ((err_from_is_err_and c.from_residual.result c.from_residual.ensures.1).1) (grows_none _ _)

pub returns-in_err-put_gathered-clause-gathers : goal.returns-in_err-put_gathered-clause-gathers
returns-in_err-put_gathered-clause-gathers g c =
    rw ((err_from_is_err_and c.from_residual-in_err-put_gathered.result c.from_residual-in_err-put_gathered.ensures.1).1)
    (grows_front _ _ (c.args.lines.now.bytes ++ c.args.strip.now) _ _ (entry_line 2 c.args.number c.args.entry.now) c.in_ok-gather_entry.ensures c.in_err-put_gathered.ensures.writes)

pub returns-in_ok-put_gathered-clause-gathers : goal.returns-in_ok-put_gathered-clause-gathers
returns-in_ok-put_gathered-clause-gathers g c =
    gathered_front _ _ _ _ _ _ _ c.in_ok-gather_entry.ensures c.in_ok-put_gathered.ensures.writes c.in_ok-put_gathered.ensures.emptied

pub returns-else-bytes-ge-PAGE_BYTES-clause-gathers : goal.returns-else-bytes-ge-PAGE_BYTES-clause-gathers
returns-else-bytes-ge-PAGE_BYTES-clause-gathers g c = gathered_behind _ _ _ _ c.in_ok-gather_entry.ensures
