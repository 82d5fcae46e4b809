use Rattle.std.proofs.Common.{◌<◌, ◌^◌, List, sum_by, sym, ◌∙◌, subst}
use Rattle.vale_entry.specs.declared.entry.Entry.{Entry}
use Rattle.vale_run.specs.Load.{count_sent, bytes_sent}
use Rattle.vale_run.proofs.Sending.{counts-fit, bytes-fit}
use Rattle.vale_run.proofs.load.write.Goals as goal

pub sent-frames-requires-clause-frames : goal.sent-frames-requires-clause-frames
sent-frames-requires-clause-frames g c =
    subst (λ (h : List Entry). sum_by count_sent h < 2 ^ 64)
    (sym (c.entries.ensures ∙ c.history.ensures.entries))
    (counts-fit c.args.book.pool c.args.book.entries c.history.ensures.legal c.history.ensures.few)

pub sent-frames-requires-clause-bytes : goal.sent-frames-requires-clause-bytes
sent-frames-requires-clause-bytes g c =
    subst (λ (h : List Entry). sum_by bytes_sent h < 2 ^ 64)
    (sym (c.entries.ensures ∙ c.history.ensures.entries))
    (bytes-fit c.args.book.pool c.args.book.entries c.history.ensures.legal c.history.ensures.few)
