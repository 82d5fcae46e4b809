use Rattle.std.proofs.Common.{ℕ, List, ◌≡◌, ◌∙◌, refl, subst}
use Rattle.nm_io.specs.Held.{grown, GrowsByPrefix}
use Rattle.vale_entry.specs.Transcript.{transcript_text}
use Rattle.vale_run.proofs.Histories.{text-told}
use Rattle.vale_run.proofs.Endings.{written-saved, text-failed, text-cut}
use Rattle.vale_run.proofs.command.write.Goals as goal

pub returns-in-Ok-clause-written : goal.returns-in-Ok-clause-written
returns-in-Ok-clause-written g c =
    let told = text-told c.args.book c.buffers-pool.result c.entries.result.now c.free-free.result
    c.buffers-pool.ensures (c.entries.ensures ∙ c.close-history.ensures.entries)
    c.free-free.ensures in
    written-saved (transcript_text c.args.book.pool c.args.book.entries) _ c.args.outputs.now
    c.write_saved.result
    (subst (λ (text : List ℕ). g.K.Sink.holds c.write_transcript.new.out ≡ grown
    (g.K.Sink.holds c.args.out.now) text) told c.in-Ok.ensures.writes)
    c.write_saved.ensures.saves

pub returns-in-Err-Failed-clause-written : goal.returns-in-Err-Failed-clause-written
returns-in-Err-Failed-clause-written g c =
    let told = text-told c.args.book c.buffers-pool.result c.entries.result.now c.free-free.result
    c.buffers-pool.ensures (c.entries.ensures ∙ c.close-history.ensures.entries)
    c.free-free.ensures in
    text-failed (transcript_text c.args.book.pool c.args.book.entries) _ c.args.outputs.now
    c.in-Err-Failed.field-0 c.in-Err-Failed.field-0-is
    (subst (GrowsByPrefix (g.K.Sink.holds c.args.out.now)
    (g.K.Sink.holds c.write_transcript.new.out)) told c.in-Err-Failed.ensures.writes) refl
    c.in-Err-Failed.ensures.cause

pub returns-clause-written : goal.returns-clause-written
returns-clause-written g c =
    let told = text-told c.args.book c.buffers-pool.result c.entries.result.now c.free-free.result
    c.buffers-pool.ensures (c.entries.ensures ∙ c.close-history.ensures.entries)
    c.free-free.ensures in
    text-cut (transcript_text c.args.book.pool c.args.book.entries) _ c.args.outputs.now
    (subst (GrowsByPrefix (g.K.Sink.holds c.args.out.now)
    (g.K.Sink.holds c.write_transcript.new.out)) told c.in-Err-NoMemory.ensures.writes) refl
