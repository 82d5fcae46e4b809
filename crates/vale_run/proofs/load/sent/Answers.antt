use Rattle.std.proofs.Common.{ℕ, length, refl, ap, arith}
use Rattle.std.proofs.lemmas.Option.{slice_get_read}
use Rattle.vale_run.specs.Load.{count_sent}
use Rattle.vale_run.proofs.Sending.{sum-within}
use Rattle.vale_run.proofs.load.sent.Goals as goal

pub overflow_add-frames : goal.overflow_add-frames
overflow_add-frames c =
    let entries = c.args.entries.now in
    let k = c.loop-entry.entry-index in
    let entry = c.entry-item.result in
    let within = sum-within count_sent entries k entry
    (slice_get_read entries (length entries) k entry refl (omega (arith, c.loop-entry-test.true))
    c.entry-item.is) in
    omega (arith, within, c.loop-entry.invariant.0, ap (λ (p : ℕ × ℕ). p.0) c.sent_by-count.ensures, c.requires.frames)
