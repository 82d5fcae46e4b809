use Rattle.std.proofs.Common.{List, ℕ, ◌++◌, length, sym, subst, append_assoc}
use Rattle.std.proofs.lemmas.Result.{err_from_is_err_and}
use Rattle.nm_io.specs.Held.{Writes}
use Rattle.nm_io.proofs.Growth.{grows_longer}
use Rattle.vale_entry.specs.Transcript.{start_line, entry_lines, end_line}
use Rattle.vale_entry.specs.Transcript.{text_of}
use Rattle.vale_text.proofs.Entries.{writes_after}
use Rattle.vale_text.proofs.transcript.write_transcript.Goals as goal

pub returns-in_err-put_start-clause-writes : goal.returns-in_err-put_start-clause-writes
unfolding text_of
returns-in_err-put_start-clause-writes g c =
    let p = err_from_is_err_and c.from_residual.result c.from_residual.ensures.1 in
    let old = g.K.Sink.holds c.args.out.now in
    let new = g.K.Sink.holds c.put_start.new.out in
    let start : List ℕ = start_line 2 c.args.pool in
    let lines : List ℕ = entry_lines 2 1 c.args.entries.now in
    let last : List ℕ = end_line (length c.args.entries.now) c.args.free in
    rw (p.1) (grows_longer old new (start ++ lines) last (grows_longer old new start lines c.in_err-put_start.ensures.writes))

pub returns-clause-writes : goal.returns-clause-writes
unfolding text_of
returns-clause-writes g c =
    let old = g.K.Sink.holds c.args.out.now in
    let middle = g.K.Sink.holds c.put_start.new.out in
    let new = g.K.Sink.holds c.put_rest.new.out in
    let start : List ℕ = start_line 2 c.args.pool in
    let lines : List ℕ = entry_lines 2 1 c.args.entries.now in
    let last : List ℕ = end_line (length c.args.entries.now) c.args.free in
    subst (λ (text : List ℕ). Writes old new c.put_rest.result text) (sym (append_assoc start lines last))
    (writes_after old middle new start (lines ++ last) c.put_rest.result c.in_ok-put_start.ensures.writes c.put_rest.ensures.writes)
