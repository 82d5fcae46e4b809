use Rattle.std.proofs.Common.{List, ℕ, [], ◌∷◌, ◌++◌, decimal}
use Rattle.std.proofs.lemmas.Result.{err_from_is_err_and}
use Rattle.nm_io.specs.Gathered.{Gathered}
use Rattle.nm_io.proofs.Gathering.{gathered_more, gathered_fails, grows_past}
use Rattle.vale_entry.specs.declared.entry.Entry.{Entry}
use Rattle.vale_entry.specs.Transcript.{ask_words, reply_words, words_text}
use Rattle.vale_strip.proofs.Strips.{gathers_after}
use Rattle.vale_text.proofs.rows.put_entry_line.Goals as goal

-- what stands behind the number
abbrev told : ℕ → Entry → List ℕ
told version entry = words_text (ask_words version entry.session.0 entry.ask ++ reply_words entry.reply)

pub returns-in_err-put_number-clause-gathers : goal.returns-in_err-put_number-clause-gathers
returns-in_err-put_number-clause-gathers g c =
    let line = c.args.line.now in
    let fails = grows_past (g.K.Sink.holds c.args.out.now) (g.K.Sink.holds c.put_number.new.out) c.args.strip.now in
    rw ((err_from_is_err_and c.from_residual.result c.from_residual.ensures.1).1)
    (fails (decimal line.number ++ told line.version line.entry.now) (10 ∷ []) (fails (decimal line.number) (told line.version line.entry.now) c.in_err-put_number.ensures.gathers))

pub returns-in_err-put_entry-clause-gathers : goal.returns-in_err-put_entry-clause-gathers
returns-in_err-put_entry-clause-gathers g c =
    let line = c.args.line.now in
    let old = g.K.Sink.holds c.args.out.now in
    let new = g.K.Sink.holds c.put_entry.new.out in
    rw ((err_from_is_err_and c.from_residual-in_err-put_entry.result c.from_residual-in_err-put_entry.ensures.1).1)
    (grows_past old new c.args.strip.now (decimal line.number ++ told line.version line.entry.now) (10 ∷ [])
    (gathered_fails old (g.K.Sink.holds c.put_number.new.out) new c.args.strip.now c.put_number.new.strip (decimal line.number) (told line.version line.entry.now) c.in_ok-put_number.ensures.gathers c.in_err-put_entry.ensures.gathers))

pub returns-clause-gathers : goal.returns-clause-gathers
returns-clause-gathers g c =
    let line = c.args.line.now in
    let old = g.K.Sink.holds c.args.out.now in
    let then = g.K.Sink.holds c.put_entry.new.out in
    let strip : List ℕ = c.args.strip.now in
    let next : List ℕ = c.put_entry.new.strip in
    let text : List ℕ = decimal line.number ++ told line.version line.entry.now in
    let both : Gathered old then strip next text =
    gathered_more old (g.K.Sink.holds c.put_number.new.out) then strip c.put_number.new.strip next (decimal line.number) (told line.version line.entry.now) c.in_ok-put_number.ensures.gathers c.in_ok-put_entry.ensures.gathers in
    gathers_after old then (g.K.Sink.holds c.put_byte.new.out) strip next c.put_byte.new.strip text (10 ∷ []) c.put_byte.result both c.put_byte.ensures.gathers
