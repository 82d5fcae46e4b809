use Rattle.std.proofs.lemmas.Result.{err_from_is_err_and}
use Rattle.vale_entry.specs.Transcript.{ask_words, reply_words}
use Rattle.vale_strip.proofs.Strips.{words_after, words_fail}
use Rattle.vale_text.proofs.rows.put_entry.Goals as goal

pub returns-in_err-put_ask-clause-gathers : goal.returns-in_err-put_ask-clause-gathers
returns-in_err-put_ask-clause-gathers g c =
    let entry = c.args.entry.now in
    rw ((err_from_is_err_and c.from_residual.result c.from_residual.ensures.1).1)
    (words_fail (g.K.Sink.holds c.args.out.now) (g.K.Sink.holds c.put_ask.new.out) c.args.strip.now
    (ask_words c.args.version entry.session.0 entry.ask) (reply_words entry.reply) c.in_err-put_ask.ensures.gathers)

pub returns-clause-gathers : goal.returns-clause-gathers
returns-clause-gathers g c =
    let entry = c.args.entry.now in
    words_after (g.K.Sink.holds c.args.out.now) (g.K.Sink.holds c.put_ask.new.out)
    (g.K.Sink.holds c.put_reply.new.out) c.args.strip.now c.put_ask.new.strip c.put_reply.new.strip
    (ask_words c.args.version entry.session.0 entry.ask) (reply_words entry.reply) c.put_reply.result
    c.in_ok-put_ask.ensures.gathers c.put_reply.ensures.gathers
