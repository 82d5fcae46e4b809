use Rattle.std.proofs.Common.{List, ℕ, [], ◌∷◌, codes, decimal}
use Rattle.std.proofs.lemmas.Result.{err_from_is_err_and}
use Rattle.nm_types.specs.declared.id.PortId.{PortId}
use Rattle.nm_types.specs.declared.id.Side.{Side}
use Rattle.vale_entry.specs.Transcript.{side_word, fault_words}
use Rattle.vale_strip.proofs.Strips.{words_after, words_fail}
use Rattle.vale_text.proofs.rows.put_reset.Goals as goal

abbrev ring_words : ℕ → PortId → Side → List (List ℕ)
ring_words session port side =
    decimal session ∷ codes "reset" ∷ decimal port.0 ∷ side_word side ∷ []

pub returns-in_err-put_with_port-clause-gathers : goal.returns-in_err-put_with_port-clause-gathers
returns-in_err-put_with_port-clause-gathers g c =
    rw ((err_from_is_err_and c.from_residual.result c.from_residual.ensures.1).1)
    (words_fail (g.K.Sink.holds c.args.out.now) (g.K.Sink.holds c.put_with_port.new.out)
    c.args.strip.now (ring_words c.args.session c.args.port c.args.side)
    (fault_words c.args.fault.now) (rw c.side_word.ensures at c.in_err-put_with_port.ensures.gathers))

pub returns-clause-gathers : goal.returns-clause-gathers
returns-clause-gathers g c =
    words_after (g.K.Sink.holds c.args.out.now) (g.K.Sink.holds c.put_with_port.new.out)
    (g.K.Sink.holds c.put_fault.new.out) c.args.strip.now c.put_with_port.new.strip
    c.put_fault.new.strip (ring_words c.args.session c.args.port c.args.side)
    (fault_words c.args.fault.now) c.put_fault.result (rw c.side_word.ensures at c.in_ok-put_with_port.ensures.gathers)
    c.put_fault.ensures.gathers
