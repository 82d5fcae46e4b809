use Rattle.std.proofs.Common.{rules}
use Rattle.std.proofs.lemmas.Result.{err_from_is_err_and}
use Rattle.vale_strip.specs.Pieces.{behind, piece_text}
use Rattle.vale_strip.proofs.Strips.{flat_more, flat_fails}
use Rattle.vale_strip.proofs.pieces.put_words.Goals as goal

pub returns-in_err-put_word-clause-gathers : goal.returns-in_err-put_word-clause-gathers
returns-in_err-put_word-clause-gathers g c =
    let p = err_from_is_err_and c.from_residual.result c.from_residual.ensures.1 in
    rw (p.1) (flat_fails (g.K.Sink.holds c.args.out.now) (g.K.Sink.holds c.loop-piece.out) (g.K.Sink.holds c.put_word.new.out) c.args.strip.now c.loop-piece.strip (behind 32 piece_text) c.args.pieces.now c.loop-piece.piece-index c.piece-item.result c.loop-piece-test.true c.piece-item.is c.loop-piece.invariant.gathered c.in_err-put_word.ensures.gathers)

pub loop-piece-preserved : goal.loop-piece-preserved
loop-piece-preserved g c = record {
  gathered = flat_more (g.K.Sink.holds c.args.out.now) (g.K.Sink.holds c.loop-piece.out) (g.K.Sink.holds c.put_word.new.out) c.args.strip.now c.loop-piece.strip c.put_word.new.strip (behind 32 piece_text) c.args.pieces.now c.loop-piece.piece-index c.piece-item.result c.loop-piece-test.true c.piece-item.is c.loop-piece.invariant.gathered c.in_ok-put_word.ensures.gathers;
  later = search rules;
}
