use Rattle.std.proofs.Common.{rules}
use Rattle.std.proofs.lemmas.Result.{err_from_is_err_and}
use Rattle.vale_strip.specs.Pieces.{behind}
use Rattle.vale_strip.proofs.Strips.{flat_more, flat_fails}
use Rattle.vale_strip.proofs.pieces.put_each_after.Goals as goal

pub returns-in_err-put_after-clause-gathers : goal.returns-in_err-put_after-clause-gathers
returns-in_err-put_after-clause-gathers g c =
    let p = err_from_is_err_and c.from_residual.result c.from_residual.ensures.1 in
    rw (p.1) (flat_fails (g.K.Sink.holds c.args.out.now) (g.K.Sink.holds c.loop-item.out) (g.K.Sink.holds c.put_after.new.out) c.args.strip.now c.loop-item.strip (behind c.args.mark g.T.Spelled.text) c.args.items.now c.loop-item.item-index c.item-item.result c.loop-item-test.true c.item-item.is c.loop-item.invariant.gathered c.in_err-put_after.ensures.gathers)

pub loop-item-preserved : goal.loop-item-preserved
loop-item-preserved g c = record {
  gathered = flat_more (g.K.Sink.holds c.args.out.now) (g.K.Sink.holds c.loop-item.out) (g.K.Sink.holds c.put_after.new.out) c.args.strip.now c.loop-item.strip c.put_after.new.strip (behind c.args.mark g.T.Spelled.text) c.args.items.now c.loop-item.item-index c.item-item.result c.loop-item-test.true c.item-item.is c.loop-item.invariant.gathered c.in_ok-put_after.ensures.gathers;
  later = search rules;
}
