use Rattle.std.proofs.Common.{◌∙◌, drop, rules}
use Rattle.vale_strip.proofs.WrittenSpans.{both-placed}
use Rattle.vale_strip.proofs.spans.place_many.Goals as goal

pub loop-done-preserved : goal.loop-done-preserved
loop-done-preserved c =
    let numbers = c.args.numbers.now in
    let span = c.place_span in
    let l = c.loop-done in
    record {
      placed = both-placed c.args.buf.now l.buf span.new.buf c.args.at l.end span.result.0 numbers (drop l.done numbers) (drop span.result.2 numbers)
          l.invariant.placed span.ensures.placed;
      within = search rules;
      same = span.ensures.placed.placed.len ∙ l.invariant.same;
      hundreds = span.ensures.hundreds;
      further = span.ensures.further.1;
    }
