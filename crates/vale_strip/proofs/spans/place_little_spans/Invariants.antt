use Rattle.std.proofs.Common.{◌≡◌, ◌<◌, ◌≤◌, ◌+◌, ◌-◌, ◌*◌, length, drop}
use Rattle.vale_strip.specs.Spans.{ArePlaced}
use Rattle.vale_strip.proofs.spans.place_little_spans.Given as goal

abbrev pub invariant-loop-done : goal.invariant-loop-done
invariant-loop-done l = record {
  placed : ArePlaced l.fn.buf l.buf l.at l.end (drop l.k l.numbers) (drop l.done l.numbers);
  within : (l.end + 21 * l.k ≤ l.at + 21 * l.done) × (l.end ≤ length l.buf);
  same : length l.buf ≡ length l.fn.buf;
  further : (l.k < l.done) × (l.done ≤ length l.numbers);
}

abbrev pub decreases-loop-done : goal.decreases-loop-done
decreases-loop-done l = l.count - l.done
