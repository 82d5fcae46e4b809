use Rattle.std.proofs.Common.{◌≡◌, ◌≤◌, ◌+◌, ◌-◌, ◌*◌, ◌^◌, length, drop}
use Rattle.vale_strip.specs.Placed.{AreHundreds}
use Rattle.vale_strip.specs.Spans.{ArePlaced}
use Rattle.vale_strip.proofs.spans.place_many.Given as goal

abbrev pub invariant-loop-done : goal.invariant-loop-done
invariant-loop-done l = record {
  placed : ArePlaced l.fn.buf l.buf l.at l.end l.numbers (drop l.done l.numbers);
  within : (l.end ≤ l.at + 21 * l.done) × (l.end ≤ length l.buf);
  same : length l.buf ≡ length l.fn.buf;
  hundreds : AreHundreds (2 ^ 64 - l.hundreds.below) l.hundreds.text l.hundreds.len;
  further : l.done ≤ length l.numbers;
}

abbrev pub decreases-loop-done : goal.decreases-loop-done
decreases-loop-done l = l.count - l.done
