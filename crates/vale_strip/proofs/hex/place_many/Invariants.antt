use Rattle.std.proofs.Common.{◌≤◌, ◌+◌, ◌-◌, ◌*◌, take, length}
use Rattle.std.specs.List.{flat_map}
use Rattle.vale_strip.specs.Placed.{Placed}
use Rattle.vale_entry.specs.Transcript.{hex_byte}
use Rattle.vale_strip.proofs.hex.place_many.Given as goal

abbrev pub invariant-loop-done : goal.invariant-loop-done
invariant-loop-done l = record {
  within : l.done ≤ length l.bytes;
  spelled : Placed l.fn.buf l.buf l.at (flat_map hex_byte (take l.done l.bytes)) (l.at + 2 * l.done);
}

abbrev pub decreases-loop-done : goal.decreases-loop-done
decreases-loop-done l = length l.bytes - l.done
