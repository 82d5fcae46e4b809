use Rattle.std.proofs.Common.{◌+◌, ◌*◌, take}
use Rattle.std.specs.List.{flat_map}
use Rattle.vale_strip.specs.Placed.{Placed}
use Rattle.vale_entry.specs.Transcript.{hex_byte}
use Rattle.vale_strip.proofs.hex.place_few.Given as goal

abbrev pub invariant-loop-i : goal.invariant-loop-i
invariant-loop-i l = Placed l.fn.buf l.buf l.at (flat_map hex_byte (take l.i l.bytes)) (l.at + 2 * l.i)
