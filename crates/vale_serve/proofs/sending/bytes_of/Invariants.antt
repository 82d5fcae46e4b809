use Rattle.std.proofs.Common.{◌≡◌, ◌≤◌, take, length}
use Rattle.std.specs.Vec.{vec_capacity}
use Rattle.vale_port.specs.Kept.{bytes_of}
use Rattle.vale_serve.specs.Users.{contents}
use Rattle.vale_serve.proofs.sending.bytes_of.Given as goal

abbrev pub invariant-loop-i : goal.invariant-loop-i
invariant-loop-i l = record {
  made : contents l.all.items ≡ bytes_of (take l.i l.batch);
  count : length l.all.items ≡ l.i;
  room : length l.batch ≤ vec_capacity l.all;
}
