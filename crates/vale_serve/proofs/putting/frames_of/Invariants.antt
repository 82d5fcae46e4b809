use Rattle.std.proofs.Common.{◌≡◌, ◌≤◌, take, length}
use Rattle.std.specs.Vec.{vec_len, vec_capacity}
use Rattle.vale_serve.specs.Putting.{bytes_in}
use Rattle.vale_serve.specs.Users.{contents}
use Rattle.vale_serve.proofs.putting.frames_of.Given as goal

abbrev pub invariant-loop-i : goal.invariant-loop-i
invariant-loop-i l = record {
  made : contents l.all.items ≡ bytes_in (take l.i l.offered);
  count : vec_len l.all ≡ l.i;
  room : length l.offered ≤ vec_capacity l.all;
}
