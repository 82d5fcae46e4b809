use Rattle.std.proofs.Common.{◌≡◌, ◌≤◌, length, take}
use Rattle.std.specs.Vec.{vec_len, vec_capacity}
use Rattle.vale_serve.specs.Copies.{AreFrameRooms}
use Rattle.vale_serve.proofs.copying.frame_rooms.Given as goal

abbrev pub invariant-loop-i : goal.invariant-loop-i
invariant-loop-i l = record {
  are : AreFrameRooms l.rooms.items (take l.i l.sizes);
  count : vec_len l.rooms ≡ l.i;
  room : length l.sizes ≤ vec_capacity l.rooms;
}
