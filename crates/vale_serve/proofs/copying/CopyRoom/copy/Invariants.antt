use Rattle.std.proofs.Common.{◌≡◌, take, drop}
use Rattle.vale_line.specs.Gots.{frames_in}
use Rattle.vale_book.specs.Reading.{Begins}
use Rattle.vale_serve.specs.Copies.{AreFrameRooms}
use Rattle.vale_serve.specs.Users.{contents}
use Rattle.vale_serve.proofs.copying.CopyRoom.copy.Given as goal

abbrev pub invariant-loop-i : goal.invariant-loop-i
invariant-loop-i l = record {
  made : contents (take l.i l.rooms.items) ≡ take l.i (frames_in l.gots);
  left : AreFrameRooms (drop l.i l.rooms.items) (drop l.i l.sizes.items);
  begins : Begins l.gots l.i l.at;
}
