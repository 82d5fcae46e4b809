use Rattle.std.proofs.Common.{◌≡◌, ◌≤◌, length, map, take}
use Rattle.std.specs.Vec.{vec_capacity}
use Rattle.vale_steps.specs.Offering.{slots_in}
use Rattle.vale_steps.proofs.offers.rooms_of.Given as goal

abbrev pub invariant-loop-want : goal.invariant-loop-want
invariant-loop-want l = record {
  made : l.rooms.items ≡ map slots_in (take l.want-index l.wants);
  room : length l.wants ≤ vec_capacity l.rooms;
}
