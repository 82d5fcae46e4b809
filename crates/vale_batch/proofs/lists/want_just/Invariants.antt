use Rattle.std.proofs.Common.{◌≡◌, ◌≤◌, take, map, length}
use Rattle.std.specs.Vec.{vec_capacity}
use Rattle.vale_batch.specs.Wants.{place_of, slots_of}
use Rattle.vale_batch.proofs.lists.want_just.Given as goal

abbrev pub invariant-loop-placed : goal.invariant-loop-placed
invariant-loop-placed l = record {
  places : l.places.items ≡ map place_of (take l.placed-index l.frames);
  sizes : l.sizes.items ≡ map slots_of (take l.placed-index l.frames);
  places_room : length l.frames ≤ vec_capacity l.places;
  sizes_room : length l.frames ≤ vec_capacity l.sizes;
}
