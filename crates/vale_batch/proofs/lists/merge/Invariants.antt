use Rattle.std.proofs.Common.{◌≡◌, ◌+◌, ◌≤◌, ◌++◌, map, length}
use Rattle.std.specs.Vec.{vec_len, vec_capacity}
use Rattle.vale_batch.specs.Wants.{merged, place_of, slots_of}
use Rattle.vale_batch.proofs.lists.merge.Given as goal

abbrev pub invariant-loop-placed : goal.invariant-loop-placed
invariant-loop-placed l = record {
  places : l.places.items ++ map place_of (merged l.own l.flooded) ≡ l.fn.places.items ++ map place_of (merged l.fn.own l.fn.flooded);
  sizes : l.sizes.items ++ map slots_of (merged l.own l.flooded) ≡ l.fn.sizes.items ++ map slots_of (merged l.fn.own l.fn.flooded);
  places_room : vec_len l.places + length (merged l.own l.flooded) ≤ vec_capacity l.places;
  sizes_room : vec_len l.sizes + length (merged l.own l.flooded) ≤ vec_capacity l.sizes;
}

abbrev pub decreases-loop-placed : goal.decreases-loop-placed
decreases-loop-placed l = length (merged l.own l.flooded)
