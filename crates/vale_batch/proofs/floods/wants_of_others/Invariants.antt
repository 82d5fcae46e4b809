use Rattle.std.proofs.Common.{◌≡◌, ◌≤◌, length, map, take}
use Rattle.std.specs.Prelude.{filter}
use Rattle.std.specs.Vec.{vec_len, vec_capacity}
use Rattle.vale_batch.specs.Wants.{is_other, want_with, wanted}
use Rattle.vale_batch.proofs.floods.wants_of_others.Given as goal

abbrev pub invariant-loop-port : goal.invariant-loop-port
invariant-loop-port l = record {
  found : map wanted l.wants.items ≡ map (want_with l.places l.sizes) (filter (is_other l.from) (take l.port-index l.ports));
  count : vec_len l.wants ≤ l.port-index;
  room : length l.ports ≤ vec_capacity l.wants;
}
