use Rattle.std.proofs.Common.{◌≡◌, ◌≤◌, length}
use Rattle.std.specs.List.{range_with_len, filter_map}
use Rattle.nm_types.specs.declared.place.Place.TheVariants.{Extra}
use Rattle.nm_hold.specs.Holds.{index_at}
use Rattle.nm_extra.proofs.chain.held.Given as goal

abbrev pub invariant-loop-at : goal.invariant-loop-at
invariant-loop-at l = record {
  counted : l.count ≡ length (filter_map (λ at. index_at l.hold (Extra l.port at)) (range_with_len 0 l.at));
  few : l.count ≤ l.at;
}
