use Rattle.std.proofs.Common.{ℕ, ◌≡◌, fold, length}
use Rattle.std.specs.Vec.Iter.{into_iter_items, into_iter_len}
use Rattle.nm_own.specs.PortPlaces.{place_with_id}
use Rattle.nm_port.specs.Receives.{own_with_arrival}
use Rattle.nm_port.specs.Regions.{AllOf, AreOf}
use Rattle.vale_line.specs.Gots.{buffers_of}
use Rattle.nm_user.specs.Receiving.{arrivals_in, CanCome}
use Rattle.nm_user.proofs.receiving.publish_all.Given as goal

abbrev pub invariant-loop-got : goal.invariant-loop-got
invariant-loop-got l = record {
  place : l.at ≡ place_with_id l.own.own l.port.0;
  count : into_iter_len l.coming ≡ length (into_iter_items l.coming);
  come : CanCome l.port.0 l.own.own (arrivals_in (into_iter_items l.coming));
  rest : fold (own_with_arrival l.port.0) l.own.own (arrivals_in (into_iter_items l.coming)) ≡ fold (own_with_arrival l.port.0) l.fn.own.own (arrivals_in l.fn.gots.items);
  region : (region : ℕ) → AllOf region l.fn.own → AreOf region (buffers_of l.fn.gots.items) → AllOf region l.own × AreOf region (buffers_of (into_iter_items l.coming));
}

abbrev pub decreases-loop-got : goal.decreases-loop-got
decreases-loop-got l = into_iter_len l.coming
