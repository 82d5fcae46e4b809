use Rattle.std.proofs.Common.{ℕ, ◌≡◌, ◌≤◌, [], length, take, drop, Result, Ok, Err, Vec, Global}
use Rattle.std.specs.Prelude.{IfOk, OnOk, OnErr}
use Rattle.nm_pool.specs.declared.pool.TakeFault.{TakeFault}
use Rattle.nm_pool.specs.Free.{PoolState, AreOut}
use Rattle.nm_pool.proofs.Out.{taking_loses_none}
use Rattle.nm_region.specs.Buffers.{Buffer, RegionState}
use Rattle.bench.proofs.pool.take_all.Goals as goal

all_out : (r : Result (Vec Buffer Global) TakeFault) (region : RegionState) (old new : PoolState) (n : ℕ) → AreOut region [] old
    → IfOk r (λ bufs. (n ≤ length old.free) × (bufs.items ≡ take n old.free)) → OnOk r (new ≡ record old { free = drop n old.free }) → IfOk r (λ out. AreOut region out.items new)
all_out (Ok bufs) region old new n none taken left = rw (left, taken.1) (taking_loses_none region [] old n none)
all_out (Err fault) region old new n none taken left = tt

none_out : (r : Result (Vec Buffer Global) TakeFault) (region : RegionState) (old new : PoolState) → AreOut region [] old → OnErr r (new ≡ old) → OnErr r (AreOut region [] new)
none_out (Ok bufs) region old new none same = tt
none_out (Err fault) region old new none same = rw same none

pub returns-clause-ok : goal.returns-clause-ok
returns-clause-ok c = all_out c.take.result c.args.region.now c.args.pool.now c.take.new.self c.free-free.result c.requires c.take.ensures.taken c.take.ensures.left

pub returns-clause-err : goal.returns-clause-err
returns-clause-err c = none_out c.take.result c.args.region.now c.args.pool.now c.take.new.self c.requires c.take.ensures.err
