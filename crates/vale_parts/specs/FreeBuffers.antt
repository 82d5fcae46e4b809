-- The free buffers of a pool are the free ones of the holdings.
use Rattle.std.specs.Prelude.{ℕ, ◌≡◌, ◌+◌, List, [], ◌∷◌, ◌++◌, take, drop}
use Rattle.nm_region.specs.Buffers.{Buffer, indices_of}
use Rattle.nm_pool.specs.Free.{PoolState, with_buffer, CanBeGiven}
use Rattle.vale_entry.specs.declared.entry.Ask.{Ask}
use Rattle.vale_entry.specs.declared.entry.Ask.TheVariants.{Open, Finish}
use Rattle.vale_entry.specs.declared.entry.Reply.{Reply}
use Rattle.vale_entry.specs.declared.entry.Reply.TheVariants.{Opened}
use Rattle.vale_entry.specs.Holdings.{Holdings, buffers_of_port}

abbrev pub FreeAre : Holdings → PoolState → Type 0
FreeAre x pool = indices_of pool.free ≡ x.free

-- the pool once so many buffers were taken
abbrev pub pool_less : ℕ → PoolState → PoolState
pool_less count pool = record pool { free = drop count pool.free }

-- the pool once a buffer was given back, and once some were, one by one
abbrev pub pool_with : Buffer → PoolState → PoolState
pool_with buf pool = record pool { free = with_buffer buf pool.free }

abbrev pub pool_with_all : List Buffer → PoolState → PoolState
pool_with_all [] pool = pool
pool_with_all (buf ∷ bufs) pool = pool_with_all bufs (pool_with buf pool)

-- each of these can be given back, once those before it were
abbrev pub CanAllBeGiven : PoolState → List Buffer → Type 0
CanAllBeGiven pool [] = Unit {0}
CanAllBeGiven pool (buf ∷ bufs) = CanBeGiven pool buf × CanAllBeGiven (pool_with buf pool) bufs

-- these indices' buffers were given back, one by one
pub record AreGivenBack (indices : List ℕ) (pool next : PoolState) : Type 0 where
  pub given : List Buffer
  pub indices_are : indices_of given ≡ indices
  pub is : next ≡ pool_with_all given pool

-- what an entry makes of the pool: an opening takes the port's buffers, and a Finish gives back those of
-- the port's line and then those that the session brings
abbrev pub IsPoolAfter : Holdings → Ask → Reply → PoolState → PoolState → Type 0
IsPoolAfter x (Open session name tx rx extra) Opened pool next = next ≡ pool_less (tx + rx + extra) pool
IsPoolAfter x (Finish port bufs chain) reply pool next = AreGivenBack (buffers_of_port port.0 x.ports ++ bufs) pool next
IsPoolAfter x _ _ pool next = next ≡ pool

-- the buffers of an opening, cut into those for the transmit slots, those of the receive ring's kernel
-- side, and the extra ones
pub record AreCut (x : Holdings) (tx rx extra : ℕ) (taken : List Buffer) : Type 0 where
  pub transmit : indices_of (take tx taken) ≡ take tx x.free
  pub idle : indices_of (take rx (drop tx taken)) ≡ take rx (drop tx x.free)
  pub extras : indices_of (drop (tx + rx) taken) ≡ take extra (drop (tx + rx) x.free)
