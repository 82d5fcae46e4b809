-- Laws of the free buffers.
use Rattle.std.specs.Prelude.{ℕ, ◌≡◌, ◌+◌, List, [], ◌∷◌, ◌++◌, length, take}
use Rattle.nm_types.specs.declared.id.PortId.{PortId}
use Rattle.nm_types.specs.declared.id.Chain.{Chain}
use Rattle.nm_region.specs.Buffers.{Buffer, indices_of}
use Rattle.nm_pool.specs.Free.{PoolState}
use Rattle.vale_entry.specs.declared.entry.Ask.TheVariants.{Finish}
use Rattle.vale_entry.specs.declared.entry.Entry.{Entry}
use Rattle.vale_entry.specs.World.{free_count}
use Rattle.vale_entry.specs.Holdings.{Holdings, buffers_of_port}
use Rattle.vale_entry.specs.Legal.{standing_of, world_of, holdings_of, IsLegal, Follows}
use Rattle.vale_parts.specs.FreeBuffers.{FreeAre, IsPoolAfter, AreCut, CanAllBeGiven, pool_less, pool_with_all}

abbrev pub FreeFollow : Type 0
FreeFollow = (pool : ℕ) (history : List Entry) (entry : Entry) (state next : PoolState) → Follows (standing_of pool history) entry → FreeAre (holdings_of pool history) state
    → IsPoolAfter (holdings_of pool history) entry.ask entry.reply state next → FreeAre (holdings_of pool (history ++ entry ∷ [])) next

-- as many are free as the world says, so that an opening is refused for want of buffers where too few are
abbrev pub FreeAreCounted : Type 0
FreeAreCounted = (pool : ℕ) (history : List Entry) (state : PoolState) → IsLegal pool history → FreeAre (holdings_of pool history) state
    → length state.free ≡ free_count (world_of pool history)

-- the buffers of an opening, taken at once, are the port's in their order
abbrev pub OpeningsAreCut : Type 0
OpeningsAreCut = (x : Holdings) (state : PoolState) (tx rx extra : ℕ) → FreeAre x state → AreCut x tx rx extra (take (tx + rx + extra) state.free)

-- the buffers that a Finish makes free can be given back, one by one
abbrev pub FinishesCanGive : Type 0
FinishesCanGive = (pool : ℕ) (history : List Entry) (entry : Entry) (port : PortId) (bufs : List ℕ) (chain : Chain) (state : PoolState) (given : List Buffer) → IsLegal pool history
    → Follows (standing_of pool history) entry → entry.ask ≡ Finish port bufs chain → state.buffers ≡ pool → FreeAre (holdings_of pool history) state
    → indices_of given ≡ buffers_of_port port.0 (holdings_of pool history).ports ++ bufs → CanAllBeGiven state given

-- no entry changes how many buffers the pool was made of
abbrev pub PoolsKeepTheirSize : Type 0
PoolsKeepTheirSize = (pool : ℕ) (history : List Entry) (entry : Entry) (state next : PoolState) → Follows (standing_of pool history) entry
    → IsPoolAfter (holdings_of pool history) entry.ask entry.reply state next → next.buffers ≡ state.buffers

-- what was taken can be given back, one by one, and then nothing has changed
pub record IsTakenBack (state : PoolState) (count : ℕ) : Type 0 where
  pub can : CanAllBeGiven (pool_less count state) (take count state.free)
  pub same : pool_with_all (take count state.free) (pool_less count state) ≡ state

abbrev pub TakenIsGivenBack : Type 0
TakenIsGivenBack = (pool : ℕ) (history : List Entry) (state : PoolState) (count : ℕ) → IsLegal pool history → state.buffers ≡ pool → FreeAre (holdings_of pool history) state
    → IsTakenBack state count
