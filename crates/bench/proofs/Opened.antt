-- A pool of all buffers of a region, as it is opened and closed.
use Rattle.std.proofs.Common.{ℕ, ◌≡◌, List, [], ◌∷◌, length, map, Result, Vec, Global, refl, ◌∙◌, ap}
use Rattle.std.specs.Prelude.{IfErr}
use Rattle.std.specs.List.{range_with_len}
use Rattle.std.proofs.lemmas.List.FromFn.{length-map-range_with_len}
use Rattle.std.proofs.lemmas.Result.{IfErr-weaker}
use Rattle.nm_types.specs.declared.fault.NoMemory.{NoMemory}
use Rattle.nm_types.specs.Buffers.{IsPoolSize}
use Rattle.nm_region.specs.Buffers.{Buffer, RegionState, AreAllOf, opened_buffer, opened_buffers, indices_of}
use Rattle.nm_region.proofs.Named.{AreAllOf-opened}
use Rattle.nm_pool.specs.Free.{PoolState, AreOut, AreWhole}

indices-opened : (r : RegionState) (indices : List ℕ) → indices_of (map (opened_buffer r) indices) ≡ indices
indices-opened r [] = refl
indices-opened r (i ∷ is) = ap (λ (others : List ℕ). i ∷ others) (indices-opened r is)

pub length-opened : (r : RegionState) → length (opened_buffers r) ≡ r.buffers
length-opened r = length-map-range_with_len (opened_buffer r) 2 r.buffers

pub whole_opened : (r : RegionState) (bufs : List Buffer) → bufs ≡ opened_buffers r → AreWhole bufs
whole_opened r bufs e = rw (e, length-opened r) (indices-opened r (range_with_len 2 r.buffers))

pub size_opened : (r : RegionState) (bufs : List Buffer) → bufs ≡ opened_buffers r → IsPoolSize r.buffers → IsPoolSize (length bufs)
size_opened r bufs e size = rw (e, length-opened r) size

pub out_opened : (r : RegionState) (bufs : List Buffer) (pool : PoolState) → bufs ≡ opened_buffers r → pool ≡ record { buffers = length bufs; free = bufs } → AreOut r [] pool
out_opened r bufs pool e is = rw is (record { each = AreAllOf-opened r bufs e; as_many = ap length e ∙ length-opened r })

-- what hands all buffers back if it fails
pub opened_err : {X : Type 0} (r : Result X (NoMemory × Vec Buffer Global)) (region : RegionState) (bufs : List Buffer) → bufs ≡ opened_buffers region
    → IfErr r (λ fault. fault.1.items ≡ bufs) → IfErr r (λ fault. AreAllOf region fault.1.items)
opened_err r region bufs e = IfErr-weaker r (λ fault. fault.1.items ≡ bufs) (λ fault. AreAllOf region fault.1.items) (λ fault is. AreAllOf-opened region fault.1.items (is ∙ e))
