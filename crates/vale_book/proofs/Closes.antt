-- A book all of whose buffers are free has no port, and its pool has all of its region.
use Rattle.std.proofs.Common.{ℕ, List, [], ◌∷◌, ◌≡◌, length, map, sum_by, refl, ◌∙◌, ap, arith}
use Rattle.std.specs.List.{AllByRecursion as Each, range_with_len}
use Rattle.nm_region.specs.Buffers.{Buffer, RegionState, indices_of, names_of, AreAllOf}
use Rattle.nm_region.proofs.Named.{AreAllOf-named}
use Rattle.nm_pool.specs.Free.{AreWhole}
use Rattle.vale_entry.specs.World.{Port, buffers_of, free_count}
use Rattle.vale_entry.specs.Holdings.{PortBuffers}
use Rattle.vale_entry.proofs.HistoryLaws.{history-stands}
use Rattle.vale_entry.proofs.Removals.{sum-remove}
use Rattle.vale_entry.proofs.Roomy.{HasRoom}
use Rattle.vale_parts.proofs.FreeKept.{free_counted}
use Rattle.vale_port.specs.Lists.{ArePortsOf}
use Rattle.vale_port.specs.Ports.{PortState}
use Rattle.vale_book.specs.declared.book.Book.TheInside.{Inside}
use Rattle.nm_region.specs.Regions.{AreOf}
use Rattle.vale_book.specs.BookView.{IsBook}
use Rattle.vale_book.proofs.Moves.{before}

-- the pool has them all
pub all-free : (b : Inside) → IsBook b → free_count (before b).world ≡ b.pool.buffers → length b.pool.free ≡ b.pool.buffers
all-free b k free = free_counted b.pool.buffers b.history.entries b.pool k.stands.legal k.stands.parts_are.free_are ∙ free

-- each port has buffers
no-port : (ports : List Port) → Each HasRoom ports → sum_by buffers_of ports ≡ 0 → ports ≡ []
no-port [] rooms none = refl
no-port (port ∷ ports) rooms none =
    let fits = rooms.0.fits in
    let part = sum-remove buffers_of (port ∷ ports) 0 port refl in
    absurd (omega (arith, none, fits, part))

none-stand : (ports : List Port) (helds : List PortBuffers) (ps : List PortState) → ports ≡ [] → ArePortsOf ports helds ps → ps ≡ []
none-stand [] helds [] is are = refl
none-stand [] helds (p ∷ ps) is are = absurd are
none-stand (port ∷ ports) helds ps is are = absurd cc

pub no-ports : (b : Inside) → IsBook b → free_count (before b).world ≡ b.pool.buffers → b.ports.items ≡ []
no-ports b k free =
    let w = (before b).world in
    let s = history-stands b.pool.buffers b.history.entries k.stands.legal in
    let within = s.roomy.within in
    let size = s.pool_is in
    let none : sum_by buffers_of w.ports ≡ 0 = omega (arith, free, within, size) in
    none-stand w.ports (before b).holdings.ports b.ports.items (no-port w.ports s.roomy.roomy none) k.stands.ports_are

-- buffers of one region are told apart by their indices
names-of : (region : ℕ) (bufs : List Buffer) → AreOf region bufs → names_of bufs ≡ map (λ (index : ℕ). (region, index)) (indices_of bufs)
names-of region [] are = refl
names-of region (buf ∷ bufs) are =
    ap (λ (n : ℕ). (n, buf.index) ∷ names_of bufs) are.0 ∙ ap (λ (ns : List (ℕ × ℕ)). (region, buf.index) ∷ ns) (names-of region bufs are.1)

pub all-back : (r : RegionState) (bufs : List Buffer) → AreOf r.region bufs → AreWhole bufs → length bufs ≡ r.buffers → AreAllOf r bufs
all-back r bufs are whole count =
    let number : ℕ → ℕ × ℕ = λ index. (r.region, index) in
    AreAllOf-named r bufs (names-of r.region bufs are ∙ (ap (map number) whole ∙ ap (λ (n : ℕ). map number (range_with_len 2 n)) count))
