-- A pool over all buffers of a region, and a book over it.
use Rattle.std.proofs.Common.{ℕ, ◌≡◌, ◌<◌, ◌≤◌, ◌^◌, List, [], ◌∷◌, length, map, refl, sym, ◌∙◌, ap, subst, arith}
use Rattle.std.specs.List.{AllByRecursion as Each, range_with_len}
use Rattle.std.proofs.lemmas.List.FromFn.{length-map-range_with_len}
use Rattle.nm_types.specs.Buffers.{IsPoolSize}
use Rattle.nm_types.specs.Limits.{most_switches}
use Rattle.nm_region.specs.Buffers.{Buffer, RegionState, opened_buffer, opened_buffers, indices_of}
use Rattle.nm_pool.specs.Free.{PoolState, AreWhole}
use Rattle.vale_parts.proofs.AllParts.{empty_first}
use Rattle.vale_parts.specs.Parts.{PartsAre}
use Rattle.vale_port.specs.Ports.{PortState}
use Rattle.vale_port.specs.Lists.{ArePortsOf}
use Rattle.vale_entry.specs.declared.entry.Entry.{Entry}
use Rattle.vale_entry.specs.Legal.{world_of, holdings_of}
use Rattle.vale_book.specs.declared.book.Book.TheInside.{Inside}
use Rattle.vale_steps.specs.declared.tables.NamedTable.{NamedTable}
use Rattle.nm_region.specs.Regions.{AreOf}
use Rattle.vale_book.specs.BookView.{parts_in, number_of_session, HasBuffersOf, StandsFor, IsBook}
use Rattle.vale_own.specs.Recorded.{HadRoom}

pub length-opened : (r : RegionState) → length (opened_buffers r) ≡ r.buffers
length-opened r = length-map-range_with_len (opened_buffer r) 2 r.buffers

indices-opened : (r : RegionState) (ns : List ℕ) → indices_of (map (opened_buffer r) ns) ≡ ns
indices-opened r [] = refl
indices-opened r (n ∷ ns) = ap (λ (rest : List ℕ). n ∷ rest) (indices-opened r ns)

pub are-opened : (r : RegionState) → indices_of (opened_buffers r) ≡ range_with_len 2 r.buffers
are-opened r = indices-opened r (range_with_len 2 r.buffers)

pub size-opened : (r : RegionState) (bufs : List Buffer) (n : ℕ) → bufs ≡ opened_buffers r → r.buffers ≡ n → length bufs ≡ n
size-opened r bufs n is size = ap (λ (bs : List Buffer). length bs) is ∙ (length-opened r ∙ size)

pub whole-opened : (r : RegionState) (bufs : List Buffer) → bufs ≡ opened_buffers r → AreWhole bufs
whole-opened r bufs is = rw (is, length-opened r) (are-opened r)

of-opened : (r : RegionState) (ns : List ℕ) → AreOf r.region (map (opened_buffer r) ns)
of-opened r [] = tt
of-opened r (n ∷ ns) = (refl, of-opened r ns)

pub are-of_opened : (r : RegionState) (bufs : List Buffer) → bufs ≡ opened_buffers r → AreOf r.region bufs
are-of_opened r bufs is = subst (AreOf r.region) (sym is) (of-opened r (range_with_len 2 r.buffers))

-- a book with no entries over a pool that is all free
pub record IsFresh (b : Inside) (bufs : List Buffer) : Type 0 where
  pub entries : b.history.entries ≡ []
  pub promised : b.history.promised ≡ 0
  pub sessions : b.sessions.items ≡ []
  pub ports : b.ports.items ≡ []
  pub names : b.names ≡ []
  pub tables : b.tables.items ≡ []
  pub watches : b.watches ≡ []
  pub tally : b.tally ≡ []
  pub pool : b.pool ≡ (record { buffers = length bufs; free = bufs })
  pub bufs_are : bufs ≡ opened_buffers b.region
  pub size : b.region.buffers ≡ b.buffers
  pub few : b.history.limits.entries < 2 ^ 32
  pub fits : IsPoolSize b.buffers

pub fresh-book : (b : Inside) (bufs : List Buffer) → IsFresh b bufs → IsBook b
fresh-book b bufs f =
    let count : length bufs ≡ b.buffers = size-opened b.region bufs b.buffers f.bufs_are f.size in
    let free : indices_of bufs ≡ range_with_len 2 (length bufs) = whole-opened b.region bufs f.bufs_are in
    let first = empty_first (length bufs) (record { buffers = length bufs; free = bufs }) free refl in
    let pool : PoolState = record { buffers = length bufs; free = bufs } in
    let stands : StandsFor (length bufs) [] b = record {
      legal = tt;
      promised_is = f.promised;
      sessions_are = ap (map number_of_session) f.sessions;
      ports_are = subst (λ (ps : List PortState). ArePortsOf [] [] ps) (sym f.ports) tt;
      parts_are = subst (PartsAre (world_of (length bufs) []) (holdings_of (length bufs) [])) (sym (parts-fresh b pool f.names f.tables f.watches f.tally f.pool)) first;
    } in
    record {
      stands = subst (λ (h : List Entry). StandsFor b.pool.buffers h b) (sym f.entries) (subst (λ (p : PoolState). StandsFor p.buffers [] b) (sym f.pool) stands);
      rooms = subst (λ (h : List Entry). HadRoom (record { pool = b.pool.buffers; region = b.region.region; limits = b.history.limits; entries = h })) (sym f.entries) tt;
      tables_few = subst (λ (ts : List NamedTable). length ts ≤ most_switches) (sym f.tables) (omega arith);
      few = f.few;
      pool_fits = subst IsPoolSize (sym count ∙ sym (ap (λ (p : PoolState). p.buffers) f.pool)) f.fits;
      size = sym count ∙ sym (ap (λ (p : PoolState). p.buffers) f.pool);
      region_size = f.size ∙ (sym count ∙ sym (ap (λ (p : PoolState). p.buffers) f.pool));
      free_are = subst (λ (p : PoolState). AreOf b.region.region p.free) (sym f.pool) (are-of_opened b.region bufs f.bufs_are);
      lines_are = subst (Each (HasBuffersOf b.region.region)) (sym f.ports) tt;
    }
  where
    parts-fresh : (b : Inside) (pool : PoolState) → b.names ≡ [] → b.tables.items ≡ [] → b.watches ≡ [] → b.tally ≡ [] → b.pool ≡ pool
        → parts_in b ≡ record { names = []; tables = []; watches = []; tally = []; free = pool }
    parts-fresh b pool names tables watches tally is = rw (names, tables, watches, tally, is) refl
