-- Of which regions the buffers of a hold are.
use Rattle.std.proofs.Common.{ℕ, zero, suc, ◌≡◌, ◌+◌, List, [], ◌∷◌, length, map, set, drop, replicate, Option, Some, None, refl, sym, ◌∙◌, ap, subst}
use Rattle.std.specs.List.{AllByRecursion}
use Rattle.std.proofs.Math.Seq.{drop-append_seam}
use Rattle.nm_types.specs.declared.place.Place.{Place}
use Rattle.nm_types.specs.OwnPorts.{OwnState, empty_own}
use Rattle.nm_region.specs.Buffers.{Buffer}
use Rattle.nm_hold.specs.declared.standing.Standing.{Standing}
use Rattle.nm_hold.specs.Standings.{buf_in, cell_fronted, cell_written}
use Rattle.nm_hold.specs.Holds.{HoldState, bufs_in, bufs_of, cell_at, standing_at, buffer_at, with_cell, with_written as hold_written, empty_hold}
use Rattle.nm_port.specs.declared.port.UserPort.{UserPort}
use Rattle.nm_port.specs.Own.{own_seen}
use Rattle.nm_port.specs.Closing.{AreTaken}
use Rattle.nm_port.proofs.Checked.{is_made}
use Rattle.nm_port.specs.Regions.{SideState, IsRegion, AllOf, AreOf, regions_in, HoldsOf, side_seen}

both : (a b : OwnState) (p q : List ℕ) → a ≡ b → p ≡ q → (let x : SideState = record { own = a; regions = p } in x) ≡ (let y : SideState = record { own = b; regions = q } in y)
both a b p q e f = rw (e, f) refl

-- a step that leaves the buffers, but for their places and their bytes
pub same_side : (h now : HoldState) (ports after : List UserPort) (s : SideState) (f : OwnState → OwnState) → side_seen h ports ≡ s → regions_in (bufs_of now) ≡ regions_in (bufs_of h)
    → own_seen now after ≡ f (own_seen h ports) → side_seen now after ≡ (record s { own = f s.own })
same_side h now ports after s f seen same own = subst (λ (x : SideState). side_seen now after ≡ (record x { own = f x.own })) seen (both (own_seen now after) (f (own_seen h ports)) (regions_in (bufs_of now)) (regions_in (bufs_of h)) own same)

pub same_as : (now s : SideState) (own : OwnState) → now.own ≡ own → now.regions ≡ s.regions → now ≡ (record s { own = own })
same_as now s own e f = both now.own own now.regions s.regions e f

pub same_bufs : (h now : HoldState) → bufs_of now ≡ bufs_of h → regions_in (bufs_of now) ≡ regions_in (bufs_of h)
same_bufs h now e = ap regions_in e

pub holds_same : (region : ℕ) (h now : HoldState) → bufs_of now ≡ bufs_of h → HoldsOf region h → HoldsOf region now
holds_same region h now same of = subst (λ (bufs : List (Option Buffer)). AllByRecursion (IsRegion region) (regions_in bufs)) (sym same) of

pub of_seen : (region : ℕ) (h : HoldState) (ports : List UserPort) (s : SideState) → side_seen h ports ≡ s → AllOf region s → HoldsOf region h
of_seen region h ports s seen of = subst (AllOf region) (sym seen) of

none_of : (n : ℕ) → regions_in (bufs_in (replicate n None)) ≡ []
none_of zero = refl
none_of (suc n) = none_of n

none_yet : (buffers : ℕ) → regions_in (bufs_of (empty_hold buffers)) ≡ []
none_yet buffers = none_of (buffers + 2)

pub made_side : (buffers : ℕ) → side_seen (empty_hold buffers) [] ≡ (let s : SideState = record { own = empty_own buffers; regions = [] } in s)
made_side buffers = both (own_seen (empty_hold buffers) []) (empty_own buffers) (regions_in (bufs_of (empty_hold buffers))) [] (is_made buffers) (none_yet buffers)

-- a buffer whose first bytes are written
fronted : (bytes : List ℕ) (cells : List (Option Standing)) (at : ℕ) → regions_in (bufs_in (set cells at (cell_fronted bytes (cell_at cells at)))) ≡ regions_in (bufs_in cells)
fronted bytes [] at = refl
fronted bytes (None ∷ cells) zero = refl
fronted bytes (Some s ∷ cells) zero = refl
fronted bytes (None ∷ cells) (suc at) = fronted bytes cells at
fronted bytes (Some s ∷ cells) (suc at) = ap (λ (rs : List ℕ). s.buf.region ∷ rs) (fronted bytes cells at)

pub regions_fronted : (bytes : List ℕ) (h new : HoldState) (idx : ℕ) → new ≡ with_cell h idx (cell_fronted bytes (standing_at h idx)) → regions_in (bufs_of new) ≡ regions_in (bufs_of h)
regions_fronted bytes h new idx cell = ap (λ (x : HoldState). regions_in (bufs_of x)) cell ∙ fronted bytes h.cells idx

written : (bytes : List ℕ) (cells : List (Option Standing)) (at : ℕ) → regions_in (bufs_in (set cells at (cell_written (cell_at cells at) bytes))) ≡ regions_in (bufs_in cells)
written bytes [] at = refl
written bytes (None ∷ cells) zero = refl
written bytes (Some s ∷ cells) zero = refl
written bytes (None ∷ cells) (suc at) = written bytes cells at
written bytes (Some s ∷ cells) (suc at) = ap (λ (rs : List ℕ). s.buf.region ∷ rs) (written bytes cells at)

pub regions_written : (h : HoldState) (idx : ℕ) (bytes : List ℕ) → regions_in (bufs_of (hold_written h idx bytes)) ≡ regions_in (bufs_of h)
regions_written h idx bytes = written bytes h.cells idx

-- a cell that is empty, or has a buffer of the region
abbrev IsCellOf : ℕ → Option Standing → Type 0
IsCellOf region cell = AllByRecursion (IsRegion region) (regions_in (bufs_in (cell ∷ [])))

put_first : (region : ℕ) (cell : Option Standing) (cells : List (Option Standing)) → IsCellOf region cell → AllByRecursion (IsRegion region) (regions_in (bufs_in cells)) → AllByRecursion (IsRegion region) (regions_in (bufs_in (cell ∷ cells)))
put_first region None cells one of = of
put_first region (Some s) cells one of = (one.0, of)

with_cell_of : (region : ℕ) (cells : List (Option Standing)) (at : ℕ) (cell : Option Standing) → IsCellOf region cell → AllByRecursion (IsRegion region) (regions_in (bufs_in cells)) → AllByRecursion (IsRegion region) (regions_in (bufs_in (set cells at cell)))
with_cell_of region [] at cell one of = of
with_cell_of region (None ∷ cells) zero cell one of = put_first region cell cells one of
with_cell_of region (Some s ∷ cells) zero cell one of = put_first region cell cells one of.1
with_cell_of region (None ∷ cells) (suc at) cell one of = with_cell_of region cells at cell one of
with_cell_of region (Some s ∷ cells) (suc at) cell one of = (of.0, with_cell_of region cells at cell one of.1)

pub holds_added : (region : ℕ) (h new : HoldState) (idx : ℕ) (s : Standing) → new ≡ with_cell h idx (Some s) → s.buf.region ≡ region → HoldsOf region h → HoldsOf region new
holds_added region h new idx s cell own of = subst (HoldsOf region) (sym cell) (with_cell_of region h.cells idx (Some s) (own, tt) of)

-- each buffer that stands somewhere
each_of : (region : ℕ) (cells : List (Option Standing)) → AllByRecursion (IsRegion region) (regions_in (bufs_in cells)) → (idx : ℕ) (s : Standing) → cell_at cells idx ≡ Some s → s.buf.region ≡ region
each_of region [] of idx s e = absurd cc
each_of region (None ∷ cells) of zero s e = absurd cc
each_of region (Some x ∷ cells) of zero s e = let same : x ≡ s = cc in ap (λ (y : Standing). y.buf.region) (sym same) ∙ of.0
each_of region (None ∷ cells) of (suc idx) s e = each_of region cells of idx s e
each_of region (Some x ∷ cells) of (suc idx) s e = each_of region cells of.1 idx s e

all_if : (region : ℕ) (cells : List (Option Standing)) → ((idx : ℕ) (s : Standing) → cell_at cells idx ≡ Some s → s.buf.region ≡ region) → AllByRecursion (IsRegion region) (regions_in (bufs_in cells))
all_if region [] each = tt
all_if region (None ∷ cells) each = all_if region cells (λ idx s e. each (suc idx) s e)
all_if region (Some x ∷ cells) each = (each 0 x refl, all_if region cells (λ idx s e. each (suc idx) s e))

stood_of : (region idx : ℕ) (h : HoldState) (buf : Buffer) → HoldsOf region h → buffer_at h idx ≡ Some buf → buf.region ≡ region
stood_of region idx h buf of e = by_cell (standing_at h idx) refl
  where
    by_cell : (cell : Option Standing) → standing_at h idx ≡ cell → buf.region ≡ region
    by_cell None is = let none : buf_in None ≡ Some buf = rw is at e in absurd cc
    by_cell (Some s) is =
        let some : Some s.buf ≡ Some buf = rw is at e in
        let same : s.buf ≡ buf = cc in
        ap (λ (b : Buffer). b.region) (sym same) ∙ each_of region h.cells of idx s is

-- buffers that are taken out
pub holds_taken : (region : ℕ) (h now : HoldState) (places : List Place) (before after : List Buffer) → AreTaken h now places before after → HoldsOf region h → HoldsOf region now
holds_taken region h now places before after taken of = all_if region now.cells (λ idx s e. each_of region h.cells of idx s (taken.stood idx s e))

out_are : (region : ℕ) (h : HoldState) → HoldsOf region h → (out : List Buffer) (idxs : List ℕ) → map Some out ≡ map (buffer_at h) idxs → AreOf region out
out_are region h of [] idxs e = tt
out_are region h of (buf ∷ out) [] e = absurd cc
out_are region h of (buf ∷ out) (idx ∷ idxs) e =
    let first : Some buf ≡ buffer_at h idx = cc in
    let rest : map Some out ≡ map (buffer_at h) idxs = cc in
    (stood_of region idx h buf of (sym first), out_are region h of out idxs rest)

pub taken_of : (region : ℕ) (h now : HoldState) (places : List Place) (before after : List Buffer) → AreTaken h now places before after → HoldsOf region h → AreOf region (drop (length before) after)
taken_of region h now places before after taken of =
    let out : drop (length before) after ≡ taken.out = ap (drop (length before)) taken.joined ∙ drop-append_seam before taken.out in
    subst (AreOf region) (sym out) (out_are region h of taken.out _ taken.each)
