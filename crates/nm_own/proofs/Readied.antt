-- A hold that is ready for the buffers of a port that is opened.
use Rattle.std.proofs.Common.{ℕ, ◌≡◌, ◌<◌, ◌-◌, true, false, nat_eq, List, [], ◌∷◌, ◌++◌, length, Option, Some, None, refl, sym, ◌∙◌, ap, arith}
use Rattle.std.specs.List.{AllByRecursion, IsDistinct}
use Rattle.nm_types.specs.declared.id.PortId.{PortId}
use Rattle.nm_types.specs.declared.id.PortSizes.{PortSizes}
use Rattle.nm_types.specs.Places.{held_at}
use Rattle.nm_types.specs.Positions.{IsRingSize}
use Rattle.nm_types.specs.SyncChecks.{contains_index}
use Rattle.nm_types.specs.OwnPorts.{port_with_id, bytes_at}
use Rattle.nm_types.proofs.Lists.{each-front, each-back}
use Rattle.nm_hold.specs.declared.standing.Standing.{Standing}
use Rattle.nm_hold.specs.declared.table.PortPlaces.{PortPlaces}
use Rattle.nm_hold.specs.Offsets.{has_place, has_port}
use Rattle.nm_hold.specs.Holds.{HoldState, buffers_of, index_at, standing_at, places_in, cell_at}
use Rattle.nm_port.specs.declared.fill.Row.{Row}
use Rattle.nm_port.specs.declared.fill.Row.TheVariants.{Slots, Extras}
use Rattle.nm_port.specs.declared.port.UserPort.{UserPort}
use Rattle.nm_port.specs.Own.{own_seen, bytes_in_cell, AreFilled, AreWhole, HasPlaces}
use Rattle.nm_port.specs.Regions.{SideState, side_seen}
use Rattle.nm_port.specs.Filling.{place_in, IsAway, AreFilledWith}
use Rattle.nm_own.specs.Opening.{IsTxSize, IsNew}
use Rattle.nm_port.proofs.Checked.{bytes_are_seen}
use Rattle.nm_port.proofs.PortOut.{IsOther}
use Rattle.nm_own.proofs.Opening.{no_port, no_places_of, unfilled, row_port, none_if, has_row, index_off}
use Rattle.nm_own.proofs.Opened.{Opens, indices_length}
use Rattle.nm_region.specs.Buffers.{Buffer, indices_of}
use Rattle.nm_own.specs.NewPorts.{NewPortState}
use Rattle.nm_own.specs.Kept.{IsKept}
use Rattle.nm_own.specs.declared.own.OwnSide.TheInside.{Inside}

pub record IsReady (h h1 : HoldState) (ports : List UserPort) (id : PortId) (rx : ℕ) (tx extra : List ℕ) : Type 0 where
  pub none : AllByRecursion (IsOther id.0) ports
  pub cells : h1.cells ≡ h.cells
  pub places : h1.ports ≡ h.ports ++ record { port = id; sizes = record { tx = length tx; rx = rx; extra = length extra } } ∷ []
  pub empty : (row : Row) (at : ℕ) → index_at h1 (place_in id row at) ≡ None
  pub away : AllByRecursion (IsAway h1) (tx ++ extra)

all_map : {X : Type 0} (P Q : X → Type 0) (xs : List X) → ((x : X) → P x → Q x) → AllByRecursion P xs → AllByRecursion Q xs
all_map P Q [] f all = tt
all_map P Q (x ∷ xs) f all = (f x all.0, all_map P Q xs f all.1)

pub distinct_left : (xs ys : List ℕ) → IsDistinct nat_eq (xs ++ ys) → IsDistinct nat_eq xs
unfolding IsDistinct
distinct_left [] ys once = tt
distinct_left (x ∷ xs) ys once = (each-front (λ y. nat_eq x y ≡ false) xs ys once.0, distinct_left xs ys once.1)

pub distinct_right : (xs ys : List ℕ) → IsDistinct nat_eq (xs ++ ys) → IsDistinct nat_eq ys
unfolding IsDistinct
distinct_right [] ys once = once
distinct_right (x ∷ xs) ys once = distinct_right xs ys once.1

-- none of the second is among the first
none_first : (xs ys : List ℕ) → IsDistinct nat_eq (xs ++ ys) → AllByRecursion (λ y. contains_index xs y ≡ false) ys
unfolding IsDistinct
none_first [] ys once = none_in ys
  where
    none_in : (zs : List ℕ) → AllByRecursion (λ y. contains_index [] y ≡ false) zs
    none_in [] = tt
    none_in (z ∷ zs) = (refl, none_in zs)
none_first (x ∷ xs) ys once = both ys (each-back (λ y. nat_eq x y ≡ false) xs ys once.0) (none_first xs ys once.1)
  where
    both : (zs : List ℕ) → AllByRecursion (λ y. nat_eq x y ≡ false) zs → AllByRecursion (λ y. contains_index xs y ≡ false) zs → AllByRecursion (λ y. contains_index (x ∷ xs) y ≡ false) zs
    both [] one two = tt
    both (z ∷ zs) one two = (rw (one.0, two.0) refl, both zs one.1 two.1)

-- a buffer without bytes stands nowhere
pub away_of : (h : HoldState) (ports : List UserPort) (idx : ℕ) → AreWhole h → bytes_at (own_seen h ports) idx ≡ [] → standing_at h idx ≡ None
away_of h ports idx whole none = by_standing (standing_at h idx) refl
  where
    by_standing : (o : Option Standing) → standing_at h idx ≡ o → o ≡ None
    by_standing None e = refl
    by_standing (Some s) e =
        let empty : s.buf.bytes ≡ [] = sym (bytes_are_seen h ports idx ∙ ap bytes_in_cell e) ∙ none in
        let size : length s.buf.bytes ≡ 2048 = whole idx s e in
        let zero : length s.buf.bytes ≡ 0 = ap (λ (b : List ℕ). length b) empty in
        absurd (omega arith)

pub no_places_yet : (h : HoldState) (ports : List UserPort) (id : ℕ) → HasPlaces h ports → port_with_id (own_seen h ports) id ≡ None → has_port h.ports id ≡ false
no_places_yet h ports id has new = ap (λ (all : List PortPlaces). has_port all id) has ∙ no_places_of ports id (no_port h ports id new)

sizes_are : (s : PortSizes) (n m : ℕ) → n ≡ s.tx → m ≡ s.extra → s ≡ record { tx = n; rx = s.rx; extra = m }
sizes_are s n m tx extra = rw (tx, extra) refl

is_ready : (h h1 : HoldState) (ports : List UserPort) (id : PortId) (sizes : PortSizes) (tx extra : List ℕ) → h1 ≡ record h { ports = h.ports ++ record { port = id; sizes = sizes } ∷ [] }
    → length tx ≡ sizes.tx → length extra ≡ sizes.extra
    → AreFilled h ports → AreWhole h → port_with_id (own_seen h ports) id.0 ≡ None → AllByRecursion (IsNew (own_seen h ports)) (tx ++ extra) → IsReady h h1 ports id sizes.rx tx extra
is_ready h h1 ports id sizes tx extra made tx_count extra_count filled whole new away =
    let none = no_port h ports id.0 new in
    let cells : h1.cells ≡ h.cells = ap (λ (x : HoldState). x.cells) made in
    let standing : (idx : ℕ) → standing_at h1 idx ≡ standing_at h idx = (λ idx. ap (λ (c : List (Option Standing)). cell_at c idx) cells) in
    let count : buffers_of h1 ≡ buffers_of h = ap (λ (c : List (Option Standing)). length c - 2) cells in
    record {
      none = none;
      cells = cells;
      places = ap (λ (x : HoldState). x.ports) made ∙ ap (λ (s : PortSizes). h.ports ++ record { port = id; sizes = s } ∷ []) (sizes_are sizes (length tx) (length extra) tx_count extra_count);
      empty = λ row at. ap (λ (c : List (Option Standing)). held_at (places_in c) (place_in id row at)) cells
          ∙ none_if (index_at h (place_in id row at)) (filled (place_in id row at) ∙ unfilled ports id.0 (place_in id row at) (row_port id row at) none);
      away = all_map (IsNew (own_seen h ports)) (IsAway h1) (tx ++ extra) (λ idx new_idx. (rw count new_idx.0, standing idx ∙ away_of h ports idx whole new_idx.1)) away;
    }

-- an own side that is ready for the buffers of a port that was prepared
pub is_ready_for : (o : Inside) (h1 : HoldState) (id : PortId) (s : SideState) (new : NewPortState) (room : PortSizes) (tx extra : List Buffer) → IsKept o → side_seen o.hold o.ports.items ≡ s
    → h1 ≡ record o.hold { ports = o.hold.ports ++ record { port = id; sizes = room } ∷ [] } → room ≡ new.sizes → length tx ≡ new.sizes.tx → length extra ≡ new.sizes.extra
    → port_with_id s.own id.0 ≡ None → AllByRecursion (IsNew s.own) (indices_of tx ++ indices_of extra) → IsReady o.hold h1 o.ports.items id new.sizes.rx (indices_of tx) (indices_of extra)
is_ready_for o h1 id s new room tx extra kept seen made sizes tx_count extra_count none away =
    is_ready o.hold h1 o.ports.items id new.sizes (indices_of tx) (indices_of extra) (made ∙ ap (λ (x : PortSizes). record o.hold { ports = o.hold.ports ++ record { port = id; sizes = x } ∷ [] }) sizes)
    (indices_length tx ∙ tx_count) (indices_length extra ∙ extra_count) kept.filled kept.whole (rw (← seen) at none) (rw (← seen) at away)

module _ (h h1 : HoldState) (ports : List UserPort) (id : PortId) (rx : ℕ) (tx extra : List ℕ) (r : IsReady h h1 ports id rx tx extra) where
  pub slots_belong : (at : ℕ) → at < length tx → has_place h1.ports (place_in id Slots at) ≡ true
  slots_belong at below = rw r.places (has_row h.ports id (record { tx = length tx; rx = rx; extra = length extra }) Slots at below)

  pub slots_away : AllByRecursion (IsAway h1) tx
  slots_away = each-front (IsAway h1) tx extra r.away

  module _ (h2 : HoldState) (filled : AreFilledWith h1 h2 id Slots (length tx - 1) 0 tx) where
    pub extras_belong : (at : ℕ) → at < length extra → has_place h2.ports (place_in id Extras at) ≡ true
    extras_belong at below = rw (filled.ports, r.places) (has_row h.ports id (record { tx = length tx; rx = rx; extra = length extra }) Extras at below)

    pub extras_empty : (at : ℕ) → index_at h2 (place_in id Extras at) ≡ None
    extras_empty at = filled.index (place_in id Extras at) ∙ (index_off id Slots 0 tx (place_in id Extras at) (index_at h1 (place_in id Extras at)) (λ k. refl) ∙ r.empty Extras at)

    pub extras_away : IsDistinct nat_eq (tx ++ extra) → AllByRecursion (IsAway h2) extra
    extras_away once = both extra (each-back (IsAway h1) tx extra r.away) (none_first tx extra once)
      where
        both : (xs : List ℕ) → AllByRecursion (IsAway h1) xs → AllByRecursion (λ y. contains_index tx y ≡ false) xs → AllByRecursion (IsAway h2) xs
        both [] one two = tt
        both (x ∷ xs) one two = ((rw filled.count one.0.0, filled.others x two.0 ∙ one.0.1), both xs one.1 two.1)

    pub opens : (h3 : HoldState) → IsTxSize (length tx) → IsRingSize rx → AreFilledWith h2 h3 id Extras (length extra) 0 extra → Opens h h1 h2 h3 ports id rx tx extra
    opens h3 tx_size rx_size extras = record { none = r.none; tx_size = tx_size; rx_size = rx_size; cells = r.cells; places = r.places; slots = filled; extras = extras }
