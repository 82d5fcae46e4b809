-- A number that is put at a receive slot of a row's port.
use Rattle.std.proofs.Common.{ℕ, ◌≡◌, ◌<◌, ◌+◌, true, false, [], ◌∷◌, length, Option, Some, None, refl, sym, ◌∙◌, ap, arith}
use Rattle.std.specs.Prelude.{All, IfSome, List, option_map, is_some, slice_index_or}
use Rattle.std.specs.Vec.{with_item}
use Rattle.nm_types.specs.declared.id.PortId.{PortId}
use Rattle.nm_types.specs.declared.place.Place.{Place}
use Rattle.nm_types.specs.declared.place.Place.TheVariants.{Rx}
use Rattle.nm_hold.specs.declared.table.PortTable.{PortTable}
use Rattle.nm_hold.specs.Offsets.{offset_of, has_place}
use Rattle.nm_hold.specs.Indexed.{tables_present, row_at, port_in, port_at, IsIndexed}
use Rattle.nm_hold.specs.Tables.{IsTable, ports_of, put_in}
use Rattle.nm_hold.proofs.Finding.{row_is_table, row_read, apart-indexed, place-row}
use Rattle.nm_hold.proofs.Spots.{rx_stands, offset-within}

-- the slot is one of the row's places, behind the transmit slots
pub record IsReceiveSpot (row : Option PortTable) (port : PortId) (slot number : ℕ) : Type 0 where
  pub within : IfSome row (λ (t : PortTable). t.places.sizes.tx + slot < length t.numbers.items)
  pub put : option_map (λ (t : PortTable). record t { numbers = with_item t.numbers (t.places.sizes.tx + slot) number }) row ≡ option_map (put_in (Rx port slot) number) row

pub receive_spot : (row : Option PortTable) (port : PortId) (slot number : ℕ) → IfSome row IsTable → IfSome row (λ (t : PortTable). is_some (offset_of t.places (Rx port slot)) ≡ true) → IsReceiveSpot row port slot number
receive_spot None port slot number table has = record { within = tt; put = refl }
receive_spot (Some t) port slot number table has = by_offset (offset_of t.places (Rx port slot)) refl
  where
    by_offset : (o : Option ℕ) → offset_of t.places (Rx port slot) ≡ o → IsReceiveSpot (Some t) port slot number
    by_offset None e = absurd (let no : false ≡ true = rw e at has in cc)
    by_offset (Some at) e =
        let s = rx_stands t.places port slot at e in
        let here : at ≡ t.places.sizes.tx + slot = s.there in
        let below = offset-within t.places (Rx port slot) at e in
        let full = table.full in
        let there : option_map (put_in (Rx port slot) number) (Some t) ≡ Some (record t { numbers = with_item t.numbers at number }) = rw e refl in
        record {
          within = omega (arith, here, below, full);
          put = ap (λ (n : ℕ). let put : PortTable = record t { numbers = with_item t.numbers n number } in Some put) (sym here) ∙ sym there;
        }

-- the slot of a port whose row is found
pub spot_found : (rows : List (Option PortTable)) (index : ℕ → Option ℕ) (at : ℕ) (port : PortId) (slot number : ℕ) → IsIndexed rows index → index port.0 ≡ Some at → All IsTable (tables_present rows)
    → has_place (ports_of (tables_present rows)) (Rx port slot) ≡ true → IsReceiveSpot (row_at rows at) port slot number
spot_found rows index at port slot number is found all has =
    receive_spot (row_at rows at) port slot number (row_is_table rows at all) (place-row rows at (Rx port slot) (apart-indexed rows index is) (is.there at port.0 found) has)

-- there is a row where a place is one of the ports'
pub has_row : (rows : List (Option PortTable)) (place : Place) → has_place (ports_of (tables_present rows)) place ≡ true → 0 < length rows
has_row [] place has = absurd (let no : false ≡ true = has in cc)
has_row (row ∷ rows) place has = omega arith

-- the port of the first row, as it is read there
pub first_port : (rows : List (Option PortTable)) (row : Option PortTable) (port : ℕ) → 0 < length rows → row ≡ slice_index_or rows 0 row → port_in row ≡ Some port → port_at rows 0 ≡ Some port
first_port rows row port h read is = ap port_in (sym (row_read rows 0 row h read)) ∙ is
