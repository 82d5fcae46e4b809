-- A session all of whose bytes of a buffer are written.
use Rattle.std.proofs.Common.{ℕ, zero, suc, ◌≡◌, ◌≤◌, Bool, true, false, List, [], ◌∷◌, ◌++◌, length, take, drop, set, Option, Some, None, refl, sym, ◌∙◌, ap, arith}
use Rattle.std.proofs.lemmas.List.{length-set, length-take}
use Rattle.std.proofs.lemmas.Option.{same_Some}
use Rattle.nm_types.specs.declared.place.Place.{Place}
use Rattle.nm_types.specs.Places.{Held, held_at}
use Rattle.nm_types.specs.SyncChecks.{contains_index}
use Rattle.nm_types.specs.OwnPorts.{named_of}
use Rattle.nm_region.specs.Buffers.{written_over}
use Rattle.nm_hold.specs.declared.standing.Home.{Home}
use Rattle.nm_hold.specs.declared.standing.Standing.{Standing}
use Rattle.nm_hold.specs.Offsets.{has_place}
use Rattle.nm_hold.specs.Standings.{bytes_if, named_bytes_in, cell_fronted, cell_written}
use Rattle.nm_hold.specs.Holds.{HoldState, standing_at, cell_at, places_in, places_of, stands_at, with_cell, with_written as hold_written, is_named_at, named_bytes_at, IsHold, SamePlaces}
use Rattle.nm_hold.proofs.Shown.{named_stands}
use Rattle.nm_own.specs.declared.own.OwnSide.TheInside.{Inside}
use Rattle.nm_port.specs.Own.{own_seen, AreWhole}
use Rattle.nm_own.specs.Kept.{IsKept}
use Rattle.nm_own.specs.WrittenBytes.{with_all_written}
use Rattle.nm_own.proofs.Filled.{is_named_seen}
use Rattle.nm_own.proofs.Written.{fronted_is_seen, fronted_keeps, flagged_kept, filled_kept, whole_kept}

-- the bytes of a named buffer are all that a buffer has
pub lent_size : (h : HoldState) (idx : ℕ) (bytes : List ℕ) → AreWhole h → named_bytes_at h idx ≡ Some bytes → length bytes ≡ 2048
lent_size h idx bytes whole e = by_cell (standing_at h idx) refl e
  where
    by_flag : (s : Standing) (named : Bool) → standing_at h idx ≡ Some s → bytes_if named s.buf.bytes ≡ Some bytes → length bytes ≡ 2048
    by_flag s false there is = absurd cc
    by_flag s true there is = ap (λ (bs : List ℕ). length bs) (sym (same_Some s.buf.bytes bytes is)) ∙ whole idx s there

    by_cell : (cell : Option Standing) → standing_at h idx ≡ cell → named_bytes_in cell ≡ Some bytes → length bytes ≡ 2048
    by_cell None there is = absurd cc
    by_cell (Some s) there is = by_flag s s.home.named there is

-- bytes that are written over others are as many
over_is_front : (new old : List ℕ) → written_over old new ≡ take (length old) new ++ drop (length (take (length old) new)) old
over_is_front [] [] = refl
over_is_front [] (y ∷ old) = all_of (y ∷ old)
  where
    all_of : (ys : List ℕ) → take (length ys) ys ≡ ys
    all_of [] = refl
    all_of (y ∷ ys) = ap (λ (zs : List ℕ). y ∷ zs) (all_of ys)
over_is_front (x ∷ new) [] = refl
over_is_front (x ∷ new) (y ∷ old) = ap (λ (zs : List ℕ). x ∷ zs) (over_is_front new old)

pub places_written : (cells : List (Option Standing)) (idx : ℕ) (bytes : List ℕ) → places_in (set cells idx (cell_written (cell_at cells idx) bytes)) ≡ places_in cells
places_written [] idx bytes = refl
places_written (None ∷ cells) zero bytes = refl
places_written (None ∷ cells) (suc idx) bytes = places_written cells idx bytes
places_written (Some s ∷ cells) zero bytes = refl
places_written (Some s ∷ cells) (suc idx) bytes = ap (λ (ps : List Held). record { place = s.home.place; buffer = s.buf.index } ∷ ps) (places_written cells idx bytes)

stands_same : (cells : List (Option Standing)) (idx i : ℕ) (bytes : List ℕ) (q : Place) → stands_at q (cell_at (set cells idx (cell_written (cell_at cells idx) bytes)) i) ≡ stands_at q (cell_at cells i)
stands_same [] idx i bytes q = refl
stands_same (None ∷ cells) zero zero bytes q = refl
stands_same (Some s ∷ cells) zero zero bytes q = refl
stands_same (cell ∷ cells) zero (suc i) bytes q = refl
stands_same (cell ∷ cells) (suc idx) zero bytes q = refl
stands_same (cell ∷ cells) (suc idx) (suc i) bytes q = stands_same cells idx i bytes q

-- what stands there stood there before, with other bytes
record StoodAt (before : Option Standing) (s : Standing) : Type 0 where
  was : Standing
  there : before ≡ Some was
  home : s.home ≡ was.home
  index : s.buf.index ≡ was.buf.index

stood_at : (cells : List (Option Standing)) (idx i : ℕ) (bytes : List ℕ) (s : Standing) → cell_at (set cells idx (cell_written (cell_at cells idx) bytes)) i ≡ Some s → StoodAt (cell_at cells i) s
stood_at [] idx i bytes s e = absurd cc
stood_at (None ∷ cells) zero zero bytes s e = absurd cc
stood_at (Some t ∷ cells) zero zero bytes s e =
    let is : s ≡ record t { buf = record (t.buf) { bytes = written_over t.buf.bytes bytes } } = sym (same_Some _ s e) in
    record { was = t; there = refl; home = ap (λ (x : Standing). x.home) is; index = ap (λ (x : Standing). x.buf.index) is }
stood_at (cell ∷ cells) zero (suc i) bytes s e = record { was = s; there = e; home = refl; index = refl }
stood_at (cell ∷ cells) (suc idx) zero bytes s e = record { was = s; there = e; home = refl; index = refl }
stood_at (cell ∷ cells) (suc idx) (suc i) bytes s e = stood_at cells idx i bytes s e

is_hold_written : (h : HoldState) (idx : ℕ) (bytes : List ℕ) → IsHold h → IsHold (hold_written h idx bytes)
is_hold_written h idx bytes is = record {
  pool = rw (length-set h.cells idx (cell_written (cell_at h.cells idx) bytes)) is.pool;
  sizes = is.sizes;
  once = is.once;
  standing = λ i s e. (let stood = stood_at h.cells idx i bytes s e in
      let before = is.standing i stood.was stood.there in
      record {
        low = before.low;
        index = stood.index ∙ before.index;
        there = ap (λ (ps : List Held). held_at ps s.home.place) (places_written h.cells idx bytes) ∙ (ap (λ (x : Home). held_at (places_in h.cells) x.place) stood.home ∙ before.there);
        belongs = ap (λ (x : Home). has_place h.ports x.place) stood.home ∙ before.belongs;
      });
  held = λ q i e. stands_same h.cells idx i bytes q ∙ is.held q i (sym (ap (λ (ps : List Held). held_at ps q) (places_written h.cells idx bytes)) ∙ e);
}

module _ (o : Inside) (kept : IsKept o) (idx : ℕ) (bytes : List ℕ) (named : contains_index (named_of (own_seen o.hold o.ports.items)) idx ≡ true) where
  abbrev now : HoldState
  now = hold_written o.hold idx bytes

  abbrev front : List ℕ
  front = take 2048 bytes

  is_named : is_named_at o.hold idx ≡ true
  is_named = is_named_seen o.hold o.ports.items idx kept.hold kept.sided kept.rings kept.flagged kept.filled ∙ named

  cells_alike : cell_written (standing_at o.hold idx) bytes ≡ cell_fronted front (standing_at o.hold idx)
  cells_alike = by_cell (standing_at o.hold idx) refl (named_stands (standing_at o.hold idx) is_named).0 (named_stands (standing_at o.hold idx) is_named).1
    where
      by_cell : (cell : Option Standing) → standing_at o.hold idx ≡ cell → (s : Standing) → standing_at o.hold idx ≡ Some s → cell_written cell bytes ≡ cell_fronted front cell
      by_cell None e s there = absurd (let no = sym e ∙ there in cc)
      by_cell (Some t) e s there =
          let size : length t.buf.bytes ≡ 2048 = kept.whole idx t e in
          let made : written_over t.buf.bytes bytes ≡ front ++ drop (length front) t.buf.bytes = over_is_front bytes t.buf.bytes ∙ ap (λ (n : ℕ). take n bytes ++ drop (length (take n bytes)) t.buf.bytes) size in
          ap (λ (bs : List ℕ). let written : Standing = record t { buf = record (t.buf) { bytes = bs } } in Some written) made

  is_front : now ≡ with_cell o.hold idx (cell_fronted front (standing_at o.hold idx))
  is_front = ap (with_cell o.hold idx) cells_alike

  few : length front ≤ 2048
  few = omega (arith, length-take 2048 bytes)

  same_places : SamePlaces (places_of o.hold) (places_of now)
  same_places q = ap (λ (ps : List Held). held_at ps q) (places_written o.hold.cells idx bytes)

  pub written_is_seen : own_seen now o.ports.items ≡ with_all_written (own_seen o.hold o.ports.items) idx bytes
  written_is_seen = fronted_is_seen o.hold now o.ports.items idx front kept.hold kept.sided kept.rings kept.flagged kept.filled is_named is_front same_places

  pub kept_written : (new : Inside) → new.hold ≡ now → new.ports.items ≡ o.ports.items → new.marks ≡ o.marks → IsKept new
  kept_written new hold_is ports_are marks_are =
      let homes = fronted_keeps o.hold now idx front is_front in
      record {
        sided = rw ports_are kept.sided;
        rings = rw ports_are kept.rings;
        flagged = rw (hold_is, ports_are) (flagged_kept o.hold now o.ports.items homes kept.flagged);
        hold = rw hold_is (is_hold_written o.hold idx bytes kept.hold);
        places = rw (hold_is, ports_are) kept.places;
        filled = rw (hold_is, ports_are) (filled_kept o.hold now o.ports.items same_places kept.filled);
        whole = rw hold_is (whole_kept o.hold now idx front few is_front kept.whole);
        blank = rw (hold_is, marks_are, homes.count) kept.blank;
        back = rw ports_are kept.back;
      }
