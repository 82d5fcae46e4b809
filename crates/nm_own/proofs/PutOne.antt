-- A hold in which one buffer more stands.
use Rattle.std.proofs.Common.{ℕ, ◌≡◌, ◌≢◌, ◌-◌, Bool, true, false, nat_eq, List, [], length, map, set, Option, Some, None, inl, inr, refl, sym, ◌∙◌, ap}
use Rattle.std.specs.Prelude.{is_none, ◌↔◌}
use Rattle.std.proofs.lemmas.Bool.{cases_Bool}
use Rattle.std.proofs.lemmas.List.{length-set, get_or-set_same, get_or-set_other}
use Rattle.std.proofs.lemmas.Option.{same_Some}
use Rattle.nm_types.specs.declared.place.Place.{Place}
use Rattle.nm_types.specs.Places.{is_same_place}
use Rattle.nm_types.specs.Buffers.{IsBufferIndex}
use Rattle.nm_types.proofs.Tests.{false_true, same_true}
use Rattle.nm_region.specs.Buffers.{Buffer}
use Rattle.nm_hold.specs.declared.standing.Standing.{Standing}
use Rattle.nm_hold.specs.Holds.{HoldState, buffers_of, buffer_at, index_at, standing_at, with_cell, IsHold}
use Rattle.nm_hold.specs.Standings.{buf_in}
use Rattle.nm_hold.proofs.Spots.{nat_eq-is, same_place-is}
use Rattle.nm_port.specs.declared.port.UserPort.{UserPort}
use Rattle.nm_port.specs.Own.{own_seen, bytes_in_cell, AreWhole}
use Rattle.nm_port.specs.Filling.{placed}
use Rattle.nm_own.specs.Opening.{IsNew}
use Rattle.nm_port.proofs.Filling.{within_pool}
use Rattle.nm_port.proofs.Seeing.{map-set}
use Rattle.nm_port.proofs.Checked.{bytes_are_seen}
use Rattle.nm_own.proofs.Readied.{away_of}

-- an index of the pool at which nothing stands is that of a new buffer
pub new_if : (h : HoldState) (ports : List UserPort) (idx : ℕ) (b : Bool) → AreWhole h → b ≡ is_none (buffer_at h idx) → IsBufferIndex (buffers_of h) idx → (b ≡ true) ↔ IsNew (own_seen h ports) idx
new_if h ports idx b whole e index = (
  (λ yes. (index, bytes_are_seen h ports idx ∙ none_bytes (standing_at h idx) (sym e ∙ yes))),
  (λ new. e ∙ ap (λ (o : Option Standing). is_none (buf_in o)) (away_of h ports idx whole new.1)),
)
  where
    none_bytes : (o : Option Standing) → is_none (buf_in o) ≡ true → bytes_in_cell o ≡ []
    none_bytes None e = refl
    none_bytes (Some s) e = absurd cc

module _ (h new : HoldState) (place : Place) (named : Bool) (buf : Buffer) (is : IsHold h) (index : IsBufferIndex (buffers_of h) buf.index) (cell : new ≡ with_cell h buf.index (Some (placed place named buf))) where
  pub stands_here : (i : ℕ) (s : Standing) → standing_at new i ≡ Some s → nat_eq buf.index i ≡ true → placed place named buf ≡ s
  stands_here i s there e =
      let same : buf.index ≡ i = nat_eq-is buf.index i e in
      let stands : standing_at new i ≡ Some (placed place named buf) = ap (standing_at new) (sym same) ∙ (ap (λ (n : HoldState). standing_at n buf.index) cell ∙ get_or-set_same h.cells buf.index (Some (placed place named buf)) None (within_pool h buf.index is index)) in
      same_Some (placed place named buf) s (sym stands ∙ there)

  pub stood_there : (i : ℕ) (s : Standing) → standing_at new i ≡ Some s → nat_eq buf.index i ≡ false → standing_at h i ≡ Some s
  stood_there i s there e =
      let other : i ≢ buf.index = (λ same. false_true (sym e ∙ same_true buf.index i (sym same))) in
      sym (ap (λ (n : HoldState). standing_at n i) cell ∙ get_or-set_other h.cells buf.index i (Some (placed place named buf)) None other) ∙ there

  pub bytes_with_one : map bytes_in_cell new.cells ≡ set (map bytes_in_cell h.cells) buf.index buf.bytes
  bytes_with_one = ap (λ (s : HoldState). map bytes_in_cell s.cells) cell ∙ map-set bytes_in_cell h.cells buf.index (Some (placed place named buf))

  pub count_with_one : buffers_of new ≡ buffers_of h
  count_with_one = ap buffers_of cell ∙ ap (λ (n : ℕ). n - 2) (length-set h.cells buf.index (Some (placed place named buf)))

  pub ports_with_one : new.ports ≡ h.ports
  ports_with_one = ap (λ (s : HoldState). s.ports) cell

  pub whole_with_one : length buf.bytes ≡ 2048 → AreWhole h → AreWhole new
  whole_with_one size whole i s there = elim (cases_Bool (nat_eq buf.index i)) [
    | inl here ↦ rw (← (stands_here i s there here)) size
    | inr other ↦ whole i s (stood_there i s there other)
  ]

  -- the others do not stand in its place, which was empty
  pub not_in_place : index_at h place ≡ None → (i : ℕ) (s : Standing) → standing_at h i ≡ Some s → is_same_place place s.home.place ≡ false
  not_in_place empty i s stood = elim (cases_Bool (is_same_place place s.home.place)) [
    | inl same ↦ absurd (let some = sym ((is.standing i s stood).there) ∙ (ap (index_at h) (sym (same_place-is place s.home.place same)) ∙ empty) in cc)
    | inr differs ↦ differs
  ]
