-- Two holds that have the same buffers, wherever these stand.
use Rattle.std.proofs.Common.{ℕ, zero, suc, ◌≡◌, ◌-◌, List, [], ◌∷◌, length, map, Option, Some, None, refl, sym, ◌∙◌, ap}
use Rattle.std.specs.Option.{option_map_or}
use Rattle.std.proofs.lemmas.List.{length-map}
use Rattle.std.proofs.lemmas.Option.{same_Some}
use Rattle.nm_region.specs.Buffers.{Buffer}
use Rattle.nm_hold.specs.declared.standing.Standing.{Standing}
use Rattle.nm_hold.specs.Standings.{buf_in}
use Rattle.nm_hold.specs.Holds.{HoldState, buffers_of, bufs_of, standing_at, cell_at}
use Rattle.nm_port.specs.Own.{bytes_in_cell, AreWhole}

-- bytes, by the buffers of the cells
abbrev bytes_in_buf : Option Buffer → List ℕ
bytes_in_buf o = option_map_or (λ (b : Buffer). b.bytes) o []

bytes_by_bufs : (cells : List (Option Standing)) → map bytes_in_cell cells ≡ map bytes_in_buf (map buf_in cells)
bytes_by_bufs [] = refl
bytes_by_bufs (None ∷ cells) = ap (λ (xs : List (List ℕ)). [] ∷ xs) (bytes_by_bufs cells)
bytes_by_bufs (Some s ∷ cells) = ap (λ (xs : List (List ℕ)). s.buf.bytes ∷ xs) (bytes_by_bufs cells)

pub buf_by_index : (cells others : List (Option Standing)) (i : ℕ) → map buf_in cells ≡ map buf_in others → buf_in (cell_at cells i) ≡ buf_in (cell_at others i)
buf_by_index [] [] i e = refl
buf_by_index [] (o ∷ os) i e = absurd cc
buf_by_index (c ∷ cs) [] i e = absurd cc
buf_by_index (c ∷ cs) (o ∷ os) zero e = cc
buf_by_index (c ∷ cs) (o ∷ os) (suc i) e = let rest : map buf_in cs ≡ map buf_in os = cc in buf_by_index cs os i rest

module _ (h now : HoldState) (bufs : bufs_of now ≡ bufs_of h) where
  pub cells_by_bufs : map bytes_in_cell now.cells ≡ map bytes_in_cell h.cells
  cells_by_bufs = bytes_by_bufs now.cells ∙ (ap (map bytes_in_buf) bufs ∙ sym (bytes_by_bufs h.cells))

  pub count_by_bufs : buffers_of now ≡ buffers_of h
  count_by_bufs = ap (λ (n : ℕ). n - 2) (sym (length-map now.cells buf_in) ∙ (ap (λ (b : List (Option Buffer)). length b) bufs ∙ length-map h.cells buf_in))

  pub whole_by_bufs : AreWhole h → AreWhole now
  whole_by_bufs whole i s there =
      let same : Some s.buf ≡ buf_in (standing_at h i) = sym (ap buf_in there) ∙ buf_by_index now.cells h.cells i bufs in
      by_cell (standing_at h i) refl same
    where
      by_cell : (o : Option Standing) → standing_at h i ≡ o → Some s.buf ≡ buf_in (standing_at h i) → length s.buf.bytes ≡ 2048
      by_cell None e same = absurd (let none = same ∙ ap buf_in e in cc)
      by_cell (Some t) e same =
          let is : s.buf ≡ t.buf = same_Some s.buf t.buf (same ∙ ap buf_in e) in
          ap (λ (b : Buffer). length b.bytes) is ∙ whole i t e
