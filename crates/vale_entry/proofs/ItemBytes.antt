-- How many bytes the frames of items have, counted item by item.
use Rattle.std.proofs.Common.{ℕ, zero, suc, ◌+◌, ◌<◌, ◌≡◌, List, [], ◌∷◌, drop, length, refl, arith, slice_index_or}
use Rattle.std.proofs.lemmas.List.Sums.{sum_by-cons}
use Rattle.std.proofs.Math.Seq.{drop-length}
use Rattle.nm_types.specs.Frames.{Frame, bytes_of_frames}
use Rattle.vale_entry.specs.declared.entry.Item.{Item}
use Rattle.vale_entry.specs.Pipe.{frames_of_items}

abbrev pub bytes_of_items : List Item → ℕ
bytes_of_items items = bytes_of_frames (frames_of_items items)

pub item_bytes-more :
    (xs : List Item) (i : ℕ) (x : Item) → i < length xs → x ≡ slice_index_or xs i x
    → bytes_of_items (drop i xs) ≡ length x.bytes.bytes + bytes_of_items (drop (i + 1) xs)
item_bytes-more [] i x few e = absurd (omega (arith, few))
item_bytes-more (y ∷ ys) zero x few e =
    let same : x ≡ y = e in
    rw same (sum_by-cons (λ (g : Frame). length g.bytes) y.bytes (frames_of_items ys))
item_bytes-more (y ∷ ys) (suc i) x few e =
    let rest = item_bytes-more ys i x (omega (arith, few)) e in
    let next : suc i + 1 ≡ suc (i + 1) = omega arith in
    rw next rest

pub item_bytes-end : (xs : List Item) → bytes_of_items (drop (length xs) xs) ≡ 0
item_bytes-end xs = rw (drop-length xs) refl
