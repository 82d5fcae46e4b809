-- The buffers of a lease, as frames are filled in, and those of received frames.
use Rattle.std.proofs.Common.{ℕ, zero, suc, ◌+◌, ◌-◌, ◌<◌, ◌≤◌, ◌≡◌, List, [], ◌∷◌, ◌++◌, length, map, take, drop, get_or, refl, sym, ◌∙◌, ap, subst, arith, slice_get, slice_range, Some}
use Rattle.std.specs.Prelude.{sum}
use Rattle.std.proofs.lemmas.List.{append-nil, append_assoc, length-drop, length-map, length-take, map-append, drop-drop}
use Rattle.nm_types.specs.Parts.{slots_of_bytes, parts_of, told_parts, HeldPart, cut_frame, cut_frames}
use Rattle.nm_types.proofs.Lists.{drop-slice_get}
use Rattle.nm_types.proofs.PartLemmas.{length-cut, length-parts, slots-some}
use Rattle.nm_region.specs.Buffers.{Buffer, name_of, names_of, indices_of}
use Rattle.nm_region.specs.Regions.{AreOf}
use Rattle.vale_line.specs.declared.got.Got.{Got}
use Rattle.vale_line.specs.Gots.{buffers_of, buffer_of, frames_in, gots_with, gots_of_parts, held_part, held_parts, joined_parts, IsCut}
use Rattle.vale_line.specs.Leased.{Leased, first_size, next_of, with_frame}
use Rattle.vale_line.proofs.CutLemmas.{tells-frame, cut-append, cut-with}
use Rattle.vale_line.proofs.FittingLemmas.{sum-cons}
use Rattle.vale_book.specs.Leases.{KeepsBuffers}
use Rattle.vale_book.specs.Reading.{Begins}
use Rattle.vale_entry.proofs.Shares.{no_items}

-- ---- a lease

-- the size of the frame that is filled in next
sizes-cut : (sizes : List ℕ) (n : ℕ) → n ≡ first_size sizes → 1 ≤ n → sum sizes ≡ n + sum (drop 1 sizes)
sizes-cut [] n e some = absurd (omega (arith, e, some))
sizes-cut (size ∷ sizes) n e some = sum-cons size sizes ∙ ap (λ (k : ℕ). k + sum sizes) (sym e)

names-parts : (parts : List (List ℕ)) (bufs : List Buffer) → length parts ≤ length bufs → names_of (buffers_of (gots_of_parts parts bufs) ++ drop (length parts) bufs) ≡ names_of bufs
names-parts [] bufs room = refl
names-parts (p ∷ ps) [] room = absurd (omega (arith, room))
names-parts (p ∷ ps) (b ∷ bs) room = ap (λ (ns : List (ℕ × ℕ)). name_of b ∷ ns) (names-parts ps bs (omega (arith, room)))

-- a frame that is filled in leaves the buffers as they are named
names-with : (filled : List Got) (bytes : List ℕ) (bufs : List Buffer) → slots_of_bytes bytes ≤ length bufs
    → names_of (buffers_of (filled ++ gots_with bytes bufs) ++ drop (slots_of_bytes bytes) bufs) ≡ names_of (buffers_of filled ++ bufs)
names-with filled bytes bufs room =
    let n = slots_of_bytes bytes in
    let gots = gots_with bytes bufs in
    let count = length-parts n bytes in
    let behind : names_of (buffers_of gots ++ drop n bufs) ≡ names_of bufs =
    ap (λ (k : ℕ). names_of (buffers_of gots ++ drop k bufs)) (sym count) ∙ names-parts (parts_of bytes) bufs (omega (arith, count, room)) in
    ap (λ (bs : List Buffer). names_of (bs ++ drop n bufs)) (map-append buffer_of filled gots)
    ∙ (ap names_of (append_assoc (buffers_of filled) (buffers_of gots) (drop n bufs))
    ∙ (map-append name_of (buffers_of filled) (buffers_of gots ++ drop n bufs)
    ∙ (ap (λ (ns : List (ℕ × ℕ)). names_of (buffers_of filled) ++ ns) behind ∙ sym (map-append name_of (buffers_of filled) bufs))))

pub keeps-start : (start : Leased) → start.filled ≡ [] → length start.empty ≡ sum start.sizes → KeepsBuffers start start
keeps-start start none left = record {
  cut = subst IsCut (sym none) refl;
  left = left;
  names = ap (λ (gots : List Got). names_of (buffers_of gots ++ start.empty)) none;
}

pub keeps-more : {start old new : Leased} (bytes : List ℕ) → KeepsBuffers start old → slots_of_bytes bytes ≡ next_of old → new ≡ with_frame bytes old → KeepsBuffers start new
keeps-more {start} {old} {new} bytes keeps next grown =
    let n = slots_of_bytes bytes in
    let left = keeps.left in
    let sums = sizes-cut old.sizes n next (slots-some (length bytes)) in
    let room : n ≤ length old.empty = omega (arith, left, sums) in
    let fewer = length-drop n old.empty in
    let filled : new.filled ≡ old.filled ++ gots_with bytes old.empty = ap (λ (l : Leased). l.filled) grown in
    let empty : length new.empty ≡ length (drop n old.empty) = ap (λ (l : Leased). length l.empty) grown in
    let sizes : sum new.sizes ≡ sum (drop 1 old.sizes) = ap (λ (l : Leased). sum l.sizes) grown in
    record {
      cut = subst IsCut (sym filled) (cut-append old.filled (gots_with bytes old.empty) keeps.cut (cut-with bytes old.empty room));
      left = omega (arith, left, sums, fewer, empty, sizes, room);
      names = ap (λ (l : Leased). names_of (buffers_of l.filled ++ l.empty)) grown ∙ (names-with old.filled bytes old.empty room ∙ keeps.names);
    }

indices-named : (bufs : List Buffer) → map (λ (name : ℕ × ℕ). name.1) (names_of bufs) ≡ indices_of bufs
indices-named [] = refl
indices-named (b ∷ bs) = ap (λ (ns : List ℕ). b.index ∷ ns) (indices-named bs)

are-named : (region : ℕ) (xs ys : List Buffer) → names_of xs ≡ names_of ys → AreOf region ys → AreOf region xs
are-named region [] ys e are = tt
are-named region (x ∷ xs) [] e are = absurd cc
are-named region (x ∷ xs) (y ∷ ys) e are =
    let one : name_of x ≡ name_of y = cc in
    let rest : names_of xs ≡ names_of ys = cc in
    (ap (λ (name : ℕ × ℕ). name.0) one ∙ are.0, are-named region xs ys rest are.1)

-- a lease in which all frames are filled has its buffers, and no others
module _ {start lease : Leased} (keeps : KeepsBuffers start lease) (full : lease.sizes ≡ []) where
  pub keeps-none : lease.empty ≡ []
  keeps-none = no_items lease.empty (keeps.left ∙ ap sum full)

  keeps-names : names_of (buffers_of lease.filled) ≡ names_of start.empty
  keeps-names =
      ap names_of (sym (append-nil (buffers_of lease.filled)))
      ∙ (ap (λ (bs : List Buffer). names_of (buffers_of lease.filled ++ bs)) (sym keeps-none) ∙ keeps.names)

  pub keeps-indices : indices_of (buffers_of lease.filled) ≡ indices_of start.empty
  keeps-indices =
      sym (indices-named (buffers_of lease.filled)) ∙ (ap (map (λ (name : ℕ × ℕ). name.1)) keeps-names ∙ indices-named start.empty)

  pub keeps-region : (region : ℕ) → AreOf region start.empty → AreOf region (buffers_of lease.filled)
  keeps-region region are = are-named region (buffers_of lease.filled) start.empty keeps-names are

-- ---- received frames

-- the frame that begins in a buffer, with the buffers that it takes
pub record IsFound (gots : List Got) (frame at : ℕ) (bytes : List ℕ) : Type 0 where
  pub room : at + slots_of_bytes bytes ≤ length gots
  pub some : at < length gots
  pub rest : (d : Got) → suc (get_or gots at d).rest ≡ slots_of_bytes bytes
  pub first : held_parts (take (slots_of_bytes bytes) (drop at gots)) ≡ cut_frame bytes
  pub joined : joined_parts (take (slots_of_bytes bytes) (drop at gots)) ≡ bytes
  pub count : length (take (slots_of_bytes bytes) (drop at gots)) ≡ slots_of_bytes bytes
  pub next : Begins gots (frame + 1) (at + slots_of_bytes bytes)

-- the first of a frame's buffers tells how many more it takes
first-rest : (gots : List Got) (at : ℕ) (d : Got) (parts : List (List ℕ)) (n : ℕ) → at < length gots → 1 ≤ n → held_parts (take n (drop at gots)) ≡ told_parts parts
    → suc (get_or gots at d).rest ≡ length parts
first-rest [] at d parts n within some is = absurd (omega (arith, within))
first-rest (g ∷ gs) zero d parts zero within some is = absurd (omega (arith, some))
first-rest (g ∷ gs) zero d [] (suc n) within some is = absurd (let wrong : held_part g ∷ held_parts (take n gs) ≡ [] = is in cc)
first-rest (g ∷ gs) zero d (p ∷ ps) (suc n) within some is =
    let told : held_part g ∷ held_parts (take n gs) ≡ record { bytes = p; rest = length ps } ∷ told_parts ps = is in
    let head : held_part g ≡ record { bytes = p; rest = length ps } = cc in
    ap (λ (h : HeldPart). suc h.rest) head
first-rest (g ∷ gs) (suc at) d parts n within some is = first-rest gs at d parts n (omega (arith, within)) some is

taken-most : {X : Type 0} (n : ℕ) (xs : List X) → length (take n xs) ≡ n → n ≤ length xs
taken-most n xs e = let size = length-take n xs in omega (arith, size, e)

pub found-here : (gots : List Got) (frame at : ℕ) (bytes : List ℕ) → Begins gots frame at → slice_get (frames_in gots) frame ≡ Some bytes → IsFound gots frame at bytes
found-here gots frame at bytes begins there =
    let n = slots_of_bytes bytes in
    let others = drop (frame + 1) (frames_in gots) in
    let left : held_parts (drop at gots) ≡ cut_frame bytes ++ cut_frames others = begins.left ∙ ap cut_frames (drop-slice_get (frames_in gots) frame bytes there) in
    let t = tells-frame bytes others (drop at gots) left in
    let held = sym (length-map (take n (drop at gots)) held_part) ∙ (ap (λ (hs : List HeldPart). length hs) t.first ∙ length-cut bytes) in
    let most = taken-most n (drop at gots) held in
    let behind = length-drop at gots in
    let within = begins.within in
    let some = slots-some (length bytes) in
    record {
      room = omega (arith, most, behind, within);
      some = omega (arith, most, behind, within, some);
      rest = λ d. first-rest gots at d (parts_of bytes) n (omega (arith, most, behind, within, some)) some t.first ∙ length-parts n bytes;
      first = t.first;
      joined = t.joined;
      count = held;
      next = record {
        within = omega (arith, most, behind, within);
        left = ap held_parts (sym (drop-drop n at gots)) ∙ t.left;
      };
    }

-- the same of a slice of so many buffers as the frame takes
pub record IsSliced (gots : List Got) (frame at size : ℕ) (bytes : List ℕ) : Type 0 where
  pub within : at + size ≤ length gots
  pub parts : held_parts (slice_range gots at (at + size)) ≡ cut_frame (joined_parts (slice_range gots at (at + size)))
  pub count : length (slice_range gots at (at + size)) ≡ size
  pub joined : joined_parts (slice_range gots at (at + size)) ≡ bytes
  pub next : Begins gots (frame + 1) (at + size)

pub sliced : (gots : List Got) (frame at size : ℕ) (bytes : List ℕ) → Begins gots frame at → slice_get (frames_in gots) frame ≡ Some bytes → slots_of_bytes bytes ≡ size → IsSliced gots frame at size bytes
sliced gots frame at size bytes begins there is =
    let found = found-here gots frame at bytes begins there in
    let last : at + size - at ≡ slots_of_bytes bytes = omega (arith, is) in
    let part : slice_range gots at (at + size) ≡ take (slots_of_bytes bytes) (drop at gots) = ap (λ (k : ℕ). take k (drop at gots)) last in
    let room = found.room in
    record {
      within = omega (arith, room, is);
      parts = rw part (found.first ∙ ap cut_frame (sym found.joined));
      count = ap (λ (gs : List Got). length gs) part ∙ (found.count ∙ is);
      joined = ap joined_parts part ∙ found.joined;
      next = subst (λ (k : ℕ). Begins gots (frame + 1) (at + k)) is found.next;
    }

pub begins-first : (gots : List Got) → IsCut gots → Begins gots 0 0
begins-first gots cut = record { within = omega arith; left = cut }
