-- A lease is held, its frames are filled in one by one, and then it is filled.
use Rattle.std.proofs.Common.{ℕ, zero, suc, ◌+◌, ◌<◌, ◌≤◌, ◌≡◌, Bool, true, cond, List, [], ◌∷◌, ◌++◌, length, map, find, take, drop, Option, Some, refl, sym, ◌∙◌, ap, subst, arith, slice_get}
use Rattle.std.specs.Prelude.{option_map, sum}
use Rattle.std.specs.Int.{div_ceil}
use Rattle.std.specs.List.{list_all}
use Rattle.std.proofs.lemmas.Bool.{le-leb, leb-true, and_parts}
use Rattle.std.proofs.lemmas.List.{length-map, map-append, drop-drop, drop_all, take_all}
use Rattle.std.proofs.lemmas.Option.{slice_get_within}
use Rattle.nm_types.specs.Frames.{Frame, slots_of}
use Rattle.nm_types.specs.Limits.{buffer_bytes, most_frame_bytes}
use Rattle.nm_types.specs.Parts.{slots_of_length, slots_of_bytes, HeldPart, cut_frames}
use Rattle.nm_types.specs.Sendable.{is_frame}
use Rattle.nm_region.specs.Buffers.{indices_of}
use Rattle.vale_line.specs.declared.got.Got.{Got}
use Rattle.vale_line.specs.Gots.{buffers_of, frames_in, held_parts}
use Rattle.vale_line.specs.Leased.{Leased, contents, first_size, next_of, with_frame}
use Rattle.vale_own.specs.Own.{own_of}
use Rattle.vale_port.specs.Kept.{KeptFrames, bytes_of}
use Rattle.vale_port.specs.Ports.{sizes_of}
use Rattle.vale_port.proofs.SeatTies.{sum-sizes}
use Rattle.vale_book.specs.BookView.{AreOf}
use Rattle.vale_book.specs.Recorded.{Recorded, standing}
use Rattle.vale_book.specs.Leases.{IsHeldFor, IsToFill, IsFilledBy, WasGranted, is_held_as}
use Rattle.vale_book.proofs.LeaseBuffers.{keeps-start, keeps-more, keeps-none, keeps-indices, keeps-region}
use Rattle.nm_desk.specs.Filling.{IsFilling}

-- ---- lists

pub taken-next : {X : Type 0} (xs : List X) (n : ℕ) (x : X) → slice_get xs n ≡ Some x → take (n + 1) xs ≡ take n xs ++ x ∷ []
taken-next [] n x e = absurd cc
taken-next {X} (y ∷ ys) zero x e = let same : y ≡ x = cc in ap (λ (z : X). z ∷ []) same
taken-next {X} (y ∷ ys) (suc n) x e =
    let next : suc n + 1 ≡ suc (n + 1) = omega arith in
    ap (λ (k : ℕ). take k (y ∷ ys)) next ∙ ap (λ (zs : List X). y ∷ zs) (taken-next ys n x e)

some-same : {X : Type 0} (xs ys : List X) → map (λ x. let some : Option X = Some x in some) xs ≡ map (λ x. let some : Option X = Some x in some) ys → xs ≡ ys
some-same [] [] e = refl
some-same [] (y ∷ ys) e = absurd cc
some-same (x ∷ xs) [] e = absurd cc
some-same {X} (x ∷ xs) (y ∷ ys) e =
    let one : x ≡ y = cc in
    let rest : map (λ z. let some : Option X = Some z in some) xs ≡ map (λ z. let some : Option X = Some z in some) ys = cc in
    ap (λ (z : X). z ∷ xs) one ∙ ap (λ (zs : List X). y ∷ zs) (some-same xs ys rest)

-- ---- one frame

pub fit-at : (frames : List Frame) (n : ℕ) (bytes : List ℕ) → list_all is_frame frames ≡ true → option_map (λ (f : Frame). f.bytes) (slice_get frames n) ≡ Some bytes → length bytes ≤ most_frame_bytes
fit-at [] n bytes fit e = absurd cc
fit-at (f ∷ fs) zero bytes fit e =
    let same : f.bytes ≡ bytes = cc in
    subst (λ (b : List ℕ). length b ≤ most_frame_bytes) same (leb-true (length f.bytes) most_frame_bytes (and_parts (is_frame f) (list_all is_frame fs) fit).0)
fit-at (f ∷ fs) (suc n) bytes fit e = fit-at fs n bytes (and_parts (is_frame f) (list_all is_frame fs) fit).1 e

pub one-slot : (bytes : List ℕ) → length bytes ≤ buffer_bytes → slots_of_length (length bytes) ≡ 1
one-slot bytes fits = ap (λ (b : Bool). cond b 1 (div_ceil (length bytes) buffer_bytes)) (le-leb (length bytes) buffer_bytes fits)

pub next-short : (lease : Leased) (bytes : List ℕ) → slots_of_length (length bytes) ≡ next_of lease → length bytes ≤ buffer_bytes → next_of lease ≡ 1
next-short lease bytes next short = sym next ∙ one-slot bytes short

pub ruleset filling = (next-short)

-- ---- the frames that are wanted

-- the frame at a place that is wanted, and its size
record IsWanted (frames : List (List ℕ)) (lot : List Frame) (n p : ℕ) : Type 0 where
  frame : Frame
  bytes : slice_get frames p ≡ Some frame.bytes
  rest : drop n (sizes_of lot) ≡ slots_of frame ∷ drop (n + 1) (sizes_of lot)

wanted-at : (frames : List (List ℕ)) (places : List ℕ) (lot : List Frame) (n p : ℕ) → map (slice_get frames) places ≡ map Some (bytes_of lot) → slice_get places n ≡ Some p → IsWanted frames lot n p
wanted-at frames [] lot n p e at = absurd cc
wanted-at frames (q ∷ qs) [] n p e at = absurd cc
wanted-at frames (q ∷ qs) (f ∷ fs) zero p e at =
    let here : slice_get frames q ≡ Some f.bytes = cc in
    let same : q ≡ p = cc in
    record { frame = f; bytes = ap (slice_get frames) (sym same) ∙ here; rest = refl }
wanted-at frames (q ∷ qs) (f ∷ fs) (suc n) p e at =
    let rest : map (slice_get frames) qs ≡ map Some (bytes_of fs) = cc in
    let w = wanted-at frames qs fs n p rest at in
    let next : suc n + 1 ≡ suc (n + 1) = omega arith in
    record { frame = w.frame; bytes = w.bytes; rest = w.rest ∙ ap (λ (k : ℕ). slots_of w.frame ∷ drop k (sizes_of (f ∷ fs))) (sym next) }

-- the place is one of a frame
pub next-there : {start : Leased} {frames : List (List ℕ)} {places : List ℕ} (n p : ℕ) → IsToFill start frames places → slice_get places n ≡ Some p → p < length frames
next-there {start} {frames} {places} n p to at =
    let w = wanted-at frames places to.is.is.held.0.frames n p to.is.frames_are at in
    slice_get_within frames p w.frame.bytes w.bytes

-- the size of the next frame is that of the one at its place
pub next-is : {start old : Leased} {frames : List (List ℕ)} {places : List ℕ} (n p : ℕ) (bytes : List ℕ) → IsToFill start frames places → IsFilling start frames places n old
    → slice_get places n ≡ Some p → slice_get frames p ≡ Some bytes → slots_of_bytes bytes ≡ next_of old
next-is {start} {old} {frames} {places} n p bytes to is at there =
    let held = to.is.is in
    let w = wanted-at frames places held.held.0.frames n p to.is.frames_are at in
    let found : Some w.frame.bytes ≡ Some bytes = sym w.bytes ∙ there in
    let same : w.frame.bytes ≡ bytes = cc in
    let sizes : old.sizes ≡ slots_of w.frame ∷ drop (n + 1) (sizes_of held.held.0.frames) = is.sizes ∙ (ap (drop n) held.sizes ∙ w.rest) in
    sym (ap first_size sizes ∙ ap slots_of_bytes same)

-- ---- the first

pub fill-start : {start : Leased} {frames : List (List ℕ)} {places : List ℕ} → IsToFill start frames places → IsFilling start frames places 0 start
fill-start {start} {frames} {places} to =
    let held = to.is.is in
    let lot = held.held.0.frames in
    let none = ap (λ (gots : List Got). length gots) held.none in
    let slots = held.slots in
    let all = ap sum held.sizes ∙ sum-sizes lot in
    record {
      id = refl;
      to = refl;
      contents_are = ap (λ (gots : List Got). map Some (frames_in gots)) held.none;
      sizes = refl;
      buffers = keeps-start start held.none (omega (arith, none, slots, all));
    }

-- ---- the next

pub fill-more : {start old new : Leased} {frames : List (List ℕ)} {places : List ℕ} (n p : ℕ) (bytes : List ℕ) → IsToFill start frames places → IsFilling start frames places n old
    → slice_get places n ≡ Some p → slice_get frames p ≡ Some bytes → new ≡ with_frame bytes old → contents new ≡ contents old ++ bytes ∷ [] → IsFilling start frames places (n + 1) new
fill-more {start} {old} {new} {frames} {places} n p bytes to is at there grown more = record {
  id = ap (λ (l : Leased). l.id) grown ∙ is.id;
  to = ap (λ (l : Leased). l.to) grown ∙ is.to;
  contents_are =
      ap (map Some) more
      ∙ (map-append Some (contents old) (bytes ∷ [])
      ∙ (ap (λ (xs : List (Option (List ℕ))). xs ++ Some bytes ∷ []) is.contents_are
      ∙ (ap (λ (x : Option (List ℕ)). map (slice_get frames) (take n places) ++ x ∷ []) (sym there)
      ∙ (sym (map-append (slice_get frames) (take n places) (p ∷ [])) ∙ ap (map (slice_get frames)) (sym (taken-next places n p at))))));
  sizes = ap (λ (l : Leased). l.sizes) grown ∙ (ap (drop 1) is.sizes ∙ drop-drop 1 n start.sizes);
  buffers = keeps-more bytes is.buffers (next-is n p bytes to is at there) grown;
}

-- ---- all of them

module _ {start lease : Leased} {frames : List (List ℕ)} {places : List ℕ} (to : IsToFill start frames places) (is : IsFilling start frames places (length places) lease) where
  pub no-sizes : lease.sizes ≡ []
  no-sizes =
      let held = to.is.is in
      let lot = held.held.0.frames in
      let as_many = sym (length-map places (slice_get frames)) ∙ (ap length to.is.frames_are ∙ (length-map (bytes_of lot) (λ (b : List ℕ). let some : Option (List ℕ) = Some b in some) ∙ length-map lot (λ (f : Frame). f.bytes))) in
      let sizes = ap length held.sizes ∙ length-map lot slots_of in
      is.sizes ∙ drop_all (length places) start.sizes (omega (arith, as_many, sizes))

  pub no-empty : lease.empty ≡ []
  no-empty = keeps-none is.buffers no-sizes

  pub of-region : (region : ℕ) → AreOf region start.empty → AreOf region (buffers_of lease.filled)
  of-region region are = keeps-region is.buffers no-sizes region are

  -- by whichever book it is held
  pub all-filled : (b : Recorded) (session : ℕ) → IsHeldFor b session start frames places → IsFilledBy b session lease
  all-filled b session for =
      let held = for.is.held in
      let contents_are : contents lease ≡ bytes_of held.0.frames =
      some-same (contents lease) (bytes_of held.0.frames) (is.contents_are ∙ (ap (map (slice_get frames)) (take_all (length places) places (omega arith)) ∙ for.frames_are)) in
      let parts : held_parts lease.filled ≡ cut_frames (bytes_of held.0.frames) = is.buffers.cut ∙ ap cut_frames contents_are in
      let indices : indices_of (buffers_of lease.filled) ≡ held.1 = keeps-indices is.buffers no-sizes ∙ for.is.buffers in
      record {
        held = held;
        own = ap (λ (id : ℕ). find (is_held_as id) (own_of session (standing b)).leases) is.id ∙ for.is.own;
        granted = subst (λ (id : ℕ). WasGranted b.entries id lease.to) (sym is.id) (subst (WasGranted b.entries start.id) (sym is.to) for.is.granted);
        filled = ap (λ (ns : List ℕ). let kept : KeptFrames = record { buffers = ns; parts = cut_frames (bytes_of held.0.frames) } in kept) (sym indices)
            ∙ ap (λ (ps : List HeldPart). let kept : KeptFrames = record { buffers = indices_of (buffers_of lease.filled); parts = ps } in kept) (sym parts);
      }
