-- Frames are copied one by one, each part by part.
use Rattle.std.proofs.Common.{ℕ, zero, suc, ◌≡◌, ◌+◌, ◌-◌, ◌<◌, List, [], ◌∷◌, ◌++◌, length, map, take, drop, get_or, Some, slice_get, refl, sym, ◌∙◌, ap, subst, arith}
use Rattle.std.specs.Prelude.{Vec, slice_set}
use Rattle.std.specs.declared.alloc.Global.{Global}
use Rattle.std.proofs.lemmas.List.{append-nil, append_assoc, length-drop}
use Rattle.std.proofs.lemmas.Option.{slice_get-get_or}
use Rattle.nm_types.specs.Parts.{slots_of_bytes}
use Rattle.vale_line.specs.declared.got.Got.{Got}
use Rattle.vale_line.specs.Gots.{part_in, joined_parts, frames_in}
use Rattle.vale_book.specs.Reading.{Begins}
use Rattle.vale_book.proofs.LeaseBuffers.{IsSliced, sliced}
use Rattle.vale_serve.specs.Copies.{IsFrameRoom, AreFrameRooms}
use Rattle.vale_serve.specs.Users.{contents}

-- ---- one frame

pub joined-more : (gots : List Got) (i : ℕ) (got : Got) → i < length gots → got ≡ get_or gots i got → joined_parts (take (i + 1) gots) ≡ joined_parts (take i gots) ++ part_in got
joined-more [] i got few e = absurd (omega (arith, few))
joined-more (g ∷ gs) zero got few e = ap (λ (x : Got). part_in x ++ []) (sym e) ∙ append-nil (part_in got)
joined-more (g ∷ gs) (suc i) got few e =
    let next : suc i + 1 ≡ suc (i + 1) = omega arith in
    rw next (ap (λ (bs : List ℕ). part_in g ++ bs) (joined-more gs i got (omega (arith, few)) e) ∙ sym (append_assoc (part_in g) (joined_parts (take i gs)) (part_in got)))

pub ruleset joins = (joined-more)

-- ---- memory for each

pub are-push : (rooms : List (Vec ℕ Global)) (sizes : List ℕ) (i size : ℕ) (room : Vec ℕ Global) → AreFrameRooms rooms (take i sizes) → slice_get sizes i ≡ Some size → IsFrameRoom size room
    → AreFrameRooms (rooms ++ room ∷ []) (take (i + 1) sizes)
are-push rooms [] i size room are at is = absurd cc
are-push [] (n ∷ ns) zero size room are at is = let same : n ≡ size = cc in (subst (λ (k : ℕ). IsFrameRoom k room) (sym same) is, tt)
are-push (r ∷ rs) (n ∷ ns) zero size room are at is = absurd are
are-push [] (n ∷ ns) (suc i) size room are at is = absurd are
are-push (r ∷ rs) (n ∷ ns) (suc i) size room are at is =
    let next : suc i + 1 ≡ suc (i + 1) = omega arith in
    rw next (are.0, are-push rs ns i size room are.1 at is)

pub are-count : (rooms : List (Vec ℕ Global)) (sizes : List ℕ) → AreFrameRooms rooms sizes → length rooms ≡ length sizes
are-count [] [] are = refl
are-count [] (n ∷ ns) are = absurd are
are-count (r ∷ rs) [] are = absurd are
are-count (r ∷ rs) (n ∷ ns) are = ap suc (are-count rs ns are.1)

pub size-here : (sizes : List ℕ) (i size : ℕ) → i < length sizes → size ≡ get_or sizes i size → slice_get sizes i ≡ Some size
size-here sizes i size low is = slice_get-get_or sizes i size low ∙ ap (λ (n : ℕ). Some n) (sym is)

-- ---- the next frame is copied

pub record Copying (rooms : List (Vec ℕ Global)) (sizes : List ℕ) (i size : ℕ) (room : Vec ℕ Global) : Type 0 where
  pub is : IsFrameRoom size room
  pub left : AreFrameRooms (drop (i + 1) rooms) (drop (i + 1) sizes)

pub copying : (rooms : List (Vec ℕ Global)) (sizes : List ℕ) (i size : ℕ) (room : Vec ℕ Global) → AreFrameRooms (drop i rooms) (drop i sizes) → i < length rooms → room ≡ get_or rooms i room
    → slice_get sizes i ≡ Some size → Copying rooms sizes i size room
copying [] sizes i size room are within is at = absurd (omega (arith, within))
copying (r ∷ rs) [] i size room are within is at = absurd cc
copying (r ∷ rs) (n ∷ ns) zero size room are within is at =
    let same : n ≡ size = cc in
    record { is = subst (λ (v : Vec ℕ Global). IsFrameRoom size v) (sym is) (subst (λ (k : ℕ). IsFrameRoom k r) same are.0); left = are.1 }
copying (r ∷ rs) (n ∷ ns) (suc i) size room are within is at =
    let next : suc i + 1 ≡ suc (i + 1) = omega arith in
    let rest = copying rs ns i size room are (omega (arith, within)) is at in
    record { is = rest.is; left = rw next rest.left }

pub set-left : (rooms : List (Vec ℕ Global)) (i : ℕ) (room : Vec ℕ Global) → drop (i + 1) (slice_set rooms i room) ≡ drop (i + 1) rooms
set-left [] i room = refl
set-left (r ∷ rs) zero room = refl
set-left (r ∷ rs) (suc i) room = let next : suc i + 1 ≡ suc (i + 1) = omega arith in rw next (set-left rs i room)

pub set-made : (rooms : List (Vec ℕ Global)) (i : ℕ) (room : Vec ℕ Global) → i < length rooms → contents (take (i + 1) (slice_set rooms i room)) ≡ contents (take i rooms) ++ room.items ∷ []
set-made [] i room within = absurd (omega (arith, within))
set-made (r ∷ rs) zero room within = refl
set-made (r ∷ rs) (suc i) room within =
    let next : suc i + 1 ≡ suc (i + 1) = omega arith in
    rw next (ap (λ (fs : List (List ℕ)). r.items ∷ fs) (set-made rs i room (omega (arith, within))))

-- the size that is copied next is that of a frame
pub sized-at : (sizes : List ℕ) (frames : List (List ℕ)) (i size : ℕ) → sizes ≡ map slots_of_bytes (take (length sizes) frames) → slice_get sizes i ≡ Some size
    → (bytes : List ℕ) × (slice_get frames i ≡ Some bytes) × (slots_of_bytes bytes ≡ size)
sized-at sizes frames i size are at = by (length sizes) frames i (ap (λ (ns : List ℕ). slice_get ns i) (sym are) ∙ at)
  where
    by : (n : ℕ) (fs : List (List ℕ)) (i : ℕ) → slice_get (map slots_of_bytes (take n fs)) i ≡ Some size → (bytes : List ℕ) × (slice_get fs i ≡ Some bytes) × (slots_of_bytes bytes ≡ size)
    by zero fs i e = absurd cc
    by (suc n) [] i e = absurd cc
    by (suc n) (f ∷ fs) zero e = (f, refl, cc)
    by (suc n) (f ∷ fs) (suc i) e = by n fs i e

pub take-next : (frames : List (List ℕ)) (i : ℕ) (bytes : List ℕ) → slice_get frames i ≡ Some bytes → take (i + 1) frames ≡ take i frames ++ bytes ∷ []
take-next [] i bytes e = absurd cc
take-next (f ∷ fs) zero bytes e = let same : f ≡ bytes = cc in ap (λ (b : List ℕ). b ∷ []) same
take-next (f ∷ fs) (suc i) bytes e =
    let next : suc i + 1 ≡ suc (i + 1) = omega arith in
    rw next (ap (λ (bs : List (List ℕ)). f ∷ bs) (take-next fs i bytes e))

-- the frame that is copied next lies in as many buffers as its size says
pub record IsNext (gots : List Got) (i at size : ℕ) : Type 0 where
  pub bytes : List ℕ
  pub there : slice_get (frames_in gots) i ≡ Some bytes
  pub is : IsSliced gots i at size bytes

pub next-copied : (gots : List Got) (sizes : List ℕ) (i at size : ℕ) → sizes ≡ map slots_of_bytes (take (length sizes) (frames_in gots)) → slice_get sizes i ≡ Some size → Begins gots i at → IsNext gots i at size
next-copied gots sizes i at size are here begins =
    let s = sized-at sizes (frames_in gots) i size are here in
    record { bytes = s.0; there = s.1; is = sliced gots i at size s.0 begins s.1 s.2 }

-- as many rooms are left as sizes
pub left-count : (rooms : List (Vec ℕ Global)) (sizes : List ℕ) (i : ℕ) → AreFrameRooms (drop i rooms) (drop i sizes) → length rooms - i ≡ length sizes - i
left-count rooms sizes i left = sym (length-drop i rooms) ∙ (are-count (drop i rooms) (drop i sizes) left ∙ length-drop i sizes)

pub made-more : (gots : List Got) (rooms : List (Vec ℕ Global)) (i : ℕ) (room : Vec ℕ Global) (bytes : List ℕ) → i < length rooms → contents (take i rooms) ≡ take i (frames_in gots)
    → slice_get (frames_in gots) i ≡ Some bytes → room.items ≡ bytes → contents (take (i + 1) (slice_set rooms i room)) ≡ take (i + 1) (frames_in gots)
made-more gots rooms i room bytes within made there is =
    set-made rooms i room within
    ∙ (ap (λ (fs : List (List ℕ)). fs ++ room.items ∷ []) made
    ∙ (ap (λ (bs : List ℕ). take i (frames_in gots) ++ bs ∷ []) is ∙ sym (take-next (frames_in gots) i bytes there)))
