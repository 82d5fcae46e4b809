-- Frames in buffers, one behind the other.
use Rattle.std.proofs.Common.{ℕ, true, false, cond, ◌≡◌, ◌+◌, ◌≤◌, List, [], ◌∷◌, ◌++◌, length, drop, reverse, inl, inr, refl, sym, ◌∙◌, ap, arith}
use Rattle.std.specs.Prelude.{All, sum_by}
use Rattle.std.specs.List.{concat}
use Rattle.std.proofs.Math.Seq.{take-append_seam}
use Rattle.std.proofs.lemmas.Bool.{cases_Bool, ne_eqb, eq-eqb}
use Rattle.std.proofs.lemmas.List.{append-nil, append_assoc, reverse-append}
use Rattle.std.proofs.lemmas.List.Elements.{All-head, All-tail}
use Rattle.std.proofs.lemmas.List.Sums.{sum_by-cons}
use Rattle.nm_region.specs.Buffers.{Buffer}
use Rattle.nm_frag.specs.Parts.{slots_of_length, parts_of}
use Rattle.nm_frag.proofs.PartLemmas.{length-parts, parts_are_frame, slots-some}
use Rattle.vale_line.specs.declared.got.Got.{Got}
use Rattle.vale_line.specs.Gots.{got_of, part_in, is_last, last_count, frames_behind, frames_in, gots_of_parts, gots_with, IsSingle}

-- the bytes of a frame that began and has not ended
abbrev pub begun_behind : List ℕ → List Got → List ℕ
begun_behind begun [] = begun
begun_behind begun (got ∷ gots) = cond (is_last got) (begun_behind [] gots) (begun_behind (begun ++ part_in got) gots)

-- no frame begins in these buffers and ends elsewhere
abbrev pub HoldWholeFrames : List Got → Type 0
HoldWholeFrames gots = begun_behind [] gots ≡ []

pub frames_behind-append : (begun : List ℕ) (a b : List Got) → frames_behind begun (a ++ b) ≡ frames_behind begun a ++ frames_behind (begun_behind begun a) b
frames_behind-append begun [] b = refl
frames_behind-append begun (got ∷ a) b = elim (cases_Bool (is_last got)) [
  | inl here ↦ rw here (ap (λ (rest : List (List ℕ)). (begun ++ part_in got) ∷ rest) (frames_behind-append [] a b))
  | inr other ↦ rw other (frames_behind-append (begun ++ part_in got) a b)
]

pub begun_behind-append : (begun : List ℕ) (a b : List Got) → begun_behind begun (a ++ b) ≡ begun_behind (begun_behind begun a) b
begun_behind-append begun [] b = refl
begun_behind-append begun (got ∷ a) b = elim (cases_Bool (is_last got)) [
  | inl here ↦ rw here (begun_behind-append [] a b)
  | inr other ↦ rw other (begun_behind-append (begun ++ part_in got) a b)
]

-- whole frames, and frames behind them
pub frames_in-append : (a b : List Got) → HoldWholeFrames a → frames_in (a ++ b) ≡ frames_in a ++ frames_in b
frames_in-append a b whole = frames_behind-append [] a b ∙ ap (λ (begun : List ℕ). frames_in a ++ frames_behind begun b) whole

pub whole-append : (a b : List Got) → HoldWholeFrames a → HoldWholeFrames b → HoldWholeFrames (a ++ b)
whole-append a b first second = begun_behind-append [] a b ∙ (ap (λ (begun : List ℕ). begun_behind begun b) first ∙ second)

-- the part that was written is the one that stands in the buffer
pub part_in-got_of : (part : List ℕ) (rest : ℕ) (b : Buffer) → part_in (got_of part rest b) ≡ part
part_in-got_of part rest b = take-append_seam part (drop (length part) b.bytes)

-- the parts of a frame, in order, make one frame, and end it
pub frames_behind-parts : (begun : List ℕ) (parts : List (List ℕ)) (bufs : List Buffer) → 1 ≤ length parts → length parts ≤ length bufs
    → frames_behind begun (gots_of_parts parts bufs) ≡ (begun ++ concat parts) ∷ []
frames_behind-parts begun [] bufs some room = absurd (omega (arith, some))
frames_behind-parts begun (p ∷ ps) [] some room = absurd (omega (arith, room))
frames_behind-parts begun (p ∷ []) (b ∷ bs) some room =
    ap (λ (part : List ℕ). (begun ++ part) ∷ []) (part_in-got_of p 0 b ∙ sym (append-nil p))
frames_behind-parts begun (p ∷ q ∷ ps) (b ∷ bs) some room =
    let more : is_last (got_of p (length (q ∷ ps)) b) ≡ false = ne_eqb (length (q ∷ ps)) 0 (λ e. let wrong : length (q ∷ ps) ≡ 0 = e in omega (arith, wrong)) in
    let rest = frames_behind-parts (begun ++ p) (q ∷ ps) bs (omega arith) (omega (arith, room)) in
    let here = part_in-got_of p (length (q ∷ ps)) b in
    rw more (ap (λ (part : List ℕ). frames_behind (begun ++ part) (gots_of_parts (q ∷ ps) bs)) here ∙ (rest ∙ ap (λ (f : List ℕ). f ∷ []) (append_assoc begun p (concat (q ∷ ps)))))

pub begun_behind-parts : (begun : List ℕ) (parts : List (List ℕ)) (bufs : List Buffer) → 1 ≤ length parts → length parts ≤ length bufs → begun_behind begun (gots_of_parts parts bufs) ≡ []
begun_behind-parts begun [] bufs some room = absurd (omega (arith, some))
begun_behind-parts begun (p ∷ ps) [] some room = absurd (omega (arith, room))
begun_behind-parts begun (p ∷ []) (b ∷ bs) some room = refl
begun_behind-parts begun (p ∷ q ∷ ps) (b ∷ bs) some room =
    let more : is_last (got_of p (length (q ∷ ps)) b) ≡ false = ne_eqb (length (q ∷ ps)) 0 (λ e. let wrong : length (q ∷ ps) ≡ 0 = e in omega (arith, wrong)) in
    rw more (begun_behind-parts (begun ++ part_in (got_of p (length (q ∷ ps)) b)) (q ∷ ps) bs (omega arith) (omega (arith, room)))

pub parts-some : (bytes : List ℕ) → 1 ≤ length (parts_of bytes)
parts-some bytes =
    let count = length-parts (slots_of_length (length bytes)) bytes in
    let some = slots-some (length bytes) in
    omega (arith, count, some)

pub length-parts_of : (bytes : List ℕ) → length (parts_of bytes) ≡ slots_of_length (length bytes)
length-parts_of bytes = length-parts (slots_of_length (length bytes)) bytes

-- a frame that was filled in is one frame
pub frames_in-with : (bytes : List ℕ) (bufs : List Buffer) → slots_of_length (length bytes) ≤ length bufs → frames_in (gots_with bytes bufs) ≡ bytes ∷ []
frames_in-with bytes bufs room =
    let count = length-parts_of bytes in
    frames_behind-parts [] (parts_of bytes) bufs (parts-some bytes) (omega (arith, count, room)) ∙ ap (λ (f : List ℕ). f ∷ []) (parts_are_frame bytes)

pub whole-with : (bytes : List ℕ) (bufs : List Buffer) → slots_of_length (length bytes) ≤ length bufs → HoldWholeFrames (gots_with bytes bufs)
whole-with bytes bufs room =
    let count = length-parts_of bytes in
    begun_behind-parts [] (parts_of bytes) bufs (parts-some bytes) (omega (arith, count, room))

pub whole-singles : (gots : List Got) → All IsSingle gots → HoldWholeFrames gots
whole-singles [] all = refl
whole-singles (got ∷ gots) all =
    let here : is_last got ≡ true = eq-eqb got.rest 0 (All-head IsSingle got gots all) in
    rw here (whole-singles gots (All-tail IsSingle got gots all))

-- as many frames as buffers in which one ends
pub count-frames : (begun : List ℕ) (gots : List Got) → length (frames_behind begun gots) ≡ sum_by last_count gots
count-frames begun [] = refl
count-frames begun (got ∷ gots) = elim (cases_Bool (is_last got)) [
  | inl here ↦
      let rest = count-frames [] gots in
      let all = sum_by-cons last_count got gots in
      let one : last_count got ≡ 1 = rw here refl in
      let more : frames_behind begun (got ∷ gots) ≡ (begun ++ part_in got) ∷ frames_behind [] gots = rw here refl in
      let count = ap length more in
      omega (arith, rest, all, one, count)
  | inr other ↦
      let rest = count-frames (begun ++ part_in got) gots in
      let all = sum_by-cons last_count got gots in
      let none : last_count got ≡ 0 = rw other refl in
      let more : frames_behind begun (got ∷ gots) ≡ frames_behind (begun ++ part_in got) gots = rw other refl in
      let count = ap length more in
      omega (arith, rest, all, none, count)
]

last-most : (got : Got) → last_count got ≤ 1
last-most got = elim (cases_Bool (is_last got)) [ inl here ↦ rw here (omega arith) | inr other ↦ rw other (omega arith) ]

pub few-lasts : (gots : List Got) → sum_by last_count gots ≤ length gots
few-lasts [] = omega arith
few-lasts (got ∷ gots) =
    let rest = few-lasts gots in
    let all = sum_by-cons last_count got gots in
    let most = last-most got in
    omega (arith, rest, all, most)

-- the last of some buffers is taken
pub lasts-popped : (old new : List Got) (got : Got) → old ≡ new ++ got ∷ [] → sum_by last_count (reverse old) ≡ last_count got + sum_by last_count (reverse new)
lasts-popped old new got is =
    ap (λ (gots : List Got). sum_by last_count (reverse gots)) is
    ∙ (ap (λ (gots : List Got). sum_by last_count gots) (reverse-append new (got ∷ [])) ∙ sum_by-cons last_count got (reverse new))
