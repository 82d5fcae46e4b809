-- The parts of a frame.
use Rattle.std.proofs.Common.{ℕ, zero, suc, ◌≡◌, ◌+◌, ◌-◌, ◌*◌, ◌<◌, ◌≤◌, List, [], ◌∷◌, ◌++◌, length, take, drop, inl, inr, refl, ◌∙◌, ap, arith}
use Rattle.std.specs.Prelude.{nat_le, All}
use Rattle.std.specs.List.{concat}
use Rattle.std.proofs.lemmas.Bool.{cases_Bool, le-leb, leb-true, leb-false}
use Rattle.std.proofs.lemmas.Grind.{div_ceil_times}
use Rattle.std.proofs.lemmas.List.{length-drop, length-take, take-append-drop, take_all}
use Rattle.std.proofs.lemmas.List.Elements.{All-nil, All-cons}
use Rattle.nm_types.specs.Limits.{most_frame_bytes, most_frame_slots}
use Rattle.nm_types.specs.Parts.{slots_of_length, first_parts, parts_of, IsPart, told_parts, cut_frame}

-- what is known of the number of slots
pub record HoldFrame (len slots : ℕ) : Type 0 where
  pub some : 1 ≤ slots
  pub enough : len ≤ 2048 * slots
  pub tight : 2048 * slots ≤ len + 2048
  pub few : len ≤ most_frame_bytes → slots ≤ most_frame_slots

pub hold_frame : (len : ℕ) → HoldFrame len (slots_of_length len)
hold_frame len = elim (cases_Bool (nat_le len 2048)) [
  | inl here ↦
      let small : len ≤ 2048 = leb-true len 2048 here in
      rw here (record { some = omega arith; enough = omega (arith, small); tight = omega arith; few = λ h. omega arith })
  | inr other ↦
      let large : 2048 < len = leb-false len 2048 other in
      let times = div_ceil_times len 2048 (omega arith) in
      let above = times.0 in
      let below = times.1 in
      rw other (record {
        some = omega (arith, large, above);
        enough = omega (arith, above);
        tight = omega (arith, below);
        few = λ h. omega (arith, below, h);
      })
]

pub slots-some : (len : ℕ) → 1 ≤ slots_of_length len
slots-some len = (hold_frame len).some

pub slots-few : (len : ℕ) → len ≤ most_frame_bytes → slots_of_length len ≤ most_frame_slots
slots-few len h = (hold_frame len).few h

pub slots-enough : (len : ℕ) → len ≤ 2048 * slots_of_length len
slots-enough len = (hold_frame len).enough

pub slots-tight : (len : ℕ) → 2048 * slots_of_length len ≤ len + 2048
slots-tight len = (hold_frame len).tight

-- a frame of one slot
pub slots-one : (len : ℕ) → len ≤ 2048 → slots_of_length len ≡ 1
slots-one len h = rw (le-leb len 2048 h) refl

pub ruleset parts = (slots-some, slots-few, slots-enough, slots-tight, slots-one)

pub length-parts : (count : ℕ) (bytes : List ℕ) → length (first_parts count bytes) ≡ count
length-parts zero bytes = refl
length-parts (suc count) bytes = let rest = length-parts count (drop 2048 bytes) in omega (arith, rest)

-- so many parts that all bytes are in them
pub concat-parts : (count : ℕ) (bytes : List ℕ) → length bytes ≤ 2048 * count → concat (first_parts count bytes) ≡ bytes
concat-parts zero [] enough = refl
concat-parts zero (b ∷ bytes) enough = absurd (omega (arith, enough))
concat-parts (suc count) bytes enough =
    let left : length (drop 2048 bytes) ≡ length bytes - 2048 = length-drop 2048 bytes in
    let rest = concat-parts count (drop 2048 bytes) (omega (arith, left, enough)) in
    ap (λ (behind : List ℕ). take 2048 bytes ++ behind) rest ∙ take-append-drop 2048 bytes

pub all-parts : (count : ℕ) (bytes : List ℕ) → All IsPart (first_parts count bytes)
all-parts zero bytes = All-nil IsPart
all-parts (suc count) bytes =
    let size = length-take 2048 bytes in
    let most : IsPart (take 2048 bytes) = omega (arith, size) in
    All-cons IsPart (take 2048 bytes) (first_parts count (drop 2048 bytes)) most (all-parts count (drop 2048 bytes))

-- a frame of one slot is its own part
pub parts-one : (bytes : List ℕ) → length bytes ≤ 2048 → parts_of bytes ≡ bytes ∷ []
parts-one bytes h =
    let one = slots-one (length bytes) h in
    let all : take 2048 bytes ≡ bytes = take_all 2048 bytes h in
    rw (one, all) refl

-- a frame that lies in so many parts takes no more slots
pub slots-within : (len count : ℕ) → 1 ≤ count → len ≤ 2048 * count → slots_of_length len ≤ count
slots-within len count some enough = elim (cases_Bool (nat_le len 2048)) [
  | inl here ↦ rw here some
  | inr other ↦ (let times = div_ceil_times len 2048 (omega arith) in let below = times.1 in rw other (omega (arith, below, enough)))
]

-- a frame of no more bytes takes no more slots
pub told-one : (bytes : List ℕ) → length bytes ≤ 2048 → cut_frame bytes ≡ record { bytes = bytes; rest = 0 } ∷ []
told-one bytes h = rw (parts-one bytes h) refl

pub length-told : (parts : List (List ℕ)) → length (told_parts parts) ≡ length parts
length-told [] = refl
length-told (part ∷ parts) = ap suc (length-told parts)

-- as many parts as slots
pub length-cut : (bytes : List ℕ) → length (cut_frame bytes) ≡ slots_of_length (length bytes)
length-cut bytes = length-told (parts_of bytes) ∙ length-parts (slots_of_length (length bytes)) bytes
