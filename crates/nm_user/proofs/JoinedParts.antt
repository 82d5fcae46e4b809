-- The frames in published parts, joined again.
use Rattle.std.proofs.Common.{ℕ, zero, suc, ◌≡◌, ◌≤◌, ◌<◌, ◌+◌, ◌*◌, ◌/◌, ◌%◌, ◌==◌, Bool, true, false, not, List, [], ◌∷◌, ◌++◌, length, map, take, Option, Some, None, inl, inr, refl, sym, ◌∙◌, ap, arith}
use Rattle.std.specs.Prelude.{flat_map}
use Rattle.std.specs.Int.RustNames.{bit_and}
use Rattle.std.specs.List.{AllByRecursion as Each}
use Rattle.std.specs.Option.{option_map_or}
use Rattle.std.proofs.lemmas.Bool.{cases_Bool}
use Rattle.std.proofs.lemmas.List.{take_all}
use Rattle.std.proofs.lemmas.Nat.Bits.{and_pow}
use Rattle.nm_types.specs.Frames.{Frame}
use Rattle.nm_types.specs.Parts.{HeldPart, slots_of_length, parts_of, told_parts, cut_frame, cut_frames}
use Rattle.nm_types.specs.Slots.{SlotState, goes_on, part_flags, with_slot_bytes, joined_frames}
use Rattle.nm_types.specs.OwnPorts.{Arrival}
use Rattle.nm_types.specs.OwnSyncs.{published}
use Rattle.nm_types.proofs.PartLemmas.{slots-some, length-parts}
use Rattle.nm_types.proofs.JoinedFrames.{joined-ended, joined-goes_on}
use Rattle.nm_port.specs.Gathered.{gathered, goes_on_behind}
use Rattle.nm_port.proofs.Gathering.{gathered-joined}
use Rattle.vale_line.specs.declared.got.Got.{Got}
use Rattle.vale_line.specs.Gots.{frames_behind, held_parts, is_last, part_in}
use Rattle.vale_line.proofs.CutLemmas.{cut-tells}
use Rattle.nm_user.specs.Saving.{bytes_of_frame}

-- a part behind which others follow is marked as going on, and the last one is not
marked-on : (rest : ℕ) → bit_and (32 + 256 * rest) 32 ≡ 32
marked-on rest =
    let bit : (32 + 256 * rest) / 32 % 2 ≡ 1 = omega arith in
    and_pow (32 + 256 * rest) 5 ∙ ap (λ (b : ℕ). b * 32) bit

goes-by-rest : (a : Arrival) → goes_on (published a) ≡ not (a.rest == 0)
goes-by-rest a = elim (cases_Bool (a.rest == 0)) [
  | inl e ↦ rw e refl
  | inr e ↦ rw e (ap (λ (n : ℕ). n == 32) (marked-on a.rest))
]

abbrev pub part_in_arrival : Arrival → HeldPart
part_in_arrival a = record { bytes = a.bytes; rest = a.rest }

-- a part in a buffer
abbrev got-of : Arrival → Got
got-of a = record { buf = record { region = 0; index = a.buffer; bytes = a.bytes }; len = length a.bytes; rest = a.rest }

-- whether a frame goes on behind parts
abbrev opens : Bool → List HeldPart → Bool
opens begun [] = begun
opens begun (part ∷ parts) = opens (not (part.rest == 0)) parts

opens-told : (begun : Bool) (part : List ℕ) (parts : List (List ℕ)) (more : List HeldPart) → opens begun (told_parts (part ∷ parts) ++ more) ≡ opens false more
opens-told begun part [] more = refl
opens-told begun part (next ∷ parts) more = opens-told (not (suc (length parts) == 0)) next parts more

opens-frame : (begun : Bool) (parts : List (List ℕ)) (more : List HeldPart) → 1 ≤ length parts → opens begun (told_parts parts ++ more) ≡ opens false more
opens-frame begun [] more some = absurd (omega (arith, some))
opens-frame begun (part ∷ parts) more some = opens-told begun part parts more

opens-none : (frames : List (List ℕ)) → opens false (cut_frames frames) ≡ false
opens-none [] = refl
opens-none (f ∷ fs) =
    let count = length-parts (slots_of_length (length f)) f in
    let some = slots-some (length f) in
    opens-frame false (parts_of f) (cut_frames fs) (omega (arith, count, some)) ∙ opens-none fs

goes-behind : (begun : Bool) (came : List Arrival) → goes_on_behind begun (map published came) ≡ opens begun (map part_in_arrival came)
goes-behind begun [] = refl
goes-behind begun (a ∷ came) = ap (λ (b : Bool). goes_on_behind b (map published came)) (goes-by-rest a) ∙ goes-behind (not (a.rest == 0)) came

-- parts that stand in buffers are joined as they are in received ones
abbrev pub Holds : (ℕ → List ℕ) → Arrival → Type 0
Holds bytes_of a = take (length a.bytes) (bytes_of a.buffer) ≡ a.bytes

abbrev begun-bytes : Option Frame → List ℕ
begun-bytes begun = option_map_or bytes_of_frame begun []

more-bytes : (bytes_of : ℕ → List ℕ) (begun : Option Frame) (a : Arrival) → Holds bytes_of a → (with_slot_bytes bytes_of begun (published a)).bytes ≡ begun-bytes begun ++ a.bytes
more-bytes bytes_of None a holds = holds
more-bytes bytes_of (Some f) a holds = ap (λ (b : List ℕ). f.bytes ++ b) holds

-- the frames behind a received buffer
behind-ended : (begun : List ℕ) (got : Got) (gots : List Got) → is_last got ≡ true → frames_behind begun (got ∷ gots) ≡ (begun ++ part_in got) ∷ frames_behind [] gots
behind-ended begun got gots e = rw e refl

behind-goes_on : (begun : List ℕ) (got : Got) (gots : List Got) → is_last got ≡ false → frames_behind begun (got ∷ gots) ≡ frames_behind (begun ++ part_in got) gots
behind-goes_on begun got gots e = rw e refl

joined-bytes : (bytes_of : ℕ → List ℕ) (begun : Option Frame) (came : List Arrival) → Each (Holds bytes_of) came
    → map bytes_of_frame (joined_frames bytes_of begun (map published came)) ≡ frames_behind (begun-bytes begun) (map got-of came)
joined-bytes bytes_of begun [] all = refl
joined-bytes bytes_of begun (a ∷ came) all = elim (cases_Bool (a.rest == 0)) [
  | inl last ↦
      let ends : goes_on (published a) ≡ false = goes-by-rest a ∙ ap not last in
      ap (map bytes_of_frame) (joined-ended bytes_of begun (published a) (map published came) ends)
      ∙ (ap (λ (b : List ℕ). b ∷ map bytes_of_frame (joined_frames bytes_of None (map published came))) here
      ∙ (ap (λ (bs : List (List ℕ)). (begun-bytes begun ++ part_in (got-of a)) ∷ bs) (joined-bytes bytes_of None came all.1) ∙ sym (behind-ended (begun-bytes begun) (got-of a) (map got-of came) last)))
  | inr goes ↦
      let on : goes_on (published a) ≡ true = goes-by-rest a ∙ ap not goes in
      ap (map bytes_of_frame) (joined-goes_on bytes_of begun (published a) (map published came) on)
      ∙ (joined-bytes bytes_of (Some (with_slot_bytes bytes_of begun (published a))) came all.1
      ∙ (ap (λ (b : List ℕ). frames_behind b (map got-of came)) here ∙ sym (behind-goes_on (begun-bytes begun) (got-of a) (map got-of came) goes)))
]
  where
    here : (with_slot_bytes bytes_of begun (published a)).bytes ≡ begun-bytes begun ++ part_in (got-of a)
    here = more-bytes bytes_of begun a all.0 ∙ ap (λ (b : List ℕ). begun-bytes begun ++ b) (sym (take_all (length a.bytes) a.bytes (omega arith)))

held-of : (came : List Arrival) → held_parts (map got-of came) ≡ map part_in_arrival came
held-of [] = refl
held-of (a ∷ came) =
    ap (λ (b : List ℕ). (let part : HeldPart = record { bytes = b; rest = a.rest } in part) ∷ held_parts (map got-of came)) (take_all (length a.bytes) a.bytes (omega arith))
    ∙ ap (λ (parts : List HeldPart). part_in_arrival a ∷ parts) (held-of came)

-- frames that were cut are whole again
pub joined-again : (bytes_of : ℕ → List ℕ) (came : List Arrival) (frames : List (List ℕ)) → Each (Holds bytes_of) came → map part_in_arrival came ≡ cut_frames frames
    → map bytes_of_frame (gathered bytes_of [] false (map published came)) ≡ frames
joined-again bytes_of came frames all cut =
    let ends : goes_on_behind false (map published came) ≡ false = goes-behind false came ∙ (ap (opens false) cut ∙ opens-none frames) in
    ap (map bytes_of_frame) (gathered-joined bytes_of [] None (map published came) ends)
    ∙ (joined-bytes bytes_of None came all ∙ (cut-tells frames (map got-of came) (held-of came ∙ cut)).are)
