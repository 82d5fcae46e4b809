-- A batch's frames lie side by side, and stay where they are while its bytes grow.
use Rattle.std.proofs.Common.{ℕ, zero, suc, List, [], ◌∷◌, ◌++◌, ◌≡◌, ◌<◌, ◌≤◌, ◌+◌, ◌-◌, ◌∙◌, Bool, true, false, Some, length, take, drop, slice_get, slice_set, refl, sym, ap, arith, slice_range}
use Rattle.std.specs.Prelude.{slice_index, slice_index_or}
use Rattle.std.proofs.lemmas.List.{length-append, length_push, take-append-le, drop-append-le, length-drop, length-take, take_all, length-set, get_or_past, get_or_push, get_or_append_left}
use Rattle.std.proofs.Math.Seq.{drop-append_seam}
use Rattle.std.proofs.lemmas.List.Sums.{sum_by-cons}
use Rattle.nm_types.specs.Frames.{Frame, bytes_of_frames, extended}
use Rattle.nm_types.specs.Ends.{frames_from, start_at, AreEnds, IsRun}

range_grows : (b more : List ℕ) (s e : ℕ) → s ≤ e → e ≤ length b → slice_range (b ++ more) s e ≡ slice_range b s e
range_grows b more s e h k =
    let fits : s ≤ length b = omega arith in
    let room : e - s ≤ length (drop s b) = simp length-drop (omega arith) in
    rw (drop-append-le s b more fits, take-append-le (e - s) (drop s b) more room)

-- the bytes that were pushed last are the range from the old end to the new one
range_pushed : (b more : List ℕ) → slice_range (b ++ more) (length b) (length b + length more) ≡ more
range_pushed b more =
    let size : length b + length more - length b ≡ length more = omega arith in
    let all : take (length more) more ≡ more = take_all (length more) more (omega arith) in
    rw (drop-append_seam b more, size, all)

-- what the marks say behind the first one
next_mark : (marks : List Bool) (i : ℕ) → slice_index_or (drop 1 marks) i false ≡ slice_index_or marks (suc i) false
next_mark [] i = refl
next_mark (m ∷ marks) i = refl

abbrev pub framed : List ℕ → Bool → Frame
framed bytes mark = record { bytes = bytes; no_learn = mark }

both_same : {f g : Frame} {fs gs : List Frame} → f ≡ g → fs ≡ gs → f ∷ fs ≡ g ∷ gs
both_same {f} {g} {fs} {gs} e h = ap (λ (x : Frame). x ∷ fs) e ∙ ap (λ (xs : List Frame). g ∷ xs) h

pub frames_long : (b ends : List ℕ) (marks : List Bool) (s : ℕ) → length (frames_from b ends marks s) ≡ length ends
frames_long b [] marks s = refl
frames_long b (e ∷ ends) marks s = ap suc (frames_long b ends (drop 1 marks) e)

-- ends are between the first start and the size
pub start_within : (s size : ℕ) (ends : List ℕ) (i : ℕ) → AreEnds s size ends → start_at s ends i ≤ size
start_within s size [] zero a = let same : s ≡ size = a in omega (arith, same)
start_within s size [] (suc i) a = let same : s ≡ size = a in omega (arith, same)
start_within s size (e ∷ ends) zero a = let rest = start_within e size ends zero a.1 in omega (arith, a.0, rest)
start_within s size (e ∷ ends) (suc i) a = start_within e size ends i a.1

pub start_is : (s : ℕ) (ends : List ℕ) (i : ℕ) → i < length ends → start_at s ends (suc i) ≡ slice_index ends i
start_is s [] i h = absurd (omega arith)
start_is s (e ∷ ends) zero h = refl
start_is s (e ∷ ends) (suc i) h = start_is e ends i (omega arith)

-- a frame does not end before it begins, nor behind the last byte
pub in_order : (s size : ℕ) (ends : List ℕ) (i : ℕ) → AreEnds s size ends → i < length ends → (start_at s ends i ≤ slice_index ends i) × (slice_index ends i ≤ size)
in_order s size [] i a h = absurd (omega arith)
in_order s size (e ∷ ends) zero a h = (a.0, start_within e size ends zero a.1)
in_order s size (e ∷ ends) (suc i) a h = in_order e size ends i a.1 (omega arith)

-- the frames have all bytes behind the first start
pub frames_size : (b ends : List ℕ) (marks : List Bool) (s : ℕ) → AreEnds s (length b) ends → s + bytes_of_frames (frames_from b ends marks s) ≡ length b
frames_size b [] marks s a = let same : s ≡ length b = a in omega (arith, same)
frames_size b (e ∷ ends) marks s a =
    let within = start_within e (length b) ends zero a.1 in
    let room : length (drop s b) ≡ length b - s = length-drop s b in
    let first : length (slice_range b s e) ≡ e - s = simp length-take (omega (arith, room, within, a.0)) in
    let rest = frames_size b ends (drop 1 marks) e a.1 in
    let sum = sum_by-cons (λ (g : Frame). length g.bytes) (framed (slice_range b s e) (slice_index_or marks 0 false)) (frames_from b ends (drop 1 marks) e) in
    omega (arith, first, rest, sum, within, a.0)

-- the frame at a place
pub frame_there : (b ends : List ℕ) (marks : List Bool) (s i : ℕ) → i < length ends
    → slice_get (frames_from b ends marks s) i ≡ Some (framed (slice_range b (start_at s ends i) (slice_index ends i)) (slice_index_or marks i false))
frame_there b [] marks s i h = absurd (omega arith)
frame_there b (e ∷ ends) marks s zero h = refl
frame_there b (e ∷ ends) marks s (suc i) h =
    frame_there b ends (drop 1 marks) e i (omega arith)
    ∙ ap (λ (m : Bool). Some (framed (slice_range b (start_at e ends i) (slice_index ends i)) m)) (next_mark marks i)

-- marks that say the same of each frame
pub frames_marked : (b ends : List ℕ) (marks now : List Bool) (s : ℕ) → ((i : ℕ) → slice_index_or now i false ≡ slice_index_or marks i false)
    → frames_from b ends now s ≡ frames_from b ends marks s
frames_marked b [] marks now s same = refl
frames_marked b (e ∷ ends) marks now s same =
    let first = ap (λ (m : Bool). framed (slice_range b s e) m) (same 0) in
    let rest = frames_marked b ends (drop 1 marks) (drop 1 now) e (λ i. next_mark now i ∙ (same (suc i) ∙ sym (next_mark marks i))) in
    both_same first rest

-- a frame behind the others, and what is said of it
pub frames_more : (b more ends : List ℕ) (marks now : List Bool) (mark : Bool) (s : ℕ) → AreEnds s (length b) ends
    → ((i : ℕ) → i < length ends → slice_index_or now i false ≡ slice_index_or marks i false) → slice_index_or now (length ends) false ≡ mark
    → frames_from (b ++ more) (ends ++ (length b + length more) ∷ []) now s ≡ frames_from b ends marks s ++ framed more mark ∷ []
frames_more b more [] marks now mark s a same last =
    let start : s ≡ length b = a in
    rw (start, last, range_pushed b more) refl
frames_more b more (e ∷ ends) marks now mark s a same last =
    let within = start_within e (length b) ends zero a.1 in
    let bytes = range_grows b more s e a.0 within in
    let first : framed (slice_range (b ++ more) s e) (slice_index_or now 0 false) ≡ framed (slice_range b s e) (slice_index_or marks 0 false) =
    ap (λ (x : List ℕ). framed x (slice_index_or now 0 false)) bytes ∙ ap (λ (m : Bool). framed (slice_range b s e) m) (same 0 (omega arith)) in
    let rest = frames_more b more ends (drop 1 marks) (drop 1 now) mark e a.1
    (λ i h. next_mark now i ∙ (same (suc i) (omega (arith, h)) ∙ sym (next_mark marks i))) (next_mark now (length ends) ∙ last) in
    both_same first rest

pub ends_more : (s : ℕ) (b more ends : List ℕ) → AreEnds s (length b) ends → AreEnds s (length b + length more) (ends ++ (length b + length more) ∷ [])
ends_more s b more [] a = let start : s ≡ length b = a in (omega (arith, start), refl)
ends_more s b more (e ∷ ends) a = (a.0, ends_more e b more ends a.1)

-- behind the marks no frame is marked
pub mark_last : (marks : List Bool) (n : ℕ) → length marks ≤ n → slice_index_or marks n false ≡ false
mark_last marks n h = get_or_past marks n false h

-- a frame that is pushed, not marked or marked
pub record Pushed (b more ends : List ℕ) (marks now : List Bool) (mark : Bool) : Type 0 where
  pub frames : frames_from (b ++ more) (ends ++ (length b + length more) ∷ []) now 0 ≡ frames_from b ends marks 0 ++ framed more mark ∷ []
  pub is : IsRun (b ++ more) (ends ++ (length b + length more) ∷ []) now

ends_run : (b more ends : List ℕ) → AreEnds 0 (length b) ends → AreEnds 0 (length (b ++ more)) (ends ++ (length b + length more) ∷ [])
ends_run b more ends cut = rw (length-append b more) (ends_more 0 b more ends cut)

pub pushed_plain : (b more ends : List ℕ) (marks : List Bool) → IsRun b ends marks → Pushed b more ends marks marks false
pushed_plain b more ends marks is = record {
  frames = frames_more b more ends marks marks false 0 is.cut (λ i h. refl) (mark_last marks (length ends) is.few);
  is = record { cut = ends_run b more ends is.cut; few = omega (arith, is.few, length_push ends (length b + length more)) };
}

-- the marks that were padded say the same, up to a last one that is added
pub pushed_marked : (b more ends : List ℕ) (marks padded : List Bool) → IsRun b ends marks
    → ((i : ℕ) → slice_index_or padded i false ≡ slice_index_or marks i false) → length padded ≡ length ends → Pushed b more ends marks (padded ++ true ∷ []) true
pushed_marked b more ends marks padded is same count = record {
  frames = frames_more b more ends marks (padded ++ true ∷ []) true 0 is.cut
      (λ i h. get_or_append_left padded (true ∷ []) false i (omega (arith, h, count)) ∙ same i)
      (get_or_push padded true false (length ends) count);
  is = record { cut = ends_run b more ends is.cut; few = omega (arith, count, length_push ends (length b + length more), length_push padded true) };
}

-- the last frame, once bytes stand behind its own
range_extended : (b more : List ℕ) (s : ℕ) → s ≤ length b → slice_range (b ++ more) s (length b + length more) ≡ slice_range b s (length b) ++ more
range_extended b more s h =
    let behind : drop s (b ++ more) ≡ drop s b ++ more = drop-append-le s b more h in
    let size : length (drop s b) ≡ length b - s = length-drop s b in
    let all : take (length b + length more - s) (drop s b ++ more) ≡ drop s b ++ more = take_all (length b + length more - s) (drop s b ++ more) (omega (arith, size, length-append (drop s b) more, h)) in
    let own : take (length b - s) (drop s b) ≡ drop s b = take_all (length b - s) (drop s b) (omega (arith, size)) in
    rw (behind, all, own) refl

pub frames_extended : (b more ends : List ℕ) (marks : List Bool) (s i : ℕ) → AreEnds s (length b) ends → i + 1 ≡ length ends
    → frames_from (b ++ more) (slice_set ends i (length b + length more)) marks s ≡ extended more (frames_from b ends marks s)
frames_extended b more [] marks s i a h = absurd (omega (arith, h))
frames_extended b more (e ∷ []) marks s zero a h =
    let end : e ≡ length b = a.1 in
    let start : s ≤ length b = omega (arith, a.0, end) in
    rw (end, range_extended b more s start) refl
frames_extended b more (e ∷ []) marks s (suc i) a h = absurd (omega (arith, h))
frames_extended b more (e ∷ next ∷ ends) marks s zero a h = absurd (omega (arith, h))
frames_extended b more (e ∷ next ∷ ends) marks s (suc i) a h =
    let within = start_within e (length b) (next ∷ ends) zero a.1 in
    let first : framed (slice_range (b ++ more) s e) (slice_index_or marks 0 false) ≡ framed (slice_range b s e) (slice_index_or marks 0 false) =
    ap (λ (x : List ℕ). framed x (slice_index_or marks 0 false)) (range_grows b more s e a.0 within) in
    both_same first (frames_extended b more (next ∷ ends) (drop 1 marks) e i a.1 (omega (arith, h)))

ends_extended : (s size now : ℕ) (ends : List ℕ) (i : ℕ) → size ≤ now → AreEnds s size ends → i + 1 ≡ length ends → AreEnds s now (slice_set ends i now)
ends_extended s size now [] i more a h = absurd (omega (arith, h))
ends_extended s size now (e ∷ []) zero more a h = let end : e ≡ size = a.1 in (omega (arith, a.0, end, more), refl)
ends_extended s size now (e ∷ []) (suc i) more a h = absurd (omega (arith, h))
ends_extended s size now (e ∷ next ∷ ends) zero more a h = absurd (omega (arith, h))
ends_extended s size now (e ∷ next ∷ ends) (suc i) more a h = (a.0, ends_extended e size now (next ∷ ends) i more a.1 (omega (arith, h)))

pub run_extended : (b more ends : List ℕ) (marks : List Bool) (i : ℕ) → IsRun b ends marks → i + 1 ≡ length ends → IsRun (b ++ more) (slice_set ends i (length b + length more)) marks
run_extended b more ends marks i is h = record {
  cut = rw (length-append b more) (ends_extended 0 (length b) (length b + length more) ends i (omega arith) is.cut h);
  few = omega (arith, is.few, length-set ends i (length b + length more));
}
