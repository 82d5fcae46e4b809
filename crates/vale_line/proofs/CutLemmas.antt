-- Buffers in which frames lie, each cut as frames are.
use Rattle.std.proofs.Common.{ℕ, suc, zero, true, false, ◌≡◌, ◌+◌, ◌<◌, ◌≤◌, List, [], ◌∷◌, ◌++◌, length, take, drop, map, get_or, slice_set, refl, sym, ◌∙◌, ap, arith}
use Rattle.std.specs.Prelude.{All}
use Rattle.std.specs.List.{concat}
use Rattle.std.proofs.lemmas.Bool.{ne_eqb, eq-eqb}
use Rattle.std.proofs.lemmas.List.{append-nil, append_assoc, map-append}
use Rattle.std.proofs.lemmas.List.Elements.{All-head, All-tail}
use Rattle.nm_region.specs.Buffers.{Buffer}
use Rattle.nm_frag.specs.Parts.{slots_of_length, slots_of_bytes, parts_of, HeldPart, told_parts, cut_frame, cut_frames}
use Rattle.nm_frag.proofs.PartLemmas.{length-parts, parts_are_frame, told-one}
use Rattle.vale_line.specs.declared.got.Got.{Got}
use Rattle.vale_line.specs.Gots.{got_of, part_in, is_last, frames_behind, frames_in, gots_of_parts, gots_with, written_parts, copied_parts, joined_parts, held_part, held_parts, IsCut, IsSingle, FitsPart}
use Rattle.vale_line.specs.Leased.{sizes_behind, sizes_in}
use Rattle.vale_line.proofs.FrameLemmas.{begun_behind, HoldWholeFrames, frames_in-append, frames_in-with, part_in-got_of, parts-some}
use Rattle.vale_line.proofs.Filling.{sizes-skip}

pub held-append : (a b : List Got) → held_parts (a ++ b) ≡ held_parts a ++ held_parts b
held-append a b = map-append held_part a b

pub cut_frames-append : (fs gs : List (List ℕ)) → cut_frames (fs ++ gs) ≡ cut_frames fs ++ cut_frames gs
cut_frames-append [] gs = refl
cut_frames-append (f ∷ fs) gs =
    ap (λ (rest : List HeldPart). cut_frame f ++ rest) (cut_frames-append fs gs) ∙ sym (append_assoc (cut_frame f) (cut_frames fs) (cut_frames gs))

abbrev told : List ℕ → ℕ → HeldPart
told bytes rest = record { bytes = bytes; rest = rest }

-- buffers that tell the parts of a frame first: they hold it, and what they tell behind it is left
pub record Tells (begun : List ℕ) (parts : List (List ℕ)) (more : List HeldPart) (gots : List Got) : Type 0 where
  pub frames : frames_behind begun gots ≡ (begun ++ concat parts) ∷ frames_in (drop (length parts) gots)
  pub behind : begun_behind begun gots ≡ begun_behind [] (drop (length parts) gots)
  pub left : held_parts (drop (length parts) gots) ≡ more
  pub first : held_parts (take (length parts) gots) ≡ told_parts parts
  pub joined : joined_parts (take (length parts) gots) ≡ concat parts
  pub sizes : sizes_in gots ≡ length parts ∷ sizes_in (drop (length parts) gots)

-- what the first buffer tells
record TellsFirst (p : List ℕ) (rest : ℕ) (more : List HeldPart) (g : Got) (gs : List Got) : Type 0 where
  bytes : part_in g ≡ p
  rest_is : g.rest ≡ rest
  behind : held_parts gs ≡ more

tells_first : (p : List ℕ) (rest : ℕ) (more : List HeldPart) (g : Got) (gs : List Got) → held_parts (g ∷ gs) ≡ told p rest ∷ more → TellsFirst p rest more g gs
tells_first p rest more g gs is =
    let head : held_part g ≡ told p rest = cc in
    record {
      bytes = ap (λ (h : HeldPart). h.bytes) head;
      rest_is = ap (λ (h : HeldPart). h.rest) head;
      behind = cc;
    }

pub tells : (begun : List ℕ) (parts : List (List ℕ)) (more : List HeldPart) (gots : List Got) → 1 ≤ length parts → held_parts gots ≡ told_parts parts ++ more → Tells begun parts more gots
tells begun [] more gots some is = absurd (omega (arith, some))
tells begun (p ∷ ps) more [] some is = absurd (let wrong : [] ≡ told p (length ps) ∷ (told_parts ps ++ more) = is in cc)
tells begun (p ∷ []) more (g ∷ gs) some is =
    let t = tells_first p 0 more g gs is in
    let last : is_last g ≡ true = eq-eqb g.rest 0 t.rest_is in
    let here : held_part g ≡ told p 0 = rw (t.bytes, t.rest_is) refl in
    record {
      frames = rw last (ap (λ (part : List ℕ). (begun ++ part) ∷ frames_in gs) (t.bytes ∙ sym (append-nil p)));
      behind = rw last refl;
      left = t.behind;
      first = ap (λ (h : HeldPart). h ∷ []) here;
      joined = ap (λ (part : List ℕ). part ++ []) t.bytes;
      sizes = ap (λ (n : ℕ). suc n ∷ sizes_behind gs n) t.rest_is;
    }
tells begun (p ∷ q ∷ ps) more (g ∷ gs) some is =
    let t = tells_first p (length (q ∷ ps)) (told_parts (q ∷ ps) ++ more) g gs is in
    let goes : is_last g ≡ false = ne_eqb g.rest 0 (λ e. (let same = t.rest_is in omega (arith, e, same))) in
    let rest = tells (begun ++ p) (q ∷ ps) more gs (omega arith) t.behind in
    let here : held_part g ≡ told p (length (q ∷ ps)) = rw (t.bytes, t.rest_is) refl in
    record {
      frames = rw (goes, t.bytes) (rest.frames ∙ ap (λ (f : List ℕ). f ∷ frames_in (drop (length (q ∷ ps)) gs)) (append_assoc begun p (concat (q ∷ ps))));
      behind = rw (goes, t.bytes) rest.behind;
      left = rest.left;
      first = ap (λ (h : HeldPart). h ∷ held_parts (take (length (q ∷ ps)) gs)) here ∙ ap (λ (hs : List HeldPart). told p (length (q ∷ ps)) ∷ hs) rest.first;
      joined = ap (λ (part : List ℕ). part ++ joined_parts (take (length (q ∷ ps)) gs)) t.bytes ∙ ap (λ (bs : List ℕ). p ++ bs) rest.joined;
      sizes = ap (λ (n : ℕ). suc n ∷ sizes_behind gs n) t.rest_is ∙ ap (λ (ns : List ℕ). suc (length (q ∷ ps)) ∷ ns) (sizes-skip gs (length (q ∷ ps)));
    }

-- buffers that tell a frame first, and then others
pub record TellsFrame (f : List ℕ) (fs : List (List ℕ)) (gots : List Got) : Type 0 where
  pub first : held_parts (take (slots_of_bytes f) gots) ≡ cut_frame f
  pub joined : joined_parts (take (slots_of_bytes f) gots) ≡ f
  pub left : held_parts (drop (slots_of_bytes f) gots) ≡ cut_frames fs

pub tells-frame : (f : List ℕ) (fs : List (List ℕ)) (gots : List Got) → held_parts gots ≡ cut_frame f ++ cut_frames fs → TellsFrame f fs gots
tells-frame f fs gots is =
    let t = tells [] (parts_of f) (cut_frames fs) gots (parts-some f) is in
    let count : length (parts_of f) ≡ slots_of_bytes f = length-parts (slots_of_length (length f)) f in
    record {
      first = ap (λ (n : ℕ). held_parts (take n gots)) (sym count) ∙ t.first;
      joined = ap (λ (n : ℕ). joined_parts (take n gots)) (sym count) ∙ (t.joined ∙ parts_are_frame f);
      left = ap (λ (n : ℕ). held_parts (drop n gots)) (sym count) ∙ t.left;
    }

-- the frames in buffers that are cut, and that there is nothing behind them
pub record CutTells (frames : List (List ℕ)) (gots : List Got) : Type 0 where
  pub are : frames_in gots ≡ frames
  pub whole : HoldWholeFrames gots
  pub sizes : sizes_in gots ≡ map slots_of_bytes frames

pub cut-tells : (frames : List (List ℕ)) (gots : List Got) → held_parts gots ≡ cut_frames frames → CutTells frames gots
cut-tells [] [] is = record { are = refl; whole = refl; sizes = refl }
cut-tells [] (g ∷ gs) is = absurd (let wrong : held_part g ∷ held_parts gs ≡ [] = is in cc)
cut-tells (f ∷ fs) gots is =
    let t = tells [] (parts_of f) (cut_frames fs) gots (parts-some f) is in
    let rest = cut-tells fs (drop (length (parts_of f)) gots) t.left in
    let count : length (parts_of f) ≡ slots_of_bytes f = length-parts (slots_of_length (length f)) f in
    record {
      are = t.frames ∙ (ap (λ (b : List ℕ). b ∷ frames_in (drop (length (parts_of f)) gots)) (parts_are_frame f) ∙ ap (λ (bs : List (List ℕ)). f ∷ bs) rest.are);
      whole = t.behind ∙ rest.whole;
      sizes = t.sizes ∙ (ap (λ (n : ℕ). n ∷ sizes_in (drop (length (parts_of f)) gots)) count ∙ ap (λ (ns : List ℕ). slots_of_bytes f ∷ ns) rest.sizes);
    }

-- buffers that are cut for some frames are cut for their own
pub cut-from : (frames : List (List ℕ)) (gots : List Got) → held_parts gots ≡ cut_frames frames → IsCut gots
cut-from frames gots is = is ∙ ap cut_frames (sym (cut-tells frames gots is).are)

pub cut-whole : (gots : List Got) → IsCut gots → HoldWholeFrames gots
cut-whole gots is = (cut-tells (frames_in gots) gots is).whole

pub cut-sizes : (gots : List Got) → IsCut gots → sizes_in gots ≡ map slots_of_bytes (frames_in gots)
cut-sizes gots is = (cut-tells (frames_in gots) gots is).sizes

pub cut-append : (a b : List Got) → IsCut a → IsCut b → IsCut (a ++ b)
cut-append a b first second =
    held-append a b
    ∙ (ap (λ (hs : List HeldPart). hs ++ held_parts b) first
    ∙ (ap (λ (hs : List HeldPart). cut_frames (frames_in a) ++ hs) second
    ∙ (sym (cut_frames-append (frames_in a) (frames_in b)) ∙ ap cut_frames (sym (frames_in-append a b (cut-whole a first))))))

held-parts : (parts : List (List ℕ)) (bufs : List Buffer) → length parts ≤ length bufs → held_parts (gots_of_parts parts bufs) ≡ told_parts parts
held-parts [] bufs room = refl
held-parts (p ∷ ps) [] room = absurd (omega (arith, room))
held-parts (p ∷ ps) (b ∷ bs) room =
    let here : held_part (got_of p (length ps) b) ≡ told p (length ps) = ap (λ (part : List ℕ). told part (length ps)) (part_in-got_of p (length ps) b) in
    ap (λ (h : HeldPart). h ∷ held_parts (gots_of_parts ps bs)) here ∙ ap (λ (hs : List HeldPart). told p (length ps) ∷ hs) (held-parts ps bs (omega (arith, room)))

-- a frame that was filled in
pub cut-with : (bytes : List ℕ) (bufs : List Buffer) → slots_of_length (length bytes) ≤ length bufs → IsCut (gots_with bytes bufs)
cut-with bytes bufs room =
    let count = length-parts (slots_of_length (length bytes)) bytes in
    held-parts (parts_of bytes) bufs (omega (arith, count, room))
    ∙ (sym (append-nil (cut_frame bytes)) ∙ ap cut_frames (sym (frames_in-with bytes bufs room)))

-- frames of one buffer each
pub cut-singles : (gots : List Got) → All IsSingle gots → All FitsPart gots → IsCut gots
cut-singles [] single fits = refl
cut-singles (got ∷ gots) single fits =
    let one : got.rest ≡ 0 = All-head IsSingle got gots single in
    let last : is_last got ≡ true = eq-eqb got.rest 0 one in
    let rest = cut-singles gots (All-tail IsSingle got gots single) (All-tail FitsPart got gots fits) in
    let cut = told-one (part_in got) (All-head FitsPart got gots fits) in
    let here : held_part got ≡ told (part_in got) 0 = ap (λ (n : ℕ). told (part_in got) n) one in
    rw last (ap (λ (h : HeldPart). h ∷ held_parts gots) here
    ∙ (ap (λ (hs : List HeldPart). told (part_in got) 0 ∷ hs) rest ∙ ap (λ (hs : List HeldPart). hs ++ cut_frames (frames_in gots)) (sym cut)))

-- the next part is copied into the next buffer
pub copied-more : (gots : List Got) (at : ℕ) (h : HeldPart) (hs : List HeldPart) (g : Got) → at < length gots → get_or gots at g ≡ g
    → take (at + 1) (slice_set gots at (got_of h.bytes h.rest g.buf)) ++ copied_parts hs (drop (at + 1) (slice_set gots at (got_of h.bytes h.rest g.buf)))
    ≡ take at gots ++ copied_parts (h ∷ hs) (drop at gots)
copied-more [] at h hs g within e = absurd (omega (arith, within))
copied-more (x ∷ xs) zero h hs g within e = ap (λ (y : Got). got_of h.bytes h.rest y.buf ∷ copied_parts hs xs) (sym e)
copied-more (x ∷ xs) (suc at) h hs g within e =
    let next : suc at + 1 ≡ suc (at + 1) = omega arith in
    rw next (ap (λ (ys : List Got). x ∷ ys) (copied-more xs at h hs g (omega (arith, within)) e))

-- what the buffers from a place on tell
pub held-from : (gots : List Got) (k : ℕ) (d : Got) → k < length gots → held_parts (drop k gots) ≡ held_part (get_or gots k d) ∷ held_parts (drop (k + 1) gots)
held-from [] k d within = absurd (omega (arith, within))
held-from (g ∷ gs) zero d within = refl
held-from (g ∷ gs) (suc k) d within = let next : suc k + 1 ≡ suc (k + 1) = omega arith in rw next (held-from gs k d (omega (arith, within)))

-- parts that are copied are the parts of the frame
pub copied-told : (parts : List (List ℕ)) (gots : List Got) → copied_parts (told_parts parts) gots ≡ written_parts parts gots
copied-told [] gots = refl
copied-told (p ∷ ps) [] = refl
copied-told (p ∷ ps) (g ∷ gs) = ap (λ (rest : List Got). got_of p (length ps) g.buf ∷ rest) (copied-told ps gs)
