-- A lease once one frame more is filled into its buffers.
use Rattle.std.proofs.Common.{suc, ◌≡◌, ◌+◌, ◌-◌, ◌<◌, ◌≤◌, ◌++◌, ◌∷◌, [], ℕ, List, length, take, drop, get_or, ap, refl, sym, ◌∙◌, subst, arith}
use Rattle.std.specs.Prelude.{sum}
use Rattle.std.specs.declared.vec.Vec.{Vec}
use Rattle.std.specs.declared.alloc.Global.{Global}
use Rattle.std.proofs.lemmas.List.{length-append, length-drop, length-map, drop-drop}
use Rattle.nm_types.specs.Limits.{most_ring}
use Rattle.nm_region.specs.Buffers.{Buffer}
use Rattle.nm_frag.specs.Parts.{slots_of_length, parts_of}
use Rattle.nm_frag.proofs.PartLemmas.{slots-some}
use Rattle.vale_line.specs.declared.got.Got.{Got}
use Rattle.vale_line.specs.declared.lease.Lease.TheInside.{Inside}
use Rattle.vale_line.specs.Gots.{buffer_of, buffers_of, frames_in, gots_with, written_parts, IsCut}
use Rattle.vale_line.specs.Leased.{Leased, first_size, sizes_in, with_frame}
use Rattle.vale_line.specs.Stored.{lease_state, IsStoredLease}
use Rattle.vale_line.proofs.FrameLemmas.{HoldWholeFrames, frames_in-append, frames_in-with}
use Rattle.vale_line.proofs.CutLemmas.{cut-whole, cut-append, cut-with}
use Rattle.vale_line.proofs.Filling.{filled-in, drop-buffers, sizes-first, get-drop}
use Rattle.vale_line.proofs.FittingLemmas.{sum-cons}

-- the slots of the next frame, which its buffers have
pub record Next (gots : List Got) (filled n : ℕ) : Type 0 where
  pub there : filled < length gots
  pub size : (d : Got) → suc (get_or gots filled d).rest ≡ n
  pub left : sizes_in (drop filled gots) ≡ n ∷ sizes_in (drop (filled + n) gots)
  pub sum : sum (sizes_in (drop filled gots)) ≡ n + sum (sizes_in (drop (filled + n) gots))
  pub room : filled + n ≤ length gots

pub next-fits : (gots : List Got) (filled n : ℕ) → n ≡ first_size (sizes_in (drop filled gots)) → 1 ≤ n → filled ≤ length gots
    → sum (sizes_in (drop filled gots)) ≡ length gots - filled → Next gots filled n
next-fits gots filled n is some within room =
    let first = sizes-first (drop filled gots) n is some in
    let behind = length-drop filled gots in
    let there = first.0 in
    let left : sizes_in (drop filled gots) ≡ n ∷ sizes_in (drop (filled + n) gots) = first.2 ∙ ap (λ (gs : List Got). n ∷ sizes_in gs) (drop-drop n filled gots) in
    let all : sum (sizes_in (drop filled gots)) ≡ n + sum (sizes_in (drop (filled + n) gots)) = ap sum left ∙ sum-cons n (sizes_in (drop (filled + n) gots)) in
    record {
      there = omega (arith, there, behind);
      size = λ d. ap (λ (g : Got). suc g.rest) (sym (get-drop gots filled d)) ∙ first.1 d;
      left = left;
      sum = all;
      room = omega (arith, all, room, within);
    }

frames-more : (front : List Got) (bytes : List ℕ) (bufs : List Buffer) → HoldWholeFrames front → slots_of_length (length bytes) ≤ length bufs
    → frames_in (front ++ gots_with bytes bufs) ≡ frames_in front ++ bytes ∷ []
frames-more front bytes bufs whole room =
    frames_in-append front (gots_with bytes bufs) whole ∙ ap (λ (fs : List (List ℕ)). frames_in front ++ fs) (frames_in-with bytes bufs room)

-- a lease of which so many buffers are filled then, and one frame more
pub record HasFrame (l : Inside) (new : List Got) (n : ℕ) (bytes : List ℕ) : Type 0 where
  pub within : l.filled + n ≤ length new
  pub few : length new ≤ most_ring
  pub count : length (frames_in (take (l.filled + n) new)) ≡ l.frames + 1
  pub total : l.count ≡ l.frames + 1 + length (sizes_in (drop (l.filled + n) new))
  pub cut : IsCut (take (l.filled + n) new)
  pub room : sum (sizes_in (drop (l.filled + n) new)) ≡ length new - (l.filled + n)
  pub filled : take (l.filled + n) new ≡ (lease_state l).filled ++ gots_with bytes (lease_state l).empty
  pub left : sizes_in (drop (l.filled + n) new) ≡ drop 1 (lease_state l).sizes
  pub empty : buffers_of (drop (l.filled + n) new) ≡ drop (slots_of_length (length bytes)) (lease_state l).empty
  pub contents : frames_in (take (l.filled + n) new) ≡ frames_in (lease_state l).filled ++ bytes ∷ []
  pub size : length new ≡ length l.gots.items

pub has-frame : (l : Inside) (new : List Got) (n : ℕ) (bytes : List ℕ) → IsStoredLease l → n ≡ slots_of_length (length bytes) → slots_of_length (length bytes) ≡ first_size (sizes_in (drop l.filled l.gots.items))
    → new ≡ take l.filled l.gots.items ++ written_parts (parts_of bytes) (drop l.filled l.gots.items) → HasFrame l new n bytes
has-frame l new n bytes stored size is written =
    let gots = l.gots.items in
    let slots = slots_of_length (length bytes) in
    let front = take l.filled gots in
    let bufs = buffers_of (drop l.filled gots) in
    let next = next-fits gots l.filled slots is (slots-some (length bytes)) stored.within stored.room in
    let all = filled-in gots new l.filled bytes written next.room in
    let fewer = length-map (drop l.filled gots) buffer_of in
    let behind = length-drop l.filled gots in
    let sum_is = next.sum in
    let fits = next.room in
    let same = all.size in
    let before = stored.room in
    let within = stored.within in
    let few = stored.few in
    let room : slots ≤ length bufs = omega (arith, fewer, behind, fits) in
    let filled : take (l.filled + n) new ≡ front ++ gots_with bytes bufs = ap (λ (k : ℕ). take (l.filled + k) new) size ∙ all.filled in
    let contents = ap frames_in filled ∙ frames-more front bytes bufs (cut-whole front stored.cut) room in
    let more = length-append (frames_in front) (bytes ∷ []) in
    let frames = stored.frames in
    let same_rest : drop (l.filled + n) new ≡ drop (l.filled + slots) gots = ap (λ (k : ℕ). drop (l.filled + k) new) size ∙ all.left in
    let sizes_are : sizes_in (drop (l.filled + n) new) ≡ sizes_in (drop (l.filled + slots) gots) = ap sizes_in same_rest in
    let sizes_sum = ap sum sizes_are in
    let sizes_count = ap length sizes_are in
    let counted = ap length next.left in
    let total = stored.count in
    let left : drop (l.filled + n) new ≡ drop slots (drop l.filled gots) = ap (λ (k : ℕ). drop (l.filled + k) new) size ∙ (all.left ∙ sym (drop-drop slots l.filled gots)) in
    record {
      within = omega (arith, size, fits, same);
      few = omega (arith, few, same);
      count = ap (λ (fs : List (List ℕ)). length fs) contents ∙ omega (arith, more, frames);
      total = omega (arith, total, counted, sizes_count);
      cut = subst IsCut (sym filled) (cut-append front (gots_with bytes bufs) stored.cut (cut-with bytes bufs room));
      room = omega (arith, sum_is, sizes_sum, before, same, size, within, fits);
      filled = filled;
      left = sizes_are ∙ sym (ap (λ (ns : List ℕ). drop 1 ns) next.left);
      empty = ap buffers_of left ∙ drop-buffers slots (drop l.filled gots);
      contents = contents;
      size = same;
    }

abbrev lease_of : Inside → List Got → ℕ → Leased
lease_of l new n = record { id = l.id.0; to = l.to.0; filled = take (l.filled + n) new; sizes = sizes_in (drop (l.filled + n) new); empty = buffers_of (drop (l.filled + n) new) }

-- the lease that is seen then
pub seen-with : (l : Inside) (new : List Got) (n : ℕ) (bytes : List ℕ) → HasFrame l new n bytes → lease_of l new n ≡ with_frame bytes (lease_state l)
seen-with l new n bytes f = rw (f.filled, f.left, f.empty) refl

-- and what holds of its fields
pub still-stored : (l : Inside) (gots : Vec Got Global) (n : ℕ) (bytes : List ℕ) → HasFrame l gots.items n bytes → IsStoredLease (record l { gots = gots; filled = l.filled + n; frames = l.frames + 1 })
still-stored l gots n bytes f = record { within = f.within; few = f.few; frames = f.count; count = f.total; cut = f.cut; room = f.room }
