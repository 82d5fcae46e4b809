-- The frames of a put, one by one.
use Rattle.std.proofs.Common.{ℕ, zero, suc, true, ◌==◌, ◌≡◌, ◌+◌, ◌<◌, List, [], ◌∷◌, ◌++◌, length, map, take, get_or, refl, sym, ◌∙◌, ap, arith}
use Rattle.std.specs.Prelude.{All}
use Rattle.std.specs.List.{AllByRecursion as Each}
use Rattle.std.proofs.lemmas.Bool.{eq-eqb}
use Rattle.std.proofs.lemmas.List.Elements.{recursion_from_All}
use Rattle.std.proofs.lemmas.List.Sums.{sum_by-cons}
use Rattle.nm_types.specs.Frames.{Frame}
use Rattle.nm_region.specs.Buffers.{indices_of}
use Rattle.vale_line.specs.declared.got.Got.{Got}
use Rattle.vale_line.specs.Gots.{buffers_of, frames_in, part_in, IsSingle}
use Rattle.vale_entry.specs.declared.entry.Item.{Item}
use Rattle.vale_entry.specs.Pipe.{frames_of_items, frame_of_item}
use Rattle.vale_entry.specs.Pipe.{indices_of as item_indices}
use Rattle.vale_entry.proofs.ItemBytes.{bytes_of_items}
use Rattle.vale_entry.proofs.Each.{each-take}
use Rattle.vale_port.specs.Kept.{bytes_of}
use Rattle.vale_port.specs.Lists.{OfState}
use Rattle.vale_port.specs.Ports.{PortState}
use Rattle.vale_steps.specs.Putting.{item_of, items_of}

map-take : {X Y : Type 0} (f : X → Y) (xs : List X) (i : ℕ) (x : X) → i < length xs → x ≡ get_or xs i x → map f (take (i + 1) xs) ≡ map f (take i xs) ++ f x ∷ []
map-take f [] i x few e = absurd (omega (arith, few))
map-take f (y ∷ ys) zero x few e = ap (λ z. f z ∷ []) (sym e)
map-take f (y ∷ ys) (suc i) x few e =
    let next : suc i + 1 ≡ suc (i + 1) = omega arith in
    rw next (ap (λ zs. f y ∷ zs) (map-take f ys i x (omega (arith, few)) e))

pub items_more : (gots : List Got) (i : ℕ) (got : Got) → i < length gots → got ≡ get_or gots i got → items_of (take (i + 1) gots) ≡ items_of (take i gots) ++ item_of got ∷ []
items_more gots i got few e = map-take item_of gots i got few e

pub frames_more : (items : List Item) (i : ℕ) (item : Item) → i < length items → item ≡ get_or items i item → frames_of_items (take (i + 1) items) ≡ frames_of_items (take i items) ++ item.bytes ∷ []
frames_more items i item few e = map-take frame_of_item items i item few e

pub bytes_push : (items : List Item) (item : Item) → bytes_of_items (items ++ item ∷ []) ≡ bytes_of_items items + length item.bytes.bytes
bytes_push [] item = let one = sum_by-cons (λ (g : Frame). length g.bytes) item.bytes [] in omega (arith, one)
bytes_push (x ∷ xs) item =
    let one = sum_by-cons (λ (g : Frame). length g.bytes) x.bytes (frames_of_items xs) in
    let two = sum_by-cons (λ (g : Frame). length g.bytes) x.bytes (frames_of_items (xs ++ item ∷ [])) in
    let rest = bytes_push xs item in
    omega (arith, one, two, rest)

pub items-first : (n : ℕ) (gots : List Got) → take n (items_of gots) ≡ items_of (take n gots)
items-first zero gots = refl
items-first (suc n) [] = refl
items-first (suc n) (got ∷ gots) = ap (λ (items : List Item). item_of got ∷ items) (items-first n gots)

pub indices-items : (gots : List Got) → item_indices (items_of gots) ≡ indices_of (buffers_of gots)
indices-items [] = refl
indices-items (got ∷ gots) = ap (λ (ns : List ℕ). got.buf.index ∷ ns) (indices-items gots)

-- where each buffer has a frame
frames-each : (gots : List Got) → Each IsSingle gots → bytes_of (frames_of_items (items_of gots)) ≡ frames_in gots
frames-each [] all = refl
frames-each (got ∷ gots) all =
    let last : (got.rest == 0) ≡ true = eq-eqb got.rest 0 all.0 in
    rw last (ap (λ (fs : List (List ℕ)). part_in got ∷ fs) (frames-each gots all.1))

pub frames-items : (n : ℕ) (gots : List Got) → All IsSingle gots → bytes_of (frames_of_items (items_of (take n gots))) ≡ frames_in (take n gots)
frames-items n gots all = frames-each (take n gots) (each-take IsSingle n gots (recursion_from_All IsSingle gots all))

-- what two numbers are at the port of a place, each is
pub same-count : (ps : List PortState) (place : ℕ) (count : PortState → ℕ) (n m : ℕ) → place < length ps → OfState (λ (p : PortState). n ≡ count p) ps place → OfState (λ (p : PortState). m ≡ count p) ps place → n ≡ m
same-count [] place count n m within one two = absurd (omega (arith, within))
same-count (p ∷ ps) zero count n m within one two = one p refl ∙ sym (two p refl)
same-count (p ∷ ps) (suc place) count n m within one two = same-count ps place count n m (omega (arith, within)) one two

pub ruleset put_lists = (items_more, frames_more, bytes_push)
