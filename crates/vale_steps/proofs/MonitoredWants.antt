-- The want of a monitor stands among the others by its port's id.
use Rattle.std.proofs.Common.{ℕ, zero, suc, Bool, true, false, ◌==◌, ◌≡◌, ◌+◌, ◌<◌, ◌≤◌, List, [], ◌∷◌, ◌++◌, length, map, take, drop, get_or, refl, sym, ◌∙◌, ap, arith}
use Rattle.std.specs.Prelude.{Option, Some, None, option_map, position, replicate, reverse, slice_get}
use Rattle.std.specs.List.{list_all, list_any, insert, range_with_len}
use Rattle.std.proofs.lemmas.List.{length-map, map-append, reverse-append, reverse-reverse, take_all}
use Rattle.vale_entry.specs.declared.entry.Dest.{Dest}
use Rattle.std.proofs.lemmas.Bool.{and_parts, leb-true, or_parts}
use Rattle.std.proofs.lemmas.List.Quantifiers.{position-Some}
use Rattle.nm_types.specs.Frames.{Frame, slots_of}
use Rattle.nm_types.specs.Sendable.{fits_buffer}
use Rattle.nm_types.proofs.PartLemmas.{slots-one}
use Rattle.nm_types.specs.declared.id.PortId.{PortId}
use Rattle.vale_names.proofs.SwitchLemmas.{position_none}
use Rattle.vale_batch.specs.declared.lists.Want.{Want}
use Rattle.vale_batch.specs.Wants.{Wanted, wanted, port_number}
use Rattle.vale_parts.specs.Batches.{with_want, wants_monitored, dests_wanted}
use Rattle.vale_parts.specs.Ids.{id_of}
use Rattle.vale_port.specs.Ports.{sizes_of}
use Rattle.vale_steps.specs.Monitored.{wants_by}
use Rattle.vale_steps.specs.Wanting.{want_all, wants_with, sizes_for, dest_in, is_behind}
use Rattle.vale_steps.proofs.SmallWants.{small-slots, small-few}

placed : (want : Want) (wants : List Want) (place : ℕ) → place < length wants → is_behind want.to.0 (get_or wants place want) ≡ true
    → ((k : ℕ) → k < place → is_behind want.to.0 (get_or wants k want) ≡ false) → map wanted (insert wants place want) ≡ with_want (wanted want) (map wanted wants)
placed want [] place within passes others = absurd (omega (arith, within))
placed want (first ∷ wants) zero within passes others = rw passes refl
placed want (first ∷ wants) (suc place) within passes others =
    rw (others 0 (omega arith)) (ap (λ (ws : List Wanted). wanted first ∷ ws) (placed want wants place (omega (arith, within)) passes (λ k less. others (suc k) (omega (arith, less)))))

pub put-before : (want : Want) (wants : List Want) (place : ℕ) → position (is_behind want.to.0) wants ≡ Some place → map wanted (insert wants place want) ≡ with_want (wanted want) (map wanted wants)
put-before want wants place is =
    let facts = position-Some (is_behind want.to.0) wants place want is in
    placed want wants place facts.0 facts.1 facts.2

last-of : (want : Want) (wants : List Want) → list_any (is_behind want.to.0) wants ≡ false → map wanted (wants ++ want ∷ []) ≡ with_want (wanted want) (map wanted wants)
last-of want [] none = refl
last-of want (first ∷ wants) none =
    let parts = or_parts (is_behind want.to.0 first) (list_any (is_behind want.to.0) wants) none in
    rw parts.0 (ap (λ (ws : List Wanted). wanted first ∷ ws) (last-of want wants parts.1))

pub put-last : (want : Want) (wants : List Want) → position (is_behind want.to.0) wants ≡ None → map wanted (wants ++ want ∷ []) ≡ with_want (wanted want) (map wanted wants)
put-last want wants is = last-of want wants (position_none (is_behind want.to.0) wants is)

-- whether there are sizes, as it is tested

pub some-sizes : (b : Bool) (n m : ℕ) → b ≡ false → b ≡ (n == 0) → n ≡ m → 0 < m
some-sizes b zero m e is same = absurd (let none : b ≡ true = is in let wrong = sym none ∙ e in cc)
some-sizes b (suc n) m e is same = omega (arith, same)

pub seen-with : (monitor : PortId) (sizes : List ℕ) (wants new : List Wanted) (want : Wanted) → 0 < length sizes
    → want ≡ want_all monitor sizes → new ≡ with_want want wants → new ≡ wants_with (Some monitor) sizes wants
seen-with monitor [] wants new want some all made = absurd (omega (arith, some))
seen-with monitor (size ∷ sizes) wants new want some all made = made ∙ ap (λ (w : Wanted). with_want w wants) all

pub seen-none : (monitor : Option PortId) (sizes : List ℕ) (wants : List Wanted) → length sizes ≡ 0 → wants ≡ wants_with monitor sizes wants
seen-none None sizes wants none = refl
seen-none (Some to) [] wants none = refl
seen-none (Some to) (size ∷ sizes) wants none = absurd (omega (arith, none))

-- the sizes are those of frames
pub wants-are : (monitor : Option PortId) (frames : List Frame) (wants : List Wanted) → wants_with monitor (sizes_for monitor frames) wants ≡ wants_monitored (option_map port_number monitor) frames wants
wants-are None frames wants = refl
wants-are (Some to) [] wants = refl
wants-are (Some to) (f ∷ fs) wants =
    ap (λ (n : ℕ). let want : Wanted = record { to = to; places = range_with_len 0 n; sizes = sizes_of (f ∷ fs) } in with_want want wants) (length-map (f ∷ fs) slots_of)

-- ---- a monitor alone

pub wants-monitored : (monitor : Option PortId) (frames : List Frame) (sizes : List ℕ) (id : Option ℕ) → sizes ≡ sizes_for monitor frames → id_of monitor ≡ id
    → wants_by monitor sizes ≡ wants_monitored id frames []
wants-monitored monitor frames sizes id are same =
    ap (wants_by monitor) are ∙ (wants-are monitor frames [] ∙ ap (λ (o : Option ℕ). wants_monitored o frames []) same)

-- frames that each fit a buffer take one slot each
ones-of : (frames : List Frame) → list_all fits_buffer frames ≡ true → replicate (length frames) 1 ≡ sizes_of frames
ones-of [] fit = refl
ones-of (f ∷ fs) fit =
    let parts = and_parts (fits_buffer f) (list_all fits_buffer fs) fit in
    let one : slots_of f ≡ 1 = slots-one (length f.bytes) (leb-true (length f.bytes) 2048 parts.0) in
    ap (λ (n : ℕ). n ∷ replicate (length fs) 1) (sym one) ∙ ap (λ (ns : List ℕ). slots_of f ∷ ns) (ones-of fs parts.1)

pub wants-put : (monitor : Option PortId) (frames : List Frame) (count : ℕ) (id : Option ℕ) → count ≡ length frames → list_all fits_buffer frames ≡ true → id_of monitor ≡ id
    → wants_by monitor (replicate count 1) ≡ wants_monitored id frames []
wants-put None frames count id is fit same = ap (λ (o : Option ℕ). wants_monitored o frames []) same
wants-put (Some to) frames count id is fit same =
    wants-monitored (Some to) frames (replicate count 1) id (ap (λ (n : ℕ). replicate n 1) is ∙ ones-of frames fit) same

-- there is one at most
one-by : (monitor : Option PortId) (sizes : List ℕ) → length (wants_by monitor sizes) ≤ 1
one-by None sizes = omega arith
one-by (Some to) [] = omega arith
one-by (Some to) (size ∷ sizes) = omega arith

pub one-want : (wants : List Want) (monitor : Option PortId) (sizes : List ℕ) → map wanted wants ≡ wants_by monitor sizes → length wants ≤ 1
one-want [] monitor sizes is = omega arith
one-want (w ∷ []) monitor sizes is = omega arith
one-want (w ∷ v ∷ ws) monitor sizes is =
    let few = one-by monitor sizes in
    let same : length (map wanted (w ∷ v ∷ ws)) ≡ length (wants_by monitor sizes) = ap (λ (xs : List Wanted). length xs) is in
    absurd (omega (arith, few, same))

pub reverse-one : {X : Type 0} (xs : List X) → length xs ≤ 1 → reverse xs ≡ xs
reverse-one [] few = refl
reverse-one (x ∷ []) few = refl
reverse-one (x ∷ y ∷ ys) few = absurd (omega (arith, few))

-- ---- one want after the other

taken-more : (all : List Wanted) (i : ℕ) (want : Wanted) → slice_get all i ≡ Some want → take (i + 1) all ≡ take i all ++ want ∷ []
taken-more [] i want is = absurd (let wrong : None ≡ Some want = is in cc)
taken-more (first ∷ all) zero want is = (let same : first ≡ want = cc in ap (λ (w : Wanted). w ∷ []) same)
taken-more (first ∷ all) (suc i) want is = let next : suc i + 1 ≡ suc (i + 1) = omega arith in rw next (ap (λ (ws : List Wanted). first ∷ ws) (taken-more all i want is))

pub listed-more : (all : List Wanted) (i : ℕ) (wants : List Want) (want : Want) → map wanted wants ≡ take i all → slice_get all i ≡ Some (wanted want)
    → map wanted (wants ++ want ∷ []) ≡ take (i + 1) all
listed-more all i wants want so_far is =
    map-append wanted wants (want ∷ []) ∙ (ap (λ (ws : List Wanted). ws ++ wanted want ∷ []) so_far ∙ sym (taken-more all i (wanted want) is))

pub dests-seen : (wants : List Want) → map dest_in wants ≡ dests_wanted (map wanted wants)
dests-seen [] = refl
dests-seen (want ∷ wants) = ap (λ (ds : List Dest). dest_in want ∷ ds) (dests-seen wants)

-- ---- the last first

map-reversed : (wants : List Want) → reverse (map wanted wants) ≡ map wanted (reverse wants)
map-reversed [] = refl
map-reversed (want ∷ wants) =
    reverse-append (wanted want ∷ []) (map wanted wants)
    ∙ (ap (λ (ws : List Wanted). ws ++ wanted want ∷ []) (map-reversed wants)
    ∙ (sym (map-append wanted (reverse wants) (want ∷ [])) ∙ ap (map wanted) (sym (reverse-append (want ∷ []) wants))))

pub reversed-seen : (wants new : List Want) → new ≡ reverse wants → reverse (map wanted new) ≡ map wanted wants
reversed-seen wants new is =
    ap (λ (ws : List Want). reverse (map wanted ws)) is ∙ (map-reversed (reverse wants) ∙ ap (map wanted) (reverse-reverse wants))

pub ruleset monitor_wants = (small-slots, small-few, one-want)

pub ruleset wants_seen = (put-before, put-last, listed-more, take_all, reversed-seen)
