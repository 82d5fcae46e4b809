-- A line and the world's port are seen as the same.
use Rattle.std.proofs.Common.{ℕ, suc, Bool, true, false, not, ◌≡◌, ◌+◌, List, [], ◌∷◌, ◌++◌, length, take, drop, map, Option, Some, None, inl, inr, if◌then◌else◌, refl, sym, ◌∙◌, ap, subst, arith}
use Rattle.std.specs.Prelude.{flat_map, is_some, option_map, find, sum_by, ◌==◌}
use Rattle.std.specs.Option.{option_map_or}
use Rattle.std.specs.List.{prefix_len, take_while, list_any}
use Rattle.std.proofs.lemmas.Bool.{cases_Bool, eqb-true, or_parts, both_ways}
use Rattle.std.proofs.lemmas.List.{map-append, length-append, length-map, take-map, drop-map}
use Rattle.std.proofs.lemmas.List.Sums.{sum_by-cons, sum_by-append}
use Rattle.nm_types.specs.Frames.{Frame, slots_of, size_of_frames}
use Rattle.nm_region.specs.Buffers.{Buffer, indices_of}
use Rattle.vale_lease.specs.Leases.{AreLeases, is_out, out_count, is_there}
use Rattle.vale_lease.specs.declared.leases.LeaseSlots.{LeaseSlots}
use Rattle.vale_line.specs.declared.got.Got.{Got}
use Rattle.vale_line.specs.Gots.{buffer_of, buffers_of}
use Rattle.vale_line.specs.Lines.{HeldLot, LineState, is_done, is_out_at, gots_of, frames_of_lot as held_frames, lease_of, leases_of, done_lots, behind_done, ready_gots, ready_frames, held_gots, completed, slots_out}
use Rattle.vale_line.specs.Lines.{slots_of as line_slots}
use Rattle.vale_line.specs.Gots.{frames_in}
use Rattle.vale_line.proofs.CutLemmas.{cut-tells}
use Rattle.vale_entry.specs.World.{Port, Lot, size_of_line, is_undone}
use Rattle.vale_entry.specs.Holdings.{PortBuffers}
use Rattle.vale_entry.specs.Delivery.{is_done_lot, is_lease, lot_after_done, frames_of_lot}
use Rattle.vale_port.specs.Kept.{KeptFrames, KeptLot, KeptLine, kept_gots, kept_lot, bytes_of, world_frames, world_lot, world_lots, IsLineOf}
use Rattle.vale_port.specs.Seat.{lease_among}
use Rattle.vale_port.specs.Ports.{frames_of_seat}
use Rattle.vale_port.specs.Laws.{size_of_lot, is_numbered}

cons-same : {A : Type 0} {x y : A} {xs ys : List A} → x ≡ y → xs ≡ ys → x ∷ xs ≡ y ∷ ys
cons-same e f = cc

pub cons-head : {A : Type 0} {x y : A} {xs ys : List A} → x ∷ xs ≡ y ∷ ys → x ≡ y
cons-head e = cc

pub cons-tail : {A : Type 0} {x y : A} {xs ys : List A} → x ∷ xs ≡ y ∷ ys → xs ≡ ys
cons-tail e = cc

pub some-same : {A : Type 0} {x y : A} → Some x ≡ Some y → x ≡ y
some-same e = cc

joined : {A : Type 0} {a b c d : List A} → a ≡ b → c ≡ d → a ++ c ≡ b ++ d
joined e f = cc

kept-same : {n m s t : ℕ} {g h : Option KeptFrames} → n ≡ m → s ≡ t → g ≡ h
    → (let k : KeptLot = record { number = n; slots = s; given = g } in k) ≡ record { number = m; slots = t; given = h }
kept-same e f g = cc

pub line-same : {n m : ℕ} {i j : List ℕ} {ls ks : List KeptLot} → n ≡ m → i ≡ j → ls ≡ ks → (let k : KeptLine = record { size = n; idle = i; lots = ls } in k) ≡ record { size = m; idle = j; lots = ks }
line-same e f g = cc

pub length-indices : (bufs : List Buffer) → length (indices_of bufs) ≡ length bufs
length-indices bufs = length-map bufs (λ (b : Buffer). b.index)

pub indices-append : (a b : List Buffer) → indices_of (a ++ b) ≡ indices_of a ++ indices_of b
indices-append a b = map-append (λ (b : Buffer). b.index) a b

pub indices-drop : (n : ℕ) (bufs : List Buffer) → indices_of (drop n bufs) ≡ drop n (indices_of bufs)
indices-drop n bufs = sym (drop-map (λ (b : Buffer). b.index) n bufs)

pub indices-take : (n : ℕ) (bufs : List Buffer) → indices_of (take n bufs) ≡ take n (indices_of bufs)
indices-take n bufs = sym (take-map (λ (b : Buffer). b.index) n bufs)

-- A lot of a line with the lot that it stands for, and the buffers held for that.
pub record TiedLot : Type 0 where
  pub held : HeldLot
  pub lot : Lot
  pub buffers : List ℕ
  pub same : kept_lot held ≡ world_lot lot buffers

abbrev held_in : TiedLot → HeldLot
held_in tie = tie.held

abbrev lot_in : TiedLot → Lot
lot_in tie = tie.lot

abbrev buffers_in : TiedLot → List ℕ
buffers_in tie = tie.buffers

-- the lots of a line, of a port and of the holdings, one by one
pub record Ties (hs : List HeldLot) (lots : List Lot) (lists : List (List ℕ)) : Type 0 where
  pub ties : List TiedLot
  pub held : map held_in ties ≡ hs
  pub lots_are : map lot_in ties ≡ lots
  pub lists_are : map buffers_in ties ≡ lists

ties-of : (hs : List HeldLot) (lots : List Lot) (lists : List (List ℕ)) → map kept_lot hs ≡ world_lots lots lists → length lists ≡ length lots → Ties hs lots lists
ties-of [] [] [] is e = record { ties = []; held = refl; lots_are = refl; lists_are = refl }
ties-of [] [] (x ∷ xs) is e = absurd (omega (arith, e))
ties-of [] (l ∷ ls) [] is e = absurd (omega (arith, e))
ties-of [] (l ∷ ls) (x ∷ xs) is e = absurd (let wrong : [] ≡ world_lot l x ∷ world_lots ls xs = is in cc)
ties-of (h ∷ hs) [] lists is e = absurd (let wrong : kept_lot h ∷ map kept_lot hs ≡ [] = is in cc)
ties-of (h ∷ hs) (l ∷ ls) [] is e = absurd (omega (arith, e))
ties-of (h ∷ hs) (l ∷ ls) (x ∷ xs) is e =
    let rest = ties-of hs ls xs (cons-tail is) (omega (arith, e)) in
    let first : TiedLot = record { held = h; lot = l; buffers = x; same = cons-head is } in
    record {
      ties = first ∷ rest.ties;
      held = cons-same refl rest.held;
      lots_are = cons-same refl rest.lots_are;
      lists_are = cons-same refl rest.lists_are;
    }

pub ties-line : (port : Port) (held : PortBuffers) (line : LineState) → IsLineOf port held line → Ties line.lots port.line held.lots
ties-line port held line is = ties-of line.lots port.line held.lots (ap (λ (k : KeptLine). k.lots) is.same) is.as_many

by-ties : (P : List HeldLot → List Lot → List (List ℕ) → Type 0) (hs : List HeldLot) (lots : List Lot) (lists : List (List ℕ)) → Ties hs lots lists
    → ((ties : List TiedLot) → P (map held_in ties) (map lot_in ties) (map buffers_in ties)) → P hs lots lists
by-ties P hs lots lists t f =
    subst (λ (xs : List (List ℕ)). P hs lots xs) t.lists_are
    (subst (λ (ls : List Lot). P hs ls (map buffers_in t.ties)) t.lots_are
    (subst (λ (gs : List HeldLot). P gs (map lot_in t.ties) (map buffers_in t.ties)) t.held (f t.ties)))

-- One lot.

tie-number : (t : TiedLot) → t.held.id.0 ≡ t.lot.number
tie-number t = ap (λ (k : KeptLot). k.number) t.same

tie-slots : (t : TiedLot) → t.held.slots ≡ size_of_frames t.lot.frames
tie-slots t = ap (λ (k : KeptLot). k.slots) t.same

is_some-map : {X Y : Type 0} (f : X → Y) (o : Option X) → is_some (option_map f o) ≡ is_some o
is_some-map f None = refl
is_some-map f (Some x) = refl

is_some-if : {X : Type 0} (b : Bool) (x : X) → is_some (if b then Some x else None) ≡ b
is_some-if true x = refl
is_some-if false x = refl

tie-done : (t : TiedLot) → is_done t.held ≡ t.lot.is_done
tie-done t =
    sym (is_some-map kept_gots t.held.gots)
    ∙ (ap (λ (k : KeptLot). is_some k.given) t.same ∙ is_some-if t.lot.is_done (world_frames t.lot t.buffers))

gots_by : (gots : Option (List Got)) (k : KeptFrames) → option_map kept_gots gots ≡ Some k → kept_gots (option_map_or (λ (gots : List Got). gots) gots []) ≡ k
gots_by None k e = absurd cc
gots_by (Some gots) k e = some-same e

tie-frames : (t : TiedLot) → t.lot.is_done ≡ true → kept_gots (gots_of t.held) ≡ world_frames t.lot t.buffers
tie-frames t done =
    let given : option_map kept_gots t.held.gots ≡ (if t.lot.is_done then Some (world_frames t.lot t.buffers) else None) = ap (λ (k : KeptLot). k.given) t.same in
    gots_by t.held.gots (world_frames t.lot t.buffers) (rw done at given)

-- and so has its frames
frames-told : (t : TiedLot) → kept_gots (gots_of t.held) ≡ world_frames t.lot t.buffers → frames_in (gots_of t.held) ≡ bytes_of t.lot.frames
frames-told t told = (cut-tells (bytes_of t.lot.frames) (gots_of t.held) (ap (λ (k : KeptFrames). k.parts) told)).are

-- Counts, and what is looked for.

slots-ties : (ties : List TiedLot) → line_slots (map held_in ties) ≡ size_of_line (map lot_in ties)
slots-ties [] = refl
slots-ties (t ∷ ts) =
    let first = tie-slots t in
    let rest = slots-ties ts in
    let one = sum_by-cons (λ (l : HeldLot). l.slots) t.held (map held_in ts) in
    let two = sum_by-cons (λ (l : Lot). size_of_frames l.frames) t.lot (map lot_in ts) in
    omega (arith, first, rest, one, two)

pub slots-lots : (hs : List HeldLot) (lots : List Lot) (lists : List (List ℕ)) → Ties hs lots lists → line_slots hs ≡ size_of_line lots
slots-lots hs lots lists t = by-ties (λ hs lots lists. line_slots hs ≡ size_of_line lots) hs lots lists t slots-ties

abbrev one_out : LeaseSlots → ℕ
one_out lease = if is_out lease then 1 else 0

abbrev one_undone : Lot → ℕ
one_undone lot = if is_undone lot then 1 else 0

out-ties : (ties : List TiedLot) → out_count (leases_of (map held_in ties)) ≡ sum_by one_undone (map lot_in ties)
out-ties [] = refl
out-ties (t ∷ ts) =
    let first : one_out (lease_of t.held) ≡ one_undone t.lot = ap (λ (b : Bool). if not b then 1 else 0) (tie-done t) in
    let rest = out-ties ts in
    let one = sum_by-cons one_out (lease_of t.held) (leases_of (map held_in ts)) in
    let two = sum_by-cons one_undone t.lot (map lot_in ts) in
    omega (arith, first, rest, one, two)

pub out-lots : (hs : List HeldLot) (lots : List Lot) (lists : List (List ℕ)) → Ties hs lots lists → out_count (leases_of hs) ≡ sum_by one_undone lots
out-lots hs lots lists t = by-ties (λ hs lots lists. out_count (leases_of hs) ≡ sum_by one_undone lots) hs lots lists t out-ties

there-ties : (number : ℕ) (ties : List TiedLot) → is_there number (leases_of (map held_in ties)) ≡ list_any (is_numbered number) (map lot_in ties)
there-ties number [] = refl
there-ties number (t ∷ ts) =
    let first : (t.held.id.0 == number) ≡ (t.lot.number == number) = ap (λ (n : ℕ). n == number) (tie-number t) in
    let rest = there-ties number ts in
    cc

pub there-lots : (number : ℕ) (hs : List HeldLot) (lots : List Lot) (lists : List (List ℕ)) → Ties hs lots lists → is_there number (leases_of hs) ≡ list_any (is_numbered number) lots
there-lots number hs lots lists t = by-ties (λ hs lots lists. is_there number (leases_of hs) ≡ list_any (is_numbered number) lots) hs lots lists t (there-ties number)

same-out : (number : ℕ) (t : TiedLot) → is_out_at number t.held ≡ is_lease number t.lot
same-out number t =
    let first : (t.held.id.0 == number) ≡ (t.lot.number == number) = ap (λ (n : ℕ). n == number) (tie-number t) in
    let done = tie-done t in
    cc

sizes-ties : (number : ℕ) (ties : List TiedLot) → slots_out number (map held_in ties) ≡ option_map size_of_lot (find (is_lease number) (map lot_in ties))
sizes-ties number [] = refl
sizes-ties number (t ∷ ts) = elim (cases_Bool (is_lease number t.lot)) [
  | inl here ↦
      let out = same-out number t ∙ here in
      rw (here, out) (ap (λ (n : ℕ). Some n) (tie-slots t))
  | inr other ↦
      let out = same-out number t ∙ other in
      rw (other, out) (sizes-ties number ts)
]

pub sizes-lots : (number : ℕ) (hs : List HeldLot) (lots : List Lot) (lists : List (List ℕ)) → Ties hs lots lists
    → slots_out number hs ≡ option_map size_of_lot (find (is_lease number) lots)
sizes-lots number hs lots lists t = by-ties (λ hs lots lists. slots_out number hs ≡ option_map size_of_lot (find (is_lease number) lots)) hs lots lists t (sizes-ties number)

-- A lot more.

world_lots-push : (lots : List Lot) (lists : List (List ℕ)) (lot : Lot) (list : List ℕ) → length lists ≡ length lots → world_lots (lots ++ lot ∷ []) (lists ++ list ∷ []) ≡ world_lots lots lists ++ world_lot lot list ∷ []
world_lots-push [] [] lot list e = refl
world_lots-push [] (x ∷ xs) lot list e = absurd (omega (arith, e))
world_lots-push (y ∷ ys) [] lot list e = absurd (omega (arith, e))
world_lots-push (y ∷ ys) (x ∷ xs) lot list e = ap (λ (ks : List KeptLot). world_lot y x ∷ ks) (world_lots-push ys xs lot list (omega (arith, e)))

-- with fewer idle buffers, and a lot more
pub kept-push : (port : Port) (held : PortBuffers) (line : LineState) (n : ℕ) (h : HeldLot) (lot : Lot) (list : List ℕ) → IsLineOf port held line → kept_lot h ≡ world_lot lot list
    → IsLineOf (record port { line = port.line ++ lot ∷ [] }) (record held { idle = drop n held.idle; lots = held.lots ++ list ∷ [] }) (record line { idle = drop n line.idle; lots = line.lots ++ h ∷ [] })
kept-push port held line n h lot list is one =
    let idle : indices_of (drop n line.idle) ≡ drop n held.idle = indices-drop n line.idle ∙ ap (λ (k : KeptLine). drop n k.idle) is.same in
    let lots : map kept_lot (line.lots ++ h ∷ []) ≡ world_lots (port.line ++ lot ∷ []) (held.lots ++ list ∷ []) =
    map-append kept_lot line.lots (h ∷ [])
    ∙ (ap (λ (k : KeptLine). k.lots ++ kept_lot h ∷ []) is.same
    ∙ (ap (λ (k : KeptLot). world_lots port.line held.lots ++ k ∷ []) one
    ∙ sym (world_lots-push port.line held.lots lot list is.as_many))) in
    let more = is.as_many in
    let lists = length-append held.lots (list ∷ []) in
    let count = length-append port.line (lot ∷ []) in
    record {
      same = line-same (ap (λ (k : KeptLine). k.size) is.same) idle lots;
      as_many = omega (arith, more, lists, count);
    }

-- A lot that is done.

completed-other : (id : ℕ) (gots : List Got) (t : TiedLot) → (t.held.id.0 == id) ≡ false → kept_lot (completed id gots t.held) ≡ world_lot (lot_after_done id t.lot) t.buffers
completed-other id gots t other =
    let there : (t.lot.number == id) ≡ false = rw (← tie-number t) other in
    let left : kept_lot (completed id gots t.held) ≡ kept_lot t.held = rw other refl in
    let right : world_lot (lot_after_done id t.lot) t.buffers ≡ world_lot t.lot t.buffers = rw there refl in
    left ∙ (t.same ∙ sym right)

completed-same : (id : ℕ) (gots : List Got) (t : TiedLot) → (t.held.id.0 == id) ≡ true → world_frames t.lot t.buffers ≡ kept_gots gots
    → kept_lot (completed id gots t.held) ≡ world_lot (lot_after_done id t.lot) t.buffers
completed-same id gots t here frames =
    let there : (t.lot.number == id) ≡ true = rw (← tie-number t) here in
    let left : kept_lot (completed id gots t.held) ≡ record { number = t.held.id.0; slots = t.held.slots; given = Some (kept_gots gots) } = rw here refl in
    let right : world_lot (lot_after_done id t.lot) t.buffers ≡ record { number = t.lot.number; slots = size_of_frames t.lot.frames; given = Some (world_frames t.lot t.buffers) } = rw there refl in
    left ∙ (kept-same (tie-number t) (tie-slots t) (ap (λ (k : KeptFrames). Some k) (sym frames)) ∙ sym right)

abbrev frames_among : ℕ → List TiedLot → Option KeptFrames
frames_among id ties = option_map frames_of_seat (lease_among id (map lot_in ties) (map buffers_in ties))

among-there : (id : ℕ) (k : KeptFrames) (ties : List TiedLot) → frames_among id ties ≡ Some k → is_there id (leases_of (map held_in ties)) ≡ true
among-there id k [] e = absurd cc
among-there id k (t ∷ ts) e = elim (cases_Bool (t.held.id.0 == id)) [
  | inl here ↦ rw here refl
  | inr other ↦
      let there : (t.lot.number == id) ≡ false = rw (← tie-number t) other in
      let rest : frames_among id ts ≡ Some k = rw there at e in
      rw other (among-there id k ts rest)
]

abbrev AreCompleted : ℕ → List Got → List TiedLot → Type 0
AreCompleted id gots ties = map kept_lot (map (completed id gots) (map held_in ties)) ≡ world_lots (map (lot_after_done id) (map lot_in ties)) (map buffers_in ties)

none-ties : (id : ℕ) (gots : List Got) (ties : List TiedLot) → is_there id (leases_of (map held_in ties)) ≡ false → AreCompleted id gots ties
none-ties id gots [] none = refl
none-ties id gots (t ∷ ts) none =
    let parts = or_parts (t.held.id.0 == id) (is_there id (leases_of (map held_in ts))) none in
    cons-same (completed-other id gots t parts.0) (none-ties id gots ts parts.1)

among-done : (id : ℕ) (l : Lot) (ls : List Lot) (x : List ℕ) (xs : List (List ℕ)) → l.is_done ≡ true → lease_among id (l ∷ ls) (x ∷ xs) ≡ lease_among id ls xs
among-done id l ls x xs done = elim (cases_Bool (l.number == id)) [ inl here ↦ rw (here, done) refl | inr other ↦ rw other refl ]

among-out : (id : ℕ) (l : Lot) (ls : List Lot) (x : List ℕ) (xs : List (List ℕ)) → (l.number == id) ≡ true → l.is_done ≡ false
    → lease_among id (l ∷ ls) (x ∷ xs) ≡ Some (record { lot = l; buffers = x })
among-out id l ls x xs here out = rw (here, out) refl

done-ties : (id : ℕ) (gots : List Got) (ties : List TiedLot) → AreLeases (leases_of (map held_in ties)) → frames_among id ties ≡ Some (kept_gots gots) → AreCompleted id gots ties
done-ties id gots [] are e = absurd cc
done-ties id gots (t ∷ ts) are e = elim (cases_Bool (t.held.id.0 == id)) [
  | inl here ↦
      let there : (t.lot.number == id) ≡ true = rw (← tie-number t) here in
      let same : t.held.id.0 ≡ id = eqb-true t.held.id.0 id here in
      let none : is_there id (leases_of (map held_in ts)) ≡ false = rw same at are.1.0 in
      elim (cases_Bool t.lot.is_done) [
        | inl done ↦
            let rest : frames_among id ts ≡ Some (kept_gots gots) = sym (ap (option_map frames_of_seat) (among-done id t.lot (map lot_in ts) t.buffers (map buffers_in ts) done)) ∙ e in
            absurd (both_ways (is_there id (leases_of (map held_in ts))) none (among-there id (kept_gots gots) ts rest))
        | inr out ↦
            let told : Some (world_frames t.lot t.buffers) ≡ Some (kept_gots gots) = sym (ap (option_map frames_of_seat) (among-out id t.lot (map lot_in ts) t.buffers (map buffers_in ts) there out)) ∙ e in
            cons-same (completed-same id gots t here (some-same told)) (none-ties id gots ts none)
      ]
  | inr other ↦
      let there : (t.lot.number == id) ≡ false = rw (← tie-number t) other in
      let rest : frames_among id ts ≡ Some (kept_gots gots) = rw there at e in
      cons-same (completed-other id gots t other) (done-ties id gots ts are.1.1 rest)
]

pub kept-done : (id : ℕ) (gots : List Got) (hs : List HeldLot) (lots : List Lot) (lists : List (List ℕ)) → Ties hs lots lists → AreLeases (leases_of hs)
    → option_map frames_of_seat (lease_among id lots lists) ≡ Some (kept_gots gots)
    → map kept_lot (map (completed id gots) hs) ≡ world_lots (map (lot_after_done id) lots) lists
kept-done id gots hs lots lists t =
    by-ties (λ hs lots lists. AreLeases (leases_of hs) → option_map frames_of_seat (lease_among id lots lists) ≡ Some (kept_gots gots)
    → map kept_lot (map (completed id gots) hs) ≡ world_lots (map (lot_after_done id) lots) lists) hs lots lists t (done-ties id gots)

-- What is given of the lots, and what is left.

pub record Given (hs : List HeldLot) (lots : List Lot) (lists : List (List ℕ)) (n : ℕ) : Type 0 where
  pub buffers : indices_of (buffers_of (ready_gots hs)) ≡ flat_map (λ list. list) (take n lists)
  pub bytes : ready_frames hs ≡ bytes_of (flat_map frames_of_lot (take_while is_done_lot lots))
  pub slots : line_slots (done_lots hs) ≡ size_of_frames (flat_map frames_of_lot (take_while is_done_lot lots))
  pub left : map kept_lot (behind_done hs) ≡ world_lots (drop n lots) (drop n lists)
  pub as_many : length (drop n lists) ≡ length (drop n lots)

abbrev GivenTies : List TiedLot → ℕ → Type 0
GivenTies ties n = Given (map held_in ties) (map lot_in ties) (map buffers_in ties) n

ties-lots : (ties : List TiedLot) → map kept_lot (map held_in ties) ≡ world_lots (map lot_in ties) (map buffers_in ties)
ties-lots [] = refl
ties-lots (t ∷ ts) = cons-same t.same (ties-lots ts)

ties-length : (ties : List TiedLot) → length (map buffers_in ties) ≡ length (map lot_in ties)
ties-length ties = length-map ties buffers_in ∙ sym (length-map ties lot_in)

none-ready : (l : Lot) (ls : List Lot) → l.is_done ≡ false → take_while is_done_lot (l ∷ ls) ≡ []
none-ready l ls undone = rw undone refl

given-none : (t : TiedLot) (ts : List TiedLot) → t.lot.is_done ≡ false → GivenTies (t ∷ ts) (length (take_while is_done_lot (map lot_in (t ∷ ts))))
given-none t ts undone =
    let hs = map held_in (t ∷ ts) in
    let out : is_done t.held ≡ false = tie-done t ∙ undone in
    let none = none-ready t.lot (map lot_in ts) undone in
    let count : length (take_while is_done_lot (map lot_in (t ∷ ts))) ≡ 0 = ap length none in
    let cut : done_lots hs ≡ [] = rw out refl in
    let all : behind_done hs ≡ hs = rw out refl in
    let frames : flat_map frames_of_lot (take_while is_done_lot (map lot_in (t ∷ ts))) ≡ [] = ap (λ (ls : List Lot). flat_map frames_of_lot ls) none in
    let lots = ties-lots (t ∷ ts) in
    let as_many = ties-length (t ∷ ts) in
    subst (GivenTies (t ∷ ts)) (sym count) (record {
      buffers = ap (λ (ls : List HeldLot). indices_of (buffers_of (flat_map gots_of ls))) cut;
      bytes = ap (λ (ls : List HeldLot). flat_map held_frames ls) cut ∙ ap bytes_of (sym frames);
      slots = ap line_slots cut ∙ ap size_of_frames (sym frames);
      left = ap (map kept_lot) all ∙ lots;
      as_many = as_many;
    })

given-first : (t : TiedLot) (ts : List TiedLot) → t.lot.is_done ≡ true → GivenTies ts (length (take_while is_done_lot (map lot_in ts)))
    → GivenTies (t ∷ ts) (length (take_while is_done_lot (map lot_in (t ∷ ts))))
given-first t ts done given =
    let hs = map held_in ts in
    let lots = map lot_in ts in
    let here : is_done t.held ≡ true = tie-done t ∙ done in
    let told = tie-frames t done in
    let n = length (take_while is_done_lot lots) in
    let one : 1 + prefix_len is_done hs ≡ suc (prefix_len is_done hs) = omega arith in
    let two : 1 + prefix_len is_done_lot lots ≡ suc (prefix_len is_done_lot lots) = omega arith in
    let world : take_while is_done_lot (t.lot ∷ lots) ≡ t.lot ∷ take_while is_done_lot lots = rw (done, two) refl in
    let count : length (take_while is_done_lot (t.lot ∷ lots)) ≡ suc n = ap length world in
    let cut : done_lots (t.held ∷ hs) ≡ t.held ∷ done_lots hs = rw (here, one) refl in
    let behind : behind_done (t.held ∷ hs) ≡ behind_done hs = rw (here, one) refl in
    let rest = flat_map frames_of_lot (take_while is_done_lot lots) in
    let frames : flat_map frames_of_lot (take_while is_done_lot (t.lot ∷ lots)) ≡ t.lot.frames ++ rest = ap (λ (ls : List Lot). flat_map frames_of_lot ls) world in
    let held = sum_by-cons (λ (l : HeldLot). l.slots) t.held (done_lots hs) in
    let size = sum_by-append slots_of t.lot.frames rest in
    let own = tie-slots t in
    let later = given.slots in
    subst (GivenTies (t ∷ ts)) (sym count) (record {
      buffers =
          ap (λ (ls : List HeldLot). indices_of (buffers_of (flat_map gots_of ls))) cut
          ∙ (ap indices_of (map-append buffer_of (gots_of t.held) (ready_gots hs))
          ∙ (indices-append (buffers_of (gots_of t.held)) (buffers_of (ready_gots hs)) ∙ joined (ap (λ (k : KeptFrames). k.buffers) told) given.buffers));
      bytes =
          ap (λ (ls : List HeldLot). flat_map held_frames ls) cut
          ∙ (joined (frames-told t told) given.bytes ∙ (sym (map-append (λ (f : Frame). f.bytes) t.lot.frames rest) ∙ ap bytes_of (sym frames)));
      slots = ap line_slots cut ∙ (held ∙ (omega (arith, own, later, size) ∙ ap size_of_frames (sym frames)));
      left = ap (map kept_lot) behind ∙ given.left;
      as_many = given.as_many;
    })

given-ties : (ties : List TiedLot) → GivenTies ties (length (take_while is_done_lot (map lot_in ties)))
given-ties [] = record { buffers = refl; bytes = refl; slots = refl; left = refl; as_many = refl }
given-ties (t ∷ ts) = elim (cases_Bool t.lot.is_done) [ inl done ↦ given-first t ts done (given-ties ts) | inr undone ↦ given-none t ts undone ]

pub given-lots : (hs : List HeldLot) (lots : List Lot) (lists : List (List ℕ)) → Ties hs lots lists → Given hs lots lists (length (take_while is_done_lot lots))
given-lots hs lots lists t = by-ties (λ hs lots lists. Given hs lots lists (length (take_while is_done_lot lots))) hs lots lists t given-ties

-- With no lease out all lots are done, and all are given.

pub record AllGiven (hs : List HeldLot) (lots : List Lot) (lists : List (List ℕ)) : Type 0 where
  pub buffers : indices_of (buffers_of (held_gots hs)) ≡ flat_map (λ list. list) lists
  pub bytes : flat_map held_frames hs ≡ bytes_of (flat_map frames_of_lot lots)

all-ties : (ties : List TiedLot) → sum_by one_undone (map lot_in ties) ≡ 0 → AllGiven (map held_in ties) (map lot_in ties) (map buffers_in ties)
all-ties [] none = record { buffers = refl; bytes = refl }
all-ties (t ∷ ts) none = elim (cases_Bool t.lot.is_done) [
  | inl done ↦
      let count = sum_by-cons one_undone t.lot (map lot_in ts) in
      let given = all-ties ts (omega (arith, none, count)) in
      let told = tie-frames t done in
      let hs = map held_in ts in
      record {
        buffers =
            ap indices_of (map-append buffer_of (gots_of t.held) (held_gots hs))
            ∙ (indices-append (buffers_of (gots_of t.held)) (buffers_of (held_gots hs)) ∙ joined (ap (λ (k : KeptFrames). k.buffers) told) given.buffers);
        bytes =
            joined (frames-told t told) given.bytes ∙ sym (map-append (λ (f : Frame). f.bytes) t.lot.frames (flat_map frames_of_lot (map lot_in ts)));
      }
  | inr undone ↦
      let count = sum_by-cons one_undone t.lot (map lot_in ts) in
      let one : one_undone t.lot ≡ 1 = rw undone refl in
      absurd (omega (arith, none, count, one))
]

pub all-lots : (hs : List HeldLot) (lots : List Lot) (lists : List (List ℕ)) → Ties hs lots lists → sum_by one_undone lots ≡ 0 → AllGiven hs lots lists
all-lots hs lots lists t = by-ties (λ hs lots lists. sum_by one_undone lots ≡ 0 → AllGiven hs lots lists) hs lots lists t all-ties
