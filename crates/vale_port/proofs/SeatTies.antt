-- Ports of owned buffers and the seats of the world that they stand for: each step keeps the tie.
use Rattle.std.proofs.Common.{ℕ, zero, suc, Bool, true, false, not, ◌≡◌, ◌+◌, ◌-◌, ◌<◌, ◌≤◌, List, [], ◌∷◌, ◌++◌, length, take, drop, map, Option, Some, None, inl, inr, refl, sym, ◌∙◌, ap, subst, arith}
use Rattle.std.specs.Prelude.{flat_map, All, sum, sum_by, nat_le, find, option_map, ◌==◌}
use Rattle.std.specs.List.{list_any, list_all}
use Rattle.std.proofs.lemmas.Bool.{cases_Bool, ne_eqb, eq-eqb, eqb-true, leb-true, and_parts}
use Rattle.std.proofs.lemmas.List.{length-append, length-map, length-drop}
use Rattle.std.proofs.lemmas.List.Elements.{All-cons, All-head, All-tail}
use Rattle.std.proofs.lemmas.List.Sums.{sum_by-cons}
use Rattle.std.proofs.lemmas.Option.{same_Some}
use Rattle.nm_types.proofs.Tests.{or_second}
use Rattle.nm_types.specs.declared.id.LeaseId.{LeaseId}
use Rattle.nm_types.specs.Limits.{most_frame_bytes}
use Rattle.nm_types.specs.Frames.{Frame, slots_of, size_of_frames}
use Rattle.nm_types.specs.Parts.{HeldPart, cut_frame, cut_frames}
use Rattle.nm_types.specs.Sendable.{is_frame}
use Rattle.nm_types.proofs.PartLemmas.{slots-some, slots-few, length-cut}
use Rattle.nm_types.proofs.Sizes.{length-size, some-size}
use Rattle.nm_region.specs.Buffers.{indices_of}
use Rattle.vale_line.specs.declared.got.Got.{Got}
use Rattle.vale_line.specs.Fitting.{fitting_sizes, IsFrameSize}
use Rattle.vale_line.specs.Gots.{buffers_of, buffer_of, frames_in, held_part, held_parts, FitsPart, IsSingle}
use Rattle.vale_line.specs.Leased.{Leased, buffer_count}
use Rattle.vale_line.specs.Lines.{HeldLot, LineState, IsLine, with_lease, given_by_sync, out_of, opened_lot, put_lot, ready_gots, held_gots, completed, gots_of, slots_out}
use Rattle.vale_line.specs.Lines.{space_of as line_space, slots_of as line_slots}
use Rattle.vale_line.proofs.FittingLemmas.{sum-cons}
use Rattle.vale_line.proofs.CutLemmas.{cut-singles}
use Rattle.vale_line.proofs.LotLemmas.{slots_of-push, slots-parts, ready-frames, ready-cut, all-done}
use Rattle.vale_entry.specs.World.{Port, Lot, space_of}
use Rattle.vale_entry.specs.Grant.{longest_fitting, port_after_grant}
use Rattle.vale_entry.specs.Delivery.{ready_lots, frames_of_lot, port_after_sync, port_after_done, lot_after_done, is_lease}
use Rattle.vale_entry.specs.Holdings.{PortBuffers, PortAgrees, with_lot_buffers, with_returned, with_put_buffers}
use Rattle.vale_entry.specs.Pipe.{port_after_put}
use Rattle.vale_port.specs.Kept.{KeptLine, kept_lot, KeptFrames, kept_gots, world_lot, bytes_of, IsLineOf}
use Rattle.vale_port.specs.Ports.{IsFilledFor, PortState, IsSeatOf, Gives, sizes_of, frames_of_seat}
use Rattle.vale_port.specs.Seat.{Seat, LotSeat, given_frames, seat_put, lease_among, lease_seat}
use Rattle.vale_port.specs.Laws.{SpaceIsSpace, SizesAreSizes, GrantIsGrant, NoGrantIsNone, DoneIsDone, SyncIsSync, PutIsPut, ClearGivesAll, LotsAreLots, FilledIsOut, RingIsRing, SizesAreFrameSizes, line_after_put, is_numbered, size_of_lot}
use Rattle.vale_port.proofs.LineTies.{Ties, some-same, cons-head, cons-tail, ties-line, line-same, length-indices, indices-append, slots-lots, out-lots, there-lots, sizes-lots, kept-push, kept-done, given-lots, all-lots}

-- the lots of a port's line, with what they stand for
pub ties-seat : (seat : Seat) (p : PortState) → IsSeatOf seat p → Ties p.line.lots seat.port.line seat.held.lots
ties-seat seat p is = ties-line seat.port seat.held p.line is.line

pub size-seat : RingIsRing
size-seat seat p is = ap (λ (k : KeptLine). k.size) is.line.same

pub idle-seat : (seat : Seat) (p : PortState) → IsSeatOf seat p → indices_of p.line.idle ≡ seat.held.idle
idle-seat seat p is = ap (λ (k : KeptLine). k.idle) is.line.same

pub lots_are_lots : LotsAreLots
lots_are_lots seat p number is =
    let t = ties-seat seat p is in (
      out-lots p.line.lots seat.port.line seat.held.lots t,
      (there-lots number p.line.lots seat.port.line seat.held.lots t, sizes-lots number p.line.lots seat.port.line seat.held.lots t),
    )

pub space_is_space : SpaceIsSpace
space_is_space seat p is line =
    let slots = slots-lots p.line.lots seat.port.line seat.held.lots (ties-seat seat p is) in
    let size = size-seat seat p is in
    let out = is.out in
    let within = line.within in
    let some = line.some in
    omega (arith, slots, size, out, within, some)

-- The frames that fit, by their slots.

fitting-sizes : (room : ℕ) (frames : List Frame) → fitting_sizes room (sizes_of frames) ≡ sizes_of (longest_fitting room frames)
fitting-sizes room [] = refl
fitting-sizes room (f ∷ fs) = elim (cases_Bool (nat_le (slots_of f) room)) [
  | inl here ↦ rw here (ap (λ (ns : List ℕ). slots_of f ∷ ns) (fitting-sizes (room - slots_of f) fs))
  | inr other ↦ rw other refl
]

pub sizes_are_sizes : SizesAreSizes
sizes_are_sizes seat p offer is line =
    ap (λ (n : ℕ). fitting_sizes n (sizes_of offer.frames)) (space_is_space seat p is line) ∙ fitting-sizes (space_of seat.port) offer.frames

pub sum-sizes : (frames : List Frame) → sum (sizes_of frames) ≡ size_of_frames frames
sum-sizes [] = refl
sum-sizes (f ∷ fs) =
    let rest = sum-sizes fs in
    let one = sum-cons (slots_of f) (sizes_of fs) in
    let two = sum_by-cons slots_of f fs in
    omega (arith, rest, one, two)

pub sizes_are_frame_sizes : SizesAreFrameSizes
sizes_are_frame_sizes [] whole = λ k d within. absurd (omega (arith, within))
sizes_are_frame_sizes (f ∷ fs) whole =
    let parts = and_parts (is_frame f) (list_all is_frame fs) whole in
    let some = slots-some (length f.bytes) in
    let few = slots-few (length f.bytes) (leb-true (length f.bytes) most_frame_bytes parts.0) in
    All-cons IsFrameSize (slots_of f) (sizes_of fs) (some, few) (sizes_are_frame_sizes fs parts.1)

fitting-within : (room : ℕ) (frames : List Frame) → size_of_frames (longest_fitting room frames) ≤ room
fitting-within room [] = omega arith
fitting-within room (f ∷ fs) = elim (cases_Bool (nat_le (slots_of f) room)) [
  | inl here ↦
      let fits = leb-true (slots_of f) room here in
      let rest = fitting-within (room - slots_of f) fs in
      let all = sum_by-cons slots_of f (longest_fitting (room - slots_of f) fs) in
      rw here (omega (arith, fits, rest, all))
  | inr other ↦ rw other (omega arith)
]

-- A grant.

abbrev lot_of : ℕ → ℕ → Bool → List Frame → Lot
lot_of number session done frames = record { number = number; session = session; frames = frames; is_done = done }

with_lot_buffers-some : (n : ℕ) (held : PortBuffers) → 0 < n → with_lot_buffers n held ≡ record held { idle = drop n held.idle; lots = held.lots ++ take n held.idle ∷ [] }
with_lot_buffers-some n held some = let other : (n == 0) ≡ false = ne_eqb n 0 (λ e. absurd (omega (arith, some, e))) in rw other refl

grant-line : (port : Port) (held : PortBuffers) (line : LineState) (id : LeaseId) (session : ℕ) (frames : List Frame) → IsLineOf port held line → 1 ≤ length frames
    → IsLineOf (port_after_grant id.0 session frames port) (with_lot_buffers (size_of_frames frames) held) (with_lease id (size_of_frames frames) line)
grant-line port held line id session [] is some = absurd (omega (arith, some))
grant-line port held line id session (f ∷ fs) is some =
    let n = size_of_frames (f ∷ fs) in
    let lot = lot_of id.0 session false (f ∷ fs) in
    let one : kept_lot (opened_lot id n) ≡ world_lot lot (take n held.idle) = refl in
    let made = kept-push port held line n (opened_lot id n) lot (take n held.idle) is one in
    let count = length-size (f ∷ fs) in
    subst (λ (h : PortBuffers). IsLineOf (port_after_grant id.0 session (f ∷ fs) port) h (with_lease id n line)) (sym (with_lot_buffers-some n held (omega (arith, count)))) made

-- the same port with another line
with_seat : (seat : Seat) (p : PortState) (port : Port) (held : PortBuffers) (line : LineState) → IsSeatOf seat p
    → port.id ≡ seat.port.id → port.session ≡ seat.port.session → port.name ≡ seat.port.name → port.tx ≡ seat.port.tx → port.extra ≡ seat.port.extra → port.shutting ≡ seat.port.shutting
    → IsLineOf port held line → out_of line ≡ port.out → IsSeatOf (record { port = port; held = held }) (record p { line = line })
with_seat seat p port held line is id session name tx extra shutting same out = record {
  id = is.id ∙ sym id;
  session = is.session ∙ sym session;
  name = is.name ∙ sym name;
  tx = is.tx ∙ sym tx;
  extra = is.extra ∙ sym extra;
  shutting = is.shutting ∙ sym shutting;
  line = same;
  out = out;
}

pub grant_is_grant : GrantIsGrant
grant_is_grant seat p id offer is line some =
    let given = given_frames offer seat in
    let n = size_of_frames given in
    let space = space_is_space seat p is line in
    let most = fitting-within (space_of seat.port) offer.frames in
    let made = grant-line seat.port seat.held p.line id offer.session given is.line some in
    let left : length (drop n p.line.idle) ≡ length p.line.idle - n = length-drop n p.line.idle in
    let slots : line_slots (p.line.lots ++ opened_lot id n ∷ []) ≡ line_slots p.line.lots + n = slots_of-push p.line.lots (opened_lot id n) in
    let out = is.out in
    let idle = line.some in
    let within = line.within in
    with_seat seat p (port_after_grant id.0 offer.session given seat.port) (with_lot_buffers n seat.held) (with_lease id n p.line) is refl refl refl refl refl refl made
    (omega (arith, left, slots, out, idle, within, space, most))

no-grant : (seat : Seat) (number session : ℕ) (frames : List Frame) → frames ≡ []
    → (let s : Seat = record { port = port_after_grant number session frames seat.port; held = with_lot_buffers (size_of_frames frames) seat.held } in s) ≡ seat
no-grant seat number session [] e = refl
no-grant seat number session (f ∷ fs) e = absurd cc

pub no_grant_is_none : NoGrantIsNone
no_grant_is_none seat number offer none = no-grant seat number offer.session (given_frames offer seat) none

-- A lease that is done.

length-done : (id : ℕ) (lots : List Lot) → length (map (lot_after_done id) lots) ≡ length lots
length-done id lots = length-map lots (lot_after_done id)

slots-completed : (id : ℕ) (gots : List Got) (hs : List HeldLot) → line_slots (map (completed id gots) hs) ≡ line_slots hs
slots-completed id gots [] = refl
slots-completed id gots (h ∷ hs) =
    let first : (completed id gots h).slots ≡ h.slots = elim (cases_Bool (h.id.0 == id)) [ inl here ↦ rw here refl | inr other ↦ rw other refl ] in
    let rest = slots-completed id gots hs in
    let one = sum_by-cons (λ (l : HeldLot). l.slots) (completed id gots h) (map (completed id gots) hs) in
    let two = sum_by-cons (λ (l : HeldLot). l.slots) h hs in
    omega (arith, first, rest, one, two)

pub done_is_done : DoneIsDone
done_is_done seat p lease is line filled =
    let lots = kept-done lease.id lease.filled p.line.lots seat.port.line seat.held.lots (ties-seat seat p is) line.are_leases filled in
    let made : IsLineOf (port_after_done lease.id seat.port) seat.held (record p.line { lots = map (completed lease.id lease.filled) p.line.lots }) = record {
      same = line-same (size-seat seat p is) (idle-seat seat p is) lots;
      as_many = is.line.as_many ∙ sym (length-done lease.id seat.port.line);
    } in
    let out = is.out in
    let slots = slots-completed lease.id lease.filled p.line.lots in
    with_seat seat p (port_after_done lease.id seat.port) seat.held (record p.line { lots = map (completed lease.id lease.filled) p.line.lots }) is refl refl refl refl refl refl made
    (omega (arith, out, slots))

-- A sync.

pub sync_is_sync : SyncIsSync
sync_is_sync seat p back is line few =
    let n = length (ready_lots seat.port) in
    let given = given-lots p.line.lots seat.port.line seat.held.lots (ties-seat seat p is) in
    let returned : length (indices_of back) ≡ length back = length-indices back in
    let idle : indices_of (p.line.idle ++ back) ≡ seat.held.idle ++ indices_of back =
    indices-append p.line.idle back ∙ ap (λ (is : List ℕ). is ++ indices_of back) (idle-seat seat p is) in
    let made : IsLineOf (port_after_sync (length (indices_of back)) seat.port) (with_returned n (indices_of back) seat.held) (given_by_sync back p.line) = record {
      same = line-same (size-seat seat p is) idle given.left;
      as_many = given.as_many;
    } in
    let bytes = ready-frames p.line.lots line.lots ∙ given.bytes in
    let gives : Gives seat (ready_gots p.line.lots) = record {
      buffers = given.buffers;
      parts = ready-cut p.line.lots line.lots ∙ ap cut_frames bytes;
      bytes = bytes;
    } in
    let all : length (p.line.idle ++ back) ≡ length p.line.idle + length back = length-append p.line.idle back in
    let parts = slots-parts p.line.lots in
    let size = given.slots in
    let out = is.out in
    let within = line.within in (
      gives,
      with_seat seat p (port_after_sync (length (indices_of back)) seat.port) (with_returned n (indices_of back) seat.held) (given_by_sync back p.line) is refl refl refl refl refl refl made
          (omega (arith, all, parts, size, returned, out, within, few)),
    )

-- A put.

-- frames take as many buffers as slots
pub length-cut_frames : (frames : List Frame) → length (cut_frames (bytes_of frames)) ≡ size_of_frames frames
length-cut_frames [] = refl
length-cut_frames (f ∷ fs) =
    let first = length-cut f.bytes in
    let rest = length-cut_frames fs in
    let both = length-append (cut_frame f.bytes) (cut_frames (bytes_of fs)) in
    let sum = sum_by-cons slots_of f fs in
    omega (arith, first, rest, both, sum)

pub size-held : (frames : List Frame) (gots : List Got) → held_parts gots ≡ cut_frames (bytes_of frames) → size_of_frames frames ≡ length gots
size-held frames gots parts = sym (length-cut_frames frames) ∙ (ap (λ (ps : List HeldPart). length ps) (sym parts) ∙ length-map gots held_part)

-- what a put brings
held-put : (frames : List Frame) (gots : List Got) → All IsSingle gots → All FitsPart gots → bytes_of frames ≡ frames_in gots → held_parts gots ≡ cut_frames (bytes_of frames)
held-put frames gots single fit bytes = cut-singles gots single fit ∙ ap cut_frames (sym bytes)

pub length-taken : (gots : List Got) → length (indices_of (buffers_of gots)) ≡ length gots
length-taken gots = length-indices (buffers_of gots) ∙ length-map gots buffer_of

with_put_buffers-some : (taken : List ℕ) (held : PortBuffers) → 0 < length taken
    → with_put_buffers taken held ≡ record held { idle = drop (length taken) held.idle; lots = held.lots ++ taken ∷ [] }
with_put_buffers-some taken held some = let other : (length taken == 0) ≡ false = ne_eqb (length taken) 0 (λ e. absurd (omega (arith, some, e))) in rw other refl

line_after_put-some : (id : LeaseId) (gots : List Got) (line : LineState) → 0 < length gots
    → line_after_put id gots line ≡ record line { idle = drop (length gots) line.idle; lots = line.lots ++ put_lot id gots ∷ [] }
line_after_put-some id gots line some = let other : (length gots == 0) ≡ false = ne_eqb (length gots) 0 (λ e. absurd (omega (arith, some, e))) in rw other refl

abbrev put_seat : Seat → ℕ → ℕ → List Frame → List ℕ → Seat
put_seat seat number session frames taken = record {
  port = record seat.port { line = seat.port.line ++ lot_of number session true frames ∷ [] };
  held = record seat.held { idle = drop (length taken) seat.held.idle; lots = seat.held.lots ++ taken ∷ [] };
}

put-some : (seat : Seat) (number session : ℕ) (frames : List Frame) (taken : List ℕ) → 0 < length frames → 0 < length taken
    → seat_put number session frames taken seat ≡ put_seat seat number session frames taken
put-some seat number session [] taken some more = absurd (omega (arith, some))
put-some seat number session (f ∷ fs) taken some more =
    ap (λ (h : PortBuffers). let s : Seat = record { port = port_after_put number session (f ∷ fs) seat.port; held = h } in s) (with_put_buffers-some taken seat.held more)

put-none : (seat : Seat) (number session : ℕ) (frames : List Frame) (taken : List ℕ) → length frames ≡ 0 → length taken ≡ 0 → seat_put number session frames taken seat ≡ seat
put-none seat number session [] [] none fewer = refl
put-none seat number session [] (b ∷ bs) none fewer = absurd (omega (arith, fewer))
put-none seat number session (f ∷ fs) taken none fewer = absurd (omega (arith, none))

line_after_put-none : (id : LeaseId) (gots : List Got) (line : LineState) → length gots ≡ 0 → line_after_put id gots line ≡ line
line_after_put-none id [] line none = refl
line_after_put-none id (got ∷ gots) line none = absurd (omega (arith, none))

put-more : (seat : Seat) (p : PortState) (id : LeaseId) (session : ℕ) (frames : List Frame) (gots : List Got) → IsSeatOf seat p → IsLine p.line
    → held_parts gots ≡ cut_frames (bytes_of frames) → length gots ≤ line_space p.line → 0 < length gots
    → IsSeatOf (seat_put id.0 session frames (indices_of (buffers_of gots)) seat) (record p { line = line_after_put id gots p.line })
put-more seat p id session frames gots is line parts fits some =
    let n = length gots in
    let taken = indices_of (buffers_of gots) in
    let count : length taken ≡ n = length-taken gots in
    let slots = size-held frames gots parts in
    let frames_some = some-size frames (omega (arith, slots, some)) in
    let lot = lot_of id.0 session true frames in
    let parts' = sym parts in
    let slots' = sym slots in
    let one : kept_lot (put_lot id gots) ≡ world_lot lot taken = cc in
    let pushed = kept-push seat.port seat.held p.line n (put_lot id gots) lot taken is.line one in
    let after = put_seat seat id.0 session frames taken in
    let made : IsLineOf after.port after.held (record p.line { idle = drop n p.line.idle; lots = p.line.lots ++ put_lot id gots ∷ [] }) =
    subst (λ (k : ℕ). IsLineOf after.port (record seat.held { idle = drop k seat.held.idle; lots = seat.held.lots ++ taken ∷ [] }) (record p.line { idle = drop n p.line.idle; lots = p.line.lots ++ put_lot id gots ∷ [] })) (sym count) pushed in
    let left : length (drop n p.line.idle) ≡ length p.line.idle - n = length-drop n p.line.idle in
    let sum : line_slots (p.line.lots ++ put_lot id gots ∷ []) ≡ line_slots p.line.lots + n = slots_of-push p.line.lots (put_lot id gots) in
    let out = is.out in
    let idle = line.some in
    let within = line.within in
    let whole = with_seat seat p after.port after.held (record p.line { idle = drop n p.line.idle; lots = p.line.lots ++ put_lot id gots ∷ [] }) is refl refl refl refl refl refl made
    (omega (arith, left, sum, out, idle, within, fits)) in
    subst (λ (s : Seat). IsSeatOf s (record p { line = line_after_put id gots p.line })) (sym (put-some seat id.0 session frames taken frames_some (omega (arith, count, some))))
    (subst (λ (l : LineState). IsSeatOf after (record p { line = l })) (sym (line_after_put-some id gots p.line some)) whole)

pub put_is_put : PutIsPut
put_is_put seat p id session frames gots is line single fit bytes fits = elim (cases_Bool (length gots == 0)) [
  | inl none ↦
      let few : length gots ≡ 0 = eqb-true (length gots) 0 none in
      let slots = size-held frames gots (held-put frames gots single fit bytes) in
      let less = length-size frames in
      let count = length-taken gots in
      subst (λ (s : Seat). IsSeatOf s (record p { line = line_after_put id gots p.line })) (sym (put-none seat id.0 session frames (indices_of (buffers_of gots)) (omega (arith, few, slots, less)) (omega (arith, few, count))))
      (subst (λ (l : LineState). IsSeatOf seat (record p { line = l })) (sym (line_after_put-none id gots p.line few)) is)
  | inr some ↦
      put-more seat p id session frames gots is line (held-put frames gots single fit bytes) fits (nonzero (length gots) some)
]
  where
    nonzero : (n : ℕ) → (n == 0) ≡ false → 0 < n
    nonzero zero e = absurd (let wrong : true ≡ false = e in cc)
    nonzero (suc n) e = omega arith

-- The end of a port.

pub clear_gives_all : ClearGivesAll
clear_gives_all seat p is line none =
    let lots = p.line.lots in
    let t = ties-seat seat p is in
    let all = all-lots lots seat.port.line seat.held.lots t (sym (out-lots lots seat.port.line seat.held.lots t) ∙ none) in
    let done = all-done lots none in
    let frames : frames_in (held_gots lots) ≡ bytes_of (flat_map frames_of_lot seat.port.line) =
    ap (λ (hs : List HeldLot). frames_in (held_gots hs)) (sym done.1)
    ∙ (ready-frames lots line.lots ∙ (ap (λ (hs : List HeldLot). flat_map (λ (h : HeldLot). frames_in (gots_of h)) hs) done.1 ∙ all.bytes)) in (
      indices-append p.line.idle (buffers_of (held_gots lots))
          ∙ (ap (λ (is : List ℕ). is ++ indices_of (buffers_of (held_gots lots))) (idle-seat seat p is) ∙ ap (λ (is : List ℕ). seat.held.idle ++ is) all.buffers),
      ap length frames ∙ length-map (flat_map frames_of_lot seat.port.line) (λ (f : Frame). f.bytes),
    )

-- A lease that is filled.

-- where a lease is found there is a lot of its number

lease-numbered : (number : ℕ) (lots : List Lot) (lists : List (List ℕ)) (x : LotSeat) → lease_among number lots lists ≡ Some x → list_any (is_numbered number) lots ≡ true
lease-numbered number [] lists x e = absurd cc
lease-numbered number (lot ∷ lots) [] x e = absurd cc
lease-numbered number (lot ∷ lots) (list ∷ lists) x e = elim (cases_Bool (is_lease number lot)) [
  | inl here ↦ let numbered : is_numbered number lot ≡ true = (and_parts (lot.number == number) (not lot.is_done) here).0 in rw numbered refl
  | inr other ↦
      let rest : lease_among number lots lists ≡ Some x = rw other at e in
      or_second (is_numbered number lot) (list_any (is_numbered number) lots) (lease-numbered number lots lists x rest)
]

numbered-by : (number : ℕ) (seat : Seat) (frames : KeptFrames) (found : Option LotSeat) → lease_seat number seat ≡ found → option_map frames_of_seat found ≡ Some frames
    → list_any (is_numbered number) seat.port.line ≡ true
numbered-by number seat frames None e filled = absurd cc
numbered-by number seat frames (Some x) e filled = lease-numbered number seat.port.line seat.held.lots x e

pub filled-numbered : (seat : Seat) (lease : Leased) → IsFilledFor seat lease → list_any (is_numbered lease.id) seat.port.line ≡ true
filled-numbered seat lease filled = numbered-by lease.id seat (kept_gots lease.filled) (lease_seat lease.id seat) refl filled

-- the lot that a search finds, with as many buffers as slots
record Leasing (number : ℕ) (lots : List Lot) (x : LotSeat) : Type 0 where
  found : find (is_lease number) lots ≡ Some x.lot
  size : length x.buffers ≡ size_of_frames x.lot.frames

leasing : (number : ℕ) (lots : List Lot) (lists : List (List ℕ)) (x : LotSeat) → map (λ (list : List ℕ). length list) lists ≡ map (λ (lot : Lot). size_of_frames lot.frames) lots
    → lease_among number lots lists ≡ Some x → Leasing number lots x
leasing number [] lists x sizes e = absurd cc
leasing number (lot ∷ lots) [] x sizes e = absurd cc
leasing number (lot ∷ lots) (list ∷ lists) x sizes e = elim (cases_Bool (is_lease number lot)) [
  | inl here ↦
      let told : Some (lot_seat lot list) ≡ Some x = rw here at e in
      let same : lot_seat lot list ≡ x = same_Some (lot_seat lot list) x told in
      let found : find (is_lease number) (lot ∷ lots) ≡ Some lot = rw here refl in
      let size : length list ≡ size_of_frames lot.frames = cons-head sizes in
      subst (λ (y : LotSeat). Leasing number (lot ∷ lots) y) same (record { found = found; size = size })
  | inr other ↦
      let rest : lease_among number lots lists ≡ Some x = rw other at e in
      let later = leasing number lots lists x (cons-tail sizes) rest in
      let found : find (is_lease number) (lot ∷ lots) ≡ Some x.lot = rw other later.found in
      record { found = found; size = later.size }
]
  where
    lot_seat : Lot → List ℕ → LotSeat
    lot_seat lot list = record { lot = lot; buffers = list }

filled-by : (seat : Seat) (p : PortState) (lease : Leased) (found : Option LotSeat) → IsSeatOf seat p → PortAgrees seat.port seat.held → lease.empty ≡ []
    → lease_seat lease.id seat ≡ found → option_map frames_of_seat found ≡ Some (kept_gots lease.filled)
    → (slots_out lease.id p.line.lots ≡ Some (buffer_count lease)) × (list_any (is_numbered lease.id) seat.port.line ≡ true)
filled-by seat p lease None is agrees full e filled = absurd cc
filled-by seat p lease (Some x) is agrees full e filled =
    let told = leasing lease.id seat.port.line seat.held.lots x agrees.lots e in
    let frames : frames_of_seat x ≡ kept_gots lease.filled = same_Some (frames_of_seat x) (kept_gots lease.filled) filled in
    let buffers : length x.buffers ≡ length lease.filled = ap (λ (k : KeptFrames). length k.buffers) frames ∙ length-taken lease.filled in
    let none : length lease.empty ≡ 0 = ap length full in
    let size = told.size in
    let count : size_of_frames x.lot.frames ≡ buffer_count lease = omega (arith, buffers, none, size) in
    let slots = (lots_are_lots seat p lease.id is).1.1 in
    (slots ∙ (ap (option_map size_of_lot) told.found ∙ ap (λ (n : ℕ). Some n) count), lease-numbered lease.id seat.port.line seat.held.lots x e)

pub filled_is_out : FilledIsOut
filled_is_out seat p lease is agrees filled full = filled-by seat p lease (lease_seat lease.id seat) is agrees full refl filled

pub ruleset seats = (lots_are_lots, size-seat, space_is_space, sizes_are_sizes, grant_is_grant, no_grant_is_none, done_is_done, sync_is_sync, put_is_put, clear_gives_all, filled_is_out)
