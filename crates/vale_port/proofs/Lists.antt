-- Ports in a list stand for those of a world, one by one, as the world's change.
use Rattle.std.proofs.Common.{ℕ, zero, suc, true, false, not, ◌≡◌, ◌<◌, ◌≤◌, ◌==◌, List, [], ◌∷◌, ◌++◌, length, map, filter, slice_get, slice_set, Some, None, if◌then◌else◌, refl, sym, ◌∙◌, ap, subst, arith, inl, inr}
use Rattle.std.specs.Prelude.{count_by, sum_by}
use Rattle.std.specs.List.{AllByRecursion as Each, list_any, remove}
use Rattle.std.proofs.lemmas.Bool.{cases_Bool, ne_eqb}
use Rattle.std.proofs.lemmas.Slice.Zip.{AllZip-long}
use Rattle.std.proofs.lemmas.List.Sums.{sum_by-cons}
use Rattle.vale_entry.specs.World.{Port, Lot, changed_at}
use Rattle.vale_entry.specs.Closing.{shut, ports_without}
use Rattle.vale_entry.specs.Delivery.{port_after_done, ports_after_done, lot_after_done}
use Rattle.vale_entry.specs.Holdings.{PortBuffers, PortsAgree, changed_buffers}
use Rattle.vale_entry.specs.Laws.{Rise, id_of_port, id_of_held, IsGrantedBy, bears_number}
use Rattle.vale_entry.proofs.ListLaws.{sum-at}
use Rattle.vale_entry.proofs.Agreeing.{agree-ids, agree-at}
use Rattle.vale_entry.proofs.InStep.{zip-at, zip-set, zip-push, zip-remove}
use Rattle.vale_entry.proofs.Places.{changed_at-place, changed_buffers-place}
use Rattle.vale_entry.proofs.Removals.{filter-at_key}
use Rattle.vale_port.specs.Laws.{is_numbered}
use Rattle.vale_port.specs.Lists.{AreRising, EachPortStands, FoundIsFound, NotFoundIsNone, ChangeIsChange, ShutIsShutAmong, DoneIsDoneAmong, OpenIsOpenAmong, GoneIsGone, NewIsNew}
use Rattle.vale_port.specs.Ports.{PortState, IsSeatOf, AreSeatsOf}
use Rattle.vale_port.specs.Seat.{Seat, port_of, seats_of}
use Rattle.vale_port.proofs.SeatTies.{lots_are_lots, filled-numbered}

-- Seats and ports, side by side.

pub are-length : (seats : List Seat) (ps : List PortState) → AreSeatsOf seats ps → length seats ≡ length ps
are-length seats ps are = sym (AllZip-long IsSeatOf seats ps are)

-- Ports and their buffers, side by side.

abbrev seat_with : Port → PortBuffers → Seat
seat_with port held = record { port = port; held = held }

pub seats-ports : (ports : List Port) (helds : List PortBuffers) → PortsAgree ports helds → map port_of (seats_of ports helds) ≡ ports
seats-ports [] helds agree = refl
seats-ports (port ∷ ports) [] agree = absurd agree
seats-ports (port ∷ ports) (held ∷ helds) agree = ap (λ (ps : List Port). port ∷ ps) (seats-ports ports helds agree.1)

pub seats-at : (ports : List Port) (helds : List PortBuffers) (place : ℕ) (port : Port) (held : PortBuffers) → slice_get ports place ≡ Some port → slice_get helds place ≡ Some held
    → slice_get (seats_of ports helds) place ≡ Some (seat_with port held)
seats-at [] helds place port held e f = absurd cc
seats-at (p ∷ ps) [] place port held e f = absurd cc
seats-at (p ∷ ps) (h ∷ hs) zero port held e f =
    let one : p ≡ port = cc in
    let two : h ≡ held = cc in
    cc
seats-at (p ∷ ps) (h ∷ hs) (suc place) port held e f = seats-at ps hs place port held e f

pub seats-set : (ports : List Port) (helds : List PortBuffers) (place : ℕ) (port : Port) (held : PortBuffers)
    → seats_of (slice_set ports place port) (slice_set helds place held) ≡ slice_set (seats_of ports helds) place (seat_with port held)
seats-set [] helds place port held = refl
seats-set (p ∷ ps) [] place port held = none-left place
  where
    none-left : (place : ℕ) → seats_of (slice_set (p ∷ ps) place port) [] ≡ []
    none-left zero = refl
    none-left (suc place) = refl
seats-set (p ∷ ps) (h ∷ hs) zero port held = refl
seats-set (p ∷ ps) (h ∷ hs) (suc place) port held = ap (λ (ss : List Seat). seat_with p h ∷ ss) (seats-set ps hs place port held)

-- only the port changes
pub seats-set_port : (ports : List Port) (helds : List PortBuffers) (place : ℕ) (port : Port) (held : PortBuffers) → slice_get helds place ≡ Some held
    → seats_of (slice_set ports place port) helds ≡ slice_set (seats_of ports helds) place (seat_with port held)
seats-set_port [] helds place port held e = refl
seats-set_port (p ∷ ps) [] place port held e = absurd cc
seats-set_port (p ∷ ps) (h ∷ hs) zero port held e = let same : h ≡ held = cc in cc
seats-set_port (p ∷ ps) (h ∷ hs) (suc place) port held e = ap (λ (ss : List Seat). seat_with p h ∷ ss) (seats-set_port ps hs place port held e)

pub seats-push : (ports : List Port) (helds : List PortBuffers) (port : Port) (held : PortBuffers) → PortsAgree ports helds
    → seats_of (ports ++ port ∷ []) (helds ++ held ∷ []) ≡ seats_of ports helds ++ seat_with port held ∷ []
seats-push [] [] port held agree = refl
seats-push [] (h ∷ hs) port held agree = absurd agree
seats-push (p ∷ ps) [] port held agree = absurd agree
seats-push (p ∷ ps) (h ∷ hs) port held agree = ap (λ (ss : List Seat). seat_with p h ∷ ss) (seats-push ps hs port held agree.1)

pub seats-remove : (ports : List Port) (helds : List PortBuffers) (place : ℕ) → PortsAgree ports helds
    → seats_of (remove ports place) (remove helds place) ≡ remove (seats_of ports helds) place
seats-remove [] [] zero agree = refl
seats-remove [] [] (suc place) agree = refl
seats-remove [] (h ∷ hs) place agree = absurd agree
seats-remove (p ∷ ps) [] place agree = absurd agree
seats-remove (p ∷ ps) (h ∷ hs) zero agree = refl
seats-remove (p ∷ ps) (h ∷ hs) (suc place) agree = ap (λ (ss : List Seat). seat_with p h ∷ ss) (seats-remove ps hs place agree.1)

-- What a list of ports keeps.

pub each_port_stands : EachPortStands
each_port_stands ports helds ps place port are here =
    let own = agree-at ports helds place port are.agree here in
    let seat = zip-at IsSeatOf (seats_of ports helds) ps place (seat_with port own.held) are.stand (seats-at ports helds place port own.held here own.here) in
    record {
      held = own.held;
      state = seat.item;
      here = here;
      held_here = own.here;
      state_here = seat.here;
      agrees = own.agrees;
      is_seat = seat.holds;
    }

pub found_is_found : FoundIsFound
found_is_found ports helds ps search' place are found =
    subst (λ (all : List Port). search' all ≡ slice_get all place) (seats-ports ports helds are.agree) (found.found (seats_of ports helds) are.stand)

pub not_found_is_none : NotFoundIsNone
not_found_is_none ports helds ps search' are none =
    subst (λ (all : List Port). search' all ≡ None) (seats-ports ports helds are.agree) (none (seats_of ports helds) are.stand)

held-id : (ports : List Port) (helds : List PortBuffers) (place : ℕ) (port : Port) (held : PortBuffers) → PortsAgree ports helds → slice_get ports place ≡ Some port
    → slice_get helds place ≡ Some held → held.port ≡ port.id
held-id ports helds place port held agree e f =
    let own = agree-at ports helds place port agree e in
    let same : own.held ≡ held = some-same (sym own.here ∙ f) in
    ap id_of_held (sym same) ∙ own.agrees.id
  where
    some-same : {A : Type 0} {x y : A} → Some x ≡ Some y → x ≡ y
    some-same e = cc

helds-rise : (ports : List Port) (helds : List PortBuffers) (high : ℕ) → PortsAgree ports helds → Rise 0 (map id_of_port ports) high → Rise 0 (map id_of_held helds) high
helds-rise ports helds high agree r = subst (λ (ids : List ℕ). Rise 0 ids high) (sym (agree-ids ports helds agree)) r

-- a change at a port's id is a change at its place
pub change-set : (ports : List Port) (helds : List PortBuffers) {ps : List PortState} (place : ℕ) (port : Port) (held : PortBuffers) (change : Port → Port) (changed : PortBuffers → PortBuffers)
    → AreRising ports helds ps → slice_get ports place ≡ Some port → slice_get helds place ≡ Some held
    → seats_of (changed_at port.id change ports) (changed_buffers port.id changed helds) ≡ slice_set (seats_of ports helds) place (seat_with (change port) (changed held))
change-set ports helds place port held change changed are e f =
    let id = held-id ports helds place port held are.agree e f in
    let own : changed_buffers port.id changed helds ≡ slice_set helds place (changed held) =
    subst (λ (k : ℕ). changed_buffers k changed helds ≡ slice_set helds place (changed held)) id
    (changed_buffers-place changed helds are.high place held (helds-rise ports helds are.high are.agree are.rise) f) in
    let all : changed_at port.id change ports ≡ slice_set ports place (change port) = changed_at-place change ports are.high place port are.rise e in
    rw (all, own) (seats-set ports helds place (change port) (changed held))

pub change_is_change : ChangeIsChange
change_is_change ports helds ps place port held p change changed are e f is =
    subst (λ (ss : List Seat). AreSeatsOf ss (slice_set ps place p)) (sym (change-set ports helds place port held change changed are e f))
    (zip-set IsSeatOf (seats_of ports helds) ps place (seat_with (change port) (changed held)) p are.stand is)

pub shut_is_shut : ShutIsShutAmong
shut_is_shut ports helds old new place port held are e f changes =
    let all : changed_at port.id shut ports ≡ slice_set ports place (shut port) = changed_at-place shut ports are.high place port are.rise e in
    let seats : seats_of (changed_at port.id shut ports) helds ≡ slice_set (seats_of ports helds) place (seat_with (shut port) held) =
    rw all (seats-set_port ports helds place (shut port) held f) in
    let made : AreSeatsOf (slice_set (seats_of ports helds) place (seat_with (shut port) held)) new =
    changes (seats_of ports helds) (seat_with port held) are.stand (seats-at ports helds place port held e f) in
    subst (λ (ss : List Seat). AreSeatsOf ss new) (sym seats) made

pub open_is_open_among : OpenIsOpenAmong
open_is_open_among ports helds ps port held p are is =
    subst (λ (ss : List Seat). AreSeatsOf ss (ps ++ p ∷ [])) (sym (seats-push ports helds port held are.agree)) (zip-push IsSeatOf (seats_of ports helds) ps (seat_with port held) p are.stand is)

pub gone_is_gone : GoneIsGone
gone_is_gone ports helds ps place port are e =
    let own = agree-at ports helds place port are.agree e in
    let all : ports_without port.id ports ≡ remove ports place = filter-at_key id_of_port 0 ports are.high place port are.rise e in
    let held : filter (λ (held : PortBuffers). not (held.port == port.id)) helds ≡ remove helds place =
    subst (λ (k : ℕ). filter (λ (held : PortBuffers). not (held.port == k)) helds ≡ remove helds place) own.agrees.id
    (filter-at_key id_of_held 0 helds are.high place own.held (helds-rise ports helds are.high are.agree are.rise) own.here) in
    let seats : seats_of (ports_without port.id ports) (filter (λ (held : PortBuffers). not (held.port == port.id)) helds) ≡ remove (seats_of ports helds) place =
    rw (all, held) (seats-remove ports helds place are.agree) in
    subst (λ (ss : List Seat). AreSeatsOf ss (remove ps place)) (sym seats) (zip-remove IsSeatOf (seats_of ports helds) ps place are.stand)

-- A lot that is done stands at one port.

abbrev one_of : ℕ → Lot → ℕ
one_of number lot = if bears_number number lot then 1 else 0

abbrev lots_of : ℕ → Port → ℕ
lots_of number port = count_by (bears_number number) port.line

none-numbered : (number : ℕ) (lots : List Lot) → count_by (bears_number number) lots ≡ 0 → map (lot_after_done number) lots ≡ lots
none-numbered number [] none = refl
none-numbered number (lot ∷ lots) none = elim (cases_Bool (lot.number == number)) [
  | inl here ↦
      let one : one_of number lot ≡ 1 = rw here refl in
      let sum = sum_by-cons (one_of number) lot lots in
      absurd (omega (arith, none, one, sum))
  | inr other ↦
      let sum = sum_by-cons (one_of number) lot lots in
      let rest = none-numbered number lots (omega (arith, none, sum)) in
      let first : lot_after_done number lot ≡ lot = rw other refl in
      cc
]

some-numbered : (number : ℕ) (lots : List Lot) → list_any (is_numbered number) lots ≡ true → 1 ≤ count_by (bears_number number) lots
some-numbered number [] some = absurd (let wrong : false ≡ true = some in cc)
some-numbered number (lot ∷ lots) some = elim (cases_Bool (lot.number == number)) [
  | inl here ↦
      let one : one_of number lot ≡ 1 = rw here refl in
      let sum = sum_by-cons (one_of number) lot lots in
      omega (arith, one, sum)
  | inr other ↦
      let sum = sum_by-cons (one_of number) lot lots in
      let rest = some-numbered number lots (rw other at some) in
      omega (arith, sum, rest)
]

port-undone : (number : ℕ) (port : Port) → lots_of number port ≡ 0 → port_after_done number port ≡ port
port-undone number port none = ap (λ (line : List Lot). let p : Port = record port { line = line } in p) (none-numbered number port.line none)

none-done : (number : ℕ) (ports : List Port) → sum_by (lots_of number) ports ≡ 0 → ports_after_done number ports ≡ ports
none-done number [] none = refl
none-done number (port ∷ ports) none =
    let sum = sum_by-cons (lots_of number) port ports in
    let first = port-undone number port (omega (arith, none, sum)) in
    let rest = none-done number ports (omega (arith, none, sum)) in
    cc

done-place : (number : ℕ) (ports : List Port) (place : ℕ) (port : Port) → sum_by (lots_of number) ports ≤ 1 → slice_get ports place ≡ Some port
    → 1 ≤ lots_of number port → ports_after_done number ports ≡ slice_set ports place (port_after_done number port)
done-place number [] place port single e some = absurd cc
done-place number (p ∷ ps) zero port single e some =
    let same : p ≡ port = cc in
    let sum = sum_by-cons (lots_of number) p ps in
    let own : lots_of number p ≡ lots_of number port = ap (lots_of number) same in
    let rest = none-done number ps (omega (arith, single, some, sum, own)) in
    let first : port_after_done number p ≡ port_after_done number port = ap (port_after_done number) same in
    cc
done-place number (p ∷ ps) (suc place) port single e some =
    let sum = sum_by-cons (lots_of number) p ps in
    let later = sum-least number ps place port e in
    let first = port-undone number p (omega (arith, single, some, sum, later)) in
    let rest = done-place number ps place port (omega (arith, single, sum)) e some in
    cc
  where
    sum-least : (number : ℕ) (ports : List Port) (place : ℕ) (port : Port) → slice_get ports place ≡ Some port → lots_of number port ≤ sum_by (lots_of number) ports
    sum-least number ports place port e = sum-at (lots_of number) ports place port e

pub done_is_done_among : DoneIsDoneAmong
done_is_done_among ports helds old new place lease port held are single e f filled changes =
    let number = lease.id in
    let there = filled-numbered (seat_with port held) lease filled in
    let all : ports_after_done number ports ≡ slice_set ports place (port_after_done number port) = done-place number ports place port (single number) e (some-numbered number port.line there) in
    let seats : seats_of (ports_after_done number ports) helds ≡ slice_set (seats_of ports helds) place (seat_with (port_after_done number port) held) =
    rw all (seats-set_port ports helds place (port_after_done number port) held f) in
    let made : AreSeatsOf (slice_set (seats_of ports helds) place (seat_with (port_after_done number port) held)) new =
    changes (seats_of ports helds) (seat_with port held) are.stand (seats-at ports helds place port held e f) filled in
    subst (λ (ss : List Seat). AreSeatsOf ss new) (sym seats) made

-- The number of a later entry is that of no lot.

later-none : (count number : ℕ) (lots : List Lot) → Each (IsGrantedBy count) lots → count < number → list_any (is_numbered number) lots ≡ false
later-none count number [] all later = refl
later-none count number (lot ∷ lots) all later =
    let bound : lot.number ≤ count = all.0 in
    let miss : (lot.number == number) ≡ false = ne_eqb lot.number number (λ e. absurd (omega (arith, bound, later, e))) in
    rw miss (later-none count number lots all.1 later)

pub new_is_new : NewIsNew
new_is_new seat p count number is within later = (lots_are_lots seat p number is).1.0 ∙ later-none count number seat.port.line within later
