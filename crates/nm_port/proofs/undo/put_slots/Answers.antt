use Rattle.std.proofs.Common.{Bool, nat_le, if◌then◌else◌, None, ◌≡◌, ◌∙◌, ◌∷◌, ◌++◌, ◌+◌, ◌≤◌, [], length, reverse, List, Some, refl, ap, arith, length-append, rules}
use Rattle.std.specs.Vec.{vec_capacity}
use Rattle.nm_types.specs.Limits.{most_ring}
use Rattle.nm_region.specs.Buffers.{Buffer}
use Rattle.nm_hold.specs.Holds.{HoldState, index_at, with_cell}
use Rattle.nm_hold.proofs.Spots.{same_place-refl}
use Rattle.nm_port.specs.Filling.{placed}
use Rattle.nm_port.specs.Lending.{Run, IsOut, AreOut, place_of_run}
use Rattle.nm_port.proofs.Undoing.{last_out, belongs_back, index_back, apart_back, put_back}
use Rattle.nm_port.proofs.undo.put_slots.Goals as goal
use Rattle.nm_port.proofs.undo.put_slots.Goals.{In-Some}

abbrev run : In-Some → Run
run c = record { id = c.args.port; side = c.args.side; size = c.args.size; first = c.args.first }

-- the hold out of which the buffer went
before : (c : In-Some) → (h : HoldState) × IsOut h c.loop-buf.hold (place_of_run (run c) (length c.pop.new.self.items)) (nat_le c.args.unnamed (length c.pop.new.self.items)) c.in-Some.buf
before c =
    let last : c.loop-buf.bufs.items ≡ c.pop.new.self.items ++ c.in-Some.buf ∷ [] = search rules in
    let out = c.loop-buf.invariant.0 in
    let x = last_out out.0 (run c) c.args.unnamed c.loop-buf.bufs.items c.pop.new.self.items c.in-Some.buf c.loop-buf.hold last out.1 in
    (x.0, x.1.0)

pub put-requires-clause-hold : goal.put-requires-clause-hold
put-requires-clause-hold c = (before (goal.at.put-requires-clause-hold c).In-Some).1.is_hold

pub put-requires-clause-belongs : goal.put-requires-clause-belongs
put-requires-clause-belongs c =
    let x = before (goal.at.put-requires-clause-belongs c).In-Some in
    let at : c.len-k.result ≡ length c.pop.new.self.items = c.len-k.ensures ∙ c.pop.new.self.ok.0 in
    rw (c.place_on.ensures, at) (belongs_back x.0 c.loop-buf.hold _ _ c.in-Some.buf x.1)

pub put-requires-clause-empty : goal.put-requires-clause-empty
put-requires-clause-empty c =
    let i = (goal.at.put-requires-clause-empty c).In-Some in
    let x = before i in
    let place = place_of_run (run i) (length c.pop.new.self.items) in
    let at : c.len-k.result ≡ length c.pop.new.self.items = c.len-k.ensures ∙ c.pop.new.self.ok.0 in
    rw (c.place_on.ensures, at) (x.1.index place ∙ ap (λ (b : Bool). if b then None else index_at x.0 place) (same_place-refl place))

pub put-requires-clause-index : goal.put-requires-clause-index
put-requires-clause-index c = let x = before (goal.at.put-requires-clause-index c).In-Some in index_back x.0 c.loop-buf.hold _ _ c.in-Some.buf x.1

pub put-requires-clause-apart : goal.put-requires-clause-apart
put-requires-clause-apart c = let x = before (goal.at.put-requires-clause-apart c).In-Some in apart_back x.0 c.loop-buf.hold _ _ c.in-Some.buf x.1

pub loop-buf-preserved : goal.loop-buf-preserved
loop-buf-preserved c =
    let run : Run = record { id = c.args.port; side = c.args.side; size = c.args.size; first = c.args.first } in
    let unnamed = c.args.unnamed in
    let named = nat_le unnamed (length c.pop.new.self.items) in
    let left = c.pop.new.self.items in
    let buf = c.in-Some.buf in
    let last : c.loop-buf.bufs.items ≡ left ++ buf ∷ [] = search rules in
    let at : c.len-k.result ≡ length left = c.len-k.ensures ∙ c.pop.new.self.ok.0 in
    let place : c.place_on.result ≡ place_of_run run (length left) = rw (c.place_on.ensures, at) refl in
    let cell : c.put.new.hold ≡ with_cell c.loop-buf.hold buf.index (Some (placed (place_of_run run (length left)) named buf)) = rw (place, at) at c.put.ensures.cell in
    let back : (h : HoldState) → AreOut h run unnamed (reverse c.loop-buf.bufs.items) c.loop-buf.hold → AreOut h run unnamed (reverse left) c.put.new.hold = (λ h out.
    let x = last_out h run unnamed c.loop-buf.bufs.items left buf c.loop-buf.hold last out in
    rw (put_back x.0 c.loop-buf.hold (place_of_run run (length left)) named buf x.1.0 c.put.new.hold cell) x.1.1) in
    let out = c.loop-buf.invariant.0 in
    let count : length c.loop-buf.bufs.items ≡ length left + 1 = ap (λ (xs : List Buffer). length xs) last ∙ length-append left (buf ∷ []) in
    let few : length left ≤ most_ring = omega (arith, count, c.loop-buf.invariant.2) in
    let room : vec_capacity c.pop.new.self ≡ vec_capacity c.args.bufs.now = c.pop.ensures.capacity ∙ c.loop-buf.invariant.3 in
    ((out.0, back out.0 out.1), (λ h start. back h (c.loop-buf.invariant.1 h start)), few, room)
