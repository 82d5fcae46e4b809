use Rattle.std.proofs.Common.{◌≡◌, ◌∙◌, ◌++◌, ◌∷◌, [], length, Some, nat_lt, if◌then◌else◌, ap, rules}
use Rattle.nm_types.specs.declared.place.Place.{Place}
use Rattle.nm_types.specs.Places.{is_same_place}
use Rattle.nm_region.specs.Buffers.{Buffer}
use Rattle.nm_hold.specs.Holds.{index_at, with_cell}
use Rattle.nm_port.specs.Filling.{place_in, placed}
use Rattle.nm_port.proofs.Filling.{FindsRoom, partly_room, partly_next}
use Rattle.nm_port.proofs.fill.fill.Goals as goal

-- the buffer that comes next
record Step (c : goal.After-place_in) : Type 0 where
  last : c.loop-buf.bufs.items ≡ c.pop.new.self.items ++ c.in-Some.buf ∷ []
  at : c.len-at.result ≡ length c.pop.new.self.items
  index : c.clear.new.buf.index ≡ c.in-Some.buf.index
  room : FindsRoom c.loop-buf.hold (place_in c.args.port c.args.row (length c.pop.new.self.items)) c.in-Some.buf.index

step : (c : goal.After-place_in) → Step c
step c =
    let last : c.loop-buf.bufs.items ≡ c.pop.new.self.items ++ c.in-Some.buf ∷ [] = search rules in
    let at : c.len-at.result ≡ length c.pop.new.self.items = c.len-at.ensures ∙ c.pop.new.self.ok.0 in
    record {
      last = last;
      at = at;
      index = ap (λ (b : Buffer). b.index) c.clear.ensures;
      room = partly_room c.args.hold.now c.loop-buf.hold c.args.port c.args.row c.args.named c.args.all.items c.loop-buf.bufs.items c.pop.new.self.items c.in-Some.buf c.loop-buf.next c.loop-buf.invariant last
          c.requires.empty c.requires.away c.requires.once;
    }

pub put-requires-clause-empty : goal.put-requires-clause-empty
put-requires-clause-empty c = let s = step c in rw (c.place_in.ensures, s.at) s.room.empty

pub put-requires-clause-index : goal.put-requires-clause-index
put-requires-clause-index c = let s = step c in rw s.index s.room.index

pub put-requires-clause-apart : goal.put-requires-clause-apart
put-requires-clause-apart c = let s = step c in rw s.index s.room.apart

pub loop-buf-preserved : goal.loop-buf-preserved
loop-buf-preserved c =
    let rest = c.pop.new.self.items in
    let last : c.loop-buf.bufs.items ≡ rest ++ c.in-Some.buf ∷ [] = search rules in
    let at : c.len-at.result ≡ length rest = c.len-at.ensures ∙ c.pop.new.self.ok.0 in
    let room = partly_room c.args.hold.now c.loop-buf.hold c.args.port c.args.row c.args.named c.args.all.items c.loop-buf.bufs.items rest c.in-Some.buf c.loop-buf.next c.loop-buf.invariant last
    c.requires.empty c.requires.away c.requires.once in
    let y = c.clear.new.buf in
    let cell : c.put.new.hold ≡ with_cell c.loop-buf.hold y.index (Some (placed (place_in c.args.port c.args.row (length rest)) (nat_lt (length rest) c.args.named) y)) =
    rw (← at, ← c.place_in.ensures) c.put.ensures.cell in
    let places : (q : Place) → index_at c.put.new.hold q ≡ (if is_same_place (place_in c.args.port c.args.row (length rest)) q then Some y.index else index_at c.loop-buf.hold q) =
    rw (← at, ← c.place_in.ensures) c.put.ensures.places in
    partly_next c.args.hold.now c.loop-buf.hold c.args.port c.args.row c.args.named c.args.all.items c.loop-buf.bufs.items rest c.in-Some.buf c.loop-buf.next c.loop-buf.invariant last
    c.put.new.hold y c.index-next.result room (ap (λ (b : Buffer). b.index) c.clear.ensures) (ap (λ (b : Buffer). b.bytes) c.clear.ensures) c.index-next.ensures cell places c.put.ensures.hold (ap (λ (b : Buffer). b.region) c.clear.ensures)
