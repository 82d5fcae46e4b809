use Rattle.std.proofs.Common.{◌<◌, length, arith}
use Rattle.nm_types.proofs.Places.{frames_long, frame_there, in_order}
use Rattle.nm_types.proofs.frame.Run.get.Goals as goal

pub start_at-start-requires : goal.start_at-start-requires
start_at-start-requires c = rw c.deref.ensures.value (omega (arith, rw (← c.self.view_is) at c.requires, frames_long c.self.inside.bytes.items c.self.inside.ends.items c.self.inside.marks.items 0))

pub end_at-end-requires : goal.end_at-end-requires
end_at-end-requires c = rw c.deref-2.ensures.value (omega (arith, rw (← c.self.view_is) at c.requires, frames_long c.self.inside.bytes.items c.self.inside.ends.items c.self.inside.marks.items 0))

pub part-requires-clause-order : goal.part-requires-clause-order
part-requires-clause-order c =
    let ends = c.self.inside.ends.items in
    let bytes = c.self.inside.bytes.items in
    let within : c.args.i < length ends = omega (arith, rw (← c.self.view_is) at c.requires, frames_long bytes ends c.self.inside.marks.items 0) in
    rw (c.start_at-start.ensures, c.end_at-end.ensures, c.deref.ensures.value, c.deref-2.ensures.value) (in_order 0 (length bytes) ends c.args.i c.self.invariant.cut within).0

pub part-requires-clause-within : goal.part-requires-clause-within
part-requires-clause-within c =
    let ends = c.self.inside.ends.items in
    let bytes = c.self.inside.bytes.items in
    let within : c.args.i < length ends = omega (arith, rw (← c.self.view_is) at c.requires, frames_long bytes ends c.self.inside.marks.items 0) in
    rw (c.end_at-end.ensures, c.deref-2.ensures.value, c.deref-3.ensures.value) (in_order 0 (length bytes) ends c.args.i c.self.invariant.cut within).1

pub returns : goal.returns
returns c =
    let ends = c.self.inside.ends.items in
    let bytes = c.self.inside.bytes.items in
    let marks = c.self.inside.marks.items in
    let within : c.args.i < length ends = omega (arith, rw (← c.self.view_is) at c.requires, frames_long bytes ends marks 0) in
    rw (← c.self.view_is, c.part.ensures, c.is_marked.ensures, c.start_at-start.ensures, c.end_at-end.ensures, c.deref.ensures.value, c.deref-2.ensures.value, c.deref-3.ensures.value, c.deref-4.ensures.value)
    (frame_there bytes ends marks 0 c.args.i within)
