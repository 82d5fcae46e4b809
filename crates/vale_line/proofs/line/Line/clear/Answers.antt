use Rattle.std.proofs.Common.{length, ap, arith}
use Rattle.vale_line.specs.Lines.{LineState, ready_gots}
use Rattle.vale_line.specs.Stored.{state_of}
use Rattle.vale_line.proofs.LotLemmas.{length-ready, slots-parts}
use Rattle.vale_line.proofs.line.Line.clear.Goals as goal

pub discard_done-unread-requires-clause-room : goal.discard_done-unread-requires-clause-room
discard_done-unread-requires-clause-room c =
    let line = state_of c.self.inside in
    let lots = ap (λ (l : LineState). length (ready_gots l.lots)) c.give_idle-bufs.ensures.line in
    let idle = ap length c.give_idle-bufs.ensures.idle in
    let len = c.give_idle-bufs.result.ok.0 in
    let ready = length-ready line.lots c.self.invariant.line.lots in
    let parts = slots-parts line.lots in
    let within = c.self.invariant.line.within in
    let room = c.self.invariant.room in
    let same = c.give_idle-bufs.ensures.capacity in
    omega (arith, lots, idle, len, ready, parts, within, room, same)

pub discard_done-unread-requires-clause-few : goal.discard_done-unread-requires-clause-few
discard_done-unread-requires-clause-few c =
    let line = state_of c.self.inside in
    let lots = ap (λ (l : LineState). length (ready_gots l.lots)) c.give_idle-bufs.ensures.line in
    let ready = length-ready line.lots c.self.invariant.line.lots in
    let parts = slots-parts line.lots in
    let within = c.self.invariant.line.within in
    let few = c.self.invariant.line.few in
    omega (arith, lots, ready, parts, within, few)
