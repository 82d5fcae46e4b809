use Rattle.std.proofs.Common.{length, arith}
use Rattle.vale_line.specs.Stored.{state_of}
use Rattle.vale_line.proofs.LotLemmas.{length-ready, slots-parts}
use Rattle.vale_line.proofs.line.Line.ready_frames.Goals as goal

pub ready_frames-requires : goal.ready_frames-requires
ready_frames-requires c =
    let line = state_of c.self.inside in
    let ready = length-ready line.lots c.self.invariant.line.lots in
    let parts = slots-parts line.lots in
    let within = c.self.invariant.line.within in
    let few = c.self.invariant.line.few in
    omega (arith, ready, parts, within, few)
