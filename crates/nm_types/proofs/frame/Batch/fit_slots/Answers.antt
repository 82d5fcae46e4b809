use Rattle.std.proofs.Common.{◌<◌, ◌≤◌, sym, ◌∙◌, arith}
use Rattle.std.proofs.lemmas.Bool.{le-leb, lt-leb}
use Rattle.nm_types.specs.Frames.{Frame, slots_of}
use Rattle.nm_types.proofs.Sizes.{fit_more, fit_long, fit_past}
use Rattle.nm_types.proofs.frame.Batch.fit_slots.Goals as goal

pub returns-then-len-gt-MAX_FRAME_BYTES : goal.returns-then-len-gt-MAX_FRAME_BYTES
returns-then-len-gt-MAX_FRAME_BYTES c =
    let f : Frame = record { bytes = c.get.result.0.now; no_learn = c.get.result.1 } in
    sym (fit_long c.args.self.now c.loop-i.i c.loop-i.left f c.get.ensures (lt-leb _ _ c.if-len-gt-MAX_FRAME_BYTES.true)) ∙ c.loop-i.invariant

pub returns-then-size-left : goal.returns-then-size-left
returns-then-size-left c =
    let f : Frame = record { bytes = c.get.result.0.now; no_learn = c.get.result.1 } in
    let past : c.loop-i.left < slots_of f = omega (arith, c.slots-size.ensures.slots, c.if-size-left.true) in
    sym (fit_past c.args.self.now c.loop-i.i c.loop-i.left f c.get.ensures past) ∙ c.loop-i.invariant

pub loop-i-preserved : goal.loop-i-preserved
loop-i-preserved c =
    let f : Frame = record { bytes = c.get.result.0.now; no_learn = c.get.result.1 } in
    let fits : slots_of f ≤ c.loop-i.left = omega (arith, c.slots-size.ensures.slots, c.if-size-left.false) in
    let more = fit_more c.args.self.now c.loop-i.i c.loop-i.left f c.get.ensures (le-leb _ _ c.if-len-gt-MAX_FRAME_BYTES.false) fits in
    rw c.slots-size.ensures.slots (sym more ∙ c.loop-i.invariant)
