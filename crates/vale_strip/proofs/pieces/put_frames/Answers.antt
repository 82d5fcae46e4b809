use Rattle.std.proofs.Common.{List, ℕ, refl, subst, take_all, arith, rules}
use Rattle.std.proofs.lemmas.Result.{err_from_is_err_and}
use Rattle.nm_types.specs.Frames.{Frame}
use Rattle.vale_entry.specs.Transcript.{frame_text}
use Rattle.vale_strip.specs.Failures.{Puts}
use Rattle.vale_strip.proofs.Strips.{list_first, list_more, list_fails, list_nothing, list_starts}
use Rattle.vale_strip.proofs.pieces.put_frames.Goals as goal

pub returns-in_err-put_frame-clause-gathers : goal.returns-in_err-put_frame-clause-gathers
returns-in_err-put_frame-clause-gathers g c =
    let p = err_from_is_err_and c.from_residual.result c.from_residual.ensures.1 in
    let frame : Frame = record { bytes = c.get.result.0.now; no_learn = c.get.result.1 } in
    rw (p.1) (list_starts (g.K.Sink.holds c.args.out.now) (g.K.Sink.holds c.put_frame.new.out) c.args.strip.now frame_text c.args.frames.now frame c.get.ensures c.in_err-put_frame.ensures.gathers)

pub returns-in_err-put_next_frame-clause-gathers : goal.returns-in_err-put_next_frame-clause-gathers
returns-in_err-put_next_frame-clause-gathers g c =
    let p = err_from_is_err_and c.from_residual-in_err-put_next_frame.result c.from_residual-in_err-put_next_frame.ensures.1 in
    let frame : Frame = record { bytes = c.get-in-loop-i.result.0.now; no_learn = c.get-in-loop-i.result.1 } in
    rw (p.1) (list_fails (g.K.Sink.holds c.args.out.now) (g.K.Sink.holds c.loop-i.out) (g.K.Sink.holds c.put_next_frame.new.out) c.args.strip.now c.loop-i.strip frame_text c.args.frames.now c.loop-i.i frame (omega arith) c.get-in-loop-i.ensures c.loop-i.invariant.gathered c.in_err-put_next_frame.ensures.gathers)

pub loop-i-preserved : goal.loop-i-preserved
loop-i-preserved g c =
    let frame : Frame = record { bytes = c.get-in-loop-i.result.0.now; no_learn = c.get-in-loop-i.result.1 } in
    record {
      gathered = list_more (g.K.Sink.holds c.args.out.now) (g.K.Sink.holds c.loop-i.out) (g.K.Sink.holds c.put_next_frame.new.out) c.args.strip.now c.loop-i.strip c.put_next_frame.new.strip frame_text c.args.frames.now c.loop-i.i frame (omega arith) c.get-in-loop-i.ensures c.loop-i.invariant.gathered c.in_ok-put_next_frame.ensures.gathers;
      later = search rules;
    }

pub loop-i-init : goal.loop-i-init
loop-i-init g c =
    let frame : Frame = record { bytes = c.get.result.0.now; no_learn = c.get.result.1 } in
    record {
      gathered = list_first (g.K.Sink.holds c.args.out.now) (g.K.Sink.holds c.put_frame.new.out) c.args.strip.now c.put_frame.new.strip frame_text c.args.frames.now frame c.get.ensures c.in_ok-put_frame.ensures.gathers;
      later = c.in_ok-put_frame.ensures.counts.later;
    }

pub returns-then-is_empty-clause-gathers : goal.returns-then-is_empty-clause-gathers
returns-then-is_empty-clause-gathers g c =
    subst (λ (text : List ℕ). Puts g.K.Sink c.args.out.now c.put_byte.new.out c.args.strip.now c.put_byte.new.strip c.put_byte.result text)
    (list_nothing frame_text c.args.frames.now (c.if-is_empty.ensures.0 refl)) c.put_byte.ensures.gathers

pub returns-clause-gathers : goal.returns-clause-gathers
returns-clause-gathers g c = rw (take_all c.loop-i.i c.args.frames.now (omega arith)) at c.loop-i.invariant.gathered
