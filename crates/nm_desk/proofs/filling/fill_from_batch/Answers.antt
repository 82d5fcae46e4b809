use Rattle.std.proofs.Common.{ℕ, ◌≡◌, length, ◌∙◌, subst, arith}
use Rattle.std.proofs.lemmas.List.{length-map}
use Rattle.std.proofs.lemmas.Option.{slice_get-get_or, slice_get-map}
use Rattle.nm_types.specs.Frames.{Frame}
use Rattle.vale_port.specs.Kept.{bytes_of}
use Rattle.nm_desk.specs.Filling.{IsFilling}
use Rattle.nm_desk.proofs.LeaseFilling.{fill-start, next-there, next-is, fill-more, fit-at}
use Rattle.nm_desk.proofs.filling.fill_from_batch.Goals as goal

pub loop-i-init : goal.loop-i-init
loop-i-init c = record { is = fill-start c.requires.held }

pub frame-requires : goal.frame-requires
frame-requires c =
    let there = next-there c.loop-i.i _ c.requires.held (slice_get-get_or c.args.places.now c.loop-i.i 0 c.loop-i-test.true) in
    let count = length-map c.args.batch.now (λ (f : Frame). f.bytes) in
    omega (arith, there, count)

pub fill_next-requires-clause-frame : goal.fill_next-requires-clause-frame
fill_next-requires-clause-frame c = fit-at c.args.batch.now _ c.frame.result.now c.requires.fit c.frame.ensures

pub fill_next-requires-clause-next : goal.fill_next-requires-clause-next
fill_next-requires-clause-next c =
    (next-is c.loop-i.i _ c.frame.result.now c.requires.held c.loop-i.invariant.is (slice_get-get_or c.args.places.now c.loop-i.i 0 c.loop-i-test.true)
    (slice_get-map (λ (f : Frame). f.bytes) c.args.batch.now _ ∙ c.frame.ensures))

pub loop-i-preserved : goal.loop-i-preserved
loop-i-preserved c = record {
  is = fill-more c.loop-i.i _ c.frame.result.now c.requires.held c.loop-i.invariant.is (slice_get-get_or c.args.places.now c.loop-i.i 0 c.loop-i-test.true)
      (slice_get-map (λ (f : Frame). f.bytes) c.args.batch.now _ ∙ c.frame.ensures) c.fill_next.ensures.lease c.fill_next.ensures.contents;
}

pub returns : goal.returns
returns c =
    let end : c.loop-i.i ≡ length c.args.places.now = omega (arith, c.loop-i.auto.i-end, c.loop-i-test.false) in
    subst (λ (n : ℕ). IsFilling c.args.lease.now (bytes_of c.args.batch.now) c.args.places.now n c.loop-i.lease) end c.loop-i.invariant.is
