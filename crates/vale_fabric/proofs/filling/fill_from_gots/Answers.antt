use Rattle.std.proofs.Common.{ℕ, ◌≡◌, length, get_or, subst, arith}
use Rattle.std.proofs.lemmas.Option.{slice_get-get_or}
use Rattle.vale_line.specs.Gots.{frames_in}
use Rattle.vale_book.proofs.LeaseBuffers.{begins-first}
use Rattle.vale_fabric.specs.Filling.{IsFilling}
use Rattle.vale_fabric.proofs.LeaseFilling.{fill-start, next-there, next-in, more-sizes, fill-more}
use Rattle.vale_fabric.proofs.filling.fill_from_gots.Goals as goal

pub loop-i-init : goal.loop-i-init
loop-i-init c = record { is = fill-start c.requires.held; begins = begins-first c.args.gots.now c.requires.cut }

pub find-here-requires-clause-there : goal.find-here-requires-clause-there
find-here-requires-clause-there c = next-there c.loop-i.i _ c.requires.held (slice_get-get_or c.args.places.now c.loop-i.i 0 c.loop-i-test.true)

pub next-requires : goal.next-requires
next-requires c =
    more-sizes c.loop-i.i _ c.requires.held c.loop-i.invariant.is (slice_get-get_or c.args.places.now c.loop-i.i 0 c.loop-i-test.true)

pub slice_bounds-fill_from-end : goal.slice_bounds-fill_from-end
slice_bounds-fill_from-end c =
    let n = next-in c.loop-i.i _ c.find-here.result.at c.requires.held c.loop-i.invariant.is (slice_get-get_or c.args.places.now c.loop-i.i 0 c.loop-i-test.true) c.find-here.ensures.begins in
    rw c.next.ensures n.is.within

pub fill_from-requires-clause-frame : goal.fill_from-requires-clause-frame
fill_from-requires-clause-frame c =
    let n = next-in c.loop-i.i _ c.find-here.result.at c.requires.held c.loop-i.invariant.is (slice_get-get_or c.args.places.now c.loop-i.i 0 c.loop-i-test.true) c.find-here.ensures.begins in
    rw c.next.ensures n.is.parts

pub fill_from-requires-clause-next : goal.fill_from-requires-clause-next
fill_from-requires-clause-next c =
    let n = next-in c.loop-i.i _ c.find-here.result.at c.requires.held c.loop-i.invariant.is (slice_get-get_or c.args.places.now c.loop-i.i 0 c.loop-i-test.true) c.find-here.ensures.begins in
    rw c.next.ensures n.is.count

pub loop-i-preserved : goal.loop-i-preserved
loop-i-preserved c =
    let gots = c.args.gots.now in
    let p = get_or c.args.places.now c.loop-i.i 0 in
    let at = c.find-here.result.at in
    let there = slice_get-get_or c.args.places.now c.loop-i.i 0 c.loop-i-test.true in
    let n = next-in c.loop-i.i p at c.requires.held c.loop-i.invariant.is there c.find-here.ensures.begins in
    let lease = rw c.next.ensures at c.fill_from.ensures.lease in
    let contents = rw c.next.ensures at c.fill_from.ensures.contents in
    record {
      is = fill-more c.loop-i.i p n.bytes c.requires.held c.loop-i.invariant.is there n.there (rw n.is.joined at lease) (rw n.is.joined at contents);
      begins = rw (c.find-here.ensures.frame, c.next.ensures) n.is.next;
    }

pub returns : goal.returns
returns c =
    let end : c.loop-i.i ≡ length c.args.places.now = omega (arith, c.loop-i.auto.i-end, c.loop-i-test.false) in
    subst (λ (n : ℕ). IsFilling c.args.lease.now (frames_in c.args.gots.now) c.args.places.now n c.loop-i.lease) end c.loop-i.invariant.is
