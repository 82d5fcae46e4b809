use Rattle.std.proofs.Common.{◌+◌, ◌≤◌, ◌≡◌, length, drop, sym, subst, arith}
use Rattle.vale_fabric.specs.Filling.{bytes_from}
use Rattle.vale_book.specs.Offering.{OffersState}
use Rattle.vale_fabric.specs.Fabrics.{fixed_in, knowing}
use Rattle.vale_fabric.specs.Settling.{IsAtHand, frames_wanted, shared_in}
use Rattle.vale_fabric.proofs.Passing.{passed-nothing, passed-then}
use Rattle.vale_fabric.proofs.GrantsSettle.{Going, going-first, going-next}
use Rattle.vale_fabric.proofs.fabric.Fabric.settle.Goals as goal

pub loop-pass-init : goal.loop-pass-init
loop-pass-init g c = record { pass = c.requires.pass; going = going-first c.args.offers (bytes_from c.args.frames) c.requires.hand; passed = passed-nothing c.args.user (knowing c.args.pass.now) _ }

pub loop-pass-preserved : goal.loop-pass-preserved
loop-pass-preserved g c =
    let round = c.settle_next-more.ensures in
    let now = c.loop-pass.offers in
    let fewer = round.fewer in
    let next : 1 ≤ length now.wants = omega (arith, fewer) in
    let all = subst (λ (o : OffersState). shared_in c.settle_next-more.result + frames_wanted o.wants ≡ frames_wanted now.wants) round.offers round.all in
    let hand = subst (λ (o : OffersState). IsAtHand (fixed_in c.args.self.now) (knowing c.settle_next-more.new.pass) o (bytes_from c.args.frames)) round.offers round.hand in
    let going = going-next c.loop-pass.invariant.going next round.settling hand all in
    record {
      pass = round.pass;
      going = subst (λ (o : OffersState). Going (fixed_in c.args.self.now) (knowing c.args.pass.now) (knowing c.settle_next-more.new.pass) c.args.offers o (bytes_from c.args.frames) c.plus-all.result) (sym round.offers)
          (subst (Going (fixed_in c.args.self.now) (knowing c.args.pass.now) (knowing c.settle_next-more.new.pass) c.args.offers (record now { wants = drop 1 now.wants }) (bytes_from c.args.frames)) (sym c.plus-all.ensures) going);
      passed = passed-then c.loop-pass.invariant.passed round.passed;
    }
