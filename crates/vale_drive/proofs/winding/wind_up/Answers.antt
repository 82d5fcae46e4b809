use Rattle.std.proofs.Common.{Bool, subst}
use Rattle.vale_drive.specs.Turns.{IsLastTurn}
use Rattle.vale_drive.specs.Winding.{IsNextMade}
use Rattle.vale_drive.proofs.Continuing.{continued-next, next-less}
use Rattle.vale_drive.proofs.winding.wind_up.Goals as goal

pub loop-smaller : goal.loop-smaller
loop-smaller c =
    let turn : IsNextMade c.loop.book c.make_next.new.book = subst (λ (t : Bool). IsLastTurn t c.loop.book c.make_next.new.book) c.loop-test.true c.make_next.ensures.turn in
    next-less c.loop.book c.make_next.new.book c.loop.invariant.kept.legal turn

pub loop-preserved : goal.loop-preserved
loop-preserved c =
    let turn : IsNextMade c.loop.book c.make_next.new.book = subst (λ (t : Bool). IsLastTurn t c.loop.book c.make_next.new.book) c.loop-test.true c.make_next.ensures.turn in
    record { on = continued-next c.args.book.now c.loop.book c.make_next.new.book c.loop.invariant.on turn; kept = c.make_next.ensures.kept }
