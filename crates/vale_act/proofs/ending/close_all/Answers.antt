use Rattle.std.proofs.Common.{◌≡◌, length, slice_get, Some, sym, subst, arith}
use Rattle.std.proofs.lemmas.Option.{slice_get_read}
use Rattle.vale_fabric.specs.Fabrics.{fixed_in, knowing}
use Rattle.vale_player.specs.Kept.{KeepsAll}
use Rattle.vale_act.specs.Seats.{Closes, saves_at}
use Rattle.vale_act.specs.declared.seat.Seat.{Seat}
use Rattle.vale_act.proofs.Closings.{closing-all, closing-none, closing-set}
use Rattle.vale_act.specs.Leaving.{SeatStillLeaves}
use Rattle.vale_act.proofs.DepartingScript.{seat-leaving}
use Rattle.vale_act.proofs.KeptNotes.{none-left, one-leaves}
use Rattle.vale_act.proofs.ending.close_all.Goals as goal

pub loop-place-preserved : goal.loop-place-preserved
loop-place-preserved g c =
    let s = c.loop-place in
    let here : slice_get s.seats s.place ≡ Some c.index-seats-place.result = slice_get_read s.seats (length c.args.seats.now) s.place c.index-seats-place.result (sym s.invariant.1.len) c.loop-place-test.true c.index-seats-place.is in (
      c.close.ensures.pass,
      closing-set c.args.fabric.now (knowing c.args.main.now) (knowing s.main) (knowing c.close.new.main) c.args.seats.now s.seats s.place c.index-seats-place.result c.close.new.self here c.requires.seated s.invariant.1
          (subst (λ (b : Seat). Closes (fixed_in c.args.fabric.now).pool (knowing s.main) (knowing c.close.new.main) b c.close.new.self) (sym c.index-seats-place.is) c.close.ensures.closes),
      λ can. seat-leaving (knowing s.main) (knowing c.close.new.main) s.seats s.place c.index-seats-place.result c.close.new.self here
          (subst (λ (b : Seat). SeatStillLeaves (knowing s.main) (knowing c.close.new.main) b c.close.new.self) (sym c.index-seats-place.is) c.close.ensures.leaves) (s.invariant.2 can),
      λ whole. c.close.ensures.kept (s.invariant.3 whole),
      one-leaves s.kept c.close.new.kept s.seats s.place c.index-seats-place.result c.close.new.self here c.close.ensures.more
          (subst (λ (b : Seat). KeepsAll s.kept (saves_at b) → KeepsAll c.close.new.kept (saves_at c.close.new.self)) (sym c.index-seats-place.is) c.close.ensures.saves) s.invariant.4,
    )

pub returns-clause-closes : goal.returns-clause-closes
returns-clause-closes g c =
    let s = c.loop-place in
    let past = c.loop-place-test.false in
    let low = s.invariant.1.place_in in
    closing-all c.args.fabric.now (knowing c.args.main.now) (knowing s.main) c.args.seats.now s.seats s.place (omega (arith, past, low)) s.invariant.1

pub loop-place-init : goal.loop-place-init
loop-place-init g c = (c.requires.on.0, closing-none c.args.fabric.now (knowing c.args.main.now) c.args.seats.now, λ can. can, λ whole. whole, none-left c.args.kept.now c.args.seats.now c.requires.seated)

pub returns-clause-leaves : goal.returns-clause-leaves
returns-clause-leaves g c = c.loop-place.invariant.2

pub returns-clause-saves : goal.returns-clause-saves
returns-clause-saves g c = c.loop-place.invariant.4
