use Rattle.std.proofs.Common.{◌≡◌, length, slice_get, Some, sym, subst, arith}
use Rattle.std.proofs.lemmas.Option.{slice_get_read}
use Rattle.vale_fabric.specs.Fabrics.{knowing}
use Rattle.vale_act.specs.Seats.{Tells}
use Rattle.vale_act.specs.declared.seat.Seat.{Seat}
use Rattle.vale_act.proofs.AllSeats.{telling-set, telling-all}
use Rattle.vale_act.proofs.block_run.tell_all.Goals as goal

pub returns-clause-tells : goal.returns-clause-tells
returns-clause-tells c =
    let s = c.loop-place in
    telling-all c.args.fabric.now (knowing c.args.main.now) (knowing s.main) c.args.seats.now s.seats s.place (omega (arith, c.loop-place-test.false, s.invariant.1.changing.len)) s.invariant.1

pub loop-place-preserved : goal.loop-place-preserved
loop-place-preserved c =
    let s = c.loop-place in
    let here : slice_get s.seats s.place ≡ Some c.index-seats-place.result = slice_get_read s.seats (length c.args.seats.now) s.place c.index-seats-place.result (sym s.invariant.1.changing.len) c.loop-place-test.true c.index-seats-place.is in
    (c.tell.ensures.on.0, telling-set c.args.fabric.now (knowing c.args.main.now) (knowing s.main) (knowing c.tell.new.main) c.args.seats.now s.seats s.place c.index-seats-place.result c.tell.new.self here s.invariant.1 c.tell.ensures.on.1 (subst (λ (b : Seat). Tells (knowing s.main) (knowing c.tell.new.main) b c.tell.new.self) (sym c.index-seats-place.is) c.tell.ensures.tells))
