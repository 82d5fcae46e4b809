use Rattle.std.proofs.Common.{◌≡◌, length, slice_get, Some, sym, subst, arith}
use Rattle.std.proofs.lemmas.Option.{slice_get_read}
use Rattle.vale_fabric.specs.Fabrics.{knowing}
use Rattle.vale_act.specs.Seats.{Meets}
use Rattle.vale_act.specs.declared.seat.Seat.{Seat}
use Rattle.vale_act.proofs.AllSeats.{meeting-set, meeting-all}
use Rattle.vale_act.proofs.block_run.meet_all.Goals as goal

pub loop-place-preserved : goal.loop-place-preserved
loop-place-preserved c =
    let s = c.loop-place in
    let here : slice_get s.seats s.place ≡ Some c.index-seats-place.result = slice_get_read s.seats (length c.args.seats.now) s.place c.index-seats-place.result (sym s.invariant.1.changing.len) c.loop-place-test.true c.index-seats-place.is in
    (c.meet.ensures.on.0, meeting-set c.args.fabric.now (knowing c.args.main.now) (knowing s.main) (knowing c.meet.new.main) c.args.seats.now s.seats s.place c.index-seats-place.result c.meet.new.self here s.invariant.1 c.meet.ensures.on.1 (subst (λ (b : Seat). Meets (knowing s.main) (knowing c.meet.new.main) b c.meet.new.self) (sym c.index-seats-place.is) c.meet.ensures.meets))

pub returns-clause-meets : goal.returns-clause-meets
returns-clause-meets c =
    let s = c.loop-place in
    let past = c.loop-place-test.false in
    let len = s.invariant.1.changing.len in
    meeting-all c.args.fabric.now (knowing c.args.main.now) (knowing s.main) c.args.seats.now s.seats s.place (omega (arith, past, len)) s.invariant.1
