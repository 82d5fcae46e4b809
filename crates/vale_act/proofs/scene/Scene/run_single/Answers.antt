use Rattle.std.proofs.Common.{◌-◌, length, refl, sym, subst, arith}
use Rattle.std.proofs.lemmas.Option.{slice_get_read}
use Rattle.vale_fabric.specs.Fabrics.{fixed_in, knowing}
use Rattle.vale_player.specs.Inputs.{records_in}
use Rattle.vale_act.specs.Seats.{KeepsNames, LineAt, line_tasks}
use Rattle.vale_act.specs.declared.seat.Seat.{Seat}
use Rattle.vale_act.proofs.AllSeats.{all-set}
use Rattle.vale_act.proofs.Closings.{single-at}
use Rattle.vale_act.specs.Leaving.{SeatStillLeaves}
use Rattle.vale_act.proofs.DepartingScript.{seat-leaving}
use Rattle.vale_act.proofs.scene.Scene.run_single.Goals as goal

pub returns-clause-runs : goal.returns-clause-runs
returns-clause-runs g c =
    let line = c.args.line.now in
    let seats = c.args.seats.now in
    let records = records_in c.args.self.now.inputs.now in
    let before = c.index-seats-place.result in
    let here = slice_get_read seats (length seats) (line.user - 1) before refl (omega (arith, c.requires.least, c.requires.most)) c.index-seats-place.is in
    single-at c.args.self.now.fabric.now records line (knowing c.args.main.now) (knowing c.run_line.new.main) seats (line.user - 1) before c.run_line.new.self c.run_line.result (omega (arith, c.requires.least)) here c.requires.seated
    (subst (λ (b : Seat). LineAt (fixed_in c.args.self.now.fabric.now) line.user (line_tasks records line.act) (knowing c.args.main.now) (knowing c.run_line.new.main) b c.run_line.new.self c.run_line.result) (sym c.index-seats-place.is) c.run_line.ensures.line)

pub returns-clause-leaves : goal.returns-clause-leaves
returns-clause-leaves g c =
    let line = c.args.line.now in
    let seats = c.args.seats.now in
    let v = knowing c.args.main.now in
    let w = knowing c.run_line.new.main in
    let before = c.index-seats-place.result in
    let here = slice_get_read seats (length seats) (line.user - 1) before refl (omega (arith, c.requires.least, c.requires.most)) c.index-seats-place.is in
    seat-leaving v w seats (line.user - 1) before c.run_line.new.self here
    (subst (λ (b : Seat). SeatStillLeaves v w b c.run_line.new.self) (sym c.index-seats-place.is) c.run_line.ensures.leaves)

pub run_line-requires-clause-keep : goal.run_line-requires-clause-keep
run_line-requires-clause-keep g c κs outlives =
    let seats = c.args.seats.now in
    let place = c.args.line.now.user - 1 in
    let before = c.index-seats-place.result in
    let here = slice_get_read seats (length seats) place before refl (omega (arith, c.requires.least, c.requires.most)) c.index-seats-place.is in
    subst (λ (b : Seat). KeepsNames c.args.self.now.names.now b) c.index-seats-place.is (c.requires.keep place before here)

pub returns-clause-keep : goal.returns-clause-keep
returns-clause-keep g c =
    let names = c.args.self.now.names.now in
    all-set (λ place. KeepsNames names) c.args.seats.now (c.args.line.now.user - 1) c.run_line.new.self c.requires.keep c.run_line.ensures.keep
