use Rattle.std.proofs.Common.{sym, subst}
use Rattle.vale_script.specs.declared.script.Act.{Act}
use Rattle.vale_fabric.specs.Fabrics.{fixed_in, knowing}
use Rattle.vale_player.specs.Inputs.{records_in}
use Rattle.vale_act.specs.Seats.{LineAt, line_tasks}
use Rattle.vale_act.proofs.Alone.{line-acts}
use Rattle.vale_act.proofs.DepartingScript.{line-leaving}
use Rattle.vale_act.proofs.SaveNames.{kept-acted, kept-met, kept-told}
use Rattle.vale_act.proofs.seat.Seat.run_line.Goals as goal

pub returns-then-comes_by-clause-line : goal.returns-then-comes_by-clause-line
returns-then-comes_by-clause-line g c =
    let records = records_in c.args.scene.now.inputs.now in
    let enter = (c.comes_by.ensures.yes c.if-comes_by.true).1 in
    subst (λ (a : Act). LineAt (fixed_in c.args.scene.now.fabric.now) c.args.line.now.user (line_tasks records a) (knowing c.args.main.now) (knowing c.enter.new.main) c.args.self.now c.enter.new.self c.enter.result) (sym enter)
    (c.enter.ensures.line records)

pub returns-clause-line : goal.returns-clause-line
returns-clause-line g c =
    line-acts c.args.scene.now.fabric.now c.args.line.now.user (records_in c.args.scene.now.inputs.now) c.args.line.now.act (knowing c.args.main.now) (knowing c.meet.new.main) (knowing c.tell.new.main)
    c.args.self.now c.meet.new.self c.act-done.new.self c.tell.new.self c.act-done.result c.requires.seated c.requires.on.1 (c.comes_by.ensures.no c.if-comes_by.false)
    c.meet.ensures.meets c.act-done.ensures c.tell.ensures.tells

pub returns-then-comes_by-clause-leaves : goal.returns-then-comes_by-clause-leaves
returns-then-comes_by-clause-leaves g c = c.enter.ensures.leaves

pub returns-clause-leaves : goal.returns-clause-leaves
returns-clause-leaves g c =
    line-leaving (records_in c.args.scene.now.inputs.now) c.args.line.now.act c.act-done.result (knowing c.args.main.now) (knowing c.meet.new.main) (knowing c.tell.new.main)
    c.args.self.now c.meet.new.self c.act-done.new.self c.tell.new.self
    c.meet.ensures.meets c.act-done.ensures c.tell.ensures.tells

pub act-done-requires-clause-keep : goal.act-done-requires-clause-keep
act-done-requires-clause-keep g c κs outlives =
    kept-met c.args.scene.now.names.now (knowing c.args.main.now) c.args.self.now c.meet.new.self c.meet.ensures.meets.seat c.requires.keep

pub returns-clause-keep : goal.returns-clause-keep
returns-clause-keep g c =
    let names = c.args.scene.now.names.now in
    kept-told names (knowing c.tell.new.main) c.act-done.new.self c.tell.new.self c.tell.ensures.tells.seat
    (kept-acted names (records_in c.args.scene.now.inputs.now) c.args.line.now.act c.act-done.result c.meet.new.self c.act-done.new.self c.act-done.ensures
    (kept-met names (knowing c.args.main.now) c.args.self.now c.meet.new.self c.meet.ensures.meets.seat c.requires.keep))
