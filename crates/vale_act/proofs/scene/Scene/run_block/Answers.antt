use Rattle.vale_fabric.specs.Fabrics.{knowing}
use Rattle.vale_player.specs.Inputs.{records_in}
use Rattle.vale_act.proofs.BlockParts.{block-held, ran-on}
use Rattle.vale_act.proofs.BlockRuns.{block-begins, block-length, block-plays, block-seated, block-stopped, if-ok, if-err}
use Rattle.vale_act.proofs.DepartingScript.{block-leaving}
use Rattle.vale_act.proofs.SaveNames.{all-can-save, all-met, all-ran, all-told}
use Rattle.vale_act.proofs.scene.Scene.run_block.Goals as goal

pub tell_all-requires : goal.tell_all-requires
tell_all-requires g c =
    let met = c.meet_all.ensures.on in
    record { on = (met.0, ran-on (records_in c.args.self.now.inputs.now) c.args.lines.now c.args.self.now.fabric.now c.meet_all.new.seats c.run_all.new.seats met.1 c.run_all.ensures) }

pub returns-clause-runs : goal.returns-clause-runs
returns-clause-runs g c =
    let fabric = c.args.self.now.fabric.now in
    let records = records_in c.args.self.now.inputs.now in
    let lines = c.args.lines.now in
    let v = knowing c.args.main.now in
    let m = knowing c.meet_all.new.main in
    let w = knowing c.tell_all.new.main in
    let befores = c.args.seats.now in
    let mets = c.meet_all.new.seats in
    let rans = c.run_all.new.seats in
    let afters = c.tell_all.new.seats in
    let met = c.meet_all.ensures.meets in
    let ran = c.run_all.ensures in
    let told = c.tell_all.ensures.tells in
    let on = c.requires.on.1 in
    let seated = c.requires.seated in
    let deeds = c.requires.deeds in
    record {
      len = block-length fabric records lines v m w befores mets rans afters met ran told on seated deeds;
      seated = block-seated fabric records lines v m w befores mets rans afters met ran told on seated deeds;
      begins = block-begins fabric records lines v m w befores mets rans afters met ran told on seated deeds;
      held = block-held records lines v m w befores mets rans afters met ran told;
      plays = if-ok c.first_fault.result c.first_fault.ensures.none (block-plays fabric records lines v m w befores mets rans afters met ran told on seated deeds);
      stops = if-err c.first_fault.result c.first_fault.ensures.first (block-stopped fabric records lines v m w befores mets rans afters met ran told on seated deeds);
    }

pub returns-clause-leaves : goal.returns-clause-leaves
returns-clause-leaves g c =
    block-leaving (records_in c.args.self.now.inputs.now) c.args.lines.now (knowing c.args.main.now) (knowing c.meet_all.new.main) (knowing c.tell_all.new.main)
    c.args.seats.now c.meet_all.new.seats c.run_all.new.seats c.tell_all.new.seats
    c.meet_all.ensures.meets c.run_all.ensures c.tell_all.ensures.tells

pub run_all-requires-clause-saves : goal.run_all-requires-clause-saves
run_all-requires-clause-saves g c κs outlives =
    let names = c.args.self.now.names.now in
    let met = c.meet_all.new.seats in
    all-can-save names c.args.lines.now met c.requires.saves (all-met names (knowing c.args.main.now) (knowing c.meet_all.new.main) c.args.seats.now met c.meet_all.ensures.meets c.requires.keep)

pub returns-clause-keep : goal.returns-clause-keep
returns-clause-keep g c =
    let names = c.args.self.now.names.now in
    let v = knowing c.args.main.now in
    let m = knowing c.meet_all.new.main in
    let w = knowing c.tell_all.new.main in
    let mets = c.meet_all.new.seats in
    let rans = c.run_all.new.seats in
    all-told names m w rans c.tell_all.new.seats c.tell_all.ensures.tells
    (all-ran names (records_in c.args.self.now.inputs.now) c.args.lines.now mets rans c.run_all.ensures
    (all-met names v m c.args.seats.now mets c.meet_all.ensures.meets c.requires.keep))
