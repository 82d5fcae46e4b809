use Rattle.std.proofs.Common.{length}
use Rattle.vale_fabric.specs.Fabrics.{fixed_in, knowing}
use Rattle.vale_player.specs.Inputs.{captures_of}
use Rattle.vale_act.proofs.BlockRuns.{if-ok, if-err}
use Rattle.vale_act.proofs.Ends.{either-held, either-seated, end-mine, end-whole, ends-played, ends-stopped}
use Rattle.vale_act.proofs.DepartingScript.{ends-empty}
use Rattle.vale_act.proofs.KeptPlays.{none-whole}
use Rattle.vale_act.proofs.scene.Scene.run_script.Goals as goal

pub close_all-requires-clause-seated : goal.close_all-requires-clause-seated
close_all-requires-clause-seated g c =
    either-seated (fixed_in c.args.self.now.fabric.now) c.args.script.now (captures_of c.args.self.now.inputs.now) (length c.args.script.now.units) (knowing c.run_units-done.new.main) c.run_units-done.new.seats
    c.run_units-done.result c.run_units-done.ensures.plays c.run_units-done.ensures.stops

pub returns-clause-whole : goal.returns-clause-whole
returns-clause-whole g c =
    end-whole (knowing c.run_units-done.new.main) (knowing c.close_all.new.main) c.run_units-done.new.seats c.close_all.new.seats (fixed_in c.args.self.now.fabric.now).pool c.close_all.ensures.closes
    (either-held (fixed_in c.args.self.now.fabric.now) c.args.script.now (captures_of c.args.self.now.inputs.now) (length c.args.script.now.units) (knowing c.run_units-done.new.main) c.run_units-done.new.seats
    c.run_units-done.result c.run_units-done.ensures.plays c.run_units-done.ensures.stops)

pub returns-clause-mine : goal.returns-clause-mine
returns-clause-mine g c =
    end-mine (knowing c.run_units-done.new.main) (knowing c.close_all.new.main) c.run_units-done.new.seats c.close_all.new.seats (fixed_in c.args.self.now.fabric.now).pool c.close_all.ensures.closes
    (either-held (fixed_in c.args.self.now.fabric.now) c.args.script.now (captures_of c.args.self.now.inputs.now) (length c.args.script.now.units) (knowing c.run_units-done.new.main) c.run_units-done.new.seats
    c.run_units-done.result c.run_units-done.ensures.plays c.run_units-done.ensures.stops)

pub returns-clause-plays : goal.returns-clause-plays
returns-clause-plays g c =
    if-ok c.run_units-done.result c.run_units-done.ensures.plays
    (ends-played c.args.self.now.fabric.now c.args.script.now c.args.self.now.inputs.now c.requires.start.files c.requires.start.pool (knowing c.run_units-done.new.main) (knowing c.close_all.new.main) c.run_units-done.new.seats c.close_all.new.seats
    c.close_all.ensures.closes)

pub returns-clause-stops : goal.returns-clause-stops
returns-clause-stops g c =
    if-err c.run_units-done.result c.run_units-done.ensures.stops
    (ends-stopped c.args.self.now.fabric.now c.args.script.now c.args.self.now.inputs.now c.requires.start.files c.requires.start.pool (knowing c.run_units-done.new.main) (knowing c.close_all.new.main) c.run_units-done.new.seats c.close_all.new.seats
    c.close_all.ensures.closes)

pub returns-clause-empty : goal.returns-clause-empty
returns-clause-empty g c can =
    let fixed = fixed_in c.args.self.now.fabric.now in
    let m = knowing c.run_units-done.new.main in
    let w = knowing c.close_all.new.main in
    let befores = c.run_units-done.new.seats in
    let held = either-held fixed c.args.script.now (captures_of c.args.self.now.inputs.now) (length c.args.script.now.units) m befores
    c.run_units-done.result c.run_units-done.ensures.plays c.run_units-done.ensures.stops in
    ends-empty fixed.pool c.args.script.now.pool w c.requires.start.pool c.close_all.ensures.pass.2
    (end-mine m w befores c.close_all.new.seats fixed.pool c.close_all.ensures.closes held)
    (c.close_all.ensures.leaves (c.run_units-done.ensures.leaves can)).each

pub returns-clause-kept : goal.returns-clause-kept
returns-clause-kept g c none =
    c.close_all.ensures.kept (none-whole (fixed_in c.args.self.now.fabric.now).pool (knowing c.run_units-done.new.main).seen c.args.kept.now none)
