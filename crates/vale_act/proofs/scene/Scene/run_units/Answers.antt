use Rattle.std.proofs.Common.{ℕ, ◌≡◌, ◌<◌, List, length, get_or, slice_get, Some, Result, refl, subst}
use Rattle.std.proofs.lemmas.Option.{slice_get_read}
use Rattle.nm_types.specs.declared.fault.StepFault.{StepFault}
use Rattle.vale_fabric.specs.Fabrics.{fixed_in, knowing}
use Rattle.vale_script.specs.declared.script.Unit.{Unit as Part}
use Rattle.vale_replay.specs.Replay.{shares_of}
use Rattle.vale_player.specs.Inputs.{records_in}
use Rattle.vale_act.specs.Seats.{UnitAt}
use Rattle.vale_act.proofs.SaveNames.{unit-named}
use Rattle.vale_act.proofs.Between.{between-next, between-runs, between-stops}
use Rattle.vale_act.proofs.scene.Scene.run_units.Goals as goal

-- the unit that is done next, as it stands in the script
next-unit : (units all : List Part) (i : ℕ) (unit : Part) → i < length units → unit ≡ get_or units i unit → units ≡ all → slice_get all i ≡ Some unit
next-unit units all i unit low is same = subst (λ (l : List Part). slice_get l i ≡ Some unit) same (slice_get_read units (length units) i unit refl low is)

pub run_unit-requires-clause-runnable : goal.run_unit-requires-clause-runnable
run_unit-requires-clause-runnable g c κs outlives =
    let i = c.loop-unit.unit-index in
    let unit = c.unit-item.result in
    let at = next-unit c.units-all.result.now _ i unit c.loop-unit-test.true c.unit-item.is c.units-all.ensures in
    between-runs c.args.self.now.fabric.now c.args.script.now c.args.self.now.inputs.now c.requires.start.files c.requires.start.pool i unit (knowing c.loop-unit.main) (knowing c.loop-unit.main) c.loop-unit.seats c.loop-unit.seats at c.loop-unit.invariant.1.1 c.requires.start.runnable

pub run_unit-requires-clause-saves : goal.run_unit-requires-clause-saves
run_unit-requires-clause-saves g c κs outlives =
    let i = c.loop-unit.unit-index in
    let unit = c.unit-item.result in
    let at = next-unit c.units-all.result.now _ i unit c.loop-unit-test.true c.unit-item.is c.units-all.ensures in
    unit-named c.args.script.now c.args.self.now.names.now i unit c.requires.names at

pub loop-unit-preserved : goal.loop-unit-preserved
loop-unit-preserved g c =
    let unit = c.unit-item.result in
    let v = knowing c.loop-unit.main in
    let w = knowing c.run_unit.new.main in
    let at = next-unit c.units-all.result.now _ c.loop-unit.unit-index unit c.loop-unit-test.true c.unit-item.is c.units-all.ensures in
    let ran = subst (λ (r : Result (Unit {0}) StepFault). UnitAt (fixed_in c.args.self.now.fabric.now) (shares_of (records_in c.args.self.now.inputs.now) (length c.loop-unit.seats) unit) v w c.loop-unit.seats c.run_unit.new.seats r) c.in-Ok.is c.run_unit.ensures.runs in (
      c.run_unit.ensures.on.0,
      (
        c.run_unit.ensures.on.1,
        between-next c.args.self.now.fabric.now c.args.script.now c.args.self.now.inputs.now c.requires.start.files c.requires.start.pool c.loop-unit.unit-index unit v w c.loop-unit.seats c.run_unit.new.seats at c.loop-unit.invariant.1.1 ran,
      ),
      (λ can. c.run_unit.ensures.leaves (c.loop-unit.invariant.2.0 can), c.run_unit.ensures.keep),
    )

pub returns-in-Err-clause-stops : goal.returns-in-Err-clause-stops
returns-in-Err-clause-stops g c =
    let unit = c.unit-item.result in
    let v = knowing c.loop-unit.main in
    let w = knowing c.run_unit.new.main in
    let at = next-unit c.units-all.result.now _ c.loop-unit.unit-index unit c.loop-unit-test.true c.unit-item.is c.units-all.ensures in
    let ran = subst (λ (r : Result (Unit {0}) StepFault). UnitAt (fixed_in c.args.self.now.fabric.now) (shares_of (records_in c.args.self.now.inputs.now) (length c.loop-unit.seats) unit) v w c.loop-unit.seats c.run_unit.new.seats r) c.in-Err.is c.run_unit.ensures.runs in
    between-stops c.args.self.now.fabric.now c.args.script.now c.args.self.now.inputs.now c.requires.start.files c.requires.start.pool c.loop-unit.unit-index unit v w c.loop-unit.seats c.run_unit.new.seats at c.loop-unit.invariant.1.1 c.in-Err.fault ran

pub loop-unit-init : goal.loop-unit-init
loop-unit-init g c = (c.requires.on.0, (c.requires.on.1, c.requires.start.between), (λ can. can, c.requires.keep))

pub returns-in-Err-clause-leaves : goal.returns-in-Err-clause-leaves
returns-in-Err-clause-leaves g c can = c.run_unit.ensures.leaves (c.loop-unit.invariant.2.0 can)

pub returns-clause-leaves : goal.returns-clause-leaves
returns-clause-leaves g c = c.loop-unit.invariant.2.0
