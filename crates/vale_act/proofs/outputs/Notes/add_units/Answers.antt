use Rattle.std.proofs.Common.{take, [], ◌∷◌, ◌++◌, ◌+◌, ◌∙◌, ◌≡◌, List, ap, append-nil, subst, arith}
use Rattle.std.specs.Prelude.{flat_map}
use Rattle.std.proofs.lemmas.Grind.{flat_map-append}
use Rattle.std.proofs.lemmas.List.{take_all}
use Rattle.vale_script.specs.declared.script.Act.{Act}
use Rattle.vale_script.specs.declared.script.Unit.{Unit}
use Rattle.vale_replay.specs.Saved.{acts_of_unit}
use Rattle.vale_act.specs.SavedActs.{OutputsAre}
use Rattle.vale_act.proofs.ActOutputs.{acts-then, one-more-of}
use Rattle.vale_act.proofs.outputs.Notes.add_units.Goals as goal

pub loop-unit-preserved : goal.loop-unit-preserved
loop-unit-preserved c =
    let units = c.args.units.now in
    let i = c.loop-unit.unit-index in
    let unit = c.unit-item.result in
    record {
      made = acts-then c.args.self.now.saves.now c.args.self.now.kept.now (flat_map acts_of_unit (take i units)) (acts_of_unit unit) (flat_map acts_of_unit (take (i + 1) units)) c.args.outputs.now.items c.loop-unit.outputs.items c.add_unit.new.outputs.items
          (ap (flat_map acts_of_unit) (one-more-of units i unit c.loop-unit-test.true c.unit-item.is)
          ∙ (flat_map-append acts_of_unit (take i units) (unit ∷ []) ∙ ap (λ (acts : List Act). flat_map acts_of_unit (take i units) ++ acts) (append-nil (acts_of_unit unit))))
          c.loop-unit.invariant.made c.in_ok-add_unit.ensures.made;
      writable = λ old. c.in_ok-add_unit.ensures.writable (c.loop-unit.invariant.writable old);
    }

pub returns : goal.returns
returns c =
    let notes = c.args.self.now in
    let whole : take c.loop-unit.unit-index c.args.units.now ≡ c.args.units.now =
    take_all c.loop-unit.unit-index c.args.units.now (omega (arith, c.loop-unit-test.false)) in
    record {
      made = subst (λ (units : List Unit). OutputsAre notes.saves.now notes.kept.now (flat_map acts_of_unit units) c.args.outputs.now.items c.loop-unit.outputs.items) whole c.loop-unit.invariant.made;
      writable = c.loop-unit.invariant.writable;
    }
