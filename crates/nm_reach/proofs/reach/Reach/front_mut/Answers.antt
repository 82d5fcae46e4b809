use Rattle.std.proofs.Common.{◌-◌, ◌++◌, List, take, ap, sym, ◌∙◌, refl}
use Rattle.nm_reach.specs.Cells.{refilled}
use Rattle.nm_reach.specs.Fields.{Run, front_of, back_of}
use Rattle.nm_reach.specs.Sides.{values_of}
use Rattle.nm_reach.proofs.Rounds.{halves, run_few, run_with}
use Rattle.nm_reach.proofs.reach.Reach.front_mut.Goals as goal

pub returns : goal.returns
returns g c =
    let x = c.self.inside in
    let h = halves x.sides c.self.invariant in (
      (
        refl,
        λ w. ap (λ (vs : List g.row.T.Denot). run_with x.sides x.size x.start (refilled vs w ++ x.sides.back.values)) (sym h.front)
            ∙ (ap (λ (vs : List g.row.T.Denot). run_with x.sides x.size x.start (refilled (take (x.size - x.start) (values_of x.sides)) w ++ vs)) (sym h.back)
            ∙ ap (λ (r : Run g.row.T.Denot). record r { values = refilled (front_of r) w ++ back_of r }) c.self.view_is),
      ),
      record {
        writes_back = tt;
        value = c.values_mut.ensures.value ∙ (sym h.front ∙ ap (λ (r : Run g.row.T.Denot). front_of r) c.self.view_is);
        few = run_few x.sides c.self.invariant (ap (λ (r : Run g.row.T.Denot). r.values) c.self.view_is) x.sides.front.size c.self.invariant.front_size c.values_mut.ensures.field;
      },
    )
