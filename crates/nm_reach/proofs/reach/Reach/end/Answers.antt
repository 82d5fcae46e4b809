use Rattle.std.proofs.Common.{ap, ◌∙◌}
use Rattle.nm_reach.proofs.Lists.{none_first, none_behind}
use Rattle.nm_reach.specs.Fields.{Run}
use Rattle.nm_reach.proofs.reach.Reach.end.Goals as goal

pub end-requires-clause-front : goal.end-requires-clause-front
end-requires-clause-front g c =
    let s = c.self.inside.sides in
    none_first s.front.values s.back.values (ap (λ (r : Run g.row.T.Denot). r.values) c.self.view_is ∙ c.requires)

pub end-requires-clause-back : goal.end-requires-clause-back
end-requires-clause-back g c =
    let s = c.self.inside.sides in
    none_behind s.front.values s.back.values (ap (λ (r : Run g.row.T.Denot). r.values) c.self.view_is ∙ c.requires)
