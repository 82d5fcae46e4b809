use Rattle.std.proofs.Common.{◌∙◌}
use Rattle.nm_own.proofs.Filled.{is_named_seen}
use Rattle.nm_own.proofs.own.OwnSide.finds_named.Goals as goal

pub returns-clause-named : goal.returns-clause-named
returns-clause-named c =
    let kept = c.self.invariant in
    rw (← c.self.view_is) (c.named.ensures.named ∙ is_named_seen c.self.inside.hold c.self.inside.ports.items c.args.idx kept.hold kept.sided kept.rings kept.flagged kept.filled)
