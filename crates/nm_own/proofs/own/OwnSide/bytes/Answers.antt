use Rattle.std.proofs.Common.{◌∙◌}
use Rattle.nm_own.proofs.Linking.{named_bytes_seen}
use Rattle.nm_own.proofs.own.OwnSide.bytes.Goals as goal

pub returns : goal.returns
returns c =
    let kept = c.self.invariant in
    rw (← c.self.view_is) (c.bytes.ensures.bytes ∙ named_bytes_seen c.self.inside.hold c.self.inside.ports.items c.args.idx kept.hold kept.sided kept.rings kept.flagged kept.filled)
