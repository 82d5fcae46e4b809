use Rattle.std.proofs.Common.{sym, subst}
use Rattle.nm_user.specs.Words.{IsBufferOf}
use Rattle.nm_user.proofs.receiving.publish.Goals as goal

pub returns-clause-region : goal.returns-clause-region
returns-clause-region c region all is =
    c.receive_at.ensures.region region all (subst (IsBufferOf region) (sym c.into_buf.ensures) is)
