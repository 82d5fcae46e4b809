use Rattle.std.proofs.Common.{◌∙◌}
use Rattle.vale_line.specs.Gots.{buffers_of}
use Rattle.nm_user.proofs.putting.Offering.taken.Goals as goal

pub taken-own-requires : goal.taken-own-requires
taken-own-requires c =
    let k = c.requires.1.1.lent in
    (c.requires.0, (buffers_of c.requires.1.0, rw (c.into_lent-lent.ensures.lent, c.into_lent-lent.ensures.bufs) k))

pub returns-clause-own : goal.returns-clause-own
returns-clause-own c s offered k =
    let e = c.into_lent-lent.ensures in
    rw (← e.lent) (c.taken-own.ensures.own s (buffers_of offered) (rw e.lent k.lent.lends) (e.bufs ∙ k.lent.back))

pub returns-clause-region : goal.returns-clause-region
returns-clause-region c s offered k region all of =
    let e = c.into_lent-lent.ensures in
    c.taken-own.ensures.region s (buffers_of offered) (rw e.lent k.lent.lends) (e.bufs ∙ k.lent.back) region all of
