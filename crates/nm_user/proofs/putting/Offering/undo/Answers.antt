use Rattle.nm_user.proofs.putting.Offering.undo.Goals as goal

pub undo-own-requires : goal.undo-own-requires
undo-own-requires c = (c.requires.0, rw (c.into_lent-lent.ensures.lent, c.into_lent-lent.ensures.bufs) c.requires.1.lent)

pub returns : goal.returns
returns c s k = c.undo-own.ensures.own s (rw (c.into_lent-lent.ensures.lent, c.into_lent-lent.ensures.bufs) k.lent)
