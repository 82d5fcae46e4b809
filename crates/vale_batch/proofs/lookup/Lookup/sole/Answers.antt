use Rattle.vale_batch.specs.Kept.{looked_kept}
use Rattle.vale_batch.proofs.ToOne.{sole-short, sole-lone}
use Rattle.vale_batch.proofs.lookup.Lookup.sole.Goals as goal

pub returns-clause-short : goal.returns-clause-short
returns-clause-short c = rw (← c.self.view_is) (sole-short (looked_kept c.self.inside.all) c.sole.result c.sole.ensures.alone)

pub returns-clause-lone : goal.returns-clause-lone
returns-clause-lone c = rw (← c.self.view_is) (sole-lone c.self.inside.from (looked_kept c.self.inside.all) c.sole.result c.sole.ensures.alone)
