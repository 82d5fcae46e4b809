use Rattle.nm_desk.proofs.LeaseFilling.{no-sizes, no-empty, of-region, all-filled}
use Rattle.nm_desk.proofs.filling.fill.Goals as goal

pub returns-clause-filled : goal.returns-clause-filled
returns-clause-filled c = all-filled c.requires.held c.fill_from_batch.ensures

pub returns-clause-id : goal.returns-clause-id
returns-clause-id c = c.fill_from_batch.ensures.id

pub returns-clause-sizes : goal.returns-clause-sizes
returns-clause-sizes c = no-sizes c.requires.held c.fill_from_batch.ensures

pub returns-clause-empty : goal.returns-clause-empty
returns-clause-empty c = no-empty c.requires.held c.fill_from_batch.ensures

pub returns-clause-region : goal.returns-clause-region
returns-clause-region c = of-region c.requires.held c.fill_from_batch.ensures
