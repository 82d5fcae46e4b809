use Rattle.vale_fabric.proofs.LeaseFilling.{no-sizes, no-empty, of-region, all-filled}
use Rattle.vale_fabric.proofs.filling.fill.Goals as goal

pub returns-in-Batch-clause-filled : goal.returns-in-Batch-clause-filled
returns-in-Batch-clause-filled c = rw c.in-Batch.is (all-filled (rw c.in-Batch.is at c.requires.held) c.fill_from_batch.ensures)

pub returns-in-Batch-clause-id : goal.returns-in-Batch-clause-id
returns-in-Batch-clause-id c = c.fill_from_batch.ensures.id

pub returns-in-Batch-clause-sizes : goal.returns-in-Batch-clause-sizes
returns-in-Batch-clause-sizes c = no-sizes (rw c.in-Batch.is at c.requires.held) c.fill_from_batch.ensures

pub returns-in-Batch-clause-empty : goal.returns-in-Batch-clause-empty
returns-in-Batch-clause-empty c = no-empty (rw c.in-Batch.is at c.requires.held) c.fill_from_batch.ensures

pub returns-in-Batch-clause-region : goal.returns-in-Batch-clause-region
returns-in-Batch-clause-region c = of-region (rw c.in-Batch.is at c.requires.held) c.fill_from_batch.ensures

pub returns-in-Gots-clause-filled : goal.returns-in-Gots-clause-filled
returns-in-Gots-clause-filled c = rw c.in-Gots.is (all-filled (rw c.in-Gots.is at c.requires.held) c.fill_from_gots.ensures)

pub returns-in-Gots-clause-id : goal.returns-in-Gots-clause-id
returns-in-Gots-clause-id c = c.fill_from_gots.ensures.id

pub returns-in-Gots-clause-sizes : goal.returns-in-Gots-clause-sizes
returns-in-Gots-clause-sizes c = no-sizes (rw c.in-Gots.is at c.requires.held) c.fill_from_gots.ensures

pub returns-in-Gots-clause-empty : goal.returns-in-Gots-clause-empty
returns-in-Gots-clause-empty c = no-empty (rw c.in-Gots.is at c.requires.held) c.fill_from_gots.ensures

pub returns-in-Gots-clause-region : goal.returns-in-Gots-clause-region
returns-in-Gots-clause-region c = of-region (rw c.in-Gots.is at c.requires.held) c.fill_from_gots.ensures
