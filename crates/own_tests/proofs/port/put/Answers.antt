use Rattle.std.proofs.Common.{◌∙◌, rules}
use Rattle.nm_hold.specs.Holds.{index_at}
use Rattle.nm_port.proofs.Renaming.{named_keeps, cell_pool}
use Rattle.own_tests.proofs.port.put.Goals as goal

pub returns-clause-pool : goal.returns-clause-pool
returns-clause-pool g c =
    let keeps = named_keeps c.add.new.self c.set_named.new.self (index_at c.add.new.self c.tx_place-place.result) c.args.named (search rules) c.set_named.ensures.cell in
    let added = cell_pool c.args.hold.now c.add.new.self _ _ c.add.ensures.cell in
    keeps.0 ∙ (added.0 ∙ c.requires.pool)

pub returns-clause-ports : goal.returns-clause-ports
returns-clause-ports g c =
    let keeps = named_keeps c.add.new.self c.set_named.new.self (index_at c.add.new.self c.tx_place-place.result) c.args.named (search rules) c.set_named.ensures.cell in
    let added = cell_pool c.args.hold.now c.add.new.self _ _ c.add.ensures.cell in
    keeps.1 ∙ added.1
