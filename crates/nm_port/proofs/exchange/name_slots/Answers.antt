use Rattle.nm_port.specs.Exchanges.{tx_places}
use Rattle.nm_port.proofs.Exchanged.{renamed}
use Rattle.nm_port.proofs.exchange.name_slots.Goals as goal

pub returns : goal.returns
returns c =
    let places = tx_places c.args.port c.args.size c.args.first c.args.count in
    rw c.name_slots.ensures.cells (renamed c.args.hold.now c.args.named places (rw c.name_slots.ensures.cells at c.name_slots.ensures.hold))
