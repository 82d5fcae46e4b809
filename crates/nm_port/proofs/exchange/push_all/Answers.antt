use Rattle.std.proofs.Common.{◌-◌, true, false}
use Rattle.nm_port.specs.Exchanges.{AreRenamed, pushed_count_of, user_position, tx_places}
use Rattle.nm_port.proofs.StillNamed.{all_pushed_out}
use Rattle.nm_port.proofs.exchange.push_all.Goals as goal

pub returns : goal.returns
returns c =
    let r = c.args.ring.now in
    let pushed : AreRenamed c.exchange_pushed.new.hold c.name_slots.new.hold false (tx_places c.args.port r.ring.size (user_position r (pushed_count_of r - 1)) 1) =
    rw (c.step_on-last.ensures, c.pushed-first.ensures.count, c.pushed-first.ensures.first, c.size.ensures.size, c.size-2.ensures.size, c.ring-positions.ensures.ring) at c.name_slots.ensures in
    let freed : AreRenamed c.name_slots.new.hold c.name_slots-2.new.hold true (tx_places c.args.port r.ring.size r.ring.last_tail 1) =
    rw (c.size-3.ensures.size, c.tail.ensures.tail, c.ring-positions.ensures.ring, c.ring-positions.ensures.slots.ring.one_tail) at c.name_slots-2.ensures in
    all_pushed_out c.args.hold.now c.args.port r c.ring-positions.ensures.slots.ring c.requires.can c.requires.side c.requires.some c.requires.behind
    c.exchange_pushed.new.hold c.name_slots.new.hold c.name_slots-2.new.hold c.exchange_pushed.ensures pushed freed
