use Rattle.std.proofs.Common.{◌∙◌}
use Rattle.vale_steps.proofs.TakenParts.{all-back}
use Rattle.vale_steps.proofs.opening.seat_port.Goals as goal

pub give_all-requires : goal.give_all-requires
give_all-requires c =
    let taken = c.in_ok-taken.ensures in
    let back = c.in-Err.ensures in
    (all-back c.args.pool.now c.take_all.new.pool c.args.opening.now.tx c.args.rx c.args.opening.now.extra c.in-Err.taken.tx.items c.in-Err.taken.rx.items c.in-Err.taken.extra.items
    c.requires.back taken.pool (back.tx_back ∙ taken.tx) (back.rx_back ∙ taken.rx) (back.extra_back ∙ taken.extra)).can

pub returns-in-Err : goal.returns-in-Err
returns-in-Err c =
    let taken = c.in_ok-taken.ensures in
    let back = c.in-Err.ensures in
    let all = all-back c.args.pool.now c.take_all.new.pool c.args.opening.now.tx c.args.rx c.args.opening.now.extra c.in-Err.taken.tx.items c.in-Err.taken.rx.items c.in-Err.taken.extra.items
    c.requires.back taken.pool (back.tx_back ∙ taken.tx) (back.rx_back ∙ taken.rx) (back.extra_back ∙ taken.extra) in
    record { ports_are = tt; pool_is = tt; opened = tt; err = (c.reserve.ensures.items, c.give_all.ensures ∙ all.same) }
