use Rattle.nm_hold.specs.declared.taking.SlotRun.{SlotRun}
use Rattle.nm_port.proofs.TakenRuns.{run_taken, run_out}
use Rattle.nm_port.proofs.undo.take_slots.Goals as goal

pub returns-clause-taken : goal.returns-clause-taken
returns-clause-taken c =
    let run : SlotRun = record { port = c.args.port; side = c.args.side; size = c.args.size; first = c.args.first } in
    run_taken c.args.hold.now c.requires.hold run c.requires.first c.args.back.now.items c.args.count c.requires.count c.take_slots.new.self c.take_slots.new.back.items c.take_slots.ensures.taken

pub returns-clause-out : goal.returns-clause-out
returns-clause-out c =
    let run : SlotRun = record { port = c.args.port; side = c.args.side; size = c.args.size; first = c.args.first } in
    run_out c.args.hold.now c.requires.hold run c.requires.first c.args.back.now.items c.args.count c.requires.count c.take_slots.new.self c.take_slots.new.back.items c.take_slots.ensures.taken
