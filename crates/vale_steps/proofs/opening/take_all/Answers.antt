use Rattle.std.proofs.Common.{ap, ◌∙◌}
use Rattle.vale_parts.specs.FreeBuffers.{pool_with_all}
use Rattle.vale_steps.proofs.TakenParts.{AreBack, two-taken}
use Rattle.vale_steps.proofs.opening.take_all.Goals as goal

backs : (c : goal.After-give_back-arg-in_default-take-2-1) → AreBack c.args.pool.now c.take-3.new.self c.in-Ok.first.items c.in-Ok-take.second.items
backs c = two-taken c.args.pool.now c.take.new.self c.take-2.new.self c.take-3.new.self c.args.opening.now.tx c.args.rx c.in-Ok.first.items c.in-Ok-take.second.items
    c.requires.back c.in-Ok.ensures.taken.1 c.in-Ok.ensures.left c.in-Ok-take.ensures.taken.1 c.in-Ok-take.ensures.left c.in_default-take-2.ensures.err

pub give_back-requires-in_default-take-2 : goal.give_back-requires-in_default-take-2
give_back-requires-in_default-take-2 c = (backs c).first

pub give_back-requires-in_default-take-2-2 : goal.give_back-requires-in_default-take-2-2
give_back-requires-in_default-take-2-2 c =
    let back = two-taken c.args.pool.now c.take.new.self c.take-2.new.self c.take-3.new.self c.args.opening.now.tx c.args.rx c.in-Ok.first.items c.in-Ok-take.second.items
    c.requires.back c.in-Ok.ensures.taken.1 c.in-Ok.ensures.left c.in-Ok-take.ensures.taken.1 c.in-Ok-take.ensures.left c.in_default-take-2.ensures.err in
    rw c.give_back-in_default-take-2.ensures back.second

pub returns-in_default-take-2-clause-err : goal.returns-in_default-take-2-clause-err
returns-in_default-take-2-clause-err c =
    let back = two-taken c.args.pool.now c.take.new.self c.take-2.new.self c.take-3.new.self c.args.opening.now.tx c.args.rx c.in-Ok.first.items c.in-Ok-take.second.items
    c.requires.back c.in-Ok.ensures.taken.1 c.in-Ok.ensures.left c.in-Ok-take.ensures.taken.1 c.in-Ok-take.ensures.left c.in_default-take-2.ensures.err in
    c.give_back-in_default-take-2-2.ensures ∙ (ap (pool_with_all c.in-Ok-take.second.items) c.give_back-in_default-take-2.ensures ∙ back.same)
