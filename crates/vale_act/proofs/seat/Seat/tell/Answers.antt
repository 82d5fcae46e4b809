use Rattle.std.proofs.Common.{sym, subst}
use Rattle.vale_fabric.specs.Fabrics.{knowing}
use Rattle.vale_act.specs.Seats.{Tells}
use Rattle.vale_act.specs.declared.seat.Seat.{Seat}
use Rattle.vale_act.specs.declared.seat.Seat.TheVariants.{There}
use Rattle.vale_act.proofs.Learning.{tells-there}
use Rattle.vale_act.proofs.seat.Seat.tell.Goals as goal

pub returns-in-There-clause-tells : goal.returns-in-There-clause-tells
returns-in-There-clause-tells c =
    subst (λ (before : Seat). Tells (knowing c.args.main.now) (knowing c.join.new.pass) before (There c.fork-news.new.self c.in-There.fault)) (sym c.in-There.is)
    (tells-there (knowing c.args.main.now) (knowing c.join.new.pass) c.in-There.player c.fork-news.new.self (knowing c.fork-news.result) c.in-There.fault
    c.fork-news.ensures.kept c.fork-news.ensures.given c.join.ensures.joined c.join.ensures.known c.join.ensures.whole c.fork-news.ensures.there)
