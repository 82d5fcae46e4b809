use Rattle.std.proofs.Common.{sym, subst}
use Rattle.vale_fabric.specs.Fabrics.{knowing}
use Rattle.vale_act.specs.Seats.{Meets}
use Rattle.vale_act.specs.declared.seat.Seat.{Seat}
use Rattle.vale_act.specs.declared.seat.Seat.TheVariants.{There}
use Rattle.vale_act.proofs.Learning.{meets-there}
use Rattle.vale_act.proofs.seat.Seat.meet.Goals as goal

pub returns-in-There-clause-meets : goal.returns-in-There-clause-meets
returns-in-There-clause-meets c =
    subst (λ (before : Seat). Meets (knowing c.args.main.now) (knowing c.fork-news.new.pass) before (There c.meet.new.self c.in-There.fault)) (sym c.in-There.is)
    (meets-there (knowing c.args.main.now) (knowing c.fork-news.new.pass) c.in-There.player c.meet.new.self (knowing c.fork-news.result) c.in-There.fault
    c.fork-news.ensures.kept c.fork-news.ensures.given c.meet.ensures.joined c.meet.ensures.known c.meet.ensures.there)
