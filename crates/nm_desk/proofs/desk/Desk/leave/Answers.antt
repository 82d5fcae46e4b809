use Rattle.std.proofs.Common.{ap}
use Rattle.nm_desk.specs.Desks.{DeskState}
use Rattle.nm_desk.proofs.Leaves.{leave-enabled, has-left}
use Rattle.nm_desk.proofs.desk.Desk.leave.Goals as goal

pub leave-requires : goal.leave-requires
leave-requires c = leave-enabled c.args.book.now c.args.book.now c.args.self c.self.inside.id (ap (λ (d : DeskState). d.id) c.self.view_is) c.requires.desk c.requires.settled c.requires.empty

pub returns : goal.returns
returns c = has-left c.args.book.now c.leave.new.self c.args.self c.self.inside.id (ap (λ (d : DeskState). d.id) c.self.view_is) c.requires.desk c.requires.settled c.requires.empty c.leave.ensures.made c.leave.ensures.room
