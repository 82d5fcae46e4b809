use Rattle.std.proofs.Common.{refl, sym, subst}
use Rattle.vale_entry.specs.declared.entry.Ask.TheVariants.{Leave}
use Rattle.vale_entry.specs.Legal.{IsEnabled, leave_step}
use Rattle.vale_book.specs.declared.book.Book.TheInside.{Inside}
use Rattle.vale_book.specs.BookView.{recorded}
use Rattle.vale_own.specs.Recorded.{Recorded, standing, room_by}
use Rattle.vale_own.proofs.Rooms.{room-owed}
use Rattle.vale_book.proofs.Moves.{Moves, before, moved, record-moved, owed-promised}
use Rattle.vale_book.proofs.Leaves.{leave-made, leave-moves}
use Rattle.vale_book.proofs.book.Book.leave.Goals as goal

enabled-before : (c : goal.After-leave) → IsEnabled (before c.self.inside) (Leave c.args.session)
enabled-before c = subst (λ (r : Recorded). IsEnabled (standing r) (Leave c.args.session)) (sym c.self.view_is) c.requires

abbrev next : goal.After-leave → Inside
next c = record c.self.inside { history = c.leave.new.history; sessions = c.leave.new.sessions }

moves : (c : goal.After-leave) → Moves c.self.inside (next c) (Leave c.args.session) (leave_step (before c.self.inside) c.args.session.0)
moves c =
    let b = c.self.inside in
    let e = c.leave.ensures in
    let enabled = enabled-before c in
    let roomy = room-owed (recorded b) (Leave c.args.session) c.self.invariant.stands.legal c.self.invariant.rooms refl in
    let room = subst (room_by (recorded b) (Leave c.args.session)) (leave-made (before b) c.args.session enabled) roomy in
    leave-moves b (next c) c.args.session c.self.invariant enabled room e.entries e.promised e.limits e.sessions refl refl refl refl

pub leave-requires : goal.leave-requires
leave-requires c =
    let b = c.self.inside in
    let enabled = subst (λ (r : Recorded). IsEnabled (standing r) (Leave c.args.session)) (sym c.self.view_is) c.requires in
    owed-promised b (Leave c.args.session) (leave_step (before b) c.args.session.0) c.self.invariant (leave-made (before b) c.args.session enabled) refl

pub invariant_of-self : goal.invariant_of-self
invariant_of-self c = moved c.self.inside (next c) (Leave c.args.session) (leave_step (before c.self.inside) c.args.session.0) c.self.invariant (moves c)

pub returns-clause-made : goal.returns-clause-made
returns-clause-made c =
    rw (← c.self.view_is) (record-moved c.self.inside (next c) (Leave c.args.session) (leave_step (before c.self.inside) c.args.session.0) (moves c))

pub returns-clause-room : goal.returns-clause-room
returns-clause-room c =
    rw (← c.self.view_is) (room-owed (recorded c.self.inside) (Leave c.args.session) c.self.invariant.stands.legal c.self.invariant.rooms refl)
