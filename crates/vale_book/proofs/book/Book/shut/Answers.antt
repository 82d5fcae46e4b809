use Rattle.std.proofs.Common.{◌≡◌, ◌+◌, ◌<◌, refl, sym, ap, subst, arith}
use Rattle.vale_entry.specs.declared.entry.Ask.TheVariants.{Shut}
use Rattle.vale_entry.specs.Legal.{IsEnabled, can_shut}
use Rattle.vale_entry.specs.Stored.{Stored}
use Rattle.vale_book.specs.declared.book.Book.TheInside.{Inside}
use Rattle.vale_book.specs.BookView.{recorded}
use Rattle.vale_own.specs.Recorded.{Recorded, standing, room_by}
use Rattle.vale_own.proofs.Rooms.{room-owed}
use Rattle.vale_book.proofs.Moves.{Moves, before, moved, record-moved, owed-promised}
use Rattle.vale_book.proofs.Found.{open-here, never-missing}
use Rattle.vale_book.proofs.Shuts.{ShutsAt, shut_made, shut-made, table-there, shut-moves}
use Rattle.vale_book.proofs.book.Book.shut.Goals as goal

here : (c : goal.After-push) → ShutsAt c.self.inside c.args.port c.in-Some.place
here c =
    let b = c.self.inside in
    let enabled : IsEnabled (before b) (Shut c.args.port) = subst (λ (r : Recorded). IsEnabled (standing r) (Shut c.args.port)) (sym c.self.view_is) c.requires in
    open-here b c.args.port.0 c.in-Some.place (can_shut (before b).world) c.self.invariant (rw c.deref.ensures.value at c.in-Some.ensures.some) enabled

owed : (c : goal.After-push) → 0 < c.self.inside.history.promised
owed c =
    let b = c.self.inside in
    owed-promised b (Shut c.args.port) (shut_made b c.args.port c.in-Some.place (here c)) c.self.invariant (shut-made b c.args.port c.in-Some.place (here c)) refl

abbrev next : goal.After-push → Inside
next c = record c.self.inside { history = c.push.new.self; ports = c.shut_at.new.ports; names = c.shut.new.self; tables = c.forget_on_switch.new.tables; watches = c.forget.new.self }

moves : (c : goal.After-push) → Moves c.self.inside (next c) (Shut c.args.port) (shut_made c.self.inside c.args.port c.in-Some.place (here c))
moves c =
    let b = c.self.inside in
    let k = c.self.invariant in
    let at = here c in
    let roomy = room-owed (recorded b) (Shut c.args.port) k.stands.legal k.rooms refl in
    let room = subst (room_by (recorded b) (Shut c.args.port)) (shut-made b c.args.port c.in-Some.place at) roomy in
    let some = owed c in
    let less = ap (λ (h : Stored). h.promised) c.push.ensures in
    let promised : c.push.new.self.promised + 1 ≡ b.history.promised = omega (arith, some, less) in
    shut-moves b (next c) c.args.port c.in-Some.place at c.session_at-session.result c.name_at-name.result k room
    (rw c.deref-2.ensures.value at c.session_at-session.ensures) (rw c.deref-3.ensures.value at c.name_at-name.ensures)
    (ap (λ (h : Stored). h.entries) c.push.ensures) promised (ap (λ (h : Stored). h.limits) c.push.ensures)
    c.shut_at.ensures.seats c.shut_at.ensures.port c.shut.ensures c.forget.ensures c.forget_on_switch.ensures.switch c.forget_on_switch.ensures.other refl refl refl refl refl

pub unreachable-requires : goal.unreachable-requires
unreachable-requires c =
    let b = c.self.inside in
    let enabled = subst (λ (r : Recorded). IsEnabled (standing r) (Shut c.args.port)) (sym c.self.view_is) c.requires in
    never-missing b c.args.port.0 (can_shut (before b).world) c.self.invariant (rw c.deref.ensures.value at c.in_default.ensures.none) enabled

pub forget_on_switch-requires : goal.forget_on_switch-requires
forget_on_switch-requires c =
    let b = c.self.inside in
    let enabled : IsEnabled (before b) (Shut c.args.port) = subst (λ (r : Recorded). IsEnabled (standing r) (Shut c.args.port)) (sym c.self.view_is) c.requires in
    let at = open-here b c.args.port.0 c.in-Some.place (can_shut (before b).world) c.self.invariant (rw c.deref.ensures.value at c.in-Some.ensures.some) enabled in
    record { there = table-there b c.args.port c.in-Some.place at c.name_at-name.result c.self.invariant (rw c.deref-3.ensures.value at c.name_at-name.ensures) }

pub push-requires-clause-promised : goal.push-requires-clause-promised
push-requires-clause-promised c =
    let b = c.self.inside in
    let enabled : IsEnabled (before b) (Shut c.args.port) = subst (λ (r : Recorded). IsEnabled (standing r) (Shut c.args.port)) (sym c.self.view_is) c.requires in
    let at = open-here b c.args.port.0 c.in-Some.place (can_shut (before b).world) c.self.invariant (rw c.deref.ensures.value at c.in-Some.ensures.some) enabled in
    owed-promised b (Shut c.args.port) (shut_made b c.args.port c.in-Some.place at) c.self.invariant (shut-made b c.args.port c.in-Some.place at) refl

pub invariant_of-self : goal.invariant_of-self
invariant_of-self c = moved c.self.inside (next c) (Shut c.args.port) (shut_made c.self.inside c.args.port c.in-Some.place (here c)) c.self.invariant (moves c)

pub returns-clause-made : goal.returns-clause-made
returns-clause-made c =
    rw (← c.self.view_is) (record-moved c.self.inside (next c) (Shut c.args.port) (shut_made c.self.inside c.args.port c.in-Some.place (here c)) (moves c))

pub returns-clause-room : goal.returns-clause-room
returns-clause-room c =
    rw (← c.self.view_is) (room-owed (recorded c.self.inside) (Shut c.args.port) c.self.invariant.stands.legal c.self.invariant.rooms refl)
