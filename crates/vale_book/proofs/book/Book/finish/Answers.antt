use Rattle.std.proofs.Common.{ℕ, List, [], ◌∷◌, ◌++◌, vec_capacity, ◌≡◌, ◌<◌, ◌+◌, length, refl, sym, ◌∙◌, ap, subst, arith}
use Rattle.std.proofs.lemmas.List.{length-map}
use Rattle.nm_region.specs.Buffers.{Buffer, indices_of}
use Rattle.nm_types.specs.declared.id.PortId.{PortId}
use Rattle.nm_types.specs.declared.id.SessionId.{SessionId}
use Rattle.nm_types.specs.declared.id.Chain.{Chain}
use Rattle.vale_entry.specs.declared.entry.Ask.{Ask}
use Rattle.vale_entry.specs.declared.entry.Entry.{Entry}
use Rattle.vale_entry.specs.declared.entry.Reply.TheVariants.{Unread}
use Rattle.vale_entry.specs.declared.entry.Ask.TheVariants.{Finish}
use Rattle.vale_entry.specs.Closing.{leases_out, unread_count}
use Rattle.vale_entry.specs.Legal.{IsEnabled, Outcome}
use Rattle.vale_entry.specs.Stored.{Stored}
use Rattle.vale_parts.specs.FreeBuffers.{pool_with_all}
use Rattle.vale_port.specs.Seat.{Seat}
use Rattle.vale_book.specs.declared.book.Book.TheInside.{Inside}
use Rattle.nm_region.specs.Regions.{AreOf}
use Rattle.vale_book.specs.BookView.{recorded}
use Rattle.vale_own.specs.Recorded.{Recorded, standing, room_by}
use Rattle.vale_own.proofs.Rooms.{room-owed}
use Rattle.vale_book.proofs.Moves.{Moves, before, moved, record-moved, owed-promised}
use Rattle.vale_steps.proofs.GivenBack.{can-front, can-rest}
use Rattle.vale_book.proofs.Finishes.{IsShuttingHere, IsQuietHere, shutting-here, never-gone, quiet-here, of-gone, outcome, finish-made, said-unread, said-waits, due-here, can-give, counted-here, finish-moves}
use Rattle.vale_book.proofs.book.Book.finish.Goals.{In-Some, After-close_at-own, After-push}
use Rattle.vale_book.proofs.book.Book.finish.Goals as goal

abbrev finish_entry : SessionId → PortId → List ℕ → Chain → ℕ → Entry
finish_entry session port bufs chain count = record { session = session; ask = Finish port bufs chain; reply = Unread count }

-- the port is shutting at the place found
shutting : (c : In-Some) → IsShuttingHere c.self.inside c.args.port.0 c.in-Some.place (indices_of c.args.bufs.items) c.args.chain
shutting c =
    let ask = Finish c.args.port (indices_of c.args.bufs.items) c.args.chain in
    let enabled : IsEnabled (before c.self.inside) ask = subst (λ (r : Recorded). IsEnabled (standing r) ask) (sym c.self.view_is) c.requires.enabled in
    shutting-here c.self.inside c.args.port c.in-Some.place (indices_of c.args.bufs.items) c.args.chain c.self.invariant (rw c.deref.ensures.value at c.in-Some.ensures.some) enabled

-- and all its leases are done
quiet : (c : After-close_at-own) → IsQuietHere c.self.inside c.args.port c.in-Some.place (indices_of c.args.bufs.items) c.args.chain
quiet c =
    let ask = Finish c.args.port (indices_of c.args.bufs.items) c.args.chain in
    let enabled : IsEnabled (before c.self.inside) ask = subst (λ (r : Recorded). IsEnabled (standing r) ask) (sym c.self.view_is) c.requires.enabled in
    let none : c.leases_out_at-n.result ≡ 0 = omega (arith, c.if-n-gt0.false) in
    quiet-here c.self.inside c.args.port c.in-Some.place (indices_of c.args.bufs.items) c.args.chain c.leases_out_at-n.result c.self.invariant
    (rw c.deref.ensures.value at c.in-Some.ensures.some) enabled (rw c.deref-2.ensures.value at c.leases_out_at-n.ensures.seat) none

-- the port goes
abbrev Quiet : After-push → Type 0
Quiet c = IsQuietHere c.self.inside c.args.port c.in-Some.place (indices_of c.args.bufs.items) c.args.chain

abbrev ask : After-push → Ask
ask c = Finish c.args.port (indices_of c.args.bufs.items) c.args.chain

abbrev made : (c : After-push) → Quiet c → Outcome
made c q = outcome c.self.inside c.args.port c.in-Some.place (indices_of c.args.bufs.items) c.args.chain c.self.invariant q.here

abbrev next : After-push → Inside
next c = record c.self.inside { history = c.push.new.self; pool = c.give_back-2.new.pool; ports = c.close_at-own.new.ports; names = c.gone.new.self; tally = c.gone-2.new.self }

moves : (c : After-push) → (q : Quiet c) → Moves c.self.inside (next c) (ask c) (made c q)
moves c q =
    let b = c.self.inside in
    let k = c.self.invariant in
    let bufs = indices_of c.args.bufs.items in
    let is = finish-made b c.args.port c.in-Some.place bufs c.args.chain k q.here q.quiet in
    let roomy = room-owed (recorded b) (ask c) k.stands.legal k.rooms refl in
    let room = subst (room_by (recorded b) (ask c)) is roomy in
    let region = subst (λ (r : Recorded). AreOf r.region c.args.bufs.items) (sym c.self.view_is) c.requires.region in
    let some = owed-promised b (ask c) (made c q) k is refl in
    let less = ap (λ (h : Stored). h.promised) c.push.ensures in
    let promised : c.push.new.self.promised + 1 ≡ b.history.promised = omega (arith, some, less) in
    let list : c.from.result ≡ bufs = c.from.ensures ∙ rw c.deref-4.ensures.value at c.indices_into-list.ensures in
    let back = c.give_back-2.ensures ∙ ap (pool_with_all c.args.bufs.items) c.give_back.ensures in
    finish-moves b c.args.port c.in-Some.place bufs c.args.chain k q.here (next c) c.session_at-session.result c.close_at-own.result.1 c.close_at-own.result.0.items c.args.bufs.items q.quiet refl room region
    (rw c.deref-3.ensures.value at c.session_at-session.ensures) c.close_at-own.ensures.held c.close_at-own.ensures.buffers c.close_at-own.ensures.unread
    (ap (λ (h : Stored). h.entries) c.push.ensures ∙ ap (λ (ns : List ℕ). b.history.entries ++ finish_entry c.session_at-session.result c.args.port ns c.args.chain c.close_at-own.result.1 ∷ []) list)
    promised (ap (λ (h : Stored). h.limits) c.push.ensures) c.close_at-own.ensures.ports back c.gone.ensures c.gone-2.ensures refl refl refl refl refl

pub unreachable-requires : goal.unreachable-requires
unreachable-requires c =
    let b = c.self.inside in
    let enabled = subst (λ (r : Recorded). IsEnabled (standing r) (Finish c.args.port (indices_of c.args.bufs.items) c.args.chain)) (sym c.self.view_is) c.requires.enabled in
    never-gone b c.args.port (indices_of c.args.bufs.items) c.args.chain c.self.invariant (rw c.deref.ensures.value at c.in_default.ensures.none) enabled

pub returns-then-n-gt0-clause-waits : goal.returns-then-n-gt0-clause-waits
returns-then-n-gt0-clause-waits c =
    let n = c.leases_out_at-n.result in
    let here = shutting (goal.at.returns-then-n-gt0-clause-waits c).In-Some in
    let some : 0 < n = omega (arith, c.if-n-gt0.true) in
    let out = of-gone c.self.inside c.args.port c.in-Some.place (indices_of c.args.bufs.items) c.args.chain c.self.invariant here (λ (seat : Seat). n ≡ leases_out seat.port) (rw c.deref-2.ensures.value at c.leases_out_at-n.ensures.seat) in
    (some, rw (← c.self.view_is) (said-waits c.self.inside c.args.port c.in-Some.place (indices_of c.args.bufs.items) c.args.chain c.self.invariant here n some out), refl)

pub indices_into-list-requires-clause-room : goal.indices_into-list-requires-clause-room
indices_into-list-requires-clause-room c =
    let here = shutting (goal.at.indices_into-list-requires-clause-room c).In-Some in
    let fits = due-here c.self.inside c.args.port c.in-Some.place (indices_of c.args.bufs.items) c.args.chain c.self.invariant here (vec_capacity c.close_at-own.result.2) c.close_at-own.ensures.room in
    let same = length-map c.args.bufs.items (λ (x : Buffer). x.index) in
    let value : length c.deref-4.result.now ≡ length c.args.bufs.items = ap (λ (xs : List Buffer). length xs) c.deref-4.ensures.value in
    omega (arith, fits, same, value)

pub give_back-requires : goal.give_back-requires
give_back-requires c =
    let q = quiet (goal.at.give_back-requires c).After-close_at-own in
    can-front c.self.inside.pool c.close_at-own.result.0.items c.args.bufs.items
    (can-give c.self.inside c.args.port c.in-Some.place (indices_of c.args.bufs.items) c.args.chain c.self.invariant q.here c.close_at-own.result.0.items c.args.bufs.items q.quiet refl c.close_at-own.ensures.held)

pub give_back-requires-2 : goal.give_back-requires-2
give_back-requires-2 c =
    let q = quiet (goal.at.give_back-requires-2 c).After-close_at-own in
    rw c.give_back.ensures (can-rest c.self.inside.pool c.close_at-own.result.0.items c.args.bufs.items
    (can-give c.self.inside c.args.port c.in-Some.place (indices_of c.args.bufs.items) c.args.chain c.self.invariant q.here c.close_at-own.result.0.items c.args.bufs.items q.quiet refl c.close_at-own.ensures.held))

pub gone-requires-2 : goal.gone-requires-2
gone-requires-2 c = counted-here c.self.inside c.args.port c.in-Some.place (indices_of c.args.bufs.items) c.args.chain c.self.invariant (shutting (goal.at.gone-requires-2 c).In-Some)

pub push-requires-clause-promised : goal.push-requires-clause-promised
push-requires-clause-promised c =
    let b = c.self.inside in
    let k = c.self.invariant in
    let bufs = indices_of c.args.bufs.items in
    let q = quiet (goal.at.push-requires-clause-promised c).After-close_at-own in
    owed-promised b (Finish c.args.port bufs c.args.chain) (outcome b c.args.port c.in-Some.place bufs c.args.chain k q.here) k
    (finish-made b c.args.port c.in-Some.place bufs c.args.chain k q.here q.quiet) (refl {a = 0})

pub invariant_of-self : goal.invariant_of-self
invariant_of-self c =
    let q = quiet (goal.at.invariant_of-self c).After-close_at-own in
    moved c.self.inside (next c) (ask c) (made c q) c.self.invariant (moves c q)

pub returns-clause-made : goal.returns-clause-made
returns-clause-made c =
    let q = quiet (goal.at.returns-clause-made c).After-close_at-own in
    rw (← c.self.view_is) (record-moved c.self.inside (next c) (ask c) (made c q) (moves c q))

pub returns-clause-said : goal.returns-clause-said
returns-clause-said c =
    let q = quiet (goal.at.returns-clause-said c).After-close_at-own in
    let bufs = indices_of c.args.bufs.items in
    let read = of-gone c.self.inside c.args.port c.in-Some.place bufs c.args.chain c.self.invariant q.here (λ (seat : Seat). c.close_at-own.result.1 ≡ unread_count seat.port) c.close_at-own.ensures.unread in
    rw (← c.self.view_is) (said-unread c.self.inside c.args.port c.in-Some.place bufs c.args.chain c.self.invariant q.here c.close_at-own.result.1 q.quiet read)

pub returns-clause-room : goal.returns-clause-room
returns-clause-room c = rw (← c.self.view_is) (room-owed (recorded c.self.inside) (ask c) c.self.invariant.stands.legal c.self.invariant.rooms refl)
