use Rattle.std.proofs.Common.{refl, sym, subst}
use Rattle.vale_entry.specs.declared.entry.Ask.{Ask}
use Rattle.vale_entry.specs.declared.entry.Ask.TheVariants.{Done}
use Rattle.vale_entry.specs.Legal.{Outcome, done_step}
use Rattle.vale_book.specs.declared.book.Book.TheInside.{Inside}
use Rattle.vale_line.specs.Gots.{buffers_of}
use Rattle.nm_region.specs.Regions.{AreOf}
use Rattle.vale_steps.specs.Granting.{lease_id}
use Rattle.vale_steps.specs.Offering.{IsFilledIn}
use Rattle.vale_own.specs.Recorded.{Recorded, standing}
use Rattle.vale_book.proofs.Standing.{by-ids}
use Rattle.vale_book.proofs.Moves.{Moves, before, moved, record-moved, had-room}
use Rattle.vale_book.proofs.Dones.{IsLeaseAt, IsOwed, lease-here, lease-owed, lot-out, lease-old, lease-there, done-moves, done-promised}
use Rattle.vale_book.proofs.book.Book.done.Goals.{In-Some, After-complete}
use Rattle.vale_book.proofs.book.Book.done.Goals as goal

pub leased_port-requires : goal.leased_port-requires
leased_port-requires c =
    let b = c.self.inside in
    rw c.deref.ensures.value (by-ids b.pool.buffers b.history.entries b c.self.invariant.stands)

-- the lease stands at the place found, and its lot is owed
at : (c : In-Some) → IsLeaseAt c.self.inside c.args.lease c.in-Some.place
at c =
    let filled = subst (λ (r : Recorded). IsFilledIn (standing r) c.args.lease) (sym c.self.view_is) c.requires.filled in
    lease-here c.self.inside c.args.lease c.in-Some.place c.self.invariant filled (rw (← c.deref.ensures.value) c.in-Some.ensures.some)

owed : (c : In-Some) → IsOwed c.self.inside c.args.lease
owed c = lease-owed c.self.inside c.args.lease c.in-Some.place c.self.invariant (at c)

-- the step
abbrev next : After-complete → Inside
next c = record c.self.inside { history = c.complete.new.history; ports = c.complete.new.ports }

abbrev ask : After-complete → Ask
ask c = Done (lease_id c.args.lease.id)

abbrev made : After-complete → Outcome
made c = done_step (before c.self.inside) c.args.lease.id (owed c.before.before.before).lot

moves : (c : After-complete) → Moves c.self.inside (next c) (ask c) (made c)
moves c =
    let e = c.complete.ensures in
    let o = owed c.before.before.before in
    let of = subst (λ (r : Recorded). AreOf r.region (buffers_of c.args.lease.filled)) (sym c.self.view_is) c.requires.region in
    done-moves c.self.inside (next c) c.args.lease c.in-Some.place c.self.invariant (at c.before.before.before) o of (e.entries o.entry o.here) e.promised e.limits e.seats e.lots refl refl refl refl

pub complete-requires-clause-promised : goal.complete-requires-clause-promised
complete-requires-clause-promised c = done-promised c.self.inside c.args.lease c.self.invariant (owed (goal.at.complete-requires-clause-promised c).In-Some)

pub complete-requires-clause-lot : goal.complete-requires-clause-lot
complete-requires-clause-lot c =
    lot-out c.self.inside c.args.lease c.in-Some.place c.self.invariant (at (goal.at.complete-requires-clause-lot c).In-Some) c.requires.empty

pub complete-requires-clause-first : goal.complete-requires-clause-first
complete-requires-clause-first c = (owed (goal.at.complete-requires-clause-first c).In-Some).first

pub complete-requires-clause-last : goal.complete-requires-clause-last
complete-requires-clause-last c = lease-old c.self.inside c.args.lease (owed (goal.at.complete-requires-clause-last c).In-Some)

pub unreachable-requires : goal.unreachable-requires
unreachable-requires c =
    let b = c.self.inside in
    let filled = subst (λ (r : Recorded). IsFilledIn (standing r) c.args.lease) (sym c.self.view_is) c.requires.filled in
    lease-there b c.args.lease c.self.invariant filled (rw (← c.deref.ensures.value) c.in-None.ensures.none)

pub invariant_of-self : goal.invariant_of-self
invariant_of-self c = moved c.self.inside (next c) (ask c) (made c) c.self.invariant (moves c)

pub returns-clause-made : goal.returns-clause-made
returns-clause-made c = rw (← c.self.view_is) (record-moved c.self.inside (next c) (ask c) (made c) (moves c))

pub returns-clause-room : goal.returns-clause-room
returns-clause-room c = rw (← c.self.view_is) (had-room c.self.inside (next c) (ask c) (made c) (moves c))
