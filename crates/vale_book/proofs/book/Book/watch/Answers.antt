use Rattle.std.proofs.Common.{sym, subst}
use Rattle.vale_entry.specs.declared.entry.Ask.TheVariants.{Watch}
use Rattle.vale_entry.specs.Legal.{IsEnabled}
use Rattle.vale_entry.specs.Monitors.{can_watch}
use Rattle.vale_own.specs.Recorded.{Recorded, standing}
use Rattle.vale_book.proofs.Moves.{before}
use Rattle.vale_book.proofs.Found.{open-here, never-missing}
use Rattle.vale_book.proofs.WatchMoves.{Outcomes, with_watches, asked, outcomes}
use Rattle.vale_book.proofs.book.Book.watch.Goals as goal

pub unreachable-requires : goal.unreachable-requires
unreachable-requires c =
    let b = c.self.inside in
    let enabled = subst (λ (r : Recorded). IsEnabled (standing r) (Watch c.args.monitor c.args.target.now c.args.sides)) (sym c.self.view_is) c.requires in
    never-missing b c.args.monitor.0 (can_watch c.args.target.now) c.self.invariant (rw c.deref.ensures.value at c.in_default.ensures.none) enabled

answers : (c : goal.After-watch) → Outcomes c.self.inside (with_watches c.self.inside c.watch.new.history c.watch.new.watches) (Watch c.args.monitor c.args.target.now c.args.sides) c.watch.result
answers c =
    let b = c.self.inside in
    let k = c.self.invariant in
    let name = c.args.target.now in
    let enabled : IsEnabled (before b) (Watch c.args.monitor name c.args.sides) = subst (λ (r : Recorded). IsEnabled (standing r) (Watch c.args.monitor name c.args.sides)) (sym c.self.view_is) c.requires in
    let here = open-here b c.args.monitor.0 c.in-Some.place (can_watch name) k (rw c.deref.ensures.value at c.in-Some.ensures.some) enabled in
    let a = asked b c.args.monitor name c.in-Some.place c.session_at-session.result c.find-found.result k here
    (rw c.deref-2.ensures.value at c.session_at-session.ensures) c.find-found.ensures.names c.find-found.ensures.port in
    let e = c.watch.ensures in
    outcomes b c.args.monitor name c.args.sides c.in-Some.place c.session_at-session.result c.find-found.result k a c.watch.result c.watch.new.history c.watch.new.watches
    e.entries e.none e.promised e.limits e.watched e.unwatched e.err

pub invariant_of-self : goal.invariant_of-self
invariant_of-self c = (answers c).book

pub returns-clause-watched : goal.returns-clause-watched
returns-clause-watched c = rw (← c.self.view_is) (answers c).watched

pub returns-clause-unwatched : goal.returns-clause-unwatched
returns-clause-unwatched c = rw (← c.self.view_is) (answers c).unwatched
