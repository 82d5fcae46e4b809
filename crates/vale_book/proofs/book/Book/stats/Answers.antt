use Rattle.std.proofs.Common.{sym, subst, ◌∙◌}
use Rattle.vale_entry.specs.declared.entry.Ask.TheVariants.{Stat}
use Rattle.vale_entry.specs.declared.entry.Reply.TheVariants.{Counted}
use Rattle.vale_entry.specs.World.{open_port}
use Rattle.vale_entry.specs.Legal.{IsEnabled, unchanged}
use Rattle.vale_own.specs.Recorded.{Recorded, standing}
use Rattle.vale_book.proofs.Moves.{before, kept-on, after-on}
use Rattle.vale_book.proofs.Found.{any_port, met-any, never-missing}
use Rattle.vale_book.proofs.Notes.{IsNote, with_history, note-moves, note-stays}
use Rattle.vale_book.proofs.Telling.{counted-here, stat-note, stat-said}
use Rattle.vale_book.proofs.book.Book.stats.Goals as goal

noted : (c : goal.After-note_counts) → IsNote c.self.inside (Stat c.args.port) c.session_at-session.result.0 (Counted c.in-Some-of.counts)
noted c =
    let enabled : IsEnabled (before c.self.inside) (Stat c.args.port) = subst (λ (r : Recorded). IsEnabled (standing r) (Stat c.args.port)) (sym c.self.view_is) c.requires in
    stat-note c.self.inside c.args.port c.session_at-session.result c.in-Some.place c.in-Some-of.counts c.self.invariant enabled
    (rw c.deref.ensures.value at c.in-Some.ensures.some) (rw c.deref-2.ensures.value at c.session_at-session.ensures) (sym c.in-Some-of.is ∙ c.of.ensures.counts)

pub unreachable-requires : goal.unreachable-requires
unreachable-requires c =
    let b = c.self.inside in
    let enabled = subst (λ (r : Recorded). IsEnabled (standing r) (Stat c.args.port)) (sym c.self.view_is) c.requires in
    never-missing b c.args.port.0 any_port c.self.invariant (rw c.deref.ensures.value at c.in_default.ensures.none) (met-any (open_port (before b).world.ports c.args.port.0) enabled)

pub unreachable-requires-in_default-of : goal.unreachable-requires-in_default-of
unreachable-requires-in_default-of c =
    let b = c.self.inside in
    let enabled = subst (λ (r : Recorded). IsEnabled (standing r) (Stat c.args.port)) (sym c.self.view_is) c.requires in
    let there = counted-here b c.args.port c.self.invariant enabled in
    let none = sym c.in_default-of.is ∙ c.of.ensures.counts in
    absurd cc

pub invariant_of-self : goal.invariant_of-self
invariant_of-self c =
    let b = c.self.inside in
    let r = c.note_counts.result in
    let h = c.note_counts.new.history in
    let e = c.note_counts.ensures.noted in
    let session = c.session_at-session.result.0 in
    kept-on r b (with_history b h) (Stat c.args.port) (unchanged (before b) session (Counted c.in-Some-of.counts)) c.self.invariant
    (note-moves r b h (Stat c.args.port) session (Counted c.in-Some-of.counts) c.self.invariant (noted c) e.entries e.promised e.limits e.fits)
    (note-stays r b h e.err e.promised e.limits)

pub returns-clause-made : goal.returns-clause-made
returns-clause-made c =
    let b = c.self.inside in
    let r = c.note_counts.result in
    let h = c.note_counts.new.history in
    let e = c.note_counts.ensures.noted in
    let session = c.session_at-session.result.0 in
    rw (← c.self.view_is) (after-on r b (with_history b h) (Stat c.args.port) (unchanged (before b) session (Counted c.in-Some-of.counts))
    (note-moves r b h (Stat c.args.port) session (Counted c.in-Some-of.counts) c.self.invariant (noted c) e.entries e.promised e.limits e.fits))

pub returns-clause-said : goal.returns-clause-said
returns-clause-said c =
    rw (← c.self.view_is) (stat-said c.note_counts.result c.self.inside c.args.port c.session_at-session.result.0 c.in-Some-of.counts (noted c) c.note_counts.ensures.counts)
