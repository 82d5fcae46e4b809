use Rattle.std.proofs.Common.{sym, subst}
use Rattle.vale_entry.specs.declared.entry.Ask.{Ask}
use Rattle.vale_entry.specs.declared.entry.Ask.TheVariants.{Reset}
use Rattle.vale_entry.specs.declared.entry.Reply.TheVariants.{Made}
use Rattle.vale_entry.specs.Legal.{IsEnabled, can_reset, unchanged}
use Rattle.vale_own.specs.Recorded.{Recorded, standing}
use Rattle.vale_book.proofs.Moves.{before, kept-on, after-on}
use Rattle.vale_book.proofs.Found.{never-missing}
use Rattle.vale_book.proofs.Notes.{IsNote, with_history, note-moves, note-stays}
use Rattle.vale_book.proofs.Telling.{reset-note}
use Rattle.vale_book.proofs.book.Book.reset.Goals as goal

abbrev ask : goal.After-note → Ask
ask c = Reset c.args.port c.args.side c.args.fault.now

noted : (c : goal.After-note) → IsNote c.self.inside (ask c) c.session_at.result.0 Made
noted c =
    let enabled : IsEnabled (before c.self.inside) (ask c) = subst (λ (r : Recorded). IsEnabled (standing r) (ask c)) (sym c.self.view_is) c.requires in
    reset-note c.self.inside c.args.port c.args.side c.args.fault.now c.session_at.result c.in-Some.place c.self.invariant enabled
    (rw c.deref.ensures.value at c.in-Some.ensures.some) (rw c.deref-2.ensures.value at c.session_at.ensures)

pub unreachable-requires : goal.unreachable-requires
unreachable-requires c =
    let b = c.self.inside in
    let enabled = subst (λ (r : Recorded). IsEnabled (standing r) (Reset c.args.port c.args.side c.args.fault.now)) (sym c.self.view_is) c.requires in
    never-missing b c.args.port.0 (can_reset c.args.side c.args.fault.now) c.self.invariant (rw c.deref.ensures.value at c.in_default.ensures.none) enabled

pub invariant_of-self : goal.invariant_of-self
invariant_of-self c =
    let b = c.self.inside in
    let e = c.note.ensures in
    kept-on c.note.result b (with_history b c.note.new.history) (ask c) (unchanged (before b) c.session_at.result.0 Made) c.self.invariant
    (note-moves c.note.result b c.note.new.history (ask c) c.session_at.result.0 Made c.self.invariant (noted c) e.entries e.promised e.limits e.fits)
    (note-stays c.note.result b c.note.new.history e.err e.promised e.limits)

pub returns-clause-made : goal.returns-clause-made
returns-clause-made c =
    let b = c.self.inside in
    let e = c.note.ensures in
    rw (← c.self.view_is) (after-on c.note.result b (with_history b c.note.new.history) (ask c) (unchanged (before b) c.session_at.result.0 Made)
    (note-moves c.note.result b c.note.new.history (ask c) c.session_at.result.0 Made c.self.invariant (noted c) e.entries e.promised e.limits e.fits))
