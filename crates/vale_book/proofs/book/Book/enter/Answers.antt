use Rattle.std.proofs.Common.{◌<◌, ◌^◌, OnOk, refl, arith}
use Rattle.std.proofs.lemmas.Result.{on_err_weaker}
use Rattle.vale_entry.specs.declared.entry.Ask.TheVariants.{Enter}
use Rattle.vale_entry.specs.Legal.{enter_step}
use Rattle.vale_book.specs.declared.book.Book.TheInside.{Inside}
use Rattle.vale_book.proofs.Moves.{Moves, before, kept-on, after-on}
use Rattle.vale_book.proofs.Comings.{enter-moves}
use Rattle.vale_book.proofs.book.Book.enter.Goals as goal

abbrev next : goal.After-enter → Inside
next c = record c.self.inside { history = c.enter.new.history; sessions = c.enter.new.sessions }

moves : (c : goal.After-enter) → OnOk c.enter.result (Moves c.self.inside (next c) (Enter c.args.user) (enter_step (before c.self.inside)))
moves c =
    let small : c.args.user < 2 ^ 64 = omega (arith, c.ranges.user) in
    let e = c.enter.ensures in
    enter-moves c.enter.result c.self.inside (next c) c.args.user small c.self.invariant e.entries e.number e.promised e.sessions e.limits e.fits refl refl refl refl

pub invariant_of-self : goal.invariant_of-self
invariant_of-self c =
    let e = c.enter.ensures in
    kept-on c.enter.result c.self.inside (next c) (Enter c.args.user) (enter_step (before c.self.inside)) c.self.invariant (moves c)
    (on_err_weaker c.enter.result (λ err. record { entries = err.0; limits = e.limits; promised = err.1; sessions = err.2; ports = refl; parts = refl; region = refl; buffers = refl }) e.err)

pub returns-clause-made : goal.returns-clause-made
returns-clause-made c =
    rw (← c.self.view_is) (after-on c.enter.result c.self.inside (next c) (Enter c.args.user) (enter_step (before c.self.inside)) (moves c))
