use Rattle.std.proofs.Common.{refl, sym, ◌∙◌}
use Rattle.vale_entry.specs.declared.entry.Ask.TheVariants.{Shut}
use Rattle.vale_serve.proofs.Acting.{unserved}
use Rattle.vale_own.specs.Own.{own_of}
use Rattle.vale_book.specs.Recorded.{standing}
use Rattle.vale_book.proofs.Said.{said-by, shut-said}
use Rattle.vale_serve.proofs.Asked.{can-shut-is, steps-of, mine-of, quiet-kept, shut-hands}
use Rattle.vale_serve.proofs.shutting.shut.Goals as goal

pub returns-then-not-is_settled-clause-served : goal.returns-then-not-is_settled-clause-served
returns-then-not-is_settled-clause-served c =
    unserved c.args.book.now (Shut c.args.port) (λ s. refl)
    (can-shut-is c.args.book.now c.args.user.now c.args.port c.requires.legal c.requires.user c.requires.mine ∙ (sym c.is_settled.ensures ∙ c.if-not-is_settled.true))

pub shut-requires : goal.shut-requires
shut-requires c = can-shut-is c.args.book.now c.args.user.now c.args.port c.requires.legal c.requires.user c.requires.mine ∙ (sym c.is_settled.ensures ∙ c.if-not-is_settled.false)

pub returns-clause-served : goal.returns-clause-served
returns-clause-served c =
    let enabled = can-shut-is c.args.book.now c.args.user.now c.args.port c.requires.legal c.requires.user c.requires.mine ∙ (sym c.is_settled.ensures ∙ c.if-not-is_settled.false) in
    let steps = steps-of c.args.book.now (Shut c.args.port) (λ s. refl) enabled in
    (sym (said-by steps (shut-said steps)), c.shut.ensures.made, c.shut.ensures.room)

pub returns-clause-kept : goal.returns-clause-kept
returns-clause-kept c =
    let b = c.args.book.now in
    let enabled = can-shut-is b c.args.user.now c.args.port c.requires.legal c.requires.user c.requires.mine ∙ (sym c.is_settled.ensures ∙ c.if-not-is_settled.false) in
    let steps = steps-of b (Shut c.args.port) (λ s. refl) enabled in
    quiet-kept b c.shut.new.self c.args.user.now (Shut c.args.port) steps.makes c.requires.legal c.requires.user c.shut.ensures.made steps.is
    (mine-of b c.args.user.now (Shut c.args.port) steps c.args.port c.requires.mine refl refl)
    (shut-hands (standing b) c.args.port steps.makes.reply (own_of c.args.user.now.id.0 (standing b)))
