use Rattle.std.proofs.Common.{refl, sym, ◌∙◌}
use Rattle.vale_entry.specs.declared.entry.Ask.TheVariants.{Reset}
use Rattle.vale_serve.proofs.Asked.{steps-of}
use Rattle.vale_serve.proofs.Watches.{can-reset-is, reset-kept}
use Rattle.vale_serve.proofs.resetting.reset.Goals as goal

pub returns-clause-kept : goal.returns-clause-kept
returns-clause-kept c =
    let b = c.args.book.now in
    let asker = c.requires.asker in
    let can = can-reset-is b c.args.user.now c.args.port c.args.seen c.args.side c.args.fault.now asker
    ∙ (sym (c.can_reset.ensures asker.port asker.is_seen) ∙ c.if-not-can_reset.false) in
    reset-kept b c.reset.new.self c.args.user.now c.args.port c.args.seen c.args.side c.args.fault.now c.requires.legal c.requires.user asker
    (steps-of b (Reset c.args.port c.args.side c.args.fault.now) (λ s. refl) can) c.in_ok-reset.ensures.made
