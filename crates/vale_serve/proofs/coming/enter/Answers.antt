use Rattle.std.proofs.Common.{◌++◌, [], ◌∷◌, ap, ◌∙◌}
use Rattle.vale_serve.proofs.Comers.{came}
use Rattle.vale_serve.proofs.coming.enter.Goals as goal

pub returns-clause-kept : goal.returns-clause-kept
returns-clause-kept c =
    came c.args.book.now c.args.users.now.items c.requires c.args.user c.in_ok-id.ensures.fits c.enter.new.self c.push_reserved.new.self.items c.new.result c.in_ok-id.ensures.made
    (c.push_reserved.ensures.items ∙ ap (λ us. us ++ c.new.result ∷ []) c.in_ok-reserve.ensures.items)
    (ap (λ id. id.0) c.new.ensures.id ∙ c.in_ok-id.ensures.id) c.new.ensures.nothing
