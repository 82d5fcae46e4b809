use Rattle.std.proofs.Common.{rules}
use Rattle.std.proofs.lemmas.Fn.{filter_same}
use Rattle.vale_book.specs.Sessions.{is_other_user}
use Rattle.vale_book.proofs.leaving.leave.Goals as goal

pub returns-clause-sessions : goal.returns-clause-sessions
returns-clause-sessions c = filter_same _ (is_other_user c.args.session.0) _ (λ x b q k. search rules) _ _ c.retain.ensures.filtered
