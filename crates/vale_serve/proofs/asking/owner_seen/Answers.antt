use Rattle.std.proofs.Common.{Option, None, sym, ◌∙◌, subst}
use Rattle.std.specs.Prelude.{IfSome, position, ◌≢◌}
use Rattle.vale_book.specs.Asking.{IsSeenAs}
use Rattle.vale_book.specs.declared.asking.PortSeen.{PortSeen}
use Rattle.vale_serve.specs.Users.{is_user}
use Rattle.vale_serve.proofs.Asked.{not-there, owner-is}
use Rattle.vale_serve.proofs.asking.owner_seen.Goals as goal

pub unreachable-requires : goal.unreachable-requires
unreachable-requires c =
    let there : position (is_user c.in-Some.port.session.0) c.args.users.now ≢ None =
    subst (λ (seen : Option PortSeen). IfSome seen (λ port. position (is_user port.session.0) c.args.users.now ≢ None)) c.in-Some.is c.requires in
    there (sym c.place_of.ensures ∙ c.in-None-place_of.is)

pub returns-in-Some-place_of : goal.returns-in-Some-place_of
returns-in-Some-place_of c found is =
    owner-is c.args.users.now found c.in-Some.port c.in-Some-place_of.place (subst (IsSeenAs found) c.in-Some.is is) (sym c.place_of.ensures ∙ c.in-Some-place_of.is)

pub returns-in-None : goal.returns-in-None
returns-in-None c found is = not-there found (subst (IsSeenAs found) c.in-None.is is)
