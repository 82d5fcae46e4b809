use Rattle.std.proofs.Common.{refl, sym, ◌∙◌, subst}
use Rattle.nm_types.specs.declared.id.SessionId.{SessionId}
use Rattle.vale_entry.specs.declared.entry.Ask.TheVariants.{Open}
use Rattle.vale_serve.specs.Serving.{IsServed}
use Rattle.vale_serve.specs.Users.{is_user}
use Rattle.vale_serve.proofs.Acting.{unserved}
use Rattle.vale_serve.proofs.Asked.{acted}
use Rattle.vale_serve.proofs.Sought.{at-place, session-there, none-opened, same-session}
use Rattle.vale_serve.proofs.asking.open_at.Goals as goal

pub open-requires-clause-user : goal.open-requires-clause-user
open-requires-clause-user c = (at-place c.args.book.now c.args.users.now.items (is_user c.args.session.0) c.in-Some.place c.index_mut.result.now c.requires (rw c.deref.ensures.value at (sym c.place_of.ensures ∙ c.in-Some.is)) c.index_mut.ensures.value).is

pub open-requires-clause-there : goal.open-requires-clause-there
open-requires-clause-there c =
    let at = at-place c.args.book.now c.args.users.now.items (is_user c.args.session.0) c.in-Some.place c.index_mut.result.now c.requires (rw c.deref.ensures.value at (sym c.place_of.ensures ∙ c.in-Some.is)) c.index_mut.ensures.value in
    session-there c.args.book.now c.args.users.now.items c.in-Some.place c.index_mut.result.now c.requires at.here

pub returns-in-None-clause-served : goal.returns-in-None-clause-served
returns-in-None-clause-served c =
    unserved c.args.book.now (Open c.args.session c.args.name.now c.args.tx c.args.rx c.args.extra) (λ s. refl)
    (none-opened c.args.book.now c.args.users.now.items c.args.session c.args.name.now c.args.tx c.args.rx c.args.extra c.requires (rw c.deref.ensures.value at (sym c.place_of.ensures ∙ c.in-None.is)))

pub returns-in-Some-clause-served : goal.returns-in-Some-clause-served
returns-in-Some-clause-served c =
    let at = at-place c.args.book.now c.args.users.now.items (is_user c.args.session.0) c.in-Some.place c.index_mut.result.now c.requires (rw c.deref.ensures.value at (sym c.place_of.ensures ∙ c.in-Some.is)) c.index_mut.ensures.value in
    subst (λ (s : SessionId). IsServed c.args.book.now c.open.new.book (Open s c.args.name.now c.args.tx c.args.rx c.args.extra) c.open.result)
    (same-session c.index_mut.result.now.id c.args.session at.passes) c.open.ensures.served

pub returns-in-Some-clause-kept : goal.returns-in-Some-clause-kept
returns-in-Some-clause-kept c =
    let b = c.args.book.now in
    let user = c.index_mut.result.now in
    let at = at-place b c.args.users.now.items (is_user c.args.session.0) c.in-Some.place user c.requires (rw c.deref.ensures.value at (sym c.place_of.ensures ∙ c.in-Some.is)) c.index_mut.ensures.value in
    acted b c.open.new.book c.args.users.now.items c.in-Some.place user c.open.new.user (Open user.id c.args.name.now c.args.tx c.args.rx c.args.extra) c.open.result c.requires at.here
    c.open.ensures.id c.open.ensures.kept c.open.ensures.served refl refl refl
