use Rattle.std.proofs.Common.{refl, sym, ◌∙◌}
use Rattle.std.specs.Prelude.{Ok}
use Rattle.vale_entry.specs.declared.entry.Ask.TheVariants.{Grant}
use Rattle.vale_serve.specs.Users.{is_offered}
use Rattle.vale_serve.proofs.Acting.{unserved}
use Rattle.vale_serve.proofs.Asked.{acted}
use Rattle.vale_serve.proofs.Sought.{at-place, none-granted, asker-grant}
use Rattle.vale_serve.proofs.asking.grant_at.Goals as goal

pub grant-requires-clause-user : goal.grant-requires-clause-user
grant-requires-clause-user c = (at-place c.args.book.now c.args.users.now.items (is_offered c.args.origin) c.in-Some.place c.index_mut.result.now c.requires (rw c.deref.ensures.value at (sym c.place_of_origin.ensures ∙ c.in-Some.is)) c.index_mut.ensures.value).is

pub grant-requires-clause-mine : goal.grant-requires-clause-mine
grant-requires-clause-mine c = (at-place c.args.book.now c.args.users.now.items (is_offered c.args.origin) c.in-Some.place c.index_mut.result.now c.requires (rw c.deref.ensures.value at (sym c.place_of_origin.ensures ∙ c.in-Some.is)) c.index_mut.ensures.value).passes

pub returns-in-None-clause-served : goal.returns-in-None-clause-served
returns-in-None-clause-served c =
    unserved c.args.book.now (Grant c.args.origin c.args.to) (λ s. refl)
    (none-granted c.args.book.now c.args.users.now.items c.args.origin c.args.to c.requires (rw c.deref.ensures.value at (sym c.place_of_origin.ensures ∙ c.in-None.is)))

pub returns-in-Some-clause-kept : goal.returns-in-Some-clause-kept
returns-in-Some-clause-kept c =
    let b = c.args.book.now in
    let user = c.index_mut.result.now in
    let at = at-place b c.args.users.now.items (is_offered c.args.origin) c.in-Some.place user c.requires (rw c.deref.ensures.value at (sym c.place_of_origin.ensures ∙ c.in-Some.is)) c.index_mut.ensures.value in
    acted b c.grant.new.book c.args.users.now.items c.in-Some.place user c.grant.new.user (Grant c.args.origin c.args.to) (Ok c.grant.result) c.requires at.here
    c.grant.ensures.id c.grant.ensures.kept c.grant.ensures.served refl refl (asker-grant b user c.args.origin c.requires.legal at.is at.passes)
