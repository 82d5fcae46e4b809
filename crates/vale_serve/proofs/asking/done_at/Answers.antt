use Rattle.std.proofs.Common.{refl, sym, ◌∙◌}
use Rattle.std.specs.Prelude.{Ok}
use Rattle.vale_entry.specs.declared.entry.Ask.TheVariants.{Done}
use Rattle.vale_serve.specs.Users.{has_lease}
use Rattle.vale_serve.proofs.Acting.{unserved}
use Rattle.vale_serve.proofs.Asked.{acted}
use Rattle.vale_serve.proofs.Sought.{at-place, none-done, asker-done}
use Rattle.vale_serve.proofs.asking.done_at.Goals as goal

pub done-requires-clause-user : goal.done-requires-clause-user
done-requires-clause-user c = (at-place c.args.book.now c.args.users.now.items (has_lease c.args.lease.0) c.in-Some.place c.index_mut.result.now c.requires (rw c.deref.ensures.value at (sym c.place_of_lease.ensures ∙ c.in-Some.is)) c.index_mut.ensures.value).is

pub done-requires-clause-mine : goal.done-requires-clause-mine
done-requires-clause-mine c = (at-place c.args.book.now c.args.users.now.items (has_lease c.args.lease.0) c.in-Some.place c.index_mut.result.now c.requires (rw c.deref.ensures.value at (sym c.place_of_lease.ensures ∙ c.in-Some.is)) c.index_mut.ensures.value).passes

pub returns-in-None-clause-served : goal.returns-in-None-clause-served
returns-in-None-clause-served c =
    unserved c.args.book.now (Done c.args.lease) (λ s. refl)
    (none-done c.args.book.now c.args.users.now.items c.args.lease c.requires (rw c.deref.ensures.value at (sym c.place_of_lease.ensures ∙ c.in-None.is)))

pub returns-in-Some-clause-kept : goal.returns-in-Some-clause-kept
returns-in-Some-clause-kept c =
    let b = c.args.book.now in
    let user = c.index_mut.result.now in
    let at = at-place b c.args.users.now.items (has_lease c.args.lease.0) c.in-Some.place user c.requires (rw c.deref.ensures.value at (sym c.place_of_lease.ensures ∙ c.in-Some.is)) c.index_mut.ensures.value in
    acted b c.done.new.book c.args.users.now.items c.in-Some.place user c.done.new.user (Done c.args.lease) (Ok c.done.result) c.requires at.here
    c.done.ensures.id c.done.ensures.kept c.done.ensures.served refl refl (asker-done b user c.args.lease c.requires.legal at.is at.passes)
