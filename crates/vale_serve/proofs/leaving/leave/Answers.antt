use Rattle.std.proofs.Common.{◌≡◌, get_or, true, refl, sym, ◌∙◌, subst, rules}
use Rattle.nm_types.specs.declared.id.SessionId.{SessionId}
use Rattle.vale_entry.specs.declared.entry.Ask.TheVariants.{Leave}
use Rattle.vale_entry.specs.Legal.{is_enabled}
use Rattle.vale_book.specs.Recorded.{standing, after_ask}
use Rattle.vale_book.proofs.Said.{said-by, leave-said}
use Rattle.vale_serve.proofs.Acting.{unserved}
use Rattle.vale_serve.proofs.Asked.{steps-of}
use Rattle.vale_serve.proofs.Leavers.{LeavesAt, leaves-at, leaves-nothing, none-leaves, left}
use Rattle.vale_serve.proofs.leaving.leave.Goals as goal

pub returns-in_err-place-clause-served : goal.returns-in_err-place-clause-served
returns-in_err-place-clause-served c =
    let un = unserved c.args.book.now (Leave c.args.session) (λ s. refl)
    (none-leaves c.args.book.now c.args.users.now.items c.args.session c.requires (rw c.deref.ensures.value at (sym c.in_err-place.ensures))) in
    let none = un.0 in
    (search rules, un.1, un.2)

pub returns-then-not-can_leave-clause-served : goal.returns-then-not-can_leave-clause-served
returns-then-not-can_leave-clause-served c =
    let user = c.index.result.now in
    let is : user ≡ get_or c.args.users.now.items c.in_ok-place.place user = search rules in
    let at = leaves-at c.args.book.now c.args.users.now.items c.args.session c.in_ok-place.place user c.requires (rw c.deref.ensures.value at (sym c.in_ok-place.ensures)) is in
    unserved c.args.book.now (Leave c.args.session) (λ s. refl) (at.enabled ∙ (sym c.can_leave.ensures ∙ c.if-not-can_leave.true))

pub leave-requires : goal.leave-requires
leave-requires c =
    let user = c.index.result.now in
    let is : user ≡ get_or c.args.users.now.items c.in_ok-place.place user = search rules in
    let at = leaves-at c.args.book.now c.args.users.now.items c.args.session c.in_ok-place.place user c.requires (rw c.deref.ensures.value at (sym c.in_ok-place.ensures)) is in
    at.enabled ∙ (sym c.can_leave.ensures ∙ c.if-not-can_leave.false)

pub end-requires : goal.end-requires
end-requires c =
    let e = rw c.deref.ensures.value at (sym c.in_ok-place.ensures) in
    let user = c.index.result.now in
    let is : user ≡ get_or c.args.users.now.items c.in_ok-place.place user = search rules in
    let at : LeavesAt c.args.book.now c.args.users.now.items c.args.session c.in_ok-place.place user =
    leaves-at c.args.book.now c.args.users.now.items c.args.session c.in_ok-place.place user c.requires e is in
    let gone = c.remove.result in
    let gone-is : gone ≡ get_or c.args.users.now.items c.in_ok-place.place gone = search rules in
    let other : LeavesAt c.args.book.now c.args.users.now.items c.args.session c.in_ok-place.place gone =
    leaves-at c.args.book.now c.args.users.now.items c.args.session c.in_ok-place.place gone c.requires e gone-is in
    leaves-nothing c.args.book.now gone c.requires.legal other.is other.there
    (sym other.enabled ∙ (at.enabled ∙ (sym c.can_leave.ensures ∙ c.if-not-can_leave.false)))

pub returns-clause-served : goal.returns-clause-served
returns-clause-served c =
    let user = c.index.result.now in
    let is : user ≡ get_or c.args.users.now.items c.in_ok-place.place user = search rules in
    let at = leaves-at c.args.book.now c.args.users.now.items c.args.session c.in_ok-place.place user c.requires (rw c.deref.ensures.value at (sym c.in_ok-place.ensures)) is in
    let steps = steps-of c.args.book.now (Leave c.args.session) (λ s. refl) (at.enabled ∙ (sym c.can_leave.ensures ∙ c.if-not-can_leave.false)) in
    (sym (said-by steps (leave-said steps)), c.leave.ensures.made, c.leave.ensures.room)

pub returns-clause-kept : goal.returns-clause-kept
returns-clause-kept c =
    let b = c.args.book.now in
    let user = c.index.result.now in
    let is : user ≡ get_or c.args.users.now.items c.in_ok-place.place user = search rules in
    let at = leaves-at b c.args.users.now.items c.args.session c.in_ok-place.place user c.requires (rw c.deref.ensures.value at (sym c.in_ok-place.ensures)) is in
    let can = at.enabled ∙ (sym c.can_leave.ensures ∙ c.if-not-can_leave.false) in
    let mine : is_enabled (standing b) (Leave user.id) ≡ true = subst (λ (s : SessionId). is_enabled (standing b) (Leave s) ≡ true) (sym at.named) can in
    let made = subst (λ (s : SessionId). c.leave.new.self ≡ after_ask b (Leave s)) (sym at.named) c.leave.ensures.made in
    rw c.remove.ensures.items (left b c.args.users.now.items c.requires c.in_ok-place.place user at.here mine c.leave.new.self made)
