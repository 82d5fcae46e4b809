use Rattle.std.proofs.Common.{◌≡◌, ◌<◌, List, length, Some, slice_get, get_or, refl, sym, ◌∙◌, ap, subst, arith, rules}
use Rattle.std.specs.Prelude.{Ok}
use Rattle.std.specs.Vec.{vec_len}
use Rattle.std.proofs.lemmas.Bool.{eqb-true, eqb-false}
use Rattle.std.proofs.lemmas.Option.{slice_get-get_or}
use Rattle.vale_entry.specs.declared.entry.Ask.TheVariants.{Leave}
use Rattle.vale_entry.proofs.ListLaws.{each-at}
use Rattle.vale_serve.specs.declared.users.User.{User}
use Rattle.vale_serve.specs.Serving.{IsServed}
use Rattle.vale_serve.specs.Users.{IsUser}
use Rattle.vale_drive.proofs.Endings.{none-there}
use Rattle.vale_drive.proofs.NextPorts.{first-port, leaves-next, none-next}
use Rattle.vale_drive.proofs.winding.end_first.Goals as goal

first-here : (users : List User) (user : User) → 0 < length users → user ≡ get_or users 0 user → slice_get users 0 ≡ Some user
first-here users user some is = slice_get-get_or users 0 user some ∙ ap (λ (u : User). Some u) (sym is)

pub returns-then-is_empty-clause-turn : goal.returns-then-is_empty-clause-turn
returns-then-is_empty-clause-turn c =
    let b = c.args.book.now in
    let users = c.args.users.now.items in
    let none = eqb-true (vec_len c.args.users.now) 0 (sym c.is_empty.ensures ∙ c.if-is_empty.true) in
    let size = c.args.users.now.ok.0 in
    let left = none-there b users c.requires.users (omega (arith, none, size)) in
    (refl, none-next b users c.requires.users c.requires.quiet left, left)

pub end_port-requires-clause-first : goal.end_port-requires-clause-first
end_port-requires-clause-first c =
    let b = c.args.book.now in
    let users = c.args.users.now.items in
    let apart = eqb-false (vec_len c.args.users.now) 0 (sym c.is_empty.ensures ∙ c.if-is_empty.false) in
    let size = c.args.users.now.ok.0 in
    let here = first-here users c.index-2.result.now (omega (arith, apart, size)) (search rules) in
    record {
      user = c.index-2.result.now;
      first = here;
      port = first-port b c.index-2.result.now (Some c.in-Some.port) (each-at (IsUser b) users 0 c.index-2.result.now c.requires.users.each here) (sym c.in-Some.is ∙ c.first_port.ensures);
    }

pub returns-in-None-clause-turn : goal.returns-in-None-clause-turn
returns-in-None-clause-turn c =
    let users = c.args.users.now.items in
    let apart = eqb-false (vec_len c.args.users.now) 0 (sym c.is_empty.ensures ∙ c.if-is_empty.false) in
    let size = c.args.users.now.ok.0 in
    let here = first-here users c.index-2.result.now (omega (arith, apart, size)) (search rules) in
    let there = first-here users c.index.result.now (omega (arith, apart, size)) (search rules) in
    let same : c.index.result.now ≡ c.index-2.result.now = let both = sym there ∙ here in cc in
    leaves-next c.args.book.now c.leave.new.book users c.index-2.result.now c.leave.result c.requires.users c.requires.quiet here (sym c.in-None.is ∙ c.first_port.ensures)
    (subst (λ (u : User). IsServed c.args.book.now c.leave.new.book (Leave u.id) (Ok c.leave.result)) same c.leave.ensures.served)
