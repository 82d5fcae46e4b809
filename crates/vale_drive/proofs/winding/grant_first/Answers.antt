use Rattle.std.proofs.Common.{◌≡◌, get_or, refl, sym, ◌∙◌, rules}
use Rattle.vale_serve.specs.Users.{is_offered}
use Rattle.vale_drive.proofs.NextOffers.{none-offered, some-offered, sends-next, grants-next}
use Rattle.vale_serve.proofs.Sought.{AtPlace, at-place}
use Rattle.vale_drive.proofs.winding.grant_first.Goals as goal

pub returns-in_default-clause-turn : goal.returns-in_default-clause-turn
returns-in_default-clause-turn c =
    let e = rw c.deref.ensures.value at (sym c.oldest_offered.ensures ∙ c.in_default.is) in
    (refl, none-offered c.args.users.now.items e)

pub unreachable-requires : goal.unreachable-requires
unreachable-requires c =
    let first = rw c.deref.ensures.value at (sym c.oldest_offered.ensures ∙ c.in-Some.is) in
    let e = rw c.deref-2.ensures.value at (sym c.place_of_origin.ensures ∙ c.in_default-place_of_origin.is) in
    some-offered c.args.users.now.items c.in-Some.origin first e

pub next_port-to-requires : goal.next_port-to-requires
next_port-to-requires c =
    let b = c.args.book.now in
    let e = rw c.deref-2.ensures.value at (sym c.place_of_origin.ensures ∙ c.in-Some-place_of_origin.is) in
    let user = c.index.result.now in
    let is : user ≡ get_or c.args.users.now.items c.in-Some-place_of_origin.place user = search rules in
    let at : AtPlace b c.args.users.now.items (is_offered c.in-Some.origin) c.in-Some-place_of_origin.place user =
    at-place b c.args.users.now.items (is_offered c.in-Some.origin) c.in-Some-place_of_origin.place user c.requires e is in
    sends-next b user c.in-Some.origin at.is at.passes

pub returns-clause-turn : goal.returns-clause-turn
returns-clause-turn c =
    let b = c.args.book.now in
    let first = rw c.deref.ensures.value at (sym c.oldest_offered.ensures ∙ c.in-Some.is) in
    let e = rw c.deref-2.ensures.value at (sym c.place_of_origin.ensures ∙ c.in-Some-place_of_origin.is) in
    let user = c.index.result.now in
    let is : user ≡ get_or c.args.users.now.items c.in-Some-place_of_origin.place user = search rules in
    let at : AtPlace b c.args.users.now.items (is_offered c.in-Some.origin) c.in-Some-place_of_origin.place user =
    at-place b c.args.users.now.items (is_offered c.in-Some.origin) c.in-Some-place_of_origin.place user c.requires e is in
    grants-next b c.grant_at.new.book c.args.users.now.items user c.in-Some.origin c.next_port-to.result c.grant_at.result c.requires first at.is at.passes
    c.next_port-to.ensures c.grant_at.ensures.served
