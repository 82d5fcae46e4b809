use Rattle.std.proofs.Common.{◌≡◌, get_or, refl, rules}
use Rattle.std.specs.Prelude.{Ok}
use Rattle.vale_entry.specs.declared.entry.Ask.TheVariants.{Shut}
use Rattle.vale_entry.specs.World.{open_port}
use Rattle.vale_book.specs.Recorded.{standing}
use Rattle.vale_serve.proofs.Asked.{OwnerAt, owner-at, acted-still, asks-at}
use Rattle.vale_serve.specs.Joined.{AsksAt}
use Rattle.vale_serve.proofs.asking.shut_at.Goals as goal

pub shut-requires-clause-user : goal.shut-requires-clause-user
shut-requires-clause-user c =
    let b = c.args.book.now in
    let user = c.index-users-place.result in
    let is : user ≡ get_or c.args.users.now c.in_ok-place.place user = search rules in
    let at : AsksAt b user (open_port (standing b).world.ports c.args.port.0) c.in_ok-place.field-0-0 =
    asks-at b c.args.users.now (open_port (standing b).world.ports c.args.port.0) c.in_ok-place.field-0-0 c.in_ok-place.place user c.requires c.in_ok-place.ensures is in
    at.user

pub shut-requires-clause-mine : goal.shut-requires-clause-mine
shut-requires-clause-mine c =
    let b = c.args.book.now in
    let user = c.index-users-place.result in
    let is : user ≡ get_or c.args.users.now c.in_ok-place.place user = search rules in
    let at : OwnerAt c.args.users.now (open_port (standing b).world.ports c.args.port.0) c.in_ok-place.field-0-0 c.in_ok-place.place user =
    owner-at c.args.users.now (open_port (standing b).world.ports c.args.port.0) c.in_ok-place.field-0-0 c.in_ok-place.place user c.in_ok-place.ensures is in
    at.mine

pub returns-clause-kept : goal.returns-clause-kept
returns-clause-kept c =
    let b = c.args.book.now in
    let user = c.index-users-place.result in
    let is : user ≡ get_or c.args.users.now c.in_ok-place.place user = search rules in
    let at : OwnerAt c.args.users.now (open_port (standing b).world.ports c.args.port.0) c.in_ok-place.field-0-0 c.in_ok-place.place user =
    owner-at c.args.users.now (open_port (standing b).world.ports c.args.port.0) c.in_ok-place.field-0-0 c.in_ok-place.place user c.in_ok-place.ensures is in
    acted-still b c.shut.new.book c.args.users.now c.in_ok-place.place user (Shut c.args.port) (Ok c.shut.result) c.requires at.here c.shut.ensures.kept c.shut.ensures.served refl refl at.asker
