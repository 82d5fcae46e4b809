use Rattle.std.proofs.Common.{◌≡◌, get_or, refl, rules, ap, is_some}
use Rattle.vale_entry.specs.declared.entry.Ask.TheVariants.{Stat}
use Rattle.vale_entry.specs.World.{open_port}
use Rattle.vale_book.specs.Recorded.{standing}
use Rattle.vale_serve.proofs.Asked.{OwnerAt, owner-at, acted-still, asks-at}
use Rattle.vale_serve.specs.Joined.{AsksAt}
use Rattle.vale_serve.proofs.Acting.{unserved}
use Rattle.vale_serve.proofs.asking.stats_at.Goals as goal

pub stats-requires-clause-user : goal.stats-requires-clause-user
stats-requires-clause-user c =
    let b = c.args.book.now in
    let user = c.index-users-place.result in
    let is : user ≡ get_or c.args.users.now c.in-Some.place user = search rules in
    let at : AsksAt b user (open_port (standing b).world.ports c.args.port.0) c.in-Some.field-0-0 =
    asks-at b c.args.users.now (open_port (standing b).world.ports c.args.port.0) c.in-Some.field-0-0 c.in-Some.place user c.requires c.in-Some.ensures is in
    at.user

pub stats-requires-clause-mine : goal.stats-requires-clause-mine
stats-requires-clause-mine c =
    let b = c.args.book.now in
    let user = c.index-users-place.result in
    let is : user ≡ get_or c.args.users.now c.in-Some.place user = search rules in
    let at : OwnerAt c.args.users.now (open_port (standing b).world.ports c.args.port.0) c.in-Some.field-0-0 c.in-Some.place user =
    owner-at c.args.users.now (open_port (standing b).world.ports c.args.port.0) c.in-Some.field-0-0 c.in-Some.place user c.in-Some.ensures is in
    at.mine

pub returns-in-None-clause-served : goal.returns-in-None-clause-served
returns-in-None-clause-served c = unserved c.args.book.now (Stat c.args.port) (λ s. refl) (ap is_some c.in-None.ensures)

pub returns-in-Some-clause-kept : goal.returns-in-Some-clause-kept
returns-in-Some-clause-kept c =
    let b = c.args.book.now in
    let user = c.index-users-place.result in
    let is : user ≡ get_or c.args.users.now c.in-Some.place user = search rules in
    let at : OwnerAt c.args.users.now (open_port (standing b).world.ports c.args.port.0) c.in-Some.field-0-0 c.in-Some.place user =
    owner-at c.args.users.now (open_port (standing b).world.ports c.args.port.0) c.in-Some.field-0-0 c.in-Some.place user c.in-Some.ensures is in
    acted-still b c.stats.new.book c.args.users.now c.in-Some.place user (Stat c.args.port) c.stats.result c.requires at.here c.stats.ensures.kept c.stats.ensures.served refl refl at.asker
