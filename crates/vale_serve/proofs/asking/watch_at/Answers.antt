use Rattle.std.proofs.Common.{◌≡◌, get_or, refl, rules, ap}
use Rattle.vale_entry.specs.declared.entry.Ask.TheVariants.{Watch}
use Rattle.vale_entry.specs.World.{open_port}
use Rattle.vale_book.specs.Recorded.{standing}
use Rattle.vale_serve.proofs.Asked.{owner-at, acted-still, asks-at}
use Rattle.vale_entry.specs.Legal.{is_met}
use Rattle.vale_entry.specs.Monitors.{can_watch}
use Rattle.vale_serve.proofs.Acting.{unserved}
use Rattle.vale_serve.proofs.asking.watch_at.Goals as goal

pub watch-requires : goal.watch-requires
watch-requires c =
    let user = c.index-users-place.result in
    let is : user ≡ get_or c.args.users.now c.in-Some.place user = search rules in
    asks-at c.args.book.now c.args.users.now (open_port (standing c.args.book.now).world.ports c.args.monitor.0) c.in-Some.seen c.in-Some.place user c.requires c.in-Some.ensures is

pub returns-in-None-clause-served : goal.returns-in-None-clause-served
returns-in-None-clause-served c = unserved c.args.book.now (Watch c.args.monitor c.args.target.now c.args.sides) (λ s. refl) (ap (is_met (can_watch c.args.target.now)) c.in-None.ensures)

pub returns-in-Some-clause-kept : goal.returns-in-Some-clause-kept
returns-in-Some-clause-kept c =
    let user = c.index-users-place.result in
    let is : user ≡ get_or c.args.users.now c.in-Some.place user = search rules in
    let at = owner-at c.args.users.now (open_port (standing c.args.book.now).world.ports c.args.monitor.0) c.in-Some.seen c.in-Some.place user c.in-Some.ensures is in
    acted-still c.args.book.now c.watch.new.book c.args.users.now c.in-Some.place user (Watch c.args.monitor c.args.target.now c.args.sides) c.watch.result c.requires at.here c.watch.ensures.kept c.watch.ensures.served refl refl at.asker
