use Rattle.std.proofs.Common.{◌≡◌, Some, None, IsSome, sym, subst}
use Rattle.nm_types.specs.OwnPorts.{port_with_id}
use Rattle.vale_entry.specs.declared.entry.Ask.TheVariants.{Shut}
use Rattle.vale_entry.specs.declared.entry.Reply.TheVariants.{Made as Accepted}
use Rattle.vale_own.specs.SideAsks.{IsSettled}
use Rattle.nm_desk.specs.Desks.{DeskState, IsDeskOf, desk_seen}
use Rattle.nm_desk.specs.Calls.{Made}
use Rattle.nm_desk.proofs.Leaves.{shut-enabled, shut-made}
use Rattle.nm_desk.proofs.desk.Desk.shut.Goals as goal

pub shut-requires : goal.shut-requires
shut-requires c = shut-enabled c.args.book.now c.args.book.now c.args.self.now c.args.port c.requires.desk c.requires.settled c.requires.none c.requires.there

pub returns : goal.returns
returns c =
    let b = c.args.book.now in
    let d = desk_seen c.self.inside in
    subst (λ (x : DeskState). Made b c.shut.new.self x (record d { shut = Some c.args.port.0 }) (Shut c.args.port) Accepted) c.self.view_is
    (shut-made b c.shut.new.self d c.args.port (subst (IsDeskOf b) (sym c.self.view_is) c.requires.desk) (subst (λ (x : DeskState). IsSettled b.pool b.entries x.id) (sym c.self.view_is) c.requires.settled)
    (subst (λ (x : DeskState). x.shut ≡ None) (sym c.self.view_is) c.requires.none) (subst (λ (x : DeskState). IsSome (port_with_id x.own c.args.port.0)) (sym c.self.view_is) c.requires.there) c.shut.ensures.made c.shut.ensures.room)
