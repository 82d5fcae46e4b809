use Rattle.std.proofs.Common.{◌≡◌, None, sym, ap, subst, arith, Option}
use Rattle.nm_port.specs.Regions.{SideState}
use Rattle.vale_entry.specs.declared.entry.Reply.TheVariants.{Opened}
use Rattle.vale_own.specs.SideAsks.{MayAsk}
use Rattle.nm_desk.specs.Desks.{DeskState, IsDeskOf, desk_seen, side_in}
use Rattle.nm_desk.specs.Calls.{Made}
use Rattle.nm_desk.specs.Opening.{IsReady, OpensNot}
use Rattle.nm_desk.proofs.Opened.{opening, may-open, can-add, is-added, unopened}
use Rattle.nm_desk.proofs.desk.Desk.open.Goals.{In_ok-new}
use Rattle.nm_desk.proofs.desk.Desk.open.Goals as goal

-- the desk is one of the book, none of its ports is shut, it may ask for the port, and has all memory for it
of : (c : In_ok-new) → IsDeskOf c.args.book.now (desk_seen c.self.inside)
of c = subst (IsDeskOf c.args.book.now) (sym c.self.view_is) c.requires.desk

whole : (c : In_ok-new) → (desk_seen c.self.inside).shut ≡ None
whole c = subst (λ (d : DeskState). d.shut ≡ None) (sym c.self.view_is) c.requires.none

may : (c : In_ok-new) → MayAsk c.args.book.now.pool c.args.book.now.entries (desk_seen c.self.inside).id (opening (desk_seen c.self.inside) c.args.name.now c.args.tx c.args.rx c.args.extra)
may c =
    may-open c.args.book.now (desk_seen c.self.inside) c.args.name.now c.args.tx c.args.rx c.args.extra (of c) c.in_ok-new.ensures.named
    (omega (arith, c.ranges.tx)) (omega (arith, c.ranges.rx)) (omega (arith, c.ranges.extra))

ready : (c : In_ok-new) → IsReady (desk_seen c.self.inside).own c.args.name.now c.args.tx c.args.rx c.args.extra c.in_ok-new.new
ready c = subst (λ (d : DeskState). IsReady d.own c.args.name.now c.args.tx c.args.rx c.args.extra c.in_ok-new.new) (sym c.self.view_is) c.in_ok-new.ensures.ready

pub returns-in-Err-clause-unopened : goal.returns-in-Err-clause-unopened
returns-in-Err-clause-unopened c =
    let at = (goal.at.returns-in-Err-clause-unopened c).In_ok-new in
    subst (λ (d : DeskState). OpensNot c.args.book.now c.open.new.self d d (opening d c.args.name.now c.args.tx c.args.rx c.args.extra) c.in-Err.fault) c.self.view_is
    (unopened c.args.book.now c.open.new.self (desk_seen c.self.inside) c.args.name.now c.args.tx c.args.rx c.args.extra (of at) (whole at) (may at) c.in-Err.fault c.in-Err.ensures.unopened)

pub add-requires : goal.add-requires
add-requires c =
    let at = (goal.at.add-requires c).In_ok-new in
    let e = c.in-Ok.ensures in
    can-add c.args.book.now c.open.new.self (desk_seen c.self.inside) c.args.name.now c.args.tx c.args.rx c.args.extra (of at) (whole at) (may at) c.in-Ok.opened e.made e.port e.tx e.extra
    c.self.inside.own c.in_ok-new.new c.self.invariant.own c.self.invariant.own_is (ap (λ (o : Option SideState). (side_in o).own) (sym c.self.invariant.own_is)) (ready at)

pub invariant_of-self : goal.invariant_of-self
invariant_of-self c =
    let at = (goal.at.invariant_of-self c).In_ok-new in
    let b = c.args.book.now in
    let e = c.in-Ok.ensures in
    let k = is-added b c.open.new.self (desk_seen c.self.inside) c.args.name.now c.args.tx c.args.rx c.args.extra (of at) (whole at) (may at) c.in-Ok.opened e.made e.port e.tx e.extra
    c.self.inside.own c.add.new.own c.in_ok-new.new c.self.invariant.own c.self.invariant.own_is (sym (ap side_in c.self.invariant.own_is)) (ready at) c.add.ensures.own (c.add.ensures.region b.region) e.region in
    record { own = k.side; own_is = k.side_is }

pub returns-clause-made : goal.returns-clause-made
returns-clause-made c =
    let at = (goal.at.returns-clause-made c).In_ok-new in
    let b = c.args.book.now in
    let i = c.self.inside in
    let e = c.in-Ok.ensures in
    let k = is-added b c.open.new.self (desk_seen i) c.args.name.now c.args.tx c.args.rx c.args.extra (of at) (whole at) (may at) c.in-Ok.opened e.made e.port e.tx e.extra
    i.own c.add.new.own c.in_ok-new.new c.self.invariant.own c.self.invariant.own_is (sym (ap side_in c.self.invariant.own_is)) (ready at) c.add.ensures.own (c.add.ensures.region b.region) e.region in
    subst (λ (d : DeskState). Made b c.open.new.self d (desk_seen (record i { own = c.add.new.own })) (opening d c.args.name.now c.args.tx c.args.rx c.args.extra) Opened) c.self.view_is k.made
