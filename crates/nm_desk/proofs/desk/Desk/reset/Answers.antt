use Rattle.std.proofs.Common.{ap, subst, sym, option_map}
use Rattle.nm_types.specs.OwnSyncs.{own_after_reset}
use Rattle.nm_port.specs.Regions.{SideState, AllOf}
use Rattle.nm_desk.specs.Desks.{number_of, desk_of}
use Rattle.nm_desk.proofs.Edits.{after-lent, region-lent}
use Rattle.nm_desk.proofs.Resets.{enabled, reset-made}
use Rattle.nm_desk.proofs.desk.Desk.reset.Goals as goal

pub reset-requires : goal.reset-requires
reset-requires c = enabled c.args.book.now c.args.self.now c.args.port c.args.fault c.requires.desk c.requires.can.settled c.requires.can.is_open c.requires.fits c.args.side c.requires.refused

pub returns-clause-made : goal.returns-clause-made
returns-clause-made c =
    let b = c.args.book.now in
    let i = c.self.inside in
    let new = c.reset-in-Some.new.self in
    let own = ap (λ (s : SideState). s.own) c.reset-in-Some.ensures in
    reset-made b c.args.self.now c.args.port c.args.fault c.requires.desk c.requires.can.settled c.requires.can.is_open c.requires.fits c.args.side c.requires.refused
    c.reset.new.self (desk_of i.id.0 (option_map number_of i.shut) new) c.in_ok-reset.ensures.made c.in_ok-reset.ensures.room
    (after-lent i c.args.self.now c.in-Some.own new (own_after_reset c.args.port.0 c.args.side) c.self.view_is c.in-Some.is own)
    (subst (AllOf b.region) (sym c.reset-in-Some.ensures) (region-lent b.region i c.args.self.now c.in-Some.own c.self.view_is c.in-Some.is c.requires.desk.region))
