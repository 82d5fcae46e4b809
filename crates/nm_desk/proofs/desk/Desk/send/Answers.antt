use Rattle.std.proofs.Common.{◌≡◌, ap, subst, sym, option_map}
use Rattle.nm_types.specs.declared.id.Side.TheVariants.{Tx}
use Rattle.nm_types.specs.OwnPorts.{bytes_at, pushed_on}
use Rattle.nm_types.specs.OwnSyncs.{own_after_send}
use Rattle.nm_types.specs.Slots.{pushed_frames}
use Rattle.nm_port.specs.Regions.{SideState, AllOf}
use Rattle.nm_desk.specs.Desks.{DeskState, number_of, desk_of}
use Rattle.nm_desk.specs.Syncs.{IsUnsent}
use Rattle.nm_desk.proofs.Edits.{lent, after-lent, region-lent}
use Rattle.nm_desk.proofs.Sends.{enabled, sent-is, unsent-is}
use Rattle.nm_desk.proofs.desk.Desk.send.Goals.{In_ok-batch}
use Rattle.nm_desk.proofs.desk.Desk.send.Goals as goal

-- the frames are those pushed
pushed : (c : In_ok-batch) → c.in_ok-batch.batch ≡ pushed_frames (bytes_at c.args.self.now.own) (pushed_on Tx c.args.port.0 c.args.self.now.own)
pushed c =
    subst (λ (d : DeskState). c.in_ok-batch.batch ≡ pushed_frames (bytes_at d.own) (pushed_on Tx c.args.port.0 d.own))
    (sym (lent c.self.inside c.args.self.now c.in-Some.own c.self.view_is c.in-Some.is)) c.in_ok-batch.ensures

pub send-requires : goal.send-requires
send-requires c = enabled c.args.book.now c.args.self.now c.args.port c.requires.can c.requires.passes c.in_ok-batch.batch (pushed (goal.at.send-requires c).In_ok-batch) c.requires.desk

pub returns-in-Err-clause-full : goal.returns-in-Err-clause-full
returns-in-Err-clause-full c =
    subst (λ (d : DeskState). IsUnsent c.args.book.now c.send.new.self c.args.self.now d c.args.port.0 c.in-Err.fault)
    (lent c.self.inside c.args.self.now c.in-Some.own c.self.view_is c.in-Some.is)
    (unsent-is c.args.book.now c.args.self.now c.args.port c.requires.can c.requires.passes c.in_ok-batch.batch (pushed (goal.at.returns-in-Err-clause-full c).In_ok-batch) c.send.new.self c.in-Err.fault c.in-Err.ensures.full c.in-Err.ensures.err)

pub returns-clause-sent : goal.returns-clause-sent
returns-clause-sent c =
    let b = c.args.book.now in
    let i = c.self.inside in
    let new = c.sent.new.self in
    let own = ap (λ (s : SideState). s.own) c.sent.ensures in
    sent-is b c.args.self.now c.args.port c.requires.can c.requires.passes c.in_ok-batch.batch (pushed (goal.at.returns-clause-sent c).In_ok-batch)
    c.send.new.self (desk_of i.id.0 (option_map number_of i.shut) new) c.in-Ok.offers c.requires.desk c.in-Ok.ensures.made c.in-Ok.ensures.said c.in-Ok.ensures.room
    (after-lent i c.args.self.now c.in-Some.own new (own_after_send c.args.port.0) c.self.view_is c.in-Some.is own)
    (subst (AllOf b.region) (sym c.sent.ensures) (region-lent b.region i c.args.self.now c.in-Some.own c.self.view_is c.in-Some.is c.requires.desk.region))
    c.in-Ok.ensures.offers
