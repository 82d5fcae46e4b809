use Rattle.std.proofs.Common.{rules, ◌≡◌, ◌∙◌, List, [], sym, ap, subst}
use Rattle.nm_types.specs.declared.id.PortId.{PortId}
use Rattle.nm_types.specs.OwnSyncs.{own_after_receive}
use Rattle.nm_region.specs.Buffers.{Buffer}
use Rattle.nm_own.specs.LentBack.{IsLentBack}
use Rattle.nm_port.specs.Regions.{AreOf}
use Rattle.vale_fabric.specs.Fabrics.{fixed_in}
use Rattle.nm_user.proofs.ReceivesCome.{all-added}
use Rattle.nm_user.proofs.receiving.give_and_take.Goals as goal

pub read-requires-clause-region : goal.read-requires-clause-region
read-requires-clause-region g c =
    let region = (fixed_in c.args.fabric.now).region in
    subst (AreOf region) (all-added c.args.room.back.items c.lend_back-lent.new.back.items c.requires.back) (c.lend_back-lent.ensures.out region c.requires.region)

pub returns-in-Ok-clause-own : goal.returns-in-Ok-clause-own
returns-in-Ok-clause-own g c =
    c.received.ensures.own c.args.own _ c.lend_back-lent.ensures.lent ∙ ap (λ (id : PortId). own_after_receive id.0 [] c.args.own.own) c.lend_back-lent.ensures.port

pub returns-in-Ok-clause-region : goal.returns-in-Ok-clause-region
returns-in-Ok-clause-region g c = c.received.ensures.region c.args.own _ c.lend_back-lent.ensures.lent (fixed_in c.args.fabric.now).region c.requires.region

pub returns-in-Err-clause-same : goal.returns-in-Err-clause-same
returns-in-Err-clause-same g c =
    let same : c.in-Err.back.items ≡ c.lend_back-lent.new.back.items = search rules in
    let all = all-added c.args.room.back.items c.lend_back-lent.new.back.items c.requires.back in
    c.undo-own.ensures.own c.args.own (subst (λ (bufs : List Buffer). IsLentBack c.args.own bufs c.lend_back-lent.result) (all ∙ sym same) c.lend_back-lent.ensures.lent)
