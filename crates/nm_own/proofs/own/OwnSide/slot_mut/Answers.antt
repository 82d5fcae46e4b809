use Rattle.std.proofs.Common.{◌≡◌, refl, ◌∙◌, ap}
use Rattle.nm_types.specs.OwnPorts.{OwnState}
use Rattle.nm_own.specs.declared.edit.RingEdit.TheVariants.{Slot}
use Rattle.nm_port.specs.Own.{own_seen}
use Rattle.nm_own.specs.Edits.{own_edited}
use Rattle.nm_own.specs.LentSlots.{index_of_port}
use Rattle.nm_own.proofs.Editing.{seen_edited}
use Rattle.nm_port.proofs.Regions.{same_side}
use Rattle.nm_own.proofs.SlotsLent.{slot_edited, ports_same, kept_edited, kept_same, user_slot_found, ends_alike}
use Rattle.nm_own.proofs.own.OwnSide.slot_mut.Goals as goal

pub invariant_of-self-lent : goal.invariant_of-self-lent
invariant_of-self-lent c =
    let o = c.self.inside in
    let id = c.args.port.0 in
    let is = c.index_of_port-index.ensures ∙ ap (index_of_port id) c.deref.ensures.value in
    λ lent. (
      λ w. kept_edited o _ id c.args.side (Slot c.args.at w) c.self.invariant (slot_edited o c.self.invariant id _ c.args.side c.args.at is w),
      kept_same o _ c.self.invariant (ports_same o.ports c.index_of_port-index.result),
    )

pub returns : goal.returns
returns c =
    let o = c.self.inside in
    let h = o.hold in
    let ports = o.ports.items in
    let id = c.args.port.0 in
    let kept = c.self.invariant in
    let is : c.index_of_port-index.result ≡ index_of_port id ports = c.index_of_port-index.ensures ∙ ap (index_of_port id) c.deref.ensures.value in (
      ends_alike _ _ _ _ _
          (λ w. same_side h h ports _ c.args.self.now (own_edited id c.args.side (Slot c.args.at w)) c.self.view_is refl
          (ap (own_seen h) (slot_edited o kept id _ c.args.side c.args.at is w) ∙ seen_edited h id c.args.side (Slot c.args.at w) ports kept.sided kept.rings))
          (same_side h h ports _ c.args.self.now (λ (s : OwnState). s) c.self.view_is refl (ap (own_seen h) (ports_same o.ports c.index_of_port-index.result))),
      record {
        writes_back = tt;
        slot = rw (← c.self.view_is, ← user_slot_found h ports c.args.side id c.args.at kept.sided, ← is) c.slot_in.ensures.slot;
      },
    )
