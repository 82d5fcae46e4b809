use Rattle.std.proofs.Common.{◌≡◌, ◌∙◌, map, refl, ap}
use Rattle.std.specs.Vec.{with_items}
use Rattle.nm_types.specs.OwnSyncs.{ring_after_reset, own_after_reset}
use Rattle.nm_port.specs.Resets.{ring_reset, port_reset_if}
use Rattle.nm_own.proofs.Changing.{seen_changed, change_keeps}
use Rattle.nm_port.specs.Own.{own_seen}
use Rattle.nm_own.proofs.KeptPorts.{changed_over, kept_by}
use Rattle.nm_own.proofs.Resetting.{resets_keep}
use Rattle.nm_port.proofs.Regions.{same_side}
use Rattle.nm_own.proofs.own.OwnSide.reset.Goals as goal

-- the ports once the reset is made
ports_are : (c : goal.After-self-1) → (with_items c.self.inside.ports c.reset_rings.new.ports).items ≡ map (port_reset_if c.self.inside.hold c.args.port.0 c.args.side) c.self.inside.ports.items
ports_are c =
    let change = port_reset_if c.self.inside.hold c.args.port.0 c.args.side in
    changed_over c.self.inside.ports change c.reset_rings.new.ports (c.reset_rings.ensures ∙ ap (map change) c.deref_mut.ensures.value)

pub invariant_of-self : goal.invariant_of-self
invariant_of-self c = kept_by (change_keeps (resets_keep c.self.inside.hold c.args.side) c.args.port.0) c.self.inside _ c.self.invariant refl (ports_are c) refl

pub returns : goal.returns
returns c =
    let h = c.self.inside.hold in
    same_side h h c.self.inside.ports.items _ c.args.self.now (own_after_reset c.args.port.0 c.args.side) c.self.view_is refl
    (ap (own_seen h) (ports_are c)
    ∙ seen_changed h c.args.side (ring_reset h) (ring_after_reset c.args.side) (resets_keep h c.args.side) c.args.port.0 c.self.inside.ports.items c.self.invariant.sided c.self.invariant.rings)
