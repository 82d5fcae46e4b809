use Rattle.std.proofs.Common.{◌≡◌, ◌∙◌, map, refl, ap}
use Rattle.std.specs.Vec.{with_items}
use Rattle.nm_own.specs.Edits.{port_edited_if, own_edited}
use Rattle.nm_own.proofs.Changing.{change_keeps}
use Rattle.nm_port.specs.Own.{own_seen}
use Rattle.nm_own.proofs.Editing.{edits_keep, seen_edited}
use Rattle.nm_own.proofs.KeptPorts.{changed_over, kept_by}
use Rattle.nm_port.proofs.Regions.{same_side}
use Rattle.nm_own.proofs.own.OwnSide.edit.Goals as goal

-- the ports once the edit is made
ports_are : (c : goal.After-self-1) → (with_items c.self.inside.ports c.edit_rings.new.ports).items ≡ map (port_edited_if c.args.port.0 c.args.side c.args.edit) c.self.inside.ports.items
ports_are c =
    let change = port_edited_if c.args.port.0 c.args.side c.args.edit in
    changed_over c.self.inside.ports change c.edit_rings.new.ports (c.edit_rings.ensures ∙ ap (map change) c.deref_mut.ensures.value)

pub invariant_of-self : goal.invariant_of-self
invariant_of-self c = kept_by (change_keeps (edits_keep c.self.inside.hold c.args.side c.args.edit) c.args.port.0) c.self.inside _ c.self.invariant refl (ports_are c) refl

pub returns : goal.returns
returns c =
    let h = c.self.inside.hold in
    same_side h h c.self.inside.ports.items _ c.args.self.now (own_edited c.args.port.0 c.args.side c.args.edit) c.self.view_is refl
    (ap (own_seen h) (ports_are c) ∙ seen_edited h c.args.port.0 c.args.side c.args.edit c.self.inside.ports.items c.self.invariant.sided c.self.invariant.rings)
