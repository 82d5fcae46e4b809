use Rattle.std.proofs.Common.{◌≡◌, ◌∙◌, map, refl, ap}
use Rattle.std.specs.Vec.{with_items}
use Rattle.nm_types.specs.OwnEdits.{with_head_of_chain}
use Rattle.nm_own.specs.ExtraChain.{port_headed_if}
use Rattle.nm_port.specs.Own.{own_seen}
use Rattle.nm_own.proofs.KeptPorts.{changed_over, kept_by}
use Rattle.nm_own.proofs.Linking.{head_keeps, seen_headed}
use Rattle.nm_port.proofs.Regions.{same_side}
use Rattle.nm_own.proofs.own.OwnSide.set_extra_head.Goals as goal

-- the ports once the head is stored
ports_are : (c : goal.After-self-1) → (with_items c.self.inside.ports c.set_heads.new.ports).items ≡ map (port_headed_if c.args.port.0 c.args.idx) c.self.inside.ports.items
ports_are c = let change = port_headed_if c.args.port.0 c.args.idx in changed_over c.self.inside.ports change c.set_heads.new.ports (c.set_heads.ensures ∙ ap (map change) c.deref_mut.ensures.value)

pub invariant_of-self : goal.invariant_of-self
invariant_of-self c = kept_by (head_keeps c.args.port.0 c.args.idx) c.self.inside _ c.self.invariant refl (ports_are c) refl

pub returns : goal.returns
returns c =
    let h = c.self.inside.hold in
    same_side h h c.self.inside.ports.items _ c.args.self.now (with_head_of_chain c.args.port.0 c.args.idx) c.self.view_is refl
    (ap (own_seen h) (ports_are c) ∙ seen_headed c.args.port.0 c.args.idx h c.self.inside.ports.items)
