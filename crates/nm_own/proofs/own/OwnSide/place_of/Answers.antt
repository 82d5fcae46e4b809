use Rattle.std.proofs.Common.{sym, ◌∙◌, ap}
use Rattle.nm_port.specs.Regions.{SideState}
use Rattle.nm_own.specs.LentSlots.{index_of_port}
use Rattle.nm_own.specs.PortPlaces.{place_with_id}
use Rattle.nm_own.proofs.PortPlaces.{place_seen}
use Rattle.nm_own.proofs.own.OwnSide.place_of.Goals as goal

pub returns : goal.returns
returns c =
    c.index_of_port.ensures
    ∙ (ap (index_of_port c.args.port.0) c.deref.ensures.value
    ∙ (sym (place_seen c.self.inside.hold c.self.inside.ports.items c.args.port.0) ∙ ap (λ (s : SideState). place_with_id s.own c.args.port.0) c.self.view_is))
