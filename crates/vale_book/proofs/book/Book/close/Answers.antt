use Rattle.std.proofs.Common.{◌≡◌, length, List, sym, subst, ap, ◌∙◌}
use Rattle.vale_entry.specs.World.{free_count}
use Rattle.vale_port.specs.Ports.{PortState}
use Rattle.nm_region.specs.Buffers.{Buffer}
use Rattle.nm_region.specs.Regions.{AreOf}
use Rattle.vale_entry.specs.Legal.{IsLegal}
use Rattle.vale_own.specs.Recorded.{Recorded, HadRoom, standing}
use Rattle.vale_book.proofs.Closes.{all-free, no-ports, all-back}
use Rattle.vale_book.proofs.book.Book.close.Goals as goal

pub destroy_empty-requires : goal.destroy_empty-requires
destroy_empty-requires c =
    let b = c.self.inside in
    let free = subst (λ (r : Recorded). free_count (standing r).world ≡ r.pool) (sym c.self.view_is) c.requires in
    let none = ap (λ (ps : List PortState). length ps) (no-ports b c.self.invariant free) in
    let count = b.ports.ok in
    search

pub close-requires : goal.close-requires
close-requires c =
    let free = subst (λ (r : Recorded). free_count (standing r).world ≡ r.pool) (sym c.self.view_is) c.requires in
    all-free c.self.inside c.self.invariant free

pub close-requires-2 : goal.close-requires-2
close-requires-2 c =
    let b = c.self.inside in
    let k = c.self.invariant in
    let free = subst (λ (r : Recorded). free_count (standing r).world ≡ r.pool) (sym c.self.view_is) c.requires in
    let count = ap (λ (bufs : List Buffer). length bufs) c.close.ensures.buffers ∙ (all-free b k free ∙ sym k.region_size) in
    all-back b.region c.close.result.items (subst (AreOf b.region.region) (sym c.close.ensures.buffers) k.free_are) c.close.ensures.whole count

pub returns-clause-roomy : goal.returns-clause-roomy
returns-clause-roomy c = subst HadRoom c.self.view_is c.self.invariant.rooms

pub returns-clause-legal : goal.returns-clause-legal
returns-clause-legal c = subst (λ (r : Recorded). IsLegal r.pool r.entries) c.self.view_is c.self.invariant.stands.legal
