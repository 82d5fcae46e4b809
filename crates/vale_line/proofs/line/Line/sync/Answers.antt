use Rattle.std.proofs.Common.{◌≡◌, ◌≤◌, List, length, ap, refl, sym, ◌∙◌, subst}
use Rattle.vale_lease.specs.declared.leases.LeaseSlots.{LeaseSlots}
use Rattle.vale_lease.specs.Leases.{LeaseRing, behind_done as behind_leases}
use Rattle.vale_line.proofs.LotLemmas.{IsLine-synced, behind-leases}
use Rattle.vale_line.specs.Lines.{LineState, IsLine, out_of, given_by_sync, behind_done}
use Rattle.vale_line.specs.Rings.{ring_state}
use Rattle.vale_line.specs.Stored.{state_of}
use Rattle.vale_line.proofs.StoredAfter.{stored-after}
use Rattle.vale_line.proofs.line.Line.sync.Goals as goal

pub invariant_of-self : goal.invariant_of-self
invariant_of-self c =
    let line = state_of c.self.inside in
    let back = c.args.back.items in
    let few : length back ≤ out_of line = subst (λ (l : LineState). length back ≤ out_of l) (sym c.self.view_is) c.requires.returned in
    let is : IsLine (given_by_sync back line) = IsLine-synced line back c.self.invariant.line few in
    let after : ring_state c.give_ready.new.ring ≡ given_by_sync back line =
    c.give_ready.ensures.line ∙ ap (λ (l : LineState). record l { lots = behind_done l.lots }) c.take_back.ensures.line in
    stored-after c.self.inside (record c.self.inside { ring = c.give_ready.new.ring; leases = c.take.new.self; room = c.take_back.new.room }) (given_by_sync back line) c.self.invariant is c.give_ready.ensures.ring after refl refl
    (c.take.ensures.rest ∙ (ap (λ (r : LeaseRing). record r { leases = behind_leases r.leases }) c.self.invariant.leases ∙ ap (λ (ls : List LeaseSlots). record { size = line.size; leases = ls }) (behind-leases line.lots)))
    c.take_back.ensures.none c.take_back.ensures.capacity
