use Rattle.std.proofs.Common.{◌≡◌, Some, true, List, length, map, ap, refl, sym, ◌∙◌, subst}
use Rattle.std.specs.List.{list_any}
use Rattle.vale_lease.specs.declared.leases.LeaseSlots.{LeaseSlots}
use Rattle.vale_lease.specs.Leases.{LeaseRing, completed as ring_completed}
use Rattle.vale_line.specs.Gots.{IsCut}
use Rattle.vale_line.specs.Leased.{buffer_count}
use Rattle.vale_line.proofs.LotLemmas.{IsLine-done, leases-completed, slots-out, lease-out}
use Rattle.vale_line.specs.Lines.{LineState, slots_out, is_out_at, completed}
use Rattle.vale_line.specs.Stored.{state_of}
use Rattle.vale_line.proofs.StoredAfter.{stored-after}
use Rattle.vale_line.proofs.line.Line.done.Goals as goal

pub done-requires : goal.done-requires
done-requires c =
    let lots = (state_of c.self.inside).lots in
    let id = c.args.lease.id in
    let out : slots_out id lots ≡ Some (buffer_count c.args.lease) = ap (λ (l : LineState). slots_out id l.lots) c.self.view_is ∙ c.requires.lot in
    let there : list_any (is_out_at id) lots ≡ true = slots-out id (buffer_count c.args.lease) lots out in
    rw (c.id-id.ensures, c.self.invariant.leases) (sym (lease-out id lots) ∙ there)

pub invariant_of-self : goal.invariant_of-self
invariant_of-self c =
    let line = state_of c.self.inside in
    let lots = (state_of c.self.inside).lots in
    let id = c.args.lease.id in
    let gots = c.args.lease.filled in
    let full : buffer_count c.args.lease ≡ length gots = sym c.into_gots.ensures.count ∙ ap length c.into_gots.ensures.gots in
    let frames : IsCut gots = subst IsCut c.into_gots.ensures.gots c.into_gots.ensures.cut in
    let out : slots_out id lots ≡ Some (length gots) = ap (λ (l : LineState). slots_out id l.lots) c.self.view_is ∙ (c.requires.lot ∙ ap Some full) in
    let is = IsLine-done line id gots frames c.self.invariant.line out in
    let same_id = c.id-id.ensures in
    let same_gots = c.into_gots.ensures.gots in
    let done : LineState = record line { lots = map (completed id gots) lots } in
    let after : state_of (record c.self.inside { ring = c.complete.new.self }) ≡ done = rw (← same_id, ← same_gots) c.complete.ensures.line in
    let leases : c.done.new.self ≡ record c.self.inside.leases { leases = map (ring_completed id) c.self.inside.leases.leases } = rw (← same_id) c.done.ensures in
    stored-after c.self.inside (record c.self.inside { ring = c.complete.new.self; leases = c.done.new.self }) done c.self.invariant is c.complete.ensures.ring after refl refl
    (leases ∙ (ap (λ (r : LeaseRing). record r { leases = map (ring_completed id) r.leases }) c.self.invariant.leases ∙ ap (λ (ls : List LeaseSlots). record { size = line.size; leases = ls }) (sym (leases-completed id gots lots))))
    c.self.invariant.none refl
