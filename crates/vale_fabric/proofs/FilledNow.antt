-- A lease that is filled, by what a pass has seen, is filled for the port that waits for it.
use Rattle.std.proofs.Common.{ℕ, ◌-◌, ◌≡◌, find, sym, ◌∙◌, ap, slice_get}
use Rattle.nm_turn.proofs.Prefixes.{prefix_get}
use Rattle.vale_entry.specs.declared.entry.Ask.TheVariants.{Done}
use Rattle.vale_entry.specs.Delivery.{is_lease}
use Rattle.vale_entry.specs.Legal.{standing_of, is_met, IsEnabled}
use Rattle.vale_own.specs.Own.{Own, own_of, lot_of_lease}
use Rattle.vale_own.proofs.Asking.{own-tells}
use Rattle.vale_line.specs.Leased.{Leased}
use Rattle.vale_book.specs.Granting.{lease_id}
use Rattle.vale_book.specs.Offering.{IsFilledIn}
use Rattle.vale_book.specs.Recorded.{Recorded, standing}
use Rattle.vale_fabric.specs.declared.kept.Fixed.{Fixed}
use Rattle.vale_fabric.specs.Fabrics.{Knowing, seen_in, MayAsk}
use Rattle.vale_book.specs.Leases.{is_grant_to, is_held_as}
use Rattle.vale_fabric.specs.Leases.{MayFill}
use Rattle.vale_fabric.specs.Steps.{IsTaken}
use Rattle.vale_fabric.proofs.OwnNow.{SameOwn, own-now}
use Rattle.vale_book.proofs.FilledIn.{filled-in, find-mapped}
use Rattle.vale_book.proofs.Placed.{met-there}

-- ---- from what the pass has seen

-- the lease may be completed
pub may-fill : {fixed : Fixed} {v entered : Knowing} {b : Recorded} {lease : Leased} → IsTaken fixed v entered b → MayFill fixed v lease → MayAsk fixed v (Done (lease_id lease.id))
may-fill {fixed} {v} {entered} {b} {lease} taken may =
    let k : SameOwn fixed v b may.session = own-now taken may.speaks in
    record {
      session = may.session;
      may = own-tells fixed.pool v.seen may.session (Done (lease_id lease.id)) k.legal
          ∙ find-mapped lot_of_lease (is_lease lease.id) (own_of may.session (standing (seen_in fixed v))).leases may.filled.held may.filled.own;
      speaks = may.speaks;
    }

pub filled-now : {fixed : Fixed} {v entered : Knowing} {b : Recorded} {lease : Leased} → IsTaken fixed v entered b → IsEnabled (standing b) (Done (lease_id lease.id)) → MayFill fixed v lease
    → IsFilledIn (standing b) lease
filled-now {fixed} {v} {entered} {b} {lease} taken enabled may =
    let k : SameOwn fixed v b may.session = own-now taken may.speaks in
    let own : own_of may.session (standing b) ≡ own_of may.session (standing (seen_in fixed v)) = ap (λ (p : ℕ). own_of may.session (standing_of p b.entries)) (sym k.pool) ∙ k.same in
    let x = met-there (is_grant_to lease.to) (slice_get v.seen (lease.id - 1)) may.filled.granted in
    filled-in b may.session lease taken.legal enabled (record {
      held = may.filled.held;
      own = ap (λ (o : Own). find (is_held_as lease.id) o.leases) own ∙ may.filled.own;
      granted = ap (is_met (is_grant_to lease.to)) (prefix_get v.seen b.entries (lease.id - 1) x.0 taken.knows.begins x.1) ∙ x.2;
      filled = may.filled.filled;
    })
