-- What is offered is granted, and leases are completed.
use Rattle.std.proofs.Common.{ℕ, ◌≤◌, ◌≡◌, List, length, take, Option, Some, option_map, refl, sym, ◌∙◌, ap, subst}
use Rattle.std.specs.Prelude.{slice_get, IfSome}
use Rattle.nm_types.specs.Frames.{Frame}
use Rattle.nm_types.specs.declared.id.PortId.{PortId}
use Rattle.vale_batch.specs.Wants.{Wanted}
use Rattle.nm_types.specs.Ids.{lease_id}
use Rattle.vale_line.specs.Leased.{Leased}
use Rattle.vale_entry.specs.declared.entry.Ask.{Ask}
use Rattle.vale_entry.specs.declared.entry.Ask.TheVariants.{Grant, Done}
use Rattle.vale_entry.specs.declared.entry.Reply.{Reply}
use Rattle.vale_entry.specs.declared.entry.Reply.TheVariants.{Made as Accepted}
use Rattle.vale_entry.specs.Delivery.{is_lease}
use Rattle.vale_entry.specs.Legal.{IsEnabled, step, reply_of, session_and_reply}
use Rattle.vale_port.specs.Kept.{bytes_of}
use Rattle.vale_own.specs.Own.{own_of, lot_of_lease}
use Rattle.vale_own.specs.Recorded.{Recorded, standing, after_ask, HasRoom}
use Rattle.vale_own.specs.SideAsks.{MayAsk, IsMade}
use Rattle.vale_steps.specs.Granting.{given_by}
use Rattle.vale_steps.specs.Offering.{OffersState, OffersStand, IsFilledIn}
use Rattle.vale_book.specs.Leases.{IsFilledBy, IsHeldFor, IsLeaseBy, StandOf}
use Rattle.vale_book.proofs.Said.{Steps, step-of, steps-said, said-by, done-said}
use Rattle.vale_book.proofs.OffersHeld.{granter}
use Rattle.vale_book.proofs.LeasesHeld.{held-frames}
use Rattle.vale_book.proofs.FilledIn.{filled-in, find-mapped}
use Rattle.nm_desk.specs.Desks.{DeskState, IsDeskOf}
use Rattle.nm_desk.specs.Calls.{Made}
use Rattle.nm_desk.proofs.OneStep.{may-enabled, step-of as step-made, step-by}

some-reply : (x y : Reply) → Some x ≡ Some y → x ≡ y
some-reply x y e = cc

-- the entry of a step is that of its session
mine-of : (b : Recorded) (session : ℕ) (ask : Ask) (reply : Reply) (steps : Steps b ask) → steps.makes.session ≡ session → option_map reply_of (step (standing b) ask) ≡ Some reply → IsMade b.pool b.entries session ask reply
mine-of b session ask reply steps who said =
    let same : steps.makes.reply ≡ reply = some-reply steps.makes.reply reply (ap (option_map reply_of) (sym steps.is) ∙ said) in
    ap (option_map session_and_reply) steps.is ∙ ap (λ (n : ℕ). Some (n, steps.makes.reply)) who ∙ ap (λ (r : Reply). Some (session, r)) same

module _ (b new : Recorded) (d : DeskState) (o : OffersState) (to : PortId) (reply : Reply) (is : IsDeskOf b d) (stand : OffersStand (standing b) o) (mine : o.session ≡ d.id) (next : 1 ≤ length o.wants)
    (made : new ≡ after_ask b (Grant o.entry to)) (said : option_map reply_of (step (standing b) (Grant o.entry to)) ≡ Some reply) where
  steps : Steps b (Grant o.entry to)
  steps = steps-said reply said

  pub granted : HasRoom b (Grant o.entry to) → Made b new d d (Grant o.entry to) reply
  granted room =
      step-made b new d d (Grant o.entry to) reply is
      (mine-of b d.id (Grant o.entry to) reply steps (granter (standing b) o to steps.makes next stand steps.is ∙ mine) said) tt made room refl is.region

  pub held : (lease : Option Leased) (given : ℕ) (want : Wanted) → slice_get o.wants 0 ≡ Some want → given ≡ given_by lease → IfSome lease (IsLeaseBy b o.entry (length new.entries))
      → IfSome lease (λ (l : Leased). (frames : List Frame) → StandOf (standing b) o frames → IsHeldFor new d.id l (bytes_of frames) (take given want.places))
  held lease given want first is-given gives =
      subst (λ (n : ℕ). IfSome lease (λ (l : Leased). (frames : List Frame) → StandOf (standing b) o frames → IsHeldFor new n l (bytes_of frames) (take given want.places))) mine
      (held-frames o to steps (StandOf (standing b) o) lease given want is.side.legal made next (λ frames of. of) stand first is-given gives)

module _ (b new : Recorded) (d : DeskState) (lease : Leased) (is : IsDeskOf b d) (filled : IsFilledBy b d.id lease) where
  abbrev ask : Ask
  ask = Done (lease_id lease.id)

  may : MayAsk b.pool b.entries d.id ask
  may = find-mapped lot_of_lease (is_lease lease.id) (own_of d.id (standing b)).leases filled.held filled.own

  enabled : IsEnabled (standing b) ask
  enabled = may-enabled b d ask is may

  pub fills : IsFilledIn (standing b) lease
  fills = filled-in b d.id lease is.side.legal enabled filled

  pub completed : new ≡ after_ask b ask → HasRoom b ask → Made b new d d ask Accepted
  completed made room =
      let found = step-of (standing b) ask tt enabled in
      let s : Steps b ask = record { makes = found.0; is = found.1 } in
      step-by b new d d ask Accepted is may (λ m. tt) made (said-by s (done-said s)) room refl is.region
