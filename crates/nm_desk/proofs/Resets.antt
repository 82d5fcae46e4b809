-- A sync that a check refuses resets its ring.
use Rattle.std.proofs.Common.{◌≡◌, true, false, sym, ap, subst, refl, ◌∙◌, Option, Some, None}
use Rattle.std.specs.Prelude.{option_and_then, if◌then◌else◌}
use Rattle.nm_types.specs.Names.{is_pipe_name}
use Rattle.nm_types.specs.Slots.{pushed_frames}
use Rattle.nm_types.specs.declared.fault.SyncFault.{SyncFault}
use Rattle.nm_types.specs.declared.id.PortId.{PortId}
use Rattle.nm_types.specs.declared.id.Side.{Side}
use Rattle.nm_types.specs.declared.id.Side.TheVariants.{Tx, Rx}
use Rattle.nm_types.specs.OwnPorts.{OwnPort, OwnRing, OwnState, bytes_at, port_with_id, ring_on, refusal_in, refusal_at, pushed_in}
use Rattle.nm_types.specs.OwnSyncs.{own_after_reset}
use Rattle.nm_port.specs.Regions.{AllOf}
use Rattle.vale_entry.specs.declared.entry.Ask.{Ask}
use Rattle.vale_entry.specs.declared.entry.Ask.TheVariants.{Reset, Send, Sync, Put, Get}
use Rattle.vale_entry.specs.declared.entry.Reply.TheVariants as replies
use Rattle.vale_entry.specs.OwnCalls.{or_reset, offered_items, tx_call, rx_call, back_in}
use Rattle.vale_entry.specs.Legal.{IsEnabled, fits_fault}
use Rattle.vale_own.specs.Recorded.{Recorded, standing, after_ask, HasRoom}
use Rattle.vale_own.specs.Side.{is_shut}
use Rattle.vale_own.specs.SideAsks.{IsOpen, IsSettled, MayAsk, RefusalFits}
use Rattle.vale_own.proofs.SideSyncing.{transmit-asked, receive-asked}
use Rattle.vale_book.proofs.Said.{Steps, step-of, said-by, reset-said}
use Rattle.nm_desk.specs.Desks.{DeskState, IsDeskOf, side_of}
use Rattle.nm_desk.specs.Calls.{Made}
use Rattle.nm_desk.proofs.OneStep.{may-enabled, step-by, found-id}

-- the port whose ring a check refuses
record IsRefusedAt (own : OwnState) (side : Side) (port : PortId) (fault : SyncFault) : Type 0 where
  at : OwnPort
  ring : OwnRing
  found : port_with_id own port.0 ≡ Some at
  has : ring_on side at ≡ Some ring
  is : refusal_in side own at ring ≡ Some fault

refused-at : (own : OwnState) (side : Side) (port : PortId) (fault : SyncFault) → refusal_at side port.0 own ≡ Some fault → IsRefusedAt own side port fault
refused-at own side port fault is = by (port_with_id own port.0) refl is
  where
    on : (p : OwnPort) (r : Option OwnRing) → port_with_id own port.0 ≡ Some p → ring_on side p ≡ r → option_and_then (refusal_in side own p) r ≡ Some fault → IsRefusedAt own side port fault
    on p None found has e = absurd cc
    on p (Some r) found has e = record { at = p; ring = r; found = found; has = has; is = e }

    by : (found : Option OwnPort) → port_with_id own port.0 ≡ found → option_and_then (λ (p : OwnPort). option_and_then (refusal_in side own p) (ring_on side p)) found ≡ Some fault → IsRefusedAt own side port fault
    by None found e = absurd cc
    by (Some p) found e = on p (ring_on side p) found refl e

same-ring : (a b : OwnRing) → Some a ≡ Some b → a ≡ b
same-ring a b e = cc

module _ (b : Recorded) (d : DeskState) (port : PortId) (fault : SyncFault) (is : IsDeskOf b d) (settled : IsSettled b.pool b.entries d.id) (open_is : is_shut d.shut port.0 ≡ false) (fits : fits_fault fault ≡ true) where
  opened : (p : OwnPort) → port_with_id d.own port.0 ≡ Some p → IsOpen d.shut d.own p
  opened p found =
      let number : p.id.0 ≡ port.0 = ap (λ (id : PortId). id.0) (found-id d.own port p found) in
      (ap (port_with_id d.own) number ∙ found, ap (is_shut d.shut) number ∙ open_is)

  may-by : (side : Side) → refusal_at side port.0 d.own ≡ Some fault → MayAsk b.pool b.entries d.id (Reset port side fault)
  may-by Tx refused =
      let k = refused-at d.own Tx port fault refused in
      let as-pipe : Ask = Put k.at.id (offered_items d.own k.ring) in
      let as-send : Ask = Send k.at.id (pushed_frames (bytes_at d.own) (pushed_in Tx k.ring)) in
      let call : tx_call d.own k.at k.ring ≡ Reset port Tx fault =
      ap (λ (o : Option SyncFault). or_reset o k.at.id Tx (if is_pipe_name k.at.name then as-pipe else as-send)) k.is ∙ ap (λ (id : PortId). Reset id Tx fault) (found-id d.own port k.at k.found) in
      subst (MayAsk b.pool b.entries d.id) call (transmit-asked b.pool b.entries d.id d.shut d.own k.at k.ring is.side settled (opened k.at k.found) k.has (subst RefusalFits (sym k.is) fits))
  may-by Rx refused =
      let k = refused-at d.own Rx port fault refused in
      let as-pipe : Ask = Get k.at.id (back_in k.at) in
      let as-sync : Ask = Sync k.at.id (back_in k.at) in
      let rx-is : refusal_in Rx d.own k.at k.at.rx ≡ Some fault = ap (refusal_in Rx d.own k.at) (same-ring k.at.rx k.ring k.has) ∙ k.is in
      let call : rx_call d.own k.at ≡ Reset port Rx fault =
      ap (λ (o : Option SyncFault). or_reset o k.at.id Rx (if is_pipe_name k.at.name then as-pipe else as-sync)) rx-is ∙ ap (λ (id : PortId). Reset id Rx fault) (found-id d.own port k.at k.found) in
      subst (MayAsk b.pool b.entries d.id) call (receive-asked b.pool b.entries d.id d.shut d.own k.at is.side settled (opened k.at k.found) (subst RefusalFits (sym rx-is) fits))

  module _ (side : Side) (refused : refusal_at side port.0 d.own ≡ Some fault) where
    abbrev ask : Ask
    ask = Reset port side fault

    pub enabled : IsEnabled (standing b) ask
    enabled = may-enabled b d ask is (may-by side refused)

    pub reset-made : (new : Recorded) (after : DeskState) → new ≡ after_ask b ask → HasRoom b ask → after ≡ record after { id = d.id; shut = d.shut; own = own_after_reset port.0 side d.own }
        → AllOf b.region (side_of after) → Made b new d after ask replies.Made
    reset-made new after made room after-is region =
        let found = step-of (standing b) ask tt enabled in
        let s : Steps b ask = record { makes = found.0; is = found.1 } in
        step-by b new d after ask replies.Made is (may-by side refused) (λ m. tt) made (said-by s (reset-said s)) room after-is region
