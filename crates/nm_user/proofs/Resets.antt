-- A sync that a check refuses resets its ring.
use Rattle.std.proofs.Common.{ℕ, ◌==◌, ◌≡◌, true, sym, ap, subst, refl, ◌∙◌, Option, Some, None}
use Rattle.std.specs.Prelude.{option_and_then, if◌then◌else◌}
use Rattle.std.proofs.lemmas.Bool.{eqb-true}
use Rattle.nm_types.specs.Names.{is_pipe_name}
use Rattle.nm_types.specs.Slots.{pushed_frames}
use Rattle.nm_types.specs.declared.fault.SyncFault.{SyncFault}
use Rattle.nm_types.specs.declared.id.PortId.{PortId}
use Rattle.nm_types.specs.declared.id.Side.{Side}
use Rattle.nm_types.specs.declared.id.Side.TheVariants.{Tx, Rx}
use Rattle.nm_types.specs.OwnPorts.{OwnPort, OwnRing, OwnState, bytes_at, port_with_id, ring_on, refusal_in, refusal_at, pushed_in}
use Rattle.nm_types.specs.OwnSyncs.{own_after_reset}
use Rattle.vale_entry.specs.declared.entry.Ask.{Ask}
use Rattle.vale_entry.specs.declared.entry.Ask.TheVariants.{Reset, Send, Sync, Put, Get}
use Rattle.vale_entry.specs.declared.entry.Reply.TheVariants as replies
use Rattle.vale_entry.specs.OwnCalls.{or_reset, offered_items, tx_call, rx_call, back_in}
use Rattle.vale_entry.specs.Legal.{fits_fault}
use Rattle.vale_entry.proofs.ListLaws.{place-of}
use Rattle.vale_own.specs.Asker.{asks}
use Rattle.vale_own.specs.SideAsks.{RefusalFits}
use Rattle.vale_fabric.specs.Fabrics.{Knowing, Answers}
use Rattle.nm_user.specs.Sessions.{SessionState, IsThere, standing_seen}
use Rattle.nm_user.proofs.Plain.{there-answered}
use Rattle.nm_user.proofs.Sends.{tx-asks}
use Rattle.nm_user.proofs.Receives.{rx-asks}

-- the port whose ring a check refuses
pub record IsRefusedAt (own : OwnState) (side : Side) (port : PortId) (fault : SyncFault) : Type 0 where
  pub at : OwnPort
  pub ring : OwnRing
  pub found : port_with_id own port.0 ≡ Some at
  pub id_is : at.id ≡ port
  pub has : ring_on side at ≡ Some ring
  pub is : refusal_in side own at ring ≡ Some fault

pub refused-at : (own : OwnState) (side : Side) (port : PortId) (fault : SyncFault) → refusal_at side port.0 own ≡ Some fault → IsRefusedAt own side port fault
refused-at own side port fault is = by (port_with_id own port.0) refl is
  where
    on : (p : OwnPort) (r : Option OwnRing) → port_with_id own port.0 ≡ Some p → ring_on side p ≡ r → option_and_then (refusal_in side own p) r ≡ Some fault → IsRefusedAt own side port fault
    on p None found has e = absurd cc
    on p (Some r) found has e =
        let place = place-of (λ (q : OwnPort). q.id.0 == port.0) own.ports p found in
        record {
          at = p;
          ring = r;
          found = found;
          id_is = ap (λ (n : ℕ). let made : PortId = record { 0 = n } in made) (eqb-true p.id.0 port.0 place.passes);
          has = has;
          is = e;
        }

    by : (found : Option OwnPort) → port_with_id own port.0 ≡ found → option_and_then (λ (p : OwnPort). option_and_then (refusal_in side own p) (ring_on side p)) found ≡ Some fault → IsRefusedAt own side port fault
    by None found e = absurd cc
    by (Some p) found e = on p (ring_on side p) found refl e

same-ring : (a b : OwnRing) → Some a ≡ Some b → a ≡ b
same-ring a b e = cc

-- a refused sync's call is the reset
pub tx-resets : {own : OwnState} {port : PortId} {fault : SyncFault} (k : IsRefusedAt own Tx port fault) → tx_call own k.at k.ring ≡ Reset port Tx fault
tx-resets {own} {port} {fault} k =
    let as-pipe : Ask = Put k.at.id (offered_items own k.ring) in
    let as-send : Ask = Send k.at.id (pushed_frames (bytes_at own) (pushed_in Tx k.ring)) in
    ap (λ (o : Option SyncFault). or_reset o k.at.id Tx (if is_pipe_name k.at.name then as-pipe else as-send)) k.is ∙ ap (λ (id : PortId). Reset id Tx fault) k.id_is

pub rx-refused : {own : OwnState} {port : PortId} {fault : SyncFault} (k : IsRefusedAt own Rx port fault) → refusal_in Rx own k.at k.at.rx ≡ Some fault
rx-refused {own} k = ap (refusal_in Rx own k.at) (same-ring k.at.rx k.ring k.has) ∙ k.is

pub rx-resets : {own : OwnState} {port : PortId} {fault : SyncFault} (k : IsRefusedAt own Rx port fault) → rx_call own k.at ≡ Reset port Rx fault
rx-resets {own} {port} {fault} k =
    let as-pipe : Ask = Get k.at.id (back_in k.at) in
    let as-sync : Ask = Sync k.at.id (back_in k.at) in
    ap (λ (o : Option SyncFault). or_reset o k.at.id Rx (if is_pipe_name k.at.name then as-pipe else as-sync)) (rx-refused k) ∙ ap (λ (id : PortId). Reset id Rx fault) k.id_is

pub reset-asks : {s : SessionState} (side : Side) (port : PortId) (fault : SyncFault) → IsThere None s → refusal_at side port.0 s.own ≡ Some fault → fits_fault fault ≡ true → asks (standing_seen s.fixed s.knows) s.id (Reset port side fault) ≡ true
reset-asks {s} Tx port fault t is fits =
    let k = refused-at s.own Tx port fault is in
    tx-asks (Reset port Tx fault) t (record { port = k.at; ring = k.ring; found = k.found; has = k.has }) k.id_is (subst RefusalFits (sym k.is) fits) (tx-resets k)
reset-asks {s} Rx port fault t is fits =
    let k = refused-at s.own Rx port fault is in
    rx-asks (Reset port Rx fault) t k.at k.found k.id_is (subst RefusalFits (sym (rx-refused k)) fits) (rx-resets k)

module _ {s : SessionState} {w : Knowing} (side : Side) (port : PortId) (fault : SyncFault) where
  pub reset-there : IsThere None s → asks (standing_seen s.fixed s.knows) s.id (Reset port side fault) ≡ true → Answers s.fixed s.knows w (Reset port side fault) replies.Made
      → IsThere None (record s { knows = w; own = own_after_reset port.0 side s.own })
  reset-there t may made = there-answered t may made refl tt tt
