-- Receive pushes whose buffers are lent out, once they are gone for good.
use Rattle.std.proofs.Common.{◌≡◌, List, [], ◌∷◌, ◌++◌, ℕ, map, length, reverse, sym, ◌∙◌, ap, arith}
use Rattle.std.proofs.lemmas.List.{length-reverse, reverse-reverse}
use Rattle.nm_types.specs.declared.id.PortId.{PortId}
use Rattle.nm_types.specs.declared.id.Side.TheVariants.{Rx}
use Rattle.nm_types.specs.OwnSyncs.{own_after_receive}
use Rattle.nm_region.specs.Buffers.{Buffer}
use Rattle.nm_own.specs.declared.lend.LentBack.{LentBack}
use Rattle.nm_port.specs.declared.port.UserPort.{UserPort}
use Rattle.nm_port.specs.Closing.{AreTaken}
use Rattle.nm_port.specs.Regions.{SideState, AllOf, HoldsOf}
use Rattle.nm_port.specs.Own.{own_seen, port_changed, port_changed_if}
use Rattle.nm_port.specs.Exchanges.{pushed_count_of}
use Rattle.nm_port.specs.Receives.{user_places, ring_given_back}
use Rattle.nm_own.specs.LentBack.{IsLentBack}
use Rattle.nm_own.specs.LentSides.{lent_run}
use Rattle.nm_own.proofs.OnePort.{Among, changed_are}
use Rattle.nm_port.proofs.Regions.{of_seen, holds_same, holds_taken}
use Rattle.nm_own.proofs.GivenBack.{others, given_back, given_back_is_seen}
use Rattle.nm_own.proofs.LentSides.{LentWith, lent_of, lent_ring}
use Rattle.nm_own.proofs.Refilled.{out_taken}

module _ (s : SideState) (lent : List Buffer) (l : LentBack) (x : IsLentBack s lent l) where
  abbrev pub ports : List UserPort
  ports = l.lent.ports.items

  pub its : LentWith Rx l.port l.lent x.r s lent
  its = lent_of Rx l.port s lent l.lent x

  -- the buffers are out of the places of the pushed slots
  pub taken : AreTaken its.exchanged l.lent.hold (user_places l.port x.r (pushed_count_of x.r)) [] lent
  taken =
      let is = lent_ring Rx l.port l.lent x.r s lent its in
      let out = out_taken (lent_run Rx l.port x.r) 0 its.exchanged l.lent.hold (reverse lent) its.exchange.is_hold is.within (omega (arith, length-reverse lent, is.few_slots)) its.out in
      rw (reverse-reverse lent, length-reverse lent, its.lent_count) at out

  -- the ports once the push is accepted
  abbrev pub around : Among ports l.port.0 its.p
  around = others its.was ports l.port its.p x.r its.passes

  abbrev pub now_back : UserPort
  now_back = given_back its.was ports l.port its.p x.r its.passes

  abbrev pub accepted_ports : List UserPort
  accepted_ports = map (port_changed_if l.port.0 Rx (λ (of : PortId). ring_given_back)) ports

  pub ports_accepted : accepted_ports ≡ around.before ++ now_back ∷ around.behind
  ports_accepted =
      ap (map (port_changed_if l.port.0 Rx (λ (of : PortId). ring_given_back))) around.are
      ∙ changed_are l.port.0 (port_changed Rx (λ (of : PortId). ring_given_back)) around.before around.behind its.p around.first around.rest (ap (λ (i : PortId). i.0) its.passes.has.same_id)

  pub received_is_seen : own_seen l.lent.hold accepted_ports ≡ own_after_receive l.port.0 [] s.own
  received_is_seen =
      ap (own_seen l.lent.hold) ports_accepted
      ∙ (given_back_is_seen its.was ports l.port its.p x.r its.passes its.exchanged l.lent.hold its.exchange [] lent taken
      ∙ ap (λ (o : SideState). own_after_receive l.port.0 [] o.own) (sym its.seen))

  pub received_of : (region : ℕ) → AllOf region s → HoldsOf region l.lent.hold
  received_of region of =
      holds_taken region its.exchanged l.lent.hold _ _ _ taken (holds_same region its.was its.exchanged its.exchange.bufs (of_seen region its.was ports s (sym its.seen) of))
