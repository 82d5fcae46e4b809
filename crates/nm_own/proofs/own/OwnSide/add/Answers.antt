use Rattle.std.proofs.Common.{ℕ, ◌≡◌, ◌∙◌, ◌-◌, ◌++◌, ◌∷◌, [], List, length, ap, sym, subst}
use Rattle.nm_region.specs.Buffers.{Buffer, indices_of}
use Rattle.nm_port.specs.declared.fill.Row.TheVariants.{Slots, Extras}
use Rattle.nm_port.specs.declared.port.UserPort.{UserPort}
use Rattle.nm_port.specs.Filling.{AreFilledWith}
use Rattle.nm_own.specs.Opening.{opened_user_port}
use Rattle.nm_own.proofs.Opened.{Opens, indices_length, filled_now, places_now, count_now, whole_now, sided_now, rings_now, back_now, flagged_now, opened_is_seen}
use Rattle.nm_own.proofs.Readied.{no_places_yet, is_ready_for, slots_belong, slots_away, extras_belong, extras_empty, extras_away, opens, distinct_left, distinct_right}
use Rattle.nm_hold.specs.Holds.{bufs_of}
use Rattle.nm_port.specs.Regions.{HoldsOf}
use Rattle.nm_port.proofs.Regions.{of_seen, holds_same}
use Rattle.nm_own.proofs.own.OwnSide.add.Goals as goal

pub set_port-requires-clause-new : goal.set_port-requires-clause-new
set_port-requires-clause-new c = no_places_yet c.self.inside.hold c.self.inside.ports.items c.args.id.0 c.self.invariant.places (rw (← c.self.view_is) at c.requires.id)

pub fill-requires-clause-belongs : goal.fill-requires-clause-belongs
fill-requires-clause-belongs c at below =
    slots_belong c.self.inside.hold c.set_port.new.self c.self.inside.ports.items c.args.id c.args.new.sizes.rx (indices_of c.args.tx.items) (indices_of c.args.extra.items) (is_ready_for c.self.inside c.set_port.new.self c.args.id c.args.self.now c.args.new c.open-port.result.1.sizes c.args.tx.items c.args.extra.items c.self.invariant c.self.view_is c.set_port.ensures.ports c.open-port.ensures.sizes c.requires.tx c.requires.extra c.requires.id c.requires.away) at (rw (indices_length c.args.tx.items) below)

pub fill-requires-clause-empty : goal.fill-requires-clause-empty
fill-requires-clause-empty c at = (is_ready_for c.self.inside c.set_port.new.self c.args.id c.args.self.now c.args.new c.open-port.result.1.sizes c.args.tx.items c.args.extra.items c.self.invariant c.self.view_is c.set_port.ensures.ports c.open-port.ensures.sizes c.requires.tx c.requires.extra c.requires.id c.requires.away).empty Slots at

pub fill-requires-clause-away : goal.fill-requires-clause-away
fill-requires-clause-away c = slots_away c.self.inside.hold c.set_port.new.self c.self.inside.ports.items c.args.id c.args.new.sizes.rx (indices_of c.args.tx.items) (indices_of c.args.extra.items) (is_ready_for c.self.inside c.set_port.new.self c.args.id c.args.self.now c.args.new c.open-port.result.1.sizes c.args.tx.items c.args.extra.items c.self.invariant c.self.view_is c.set_port.ensures.ports c.open-port.ensures.sizes c.requires.tx c.requires.extra c.requires.id c.requires.away)

pub fill-requires-clause-once : goal.fill-requires-clause-once
fill-requires-clause-once c = distinct_left (indices_of c.args.tx.items) (indices_of c.args.extra.items) c.requires.once

pub fill-requires-2-clause-belongs : goal.fill-requires-2-clause-belongs
fill-requires-2-clause-belongs c at below =
    let slots : AreFilledWith c.set_port.new.self c.fill.new.hold c.args.id Slots (length (indices_of c.args.tx.items) - 1) 0 (indices_of c.args.tx.items) = subst (λ (n : ℕ). AreFilledWith c.set_port.new.self c.fill.new.hold c.args.id Slots n 0 (indices_of c.args.tx.items)) (c.saturating_sub.ensures ∙ ap (λ (k : ℕ). k - 1) (c.len.ensures ∙ (c.args.tx.ok.0 ∙ sym (indices_length c.args.tx.items)))) c.fill.ensures.filled in
    extras_belong c.self.inside.hold c.set_port.new.self c.self.inside.ports.items c.args.id c.args.new.sizes.rx (indices_of c.args.tx.items) (indices_of c.args.extra.items) (is_ready_for c.self.inside c.set_port.new.self c.args.id c.args.self.now c.args.new c.open-port.result.1.sizes c.args.tx.items c.args.extra.items c.self.invariant c.self.view_is c.set_port.ensures.ports c.open-port.ensures.sizes c.requires.tx c.requires.extra c.requires.id c.requires.away) c.fill.new.hold slots at (rw (indices_length c.args.extra.items) below)

pub fill-requires-2-clause-empty : goal.fill-requires-2-clause-empty
fill-requires-2-clause-empty c at =
    let slots : AreFilledWith c.set_port.new.self c.fill.new.hold c.args.id Slots (length (indices_of c.args.tx.items) - 1) 0 (indices_of c.args.tx.items) = subst (λ (n : ℕ). AreFilledWith c.set_port.new.self c.fill.new.hold c.args.id Slots n 0 (indices_of c.args.tx.items)) (c.saturating_sub.ensures ∙ ap (λ (k : ℕ). k - 1) (c.len.ensures ∙ (c.args.tx.ok.0 ∙ sym (indices_length c.args.tx.items)))) c.fill.ensures.filled in
    extras_empty c.self.inside.hold c.set_port.new.self c.self.inside.ports.items c.args.id c.args.new.sizes.rx (indices_of c.args.tx.items) (indices_of c.args.extra.items) (is_ready_for c.self.inside c.set_port.new.self c.args.id c.args.self.now c.args.new c.open-port.result.1.sizes c.args.tx.items c.args.extra.items c.self.invariant c.self.view_is c.set_port.ensures.ports c.open-port.ensures.sizes c.requires.tx c.requires.extra c.requires.id c.requires.away) c.fill.new.hold slots at

pub fill-requires-2-clause-away : goal.fill-requires-2-clause-away
fill-requires-2-clause-away c =
    let slots : AreFilledWith c.set_port.new.self c.fill.new.hold c.args.id Slots (length (indices_of c.args.tx.items) - 1) 0 (indices_of c.args.tx.items) = subst (λ (n : ℕ). AreFilledWith c.set_port.new.self c.fill.new.hold c.args.id Slots n 0 (indices_of c.args.tx.items)) (c.saturating_sub.ensures ∙ ap (λ (k : ℕ). k - 1) (c.len.ensures ∙ (c.args.tx.ok.0 ∙ sym (indices_length c.args.tx.items)))) c.fill.ensures.filled in
    extras_away c.self.inside.hold c.set_port.new.self c.self.inside.ports.items c.args.id c.args.new.sizes.rx (indices_of c.args.tx.items) (indices_of c.args.extra.items) (is_ready_for c.self.inside c.set_port.new.self c.args.id c.args.self.now c.args.new c.open-port.result.1.sizes c.args.tx.items c.args.extra.items c.self.invariant c.self.view_is c.set_port.ensures.ports c.open-port.ensures.sizes c.requires.tx c.requires.extra c.requires.id c.requires.away) c.fill.new.hold slots c.requires.once

pub fill-requires-2-clause-once : goal.fill-requires-2-clause-once
fill-requires-2-clause-once c = distinct_right (indices_of c.args.tx.items) (indices_of c.args.extra.items) c.requires.once

-- what is opened, once its slots and its extras are filled
opened : (c : goal.After-add_last) → Opens c.self.inside.hold c.set_port.new.self c.fill.new.hold c.fill-2.new.hold c.self.inside.ports.items c.args.id c.args.new.sizes.rx (indices_of c.args.tx.items) (indices_of c.args.extra.items)
opened c =
    let slots : AreFilledWith c.set_port.new.self c.fill.new.hold c.args.id Slots (length (indices_of c.args.tx.items) - 1) 0 (indices_of c.args.tx.items) = subst (λ (n : ℕ). AreFilledWith c.set_port.new.self c.fill.new.hold c.args.id Slots n 0 (indices_of c.args.tx.items)) (c.saturating_sub.ensures ∙ ap (λ (k : ℕ). k - 1) (c.len.ensures ∙ (c.args.tx.ok.0 ∙ sym (indices_length c.args.tx.items)))) c.fill.ensures.filled in
    let extras : AreFilledWith c.fill.new.hold c.fill-2.new.hold c.args.id Extras (length (indices_of c.args.extra.items)) 0 (indices_of c.args.extra.items) = subst (λ (n : ℕ). AreFilledWith c.fill.new.hold c.fill-2.new.hold c.args.id Extras n 0 (indices_of c.args.extra.items)) (c.len-2.ensures ∙ (c.args.extra.ok.0 ∙ sym (indices_length c.args.extra.items))) c.fill-2.ensures.filled in
    opens c.self.inside.hold c.set_port.new.self c.self.inside.ports.items c.args.id c.args.new.sizes.rx (indices_of c.args.tx.items) (indices_of c.args.extra.items) (is_ready_for c.self.inside c.set_port.new.self c.args.id c.args.self.now c.args.new c.open-port.result.1.sizes c.args.tx.items c.args.extra.items c.self.invariant c.self.view_is c.set_port.ensures.ports c.open-port.ensures.sizes c.requires.tx c.requires.extra c.requires.id c.requires.away) c.fill.new.hold slots c.fill-2.new.hold (rw (indices_length c.args.tx.items, c.requires.tx) c.open-port.ensures.tx_size) c.open-port.ensures.rx_size extras

-- the ports once it is added
ports_are : (c : goal.After-add_last) → c.add_last.new.ports.items ≡ c.self.inside.ports.items ++ opened_user_port c.args.id c.args.new.name c.args.new.sizes.rx (indices_of c.args.tx.items) (indices_of c.args.extra.items) ∷ []
ports_are c =
    let port : c.open-port.result.0 ≡ opened_user_port c.args.id c.args.new.name c.args.new.sizes.rx (indices_of c.args.tx.items) (indices_of c.args.extra.items) =
    c.open-port.ensures.port ∙ (ap (λ (bufs : List Buffer). opened_user_port c.args.id c.args.new.name c.args.new.sizes.rx (indices_of bufs) (indices_of c.deref-2.result.now)) c.deref.ensures.value
    ∙ ap (λ (bufs : List Buffer). opened_user_port c.args.id c.args.new.name c.args.new.sizes.rx (indices_of c.args.tx.items) (indices_of bufs)) c.deref-2.ensures.value) in
    c.add_last.ensures ∙ ap (λ (p : UserPort). c.self.inside.ports.items ++ p ∷ []) port

pub invariant_of-self : goal.invariant_of-self
invariant_of-self c =
    let h = c.self.inside.hold in
    let h1 = c.set_port.new.self in
    let h2 = c.fill.new.hold in
    let h3 = c.fill-2.new.hold in
    let ports = c.self.inside.ports.items in
    let id = c.args.id in
    let name = c.args.new.name in
    let rx = c.args.new.sizes.rx in
    let tx = indices_of c.args.tx.items in
    let extra = indices_of c.args.extra.items in
    let o = opened c in
    let items = ports_are c in
    let kept = c.self.invariant in
    record {
      sided = rw items (sided_now h h1 h2 h3 ports id name rx tx extra o kept.sided);
      rings = rw items (rings_now h h1 h2 h3 ports id name rx tx extra o kept.rings);
      flagged = rw items (flagged_now h h1 h2 h3 ports id name rx tx extra o kept.sided kept.rings kept.flagged);
      hold = c.fill-2.ensures.filled.is_hold;
      places = rw items (places_now h h1 h2 h3 ports id name rx tx extra o kept.places);
      filled = rw items (filled_now h h1 h2 h3 ports id name rx tx extra o kept.filled);
      whole = whole_now h h1 h2 h3 ports id name rx tx extra o kept.whole;
      blank = rw (count_now h h1 h2 h3 ports id name rx tx extra o) kept.blank;
      back = rw items (back_now h h1 h2 h3 ports id name rx tx extra o kept.back);
    }

pub returns-clause-own : goal.returns-clause-own
returns-clause-own c =
    let tx = indices_of c.args.tx.items in
    let extra = indices_of c.args.extra.items in
    rw (← c.self.view_is, ports_are c, ← c.requires.tx, sym (indices_length c.args.tx.items))
    (opened_is_seen c.self.inside.hold c.set_port.new.self c.fill.new.hold c.fill-2.new.hold c.self.inside.ports.items c.args.id c.args.new.name c.args.new.sizes.rx tx extra (opened c) (distinct_right tx extra c.requires.once))

pub returns-clause-region : goal.returns-clause-region
returns-clause-region c region of tx_of extra_of =
    let h = c.self.inside.hold in
    let placed : HoldsOf region c.set_port.new.self = holds_same region h c.set_port.new.self (ap bufs_of c.set_port.ensures.ports) (of_seen region h c.self.inside.ports.items c.args.self.now c.self.view_is of) in
    c.fill-2.ensures.region region extra_of (c.fill.ensures.region region tx_of placed)
