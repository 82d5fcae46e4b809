use Rattle.std.proofs.Common.{◌∙◌, [], List, ap, sym, subst}
use Rattle.nm_region.specs.Buffers.{Buffer, indices_of}
use Rattle.nm_types.specs.OwnSyncs.{own_after_finish}
use Rattle.nm_port.specs.Own.{own_seen}
use Rattle.nm_port.specs.Closing.{buffers_with_id, bytes_of_buffers}
use Rattle.nm_port.proofs.PortOut.{some_there, back_one, drop_none}
use Rattle.nm_own.proofs.Closing.{others_sided, others_rings, others_back, port_found, has_port, extra_small, is_held, chain_is, indices_come, bytes_come, holds_nothing, places_left, filled_left, flagged_left, whole_left, count_left, closed_is_seen}
use Rattle.nm_port.specs.Regions.{SideState, AreOf}
use Rattle.nm_port.proofs.Regions.{of_seen, holds_same, holds_taken, taken_of}
use Rattle.nm_hold.specs.Holds.{bufs_of}
use Rattle.nm_own.proofs.own.OwnSide.close_port.Goals as goal

pub take_port-own-requires-clause-there : goal.take_port-own-requires-clause-there
take_port-own-requires-clause-there c = some_there c.args.port.0 c.self.inside.hold c.self.inside.ports.items (rw (← c.self.view_is) at c.requires.there)

pub empty_port-emptied-requires-clause-extra : goal.empty_port-emptied-requires-clause-extra
empty_port-emptied-requires-clause-extra c = extra_small c.self.inside.hold c.self.inside.ports.items c.args.port c.take_port-own.result (has_port c.self.inside c.args.port c.take_port-own.result c.self.invariant c.take_port-own.ensures.port)

pub empty_port-emptied-requires-clause-held : goal.empty_port-emptied-requires-clause-held
empty_port-emptied-requires-clause-held c = is_held c.self.inside.hold c.self.inside.ports.items c.args.port c.take_port-own.result (has_port c.self.inside c.args.port c.take_port-own.result c.self.invariant c.take_port-own.ensures.port)

pub empty_port-emptied-requires-clause-room : goal.empty_port-emptied-requires-clause-room
empty_port-emptied-requires-clause-room c = back_one c.args.port.0 c.self.inside.ports.items c.take_port-own.result c.take_port-own.ensures.port c.self.invariant.back

pub drop_port-requires : goal.drop_port-requires
drop_port-requires c = holds_nothing c.self.inside.hold c.self.inside.ports.items c.args.port c.take_port-own.result (has_port c.self.inside c.args.port c.take_port-own.result c.self.invariant c.take_port-own.ensures.port) c.empty_port-emptied.new.hold [] c.empty_port-emptied.result.0.items c.empty_port-emptied.ensures.taken

pub invariant_of-self : goal.invariant_of-self
invariant_of-self c =
    let h = c.self.inside.hold in
    let ports = c.self.inside.ports.items in
    let id = c.args.port in
    let p = c.take_port-own.result in
    let has = has_port c.self.inside c.args.port c.take_port-own.result c.self.invariant c.take_port-own.ensures.port in
    let now = c.empty_port-emptied.new.hold in
    let after = c.empty_port-emptied.result.0.items in
    let taken = c.empty_port-emptied.ensures.taken in
    let final = c.drop_port.new.self in
    let gone = c.drop_port.ensures.ports in
    let is = c.drop_port.ensures.hold in
    let left = c.take_port-own.ensures.others in
    let kept = c.self.invariant in
    record {
      sided = rw left (others_sided id.0 ports kept.sided);
      rings = rw left (others_rings id.0 ports kept.rings);
      flagged = rw left (flagged_left h ports id p has now [] after taken final gone is kept.flagged);
      hold = is;
      places = rw left (places_left h ports id p has now [] after taken final gone is);
      filled = rw left (filled_left h ports id p has now [] after taken final gone is);
      whole = whole_left h ports id p has now [] after taken final gone is kept.whole;
      blank = rw (count_left h ports id p has now [] after taken final gone is) kept.blank;
      back = rw left (others_back id.0 ports kept.back);
    }

pub returns-clause-own : goal.returns-clause-own
returns-clause-own c =
    ap (own_seen c.drop_port.new.self) c.take_port-own.ensures.others
    ∙ (closed_is_seen c.self.inside.hold c.self.inside.ports.items c.args.port c.take_port-own.result (has_port c.self.inside c.args.port c.take_port-own.result c.self.invariant c.take_port-own.ensures.port) c.empty_port-emptied.new.hold [] c.empty_port-emptied.result.0.items c.empty_port-emptied.ensures.taken c.drop_port.new.self c.drop_port.ensures.ports c.drop_port.ensures.hold
    ∙ ap (λ (s : SideState). own_after_finish c.args.port.0 (buffers_with_id s.own c.args.port.0) s.own) c.self.view_is)

pub returns-clause-back : goal.returns-clause-back
returns-clause-back c =
    ap (λ (xs : List Buffer). indices_of xs) (sym (drop_none c.empty_port-emptied.result.0.items))
    ∙ (indices_come c.self.inside.hold c.self.inside.ports.items c.args.port c.take_port-own.result (has_port c.self.inside c.args.port c.take_port-own.result c.self.invariant c.take_port-own.ensures.port) c.empty_port-emptied.new.hold [] c.empty_port-emptied.result.0.items c.empty_port-emptied.ensures.taken
    ∙ ap (λ (s : SideState). buffers_with_id s.own c.args.port.0) c.self.view_is)

pub returns-clause-bytes : goal.returns-clause-bytes
returns-clause-bytes c =
    rw (← c.self.view_is) (ap (λ (xs : List Buffer). bytes_of_buffers xs) (sym (drop_none c.empty_port-emptied.result.0.items)) ∙ bytes_come c.self.inside.hold c.self.inside.ports.items c.args.port c.take_port-own.result (has_port c.self.inside c.args.port c.take_port-own.result c.self.invariant c.take_port-own.ensures.port) c.empty_port-emptied.new.hold [] c.empty_port-emptied.result.0.items c.empty_port-emptied.ensures.taken)

pub returns-clause-region : goal.returns-clause-region
returns-clause-region c region of =
    let h = c.self.inside.hold in
    let now = c.empty_port-emptied.new.hold in
    holds_same region now c.drop_port.new.self (ap bufs_of c.drop_port.ensures.ports)
    (holds_taken region h now _ _ _ c.empty_port-emptied.ensures.taken (of_seen region h c.self.inside.ports.items c.args.self.now c.self.view_is of))

pub returns-clause-out : goal.returns-clause-out
returns-clause-out c region of =
    let h = c.self.inside.hold in
    let out = c.empty_port-emptied.result.0.items in
    subst (AreOf region) (drop_none out) (taken_of region h c.empty_port-emptied.new.hold _ [] out c.empty_port-emptied.ensures.taken (of_seen region h c.self.inside.ports.items c.args.self.now c.self.view_is of))

pub returns-clause-chain : goal.returns-clause-chain
returns-clause-chain c =
    let h = c.self.inside.hold in
    let ports = c.self.inside.ports.items in
    rw (← c.self.view_is, port_found h ports c.args.port.0 c.take_port-own.result c.take_port-own.ensures.port)
    (c.empty_port-emptied.ensures.chain ∙ chain_is c.self.inside.hold c.self.inside.ports.items c.args.port c.take_port-own.result (has_port c.self.inside c.args.port c.take_port-own.result c.self.invariant c.take_port-own.ensures.port))
