use Rattle.std.proofs.Common.{◌≡◌, ◌∙◌, ◌∷◌, ◌++◌, ◌+◌, ◌≤◌, [], length, reverse, refl, ap, arith, length-append, rules}
use Rattle.nm_types.specs.Limits.{most_ring}
use Rattle.nm_hold.specs.Holds.{HoldState}
use Rattle.nm_port.specs.Sides.{name_at}
use Rattle.nm_port.specs.Exchanges.{user_position, user_place}
use Rattle.nm_port.specs.Lending.{AreSwapped}
use Rattle.nm_port.proofs.Undoing.{last_change, held_back, named_back, changed_back}
use Rattle.nm_port.proofs.undo.exchange_back.Goals as goal

-- the last exchange that is left, and its place
record Step (c : goal.After-place_on) : Type 0 where
  last : c.loop-idx.was.items ≡ c.pop.new.self.items ++ c.in-Some.idx ∷ []
  place : c.place_on.result ≡ user_place c.args.port c.args.ring.now (length c.pop.new.self.items)

step : (c : goal.After-place_on) → Step c
step c = record {
  last = search rules;
  place =
      let at : c.len.result ≡ length c.pop.new.self.items = c.len.ensures ∙ c.pop.new.self.ok.0 in
      rw (c.place_on.ensures, c.side-side.ensures, c.pushed-first.ensures.first, c.size-size.ensures.size, c.ring.ensures.ring, at) refl;
}

pub exchange-requires-clause-held : goal.exchange-requires-clause-held
exchange-requires-clause-held c =
    let s = step c in
    let was = c.loop-idx.invariant.0 in
    let x = last_change was.0 c.args.port c.args.ring.now c.loop-idx.was.items c.pop.new.self.items c.in-Some.idx c.loop-idx.hold s.last was.1 in
    rw s.place (held_back x.0 c.loop-idx.hold (user_place c.args.port c.args.ring.now (length c.pop.new.self.items)) (name_at c.args.ring.now (user_position c.args.ring.now (length c.pop.new.self.items))) c.in-Some.idx x.1.0)

pub exchange-requires-clause-named : goal.exchange-requires-clause-named
exchange-requires-clause-named c =
    let s = step c in
    let was = c.loop-idx.invariant.0 in
    let x = last_change was.0 c.args.port c.args.ring.now c.loop-idx.was.items c.pop.new.self.items c.in-Some.idx c.loop-idx.hold s.last was.1 in
    named_back x.0 c.loop-idx.hold (user_place c.args.port c.args.ring.now (length c.pop.new.self.items)) (name_at c.args.ring.now (user_position c.args.ring.now (length c.pop.new.self.items))) c.in-Some.idx x.1.0

pub loop-idx-preserved : goal.loop-idx-preserved
loop-idx-preserved c =
    let id = c.args.port in
    let r = c.args.ring.now in
    let left = c.pop.new.self.items in
    let last : c.loop-idx.was.items ≡ left ++ c.in-Some.idx ∷ [] = search rules in
    let at : c.len.result ≡ length left = c.len.ensures ∙ c.pop.new.self.ok.0 in
    let place : c.place_on.result ≡ user_place id r (length left) = rw (c.place_on.ensures, c.side-side.ensures, c.pushed-first.ensures.first, c.size-size.ensures.size, c.ring.ensures.ring, at) refl in
    let places = rw place at c.exchange.ensures.places in
    let named = rw place at c.exchange.ensures.named in
    let back : (h : HoldState) → AreSwapped h id r (reverse c.loop-idx.was.items) c.loop-idx.hold → AreSwapped h id r (reverse left) c.exchange.new.self = (λ h swapped.
    let x = last_change h id r c.loop-idx.was.items left c.in-Some.idx c.loop-idx.hold last swapped in
    rw (changed_back x.0 c.loop-idx.hold (user_place id r (length left)) (name_at r (user_position r (length left))) c.in-Some.idx x.1.0 c.exchange.new.self places c.exchange.ensures.all named c.exchange.ensures.ports c.exchange.ensures.hold) x.1.1) in
    let was = c.loop-idx.invariant.0 in
    let count : length c.loop-idx.was.items ≡ length left + 1 = ap length last ∙ length-append left (c.in-Some.idx ∷ []) in
    let few : length left ≤ most_ring = omega (arith, count, c.loop-idx.invariant.2) in
    ((was.0, back was.0 was.1), (λ h start. back h (c.loop-idx.invariant.1 h start)), few)
