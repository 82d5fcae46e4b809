use Rattle.std.proofs.Common.{◌≡◌, nat_eq, Some, refl, arith}
use Rattle.std.specs.HashMap.{get}
use Rattle.nm_types.specs.declared.place.Place.TheVariants.{Rx}
use Rattle.nm_hold.specs.Indexed.{row_at, port_at}
use Rattle.nm_hold.proofs.Finding.{row_read, apart-indexed, put-row, indexed-put}
use Rattle.nm_hold.proofs.Receiving.{IsReceiveSpot, has_row, first_port, spot_found}
use Rattle.nm_hold.proofs.ports.Ports.put_received.Goals as goal
use Rattle.nm_hold.proofs.ports.Ports.put_received.Goals.{After-index_mut}

pub index-requires : goal.index-requires
index-requires c =
    let within = has_row c.self.inside.rows.items (Rx c.args.port c.args.slot) (rw (← c.self.view_is) at c.requires.there) in
    let size = c.self.inside.rows.ok.0 in
    omega (arith, within, size)

pub index_mut-requires : goal.index_mut-requires
index_mut-requires c =
    let within = has_row c.self.inside.rows.items (Rx c.args.port c.args.slot) (rw (← c.self.view_is) at c.requires.there) in
    let size = c.self.inside.rows.ok.0 in
    omega (arith, within, size)

-- the first row is the port's, and has the place
record First (c : After-index_mut) : Type 0 where
  there : port_at c.self.inside.rows.items 0 ≡ Some c.args.port.0
  spot : IsReceiveSpot (row_at c.self.inside.rows.items 0) c.args.port c.args.slot c.args.number
  read : c.index_mut.result.now ≡ row_at c.self.inside.rows.items 0

first : (c : After-index_mut) → First c
first c =
    let rows = c.self.inside.rows.items in
    let index = get nat_eq c.self.inside.indices in
    let within = has_row rows (Rx c.args.port c.args.slot) (rw (← c.self.view_is) at c.requires.there) in
    let there = first_port rows c.index.result.now c.args.port.0 within c.index.ensures (c.is_of.ensures c.if-is_of.true) in
    let found = c.self.invariant.found 0 c.args.port.0 there in
    record {
      there = there;
      spot = spot_found rows index 0 c.args.port c.args.slot c.args.number c.self.invariant found (rw (← c.self.view_is) at c.requires.tables) (rw (← c.self.view_is) at c.requires.there);
      read = row_read rows 0 c.index_mut.result.now within c.index_mut.ensures.value;
    }

pub put_received_at-requires : goal.put_received_at-requires
put_received_at-requires c = let f = first (goal.at.put_received_at-requires c).After-index_mut in rw (f.read) f.spot.within

pub invariant_of-self : goal.invariant_of-self
invariant_of-self c =
    let f = first (goal.at.invariant_of-self c).After-index_mut in
    rw (c.put_received_at.ensures, f.read, f.spot.put) (indexed-put c.self.inside.rows.items (get nat_eq c.self.inside.indices) 0 (Rx c.args.port c.args.slot) c.args.number c.self.invariant)

pub returns-then-is_of : goal.returns-then-is_of
returns-then-is_of c =
    let f = first (goal.at.returns-then-is_of c).After-index_mut in
    let rows = c.self.inside.rows.items in
    let put = put-row rows 0 (Rx c.args.port c.args.slot) c.args.number (apart-indexed rows (get nat_eq c.self.inside.indices) c.self.invariant) f.there in
    rw (← c.self.view_is, put, c.put_received_at.ensures, f.read, f.spot.put) refl
