use Rattle.std.proofs.Common.{ℕ, nat_le, ◌≡◌, ◌<◌, ◌≤◌, None, length, drop, reverse, refl, sym, arith}
use Rattle.std.specs.Vec.{vec_capacity}
use Rattle.nm_port.specs.declared.port.UserPort.{UserPort}
use Rattle.nm_port.specs.Own.{slots_at}
use Rattle.nm_port.specs.Closing.{AreTaken}
use Rattle.nm_port.specs.Lending.{AreOut, AreNamedAs, place_of_run}
use Rattle.nm_port.proofs.Checked.{no_ring}
use Rattle.nm_own.specs.LentSides.{lent_count_of, lent_places, lent_run, unnamed_count}
use Rattle.nm_own.proofs.Closing.{out_before, out_regions}
use Rattle.nm_own.proofs.Passing.{Passes, passes_of, ring_is, positions_fit}
use Rattle.nm_own.proofs.LentSides.{PushLends, push_lends, indices_lent, bytes_lent, count_lent}
use Rattle.nm_own.proofs.lending.lend.Goals as goal
use Rattle.nm_own.proofs.lending.lend.Goals.{In-Some}

-- the ring that was found passes the checks
passing : (c : In-Some) → (p : UserPort) × Passes c.own.inside.hold c.own.inside.ports.items c.args.side c.args.port p c.in-Some.ring.now
passing c = passes_of c.own.inside c.args.side c.args.port c.in-Some.ring.now c.own.invariant (sym (rw (c.in-Some.is, c.deref.ensures.value) at c.ring_at.ensures)) (rw (← c.own.view_is) at c.requires.passes)

lends : (c : In-Some) → PushLends c.own.inside.hold c.own.inside.ports.items c.args.side c.args.port c.in-Some.ring.now
lends c = let x = passing c in push_lends c.own.inside.hold c.own.inside.ports.items c.args.side c.args.port x.0 c.in-Some.ring.now x.1

pub exchange_noted-requires-clause-can : goal.exchange_noted-requires-clause-can
exchange_noted-requires-clause-can c = (lends (goal.at.exchange_noted-requires-clause-can c).In-Some).can

pub exchange_noted-requires-clause-ring : goal.exchange_noted-requires-clause-ring
exchange_noted-requires-clause-ring c =
    let x = passing (goal.at.exchange_noted-requires-clause-ring c).In-Some in
    ring_is c.own.inside.hold c.own.inside.ports.items c.args.side c.args.port x.0 c.in-Some.ring.now x.1

pub exchange_noted-requires-clause-room : goal.exchange_noted-requires-clause-room
exchange_noted-requires-clause-room c =
    let x = lends (goal.at.exchange_noted-requires-clause-room c).In-Some in
    let room : lent_count_of c.args.side c.in-Some.ring.now ≤ vec_capacity c.args.notes = rw (← x.number) (rw (← c.own.view_is) at c.requires.notes_room) in
    omega (arith, room, x.pushed)

pub unreachable-requires : goal.unreachable-requires
unreachable-requires c =
    let none : None ≡ slots_at c.args.side c.own.inside.ports.items c.args.port.0 = rw (c.in-None.is, c.deref.ensures.value) at c.ring_at.ensures in
    no_ring c.own.inside.hold c.own.inside.ports.items c.args.side c.args.port.0 (sym none) (rw (← c.own.view_is) at c.requires.ring)

pub lent_slots-first-requires : goal.lent_slots-first-requires
lent_slots-first-requires c =
    let x = passing (goal.at.lent_slots-first-requires c).In-Some in
    (positions_fit c.own.inside.hold c.own.inside.ports.items c.args.side c.args.port x.0 c.in-Some.ring.now x.1).head_within

pub take_slots-requires-clause-room : goal.take_slots-requires-clause-room
take_slots-requires-clause-room c =
    let x = lends (goal.at.take_slots-requires-clause-room c).In-Some in
    rw (c.lent_slots-first.ensures.count, ← x.number) (rw (← c.own.view_is) at c.requires.room)

pub take_slots-requires-clause-count : goal.take_slots-requires-clause-count
take_slots-requires-clause-count c =
    let x = lends (goal.at.take_slots-requires-clause-count c).In-Some in
    rw (c.size-size.ensures.size, c.ring.ensures.ring, c.lent_slots-first.ensures.count) (omega (arith, x.few))

pub take_slots-requires-clause-first : goal.take_slots-requires-clause-first
take_slots-requires-clause-first c =
    let x = lends (goal.at.take_slots-requires-clause-first c).In-Some in
    rw (c.size-size.ensures.size, c.ring.ensures.ring, c.lent_slots-first.ensures.first) x.within

pub take_slots-requires-clause-held : goal.take_slots-requires-clause-held
take_slots-requires-clause-held c k below =
    let x = lends (goal.at.take_slots-requires-clause-held c).In-Some in
    let few : k < lent_count_of c.args.side c.in-Some.ring.now = rw c.lent_slots-first.ensures.count at below in
    rw (c.side.ensures, c.size-size.ensures.size, c.ring.ensures.ring, c.lent_slots-first.ensures.first) (x.held c.exchange_noted.new.hold c.exchange_noted.ensures.exchanged k few)

pub returns : goal.returns
returns c =
    let h = c.own.inside.hold in
    let ports = c.own.inside.ports.items in
    let side = c.args.side in
    let id = c.args.port in
    let r = c.in-Some.ring.now in
    let p = passes_of c.own.inside side id r c.own.invariant (sym (rw (c.in-Some.is, c.deref.ensures.value) at c.ring_at.ensures)) (rw (← c.own.view_is) at c.requires.passes) in
    let x = push_lends h ports side id p.0 r p.1 in
    let h1 = c.exchange_noted.new.hold in
    let h2 = c.take_slots.new.hold in
    let exchange = c.exchange_noted.ensures.exchanged in
    let before = c.args.to.now.items in
    let after = c.take_slots.new.back.items in
    let taken : AreTaken h1 h2 (lent_places side id r) before after =
    rw (c.side.ensures, c.size-size.ensures.size, c.ring.ensures.ring, c.lent_slots-first.ensures.count, c.lent_slots-first.ensures.first) at c.take_slots.ensures.taken in
    let out : (unnamed : ℕ) → ((k : ℕ) → k < lent_count_of side r → AreNamedAs (nat_le unnamed k) h1 (place_of_run (lent_run side id r) k)) → AreOut h1 (lent_run side id r) unnamed (reverse (drop (length before) after)) h2 =
    rw (c.side.ensures, c.size-size.ensures.size, c.ring.ensures.ring, c.lent_slots-first.ensures.count, c.lent_slots-first.ensures.first) at c.take_slots.ensures.out in
    record {
      lent = record {
        was = h;
        exchanged = h1;
        r = r;
        seen = sym c.own.view_is;
        kept = c.own.invariant;
        ring = p.1.at;
        passes = p.1.passes;
        exchange = exchange;
        swapped = c.exchange_noted.ensures.swapped;
        few = c.exchange_noted.ensures.few;
        lent_count = count_lent h ports side id r x h1 h2 exchange before after taken;
        out = out (unnamed_count side r) (x.named h1 exchange);
      };
      port = refl;
      before = out_before taken;
      buffers = rw (← c.own.view_is) (indices_lent h ports side id r x h1 h2 exchange before after taken);
      bytes = rw (← c.own.view_is) (bytes_lent h ports side id r x h1 h2 exchange before after taken);
      capacity = c.take_slots.ensures.capacity;
      out = λ region of. out_regions taken region h ports c.args.own c.own.view_is exchange.bufs of;
    }
