use Rattle.std.proofs.Common.{ℕ, ◌≡◌, map, slice_set, Some, refl, sym, ◌∙◌, ap}
use Rattle.nm_types.specs.Exchange.{swapped}
use Rattle.nm_hold.proofs.Steps.{put_are_tables}
use Rattle.nm_hold.specs.Tables.{number_at, put_in}
use Rattle.nm_hold.specs.Holds.{cell_at, places_in, is_named_in}
use Rattle.nm_hold.proofs.Tied.{tied-same, number_if-some, held-number}
use Rattle.nm_hold.proofs.Shown.{held_has_number, cell_there, number_if-is, IsHold-stored}
use Rattle.nm_hold.proofs.Exchanging.{Done, swapped-same, places_stay, put_both, ports_of-put_both, numbers_stay, done}
use Rattle.nm_hold.proofs.hold.Hold.exchange.Goals as goal
use Rattle.nm_hold.proofs.hold.Hold.exchange.Goals.{After-standing_mut-2}

pub standing_mut-requires : goal.standing_mut-requires
standing_mut-requires c = cell_there c.self.inside.cells c.self.inside.ports.tables c.args.place c.displace-was.result c.self.invariant.tied (rw (← c.self.view_is) at c.requires.held) c.displace-was.ensures.number

-- a buffer that changes places with itself
pub invariant_of-self : goal.invariant_of-self
invariant_of-self c =
    let inv = c.self.invariant in
    let cells = c.self.inside.cells in
    let tables = c.self.inside.ports.tables in
    let p = c.args.place in
    let idx = c.args.idx in
    let t = c.standing.result.now in
    let held : number_at tables p ≡ idx = sym c.displace-was.ensures.number ∙ c.if-was-idx.true in
    let same : c.displace-was.new.self.tables ≡ put_both p idx t.home.place idx tables =
    c.displace-was.ensures.tables ∙ ap (λ (n : ℕ). map (put_in t.home.place n) (map (put_in p idx) tables)) c.if-was-idx.true in
    record {
      low = inv.low;
      high = inv.high;
      tables = rw same (put_are_tables t.home.place idx (map (put_in p idx) tables) (put_are_tables p idx tables inv.tables));
      once = rw (same, ports_of-put_both p idx t.home.place idx tables) inv.once;
      tied = rw same (tied-same cells tables (put_both p idx t.home.place idx tables) inv.tied (numbers_stay cells tables p idx t inv.tables inv.tied held c.standing.ensures));
    }

pub returns-then-was-idx-clause-places : goal.returns-then-was-idx-clause-places
returns-then-was-idx-clause-places c q =
    let cells = c.self.inside.cells in
    let tables = c.self.inside.ports.tables in
    let tied = c.self.invariant.tied in
    let some = held_has_number cells tables c.args.place tied (rw (← c.self.view_is) at c.requires.held) in
    let at : number_at tables c.args.place ≡ c.args.idx = sym c.displace-was.ensures.number ∙ c.if-was-idx.true in
    let held = held-number cells tables c.args.place tied ∙ (number_if-some (number_at tables c.args.place) some ∙ ap (λ (n : ℕ). Some n) at) in
    rw (← c.self.view_is) (places_stay (places_in cells) c.args.place c.args.idx held q)

pub returns-then-was-idx-clause-named : goal.returns-then-was-idx-clause-named
returns-then-was-idx-clause-named c was i e =
    let cells = c.self.inside.cells in
    let tables = c.self.inside.ports.tables in
    let held = held-number cells tables c.args.place c.self.invariant.tied in
    let at = (number_if-is (number_at tables c.args.place) was (sym held ∙ (rw (← c.self.view_is) at e))).0 in
    let idx : was ≡ c.args.idx = sym at ∙ (sym c.displace-was.ensures.number ∙ c.if-was-idx.true) in
    rw (← c.self.view_is, idx, swapped-same c.args.idx i) refl

pub returns-then-was-idx-clause-ports : goal.returns-then-was-idx-clause-ports
returns-then-was-idx-clause-ports c =
    let tables = c.self.inside.ports.tables in
    let t = c.standing.result.now in
    rw (← c.self.view_is, c.displace-was.ensures.tables) (ports_of-put_both c.args.place c.args.idx t.home.place c.displace-was.result tables)

pub returns-then-was-idx-clause-hold : goal.returns-then-was-idx-clause-hold
returns-then-was-idx-clause-hold c = let inv = invariant_of-self c in IsHold-stored _ _ inv.low inv.high inv.tables inv.once inv.tied

-- what the exchange made
exchanging : (c : After-standing_mut-2)
    → Done c.self.inside.cells c.self.inside.ports.tables c.displace-was.new.self.tables
    (slice_set (slice_set c.self.inside.cells c.displace-was.result (Some (record { home = c.replace-here.new.dest; buf = c.standing_mut.result.now.buf }))) c.args.idx (Some (record { home = c.replace-here.result; buf = c.standing_mut-2.result.now.buf })))
    c.args.place c.args.idx
exchanging c =
    done c.self.inside.cells c.self.inside.ports.tables c.displace-was.new.self.tables c.args.place c.args.idx c.displace-was.result c.standing_mut.result.now c.standing.result.now c.standing_mut-2.result.now
    c.replace-here.new.dest c.replace-here.result c.self.invariant.tables c.self.invariant.tied c.displace-was.ensures.number c.standing_mut.ensures.standing c.standing.ensures
    c.replace-here.ensures.after c.replace-here.ensures.value c.standing_mut-2.ensures.standing c.if-was-idx.false c.displace-was.ensures.tables

pub invariant_of-self-2 : goal.invariant_of-self-2
invariant_of-self-2 c =
    let inv = c.self.invariant in
    let tables = c.self.inside.ports.tables in
    let d = exchanging (goal.at.invariant_of-self-2 c).After-standing_mut-2 in
    record {
      low = rw d.count inv.low;
      high = rw d.count inv.high;
      tables = d.all;
      once = rw d.ports inv.once;
      tied = d.tied;
    }

pub returns-clause-places : goal.returns-clause-places
returns-clause-places c q =
    let d = exchanging (goal.at.returns-clause-places c).After-standing_mut-2 in
    rw (← c.self.view_is) (d.places q)

pub returns-clause-buffers : goal.returns-clause-buffers
returns-clause-buffers c i =
    let d = exchanging (goal.at.returns-clause-buffers c).After-standing_mut-2 in
    rw (← c.self.view_is) (d.bufs i)

pub returns-clause-all : goal.returns-clause-all
returns-clause-all c =
    let d = exchanging (goal.at.returns-clause-all c).After-standing_mut-2 in
    rw (← c.self.view_is) d.buffers

pub returns-clause-named : goal.returns-clause-named
returns-clause-named c was i e =
    let inv = c.self.invariant in
    let cells = c.self.inside.cells in
    let tables = c.self.inside.ports.tables in
    let d = exchanging (goal.at.returns-clause-named c).After-standing_mut-2 in
    let held = held-number cells tables c.args.place inv.tied in
    let at = (number_if-is (number_at tables c.args.place) was (sym held ∙ (rw (← c.self.view_is) at e))).0 in
    rw (← c.self.view_is) (d.named i ∙ ap (λ (n : ℕ). is_named_in (cell_at cells (swapped n c.args.idx i))) at)

pub returns-clause-ports : goal.returns-clause-ports
returns-clause-ports c =
    let d = exchanging (goal.at.returns-clause-ports c).After-standing_mut-2 in
    rw (← c.self.view_is) d.ports

pub returns-clause-hold : goal.returns-clause-hold
returns-clause-hold c = let inv = invariant_of-self-2 c in IsHold-stored _ _ inv.low inv.high inv.tables inv.once inv.tied
