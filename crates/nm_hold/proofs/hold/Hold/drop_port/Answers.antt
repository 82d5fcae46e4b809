use Rattle.std.proofs.Common.{◌≡◌, sym, ◌∙◌, refl}
use Rattle.std.proofs.lemmas.List.Elements.{All-from_recursion, recursion_from_All}
use Rattle.nm_types.specs.declared.place.Place.{Place}
use Rattle.nm_hold.specs.Tables.{IsTable, ports_of, number_at}
use Rattle.nm_hold.specs.Holds.{port_of}
use Rattle.nm_hold.proofs.Numbers.{without, number-without, tables-without, ports_of-without}
use Rattle.nm_hold.proofs.Tied.{tied-same, held-number}
use Rattle.nm_hold.proofs.Shown.{number_if-none, once-without, IsHold-stored}
use Rattle.nm_hold.proofs.hold.Hold.drop_port.Goals as goal

pub invariant_of-self : goal.invariant_of-self
invariant_of-self c =
    let inv = c.self.invariant in
    let cells = c.self.inside.cells in
    let tables = c.self.inside.ports.tables in
    let port = c.args.port.0 in
    let kept : c.remove.new.self.tables ≡ without port tables = c.remove.ensures.tables in
    let empty : (p : Place) → port_of p ≡ port → number_at tables p ≡ 0 = (λ p e.
    let none = rw (← c.self.view_is) at (c.requires p e) in
    number_if-none (number_at tables p) (sym (held-number cells tables p inv.tied) ∙ none)) in
    record {
      low = inv.low;
      high = inv.high;
      tables = rw kept (All-from_recursion IsTable (without port tables) (tables-without port tables (recursion_from_All IsTable tables inv.tables)));
      once = rw (kept, ports_of-without port tables) (once-without port (ports_of tables) inv.once);
      tied = rw kept (tied-same cells tables (without port tables) inv.tied (λ p. number-without port tables p (empty p)));
    }

pub returns-clause-ports : goal.returns-clause-ports
returns-clause-ports c =
    let tables = c.self.inside.ports.tables in
    let port = c.args.port.0 in
    let kept : c.remove.new.self.tables ≡ without port tables = c.remove.ensures.tables in
    rw (← c.self.view_is, kept, ports_of-without port tables) refl

pub returns-clause-hold : goal.returns-clause-hold
returns-clause-hold c = let inv = invariant_of-self c in IsHold-stored _ _ inv.low inv.high inv.tables inv.once inv.tied
