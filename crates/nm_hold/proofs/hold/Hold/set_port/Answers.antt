use Rattle.std.proofs.Common.{◌≡◌, ◌∙◌, ◌++◌, ◌∷◌, [], List, ap}
use Rattle.nm_hold.specs.declared.table.PortTable.{PortTable}
use Rattle.std.proofs.lemmas.List.{map-append}
use Rattle.nm_hold.specs.PortLists.{PortList}
use Rattle.nm_hold.specs.Tables.{ports_of}
use Rattle.nm_hold.specs.Ties.{IsBlank}
use Rattle.nm_hold.proofs.Numbers.{number-push}
use Rattle.nm_hold.proofs.Tied.{tied-same}
use Rattle.nm_hold.proofs.Shown.{tables-push, once-push, IsHold-stored}
use Rattle.nm_hold.proofs.hold.Hold.set_port.Goals as goal

pub invariant_of-self : goal.invariant_of-self
invariant_of-self c =
    let inv = c.self.invariant in
    let cells = c.self.inside.cells in
    let tables = c.self.inside.ports.tables in
    let table = c.room.inside.table in
    let kept = c.room.invariant in
    let new : PortTable = record table { places = record (table.places) { port = c.args.port } } in
    let blank : IsBlank new = record { table = record { sizes = kept.blank.table.sizes; full = kept.blank.table.full }; empty = kept.blank.empty } in
    let items : c.push.new.self.tables ≡ tables ++ new ∷ [] = c.push.ensures.tables ∙ ap (λ (ts : List PortTable). ts ++ new ∷ []) (c.take_over.ensures.tables ∙ ap (λ (p : PortList). p.tables) c.replace-others.ensures.value) in
    record {
      low = inv.low;
      high = inv.high;
      tables = rw items (tables-push tables new inv.tables blank.table);
      once = rw (items, map-append) (once-push (ports_of tables) new.places inv.once (rw (← c.self.view_is) at c.requires.new));
      tied = rw items (tied-same cells tables (tables ++ new ∷ []) inv.tied (λ p. number-push new tables p blank));
    }

pub returns-clause-hold : goal.returns-clause-hold
returns-clause-hold c = let inv = invariant_of-self c in IsHold-stored _ _ inv.low inv.high inv.tables inv.once inv.tied
