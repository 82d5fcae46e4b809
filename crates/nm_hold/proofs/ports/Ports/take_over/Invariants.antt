use Rattle.std.proofs.Common.{◌≡◌, ◌≤◌, ◌+◌, ◌++◌, length, reverse}
use Rattle.std.specs.Vec.{vec_len}
use Rattle.nm_hold.specs.Offsets.{ArePortsOnce}
use Rattle.nm_hold.specs.Tables.{ports_of}
use Rattle.nm_hold.specs.Indexed.{tables_present}
use Rattle.nm_hold.proofs.ports.Ports.take_over.Given as goal

abbrev pub invariant-loop-row : goal.invariant-loop-row
invariant-loop-row l = record {
  joined : l.self.tables ++ tables_present (reverse l.rows.items) ≡ l.fn.others.tables;
  once : ArePortsOnce (ports_of l.fn.others.tables);
  spare : l.fn.self.spare ≤ l.self.spare + length l.self.tables;
  room : length l.fn.others.tables ≤ l.fn.self.spare;
}

abbrev pub decreases-loop-row : goal.decreases-loop-row
decreases-loop-row l = vec_len l.rows
