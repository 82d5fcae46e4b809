use Rattle.std.proofs.Common.{ℕ, ◌≡◌, ◌≤◌, false}
use Rattle.nm_hold.specs.Offsets.{has_port}
use Rattle.bench.proofs.look.open_ports.Given as goal

abbrev pub invariant-loop-port : goal.invariant-loop-port
invariant-loop-port l = record {
  cells : l.hold.cells ≡ l.fn.hold.cells;
  later : (other : ℕ) → l.port ≤ other → has_port l.hold.ports other ≡ false;
}
