use Rattle.std.proofs.Common.{◌≡◌, ◌≤◌}
use Rattle.std.specs.Vec.{vec_len, vec_capacity}
use Rattle.bench.specs.Ports.{first_ports}
use Rattle.bench.proofs.batch.make_ports.Given as goal

abbrev pub invariant-loop-port : goal.invariant-loop-port
invariant-loop-port l = record {
  ports : l.ports.items ≡ first_ports l.port;
  count : vec_len l.ports ≡ l.port;
  room : 16 ≤ vec_capacity l.ports;
}
