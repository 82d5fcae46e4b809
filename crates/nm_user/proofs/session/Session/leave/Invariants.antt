use Rattle.std.proofs.Common.{◌≡◌, length}
use Rattle.nm_user.proofs.LeavingPorts.{GoesOn}
use Rattle.nm_user.proofs.session.Session.leave.Given as goal

abbrev pub invariant-loop-port : goal.invariant-loop-port
invariant-loop-port g l = record {
  fabric : l.session.fabric ≡ l.initial.session.fabric;
  id : l.session.id ≡ l.initial.session.id;
  goes : GoesOn l.initial.session l.session;
}

abbrev pub decreases-loop-port : goal.decreases-loop-port
decreases-loop-port g l = length l.session.own.ports
