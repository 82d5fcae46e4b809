use Rattle.std.proofs.Common.{ℕ, ◌∙◌, Some, ap, arith}
use Rattle.nm_own.proofs.Linking.{extra_seen, no_extra}
use Rattle.nm_own.proofs.extras.extra_at.Goals as goal

pub returns-then-at-port : goal.returns-then-at-port
returns-then-at-port c = ap (λ (n : ℕ). Some n) c.number_at.ensures ∙ extra_seen c.args.hold.now c.args.port.now c.args.at (omega (arith, c.if-at-port.true))

pub returns-else-at-port : goal.returns-else-at-port
returns-else-at-port c = no_extra c.args.hold.now c.args.port.now c.args.at (omega (arith, c.if-at-port.false))
