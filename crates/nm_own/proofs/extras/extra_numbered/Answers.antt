use Rattle.std.proofs.Common.{ℕ, zero, suc, ◌≡◌, ◌<◌, ◌≤◌, ◌-◌, ◌∙◌, Some, ap, arith}
use Rattle.nm_types.specs.declared.place.Place.TheVariants as place
use Rattle.nm_hold.specs.Holds.{HoldState}
use Rattle.nm_port.specs.declared.port.UserPort.{UserPort}
use Rattle.nm_port.specs.Sides.{number_at}
use Rattle.nm_port.specs.Own.{port_seen}
use Rattle.nm_own.specs.ExtraChain.{extra_numbered}
use Rattle.nm_own.proofs.Linking.{no_number, number_seen}
use Rattle.nm_own.proofs.extras.extra_numbered.Goals as goal

pub returns-then-number-port : goal.returns-then-number-port
returns-then-number-port c = no_number c.args.hold.now c.args.port.now c.args.number (omega (arith, c.if-number-port.true))

from_one : (h : HoldState) (p : UserPort) (number : ℕ) → 0 < number → number ≤ p.extra → Some (number_at h (place.Extra p.id (number - 1))) ≡ extra_numbered number (port_seen h p)
from_one h p zero some within = absurd (omega arith)
from_one h p (suc at) some within = let one : suc at - 1 ≡ at = omega arith in rw one (number_seen h p at (omega arith))

pub returns-else-number-eq0 : goal.returns-else-number-eq0
returns-else-number-eq0 c =
    ap (λ (n : ℕ). Some n) c.number_at.ensures ∙ from_one c.args.hold.now c.args.port.now c.args.number (omega (arith, c.if-number-eq0.false)) (omega (arith, c.if-number-port.false))
