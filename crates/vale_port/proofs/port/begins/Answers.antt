use Rattle.std.proofs.Common.{◌≡◌, ◌<◌, length, sym, arith, rules}
use Rattle.vale_port.proofs.OnSwitch.{begins-same, begins-other}
use Rattle.vale_port.proofs.port.begins.Goals as goal

pub returns : goal.returns
returns c =
    let end : c.loop-i.i ≡ length c.args.with.now = search rules in
    sym (begins-same c.args.text.now c.args.with.now c.requires (λ k less. c.loop-i.invariant k (omega (arith, less, end))))

pub returns-then-text-i : goal.returns-then-text-i
returns-then-text-i c =
    let less : c.loop-i.i < length c.args.with.now = search rules in
    sym (begins-other c.args.text.now c.args.with.now c.loop-i.i less (search rules))
