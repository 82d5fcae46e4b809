use Rattle.std.proofs.Common.{◌<◌, arith}
use Rattle.std.proofs.lemmas.List.{length-replicate}
use Rattle.vale_batch.specs.Looking.{looked_one}
use Rattle.vale_batch.proofs.ToOne.{alike-some, alike-sole, alike-none}
use Rattle.vale_batch.proofs.sole.sole_alike.Goals as goal

pub returns-then-count-eq0-clause-none : goal.returns-then-count-eq0-clause-none
returns-then-count-eq0-clause-none c = λ port some alone.
    let long = length-replicate c.args.count (looked_one c.args.to) in
    let none = c.if-count-eq0.true in
    omega (arith, some, long, none)

pub returns-clause-some : goal.returns-clause-some
returns-clause-some c =
    let more = c.if-count-eq0.false in
    let some : 0 < c.args.count = omega (arith, more) in
    alike-some c.args.to c.args.count c.only_port.result some

pub returns-clause-alone : goal.returns-clause-alone
returns-clause-alone c = alike-sole c.args.to c.args.count c.only_port.result c.only_port.ensures.some

pub returns-clause-none : goal.returns-clause-none
returns-clause-none c = alike-none c.args.to c.args.count c.only_port.result c.only_port.ensures.none
