use Rattle.std.proofs.Common.{◌≡◌, [], length, ◌∙◌, ap, arith}
use Rattle.std.proofs.lemmas.Result.{IfOk-weaker}
use Rattle.vale_line.specs.Lines.{new_line}
use Rattle.bench.specs.Rounds.{IsAtRest}
use Rattle.bench.proofs.Opened.{length-opened, opened_err}
use Rattle.bench.proofs.Rounds.{line_opened}
use Rattle.bench.proofs.line.open_line.Goals as goal

pub new-requires : goal.new-requires
new-requires c =
    let count : length c.args.all.items ≡ 1024 = ap length c.requires.all ∙ (length-opened c.args.region.now ∙ c.requires.size) in
    record { size = (omega (arith, count), omega (arith, count)) }

pub returns-clause-ok : goal.returns-clause-ok
returns-clause-ok c = IfOk-weaker c.new.result (λ line. line ≡ new_line c.args.all.items) (λ line. IsAtRest c.args.region.now line [])
    (λ line is. line_opened c.args.region.now c.args.all.items line c.requires.all is) c.new.ensures.ok

pub returns-clause-err : goal.returns-clause-err
returns-clause-err c = opened_err c.new.result c.args.region.now c.args.all.items c.requires.all c.new.ensures.err
