use Rattle.std.proofs.Common.{sym, arith}
use Rattle.nm_hold.proofs.Zeros.{number_set, given_begun, given_there}
use Rattle.nm_hold.proofs.number_table.NumberTable.change.Goals as goal

pub returns : goal.returns
returns c =
    let t = c.self.inside in
    let some = rw (← c.self.view_is) at c.requires in
    let begun = given_begun t.first t.count c.args.idx t.numbers.items some in
    let there = given_there t.first t.count c.args.idx t.numbers.items some in
    rw (← c.self.view_is) (sym (number_set t.first t.count c.args.idx c.args.number t.numbers.items begun (omega (arith, begun, there))))
