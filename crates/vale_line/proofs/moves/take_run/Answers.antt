use Rattle.std.proofs.Common.{◌-◌, List, length, ap, refl, arith}
use Rattle.std.proofs.lemmas.List.{length-append}
use Rattle.vale_line.specs.declared.got.Got.{Got}
use Rattle.vale_line.specs.Cells.{gots_in}
use Rattle.vale_line.proofs.CellLemmas.{gots-most}
use Rattle.vale_line.proofs.RunLemmas.{FrontEmptied, front-full, back-full, counts-both, all-empty, moved-both}
use Rattle.vale_line.proofs.moves.take_run.Goals as goal
use Rattle.vale_line.proofs.moves.take_run.Goals.{After-back_mut}

-- both parts, of which the first was emptied before the second is
emptied : (c : After-back_mut) → FrontEmptied (c.args.run.now.size - c.args.run.now.start) c.args.run.now.values c.front_mut.result.now c.take_gots-front.new.cells c.back_mut.result.now
emptied c = record { front_is = c.front_mut.ensures.value; w_is = c.take_gots-front.ensures.cells; back_is = c.back_mut.ensures.value }

pub take_gots-front-requires-clause-full : goal.take_gots-front-requires-clause-full
take_gots-front-requires-clause-full c =
    let run = c.args.run.now in
    front-full (run.size - run.start) run.values c.front_mut.result.now c.front_mut.ensures.value c.requires.full

pub take_gots-requires-clause-full : goal.take_gots-requires-clause-full
take_gots-requires-clause-full c = back-full (emptied (goal.at.take_gots-requires-clause-full c).After-back_mut) c.requires.full

pub take_gots-requires-clause-room : goal.take_gots-requires-clause-room
take_gots-requires-clause-room c =
    let took = c.take_gots-front in
    let both = counts-both (emptied (goal.at.take_gots-requires-clause-room c).After-back_mut) in
    let most = gots-most c.front_mut.result.now in
    let now = ap length took.ensures.gots in
    let sum = length-append c.args.gots.items (gots_in c.front_mut.result.now) in
    let len = took.result.ok.0 in
    let was = c.args.gots.ok.0 in
    let same = took.ensures.capacity in
    let room = c.requires.room in
    omega (arith, both, most, now, sum, len, was, same, room)

pub returns-clause-empty : goal.returns-clause-empty
returns-clause-empty c = all-empty (emptied (goal.at.returns-clause-empty c).After-back_mut) c.take_gots.new.cells c.take_gots.ensures.cells

pub returns-clause-gots : goal.returns-clause-gots
returns-clause-gots c =
    let took = c.take_gots-front in
    moved-both (emptied (goal.at.returns-clause-gots c).After-back_mut)
    (λ (gs : List Got). gs) (λ gs hs. refl) c.args.gots.items took.result.items c.take_gots.result.items took.ensures.gots c.take_gots.ensures.gots
