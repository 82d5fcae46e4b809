use Rattle.std.proofs.Common.{◌++◌, Option, ap, sym, ◌∙◌}
use Rattle.nm_reach.specs.Fields.{Run}
use Rattle.vale_line.specs.declared.got.Got.{Got}
use Rattle.vale_line.proofs.RingLemmas.{published-first, some-lot, first-some, first-held, first-meets}
use Rattle.vale_line.proofs.ring.Ring.give_first.Goals as goal

pub into_parts-reach-requires : goal.into_parts-reach-requires
into_parts-reach-requires c = record { done = first-some c.args.self.now.lots.items c.take_first.result c.take_first.ensures.first c.requires.done }

pub join-requires : goal.join-requires
join-requires c =
    let r = c.args.self.now in
    first-meets r c.take_first.new.self c.take_first.result c.into_parts-reach.result.0 c.requires.ring (some-lot r.lots.items c.requires.done)
    c.take_first.ensures.first c.take_first.ensures.others.1 c.into_parts-reach.ensures.reach

pub returns-clause-ring : goal.returns-clause-ring
returns-clause-ring c =
    let r = c.args.self.now in
    let took = c.take_first.ensures in
    let s = c.take_first.new.self in
    let others = took.others in
    published-first r s c.take_first.result c.join.new.self c.requires.ring (some-lot r.lots.items c.requires.done) took.first took.rest took.capacity
    others.0 others.1 others.2 others.3 (c.join.ensures ∙ ap (λ (run : Run (Option Got)). record s.given { values = s.given.values ++ run.values }) c.into_parts-reach.ensures.reach)

pub returns-clause-gots : goal.returns-clause-gots
returns-clause-gots c = sym (first-held c.args.self.now.lots.items c.take_first.result c.into_parts-reach.result.1 (some-lot c.args.self.now.lots.items c.requires.done) c.take_first.ensures.first c.into_parts-reach.ensures.gots)
