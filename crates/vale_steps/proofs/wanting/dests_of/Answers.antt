use Rattle.std.proofs.Common.{rules, ◌≡◌, List, subst}
use Rattle.std.specs.Prelude.{IfOk}
use Rattle.std.proofs.lemmas.Iterator.{items_from_collect, YieldsList-from_slice, YieldsList-from_map}
use Rattle.vale_entry.specs.declared.entry.Dest.{Dest}
use Rattle.vale_steps.specs.Wanting.{dest_in}
use Rattle.vale_steps.proofs.MonitoredWants.{dests-seen}
use Rattle.vale_steps.proofs.wanting.dests_of.Goals as goal

pub returns : goal.returns
returns c =
    subst (λ (ds : List Dest). IfOk c.collect.result (λ all. all.items ≡ ds)) (dests-seen c.args.wants.now)
    (items_from_collect c.collect.result c.collect.ensures.ran
    (YieldsList-from_map _ dest_in (YieldsList-from_slice c.args.wants.now (cc)) c.map.ensures.closure (λ x r q k. search rules)))
