use Rattle.std.proofs.Common.{◌<◌, List, length, map, ap, ◌∙◌, arith}
use Rattle.vale_batch.specs.declared.alone.Placed.{Placed}
use Rattle.vale_batch.specs.Wants.{owned, want_seen}
use Rattle.vale_batch.proofs.Merging.{wants-length, dest-found, few-found}
use Rattle.vale_batch.proofs.lists.Lists.dest.Goals as goal

pub overflow_cast-count : goal.overflow_cast-count
overflow_cast-count c =
    let inside = c.self.inside in
    let size = wants-length inside.from inside.flooded.items inside.owns.items in
    let before : c.args.i < length (map (want_seen inside.from inside.flooded.items) (map owned inside.owns.items)) = rw (← c.self.view_is) at c.requires in
    let few = few-found inside.from inside.flooded.items inside.owns.items c.args.i c.index-own.result.now (omega (arith, size, before)) c.index-own.ensures c.self.invariant in
    let count = c.count_of-count.ensures ∙ ap (λ (ps : List Placed). length (want_seen inside.from ps (owned c.index-own.result.now)).places) c.deref.ensures.value in
    omega (arith, few, count)

pub returns : goal.returns
returns c =
    let inside = c.self.inside in
    let size = wants-length inside.from inside.flooded.items inside.owns.items in
    let before : c.args.i < length (map (want_seen inside.from inside.flooded.items) (map owned inside.owns.items)) = rw (← c.self.view_is) at c.requires in
    let count = c.count_of-count.ensures ∙ ap (λ (ps : List Placed). length (want_seen inside.from ps (owned c.index-own.result.now)).places) c.deref.ensures.value in
    rw (← c.self.view_is) (dest-found inside.from inside.flooded.items inside.owns.items c.args.i c.index-own.result.now c.count_of-count.result (omega (arith, size, before)) c.index-own.ensures count)
