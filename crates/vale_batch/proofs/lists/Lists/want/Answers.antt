use Rattle.std.proofs.Common.{◌<◌, List, length, map, ap, sym, ◌∙◌, arith}
use Rattle.std.specs.Prelude.{Some}
use Rattle.vale_batch.specs.declared.alone.Placed.{Placed}
use Rattle.vale_batch.specs.Wants.{Wanted, owned, want_seen, want_of, flooded_to}
use Rattle.vale_batch.proofs.Merging.{wants-length, want-found, few-found, count-merged}
use Rattle.vale_batch.proofs.lists.Lists.want.Goals as goal

pub want_of-requires : goal.want_of-requires
want_of-requires c =
    let inside = c.self.inside in
    let own = c.index-own.result.now in
    let size = wants-length inside.from inside.flooded.items inside.owns.items in
    let before : c.args.i < length (map (want_seen inside.from inside.flooded.items) (map owned inside.owns.items)) = rw (← c.self.view_is) at c.requires in
    let few = few-found inside.from inside.flooded.items inside.owns.items c.args.i own (omega (arith, size, before)) c.index-own.ensures c.self.invariant in
    let counted = count-merged inside.from inside.flooded.items (owned own) in
    let frames = ap (λ (ps : List Placed). length ps) c.deref-2.ensures.value in
    let lent = ap (λ (ps : List Placed). length ps) (c.flooded_to-flooded.ensures ∙ ap (λ (ps : List Placed). flooded_to inside.from ps own.to) c.deref.ensures.value) in
    omega (arith, few, counted, frames, lent)

pub returns : goal.returns
returns c =
    let inside = c.self.inside in
    let own = c.index-own.result.now in
    let size = wants-length inside.from inside.flooded.items inside.owns.items in
    let before : c.args.i < length (map (want_seen inside.from inside.flooded.items) (map owned inside.owns.items)) = rw (← c.self.view_is) at c.requires in
    let lent = c.flooded_to-flooded.ensures ∙ ap (λ (ps : List Placed). flooded_to inside.from ps own.to) c.deref.ensures.value in
    let made = c.in_ok-want_of.ensures ∙ (ap (λ (ps : List Placed). want_of own.to ps c.flooded_to-flooded.result.now) c.deref-2.ensures.value ∙ ap (λ (ps : List Placed). want_of own.to own.frames.items ps) lent) in
    rw (← c.self.view_is) (want-found inside.from inside.flooded.items inside.owns.items c.args.i own (omega (arith, size, before)) c.index-own.ensures ∙ ap (λ (w : Wanted). Some w) (sym made))
