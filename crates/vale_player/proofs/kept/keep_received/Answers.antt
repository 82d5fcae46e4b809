use Rattle.std.proofs.Common.{◌≡◌, ◌∙◌, List, Option, length, map, sym, ap}
use Rattle.std.proofs.lemmas.List.{with_items_is, length-map}
use Rattle.nm_user.specs.declared.receiving.Received.{Received}
use Rattle.vale_player.specs.Kept.{KeptFrames, grown_if, kept_received}
use Rattle.vale_player.proofs.kept.keep_received.Goals as goal

pub returns : goal.returns
returns c =
    let own = c.args.session.now.own in
    let kept = c.args.kept in
    let grown = grown_if own c.args.port.0 c.args.tail c.in-Some.received in
    let new : c.grow_all.new.kept ≡ map grown kept.items = c.in_ok-grow_all.ensures ∙ ap (map grown) c.as_mut_slice.ensures.value in
    let count : length c.grow_all.new.kept ≡ kept.len = ap (λ (all : List KeptFrames). length all) new ∙ (length-map kept.items grown ∙ sym (kept.ok.0)) in
    with_items_is kept c.grow_all.new.kept count ∙ (new ∙ ap (λ (got : Option Received). kept_received own c.args.port.0 c.args.tail got kept.items) (sym c.in-Some.is))
