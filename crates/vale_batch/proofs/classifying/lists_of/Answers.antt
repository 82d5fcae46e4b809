use Rattle.std.proofs.Common.{◌≡◌, map, rules}
use Rattle.std.specs.Prelude.{filter}
use Rattle.vale_batch.specs.Wants.{owned, want_seen, wants_some}
use Rattle.vale_batch.proofs.Merging.{lists-are, lists-few}
use Rattle.vale_batch.proofs.classifying.lists_of.Goals as goal

pub invariant_of-result : goal.invariant_of-result
invariant_of-result c =
    let from = c.args.from in
    let flooded = c.in_ok-flooded.flooded.items in
    let kept : map (want_seen from flooded) (map owned c.keep_wanting.new.owns.items) ≡ filter wants_some (map (want_seen from flooded) (map owned c.in_ok-owns.owns.items)) = search rules in
    lists-few from c.args.all.now c.args.ports.now flooded c.in_ok-owns.owns.items c.keep_wanting.new.owns.items c.requires.few c.in_ok-flooded.ensures c.in_ok-owns.ensures kept

pub returns-clause-wants : goal.returns-clause-wants
returns-clause-wants c =
    let from = c.args.from in
    let flooded = c.in_ok-flooded.flooded.items in
    let kept : map (want_seen from flooded) (map owned c.keep_wanting.new.owns.items) ≡ filter wants_some (map (want_seen from flooded) (map owned c.in_ok-owns.owns.items)) = search rules in
    lists-are from c.args.all.now c.args.ports.now flooded c.in_ok-owns.owns.items c.keep_wanting.new.owns.items c.in_ok-flooded.ensures c.in_ok-owns.ensures kept
