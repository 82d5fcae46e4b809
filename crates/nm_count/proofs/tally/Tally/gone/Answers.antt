use Rattle.std.proofs.Common.{◌≡◌, ◌≤◌, not, arith, rules}
use Rattle.std.proofs.lemmas.Fn.{filter_same}
use Rattle.nm_types.specs.Limits.{most_ports}
use Rattle.nm_count.specs.Tallies.{is_port, tally_without}
use Rattle.nm_count.proofs.TallyLemmas.{rising-tally_without, length-tally_without}
use Rattle.nm_count.proofs.tally.Tally.gone.Goals as goal

pub invariant_of-self : goal.invariant_of-self
invariant_of-self c =
    let ports = c.self.inside.ports.items in
    let port = c.args.port.0 in
    let left : c.retain.new.self.items ≡ tally_without port ports = filter_same _ (λ t. not (is_port port t)) _ (λ x b q k. search rules) _ _ c.retain.ensures.filtered in
    let few = c.self.invariant.0.few in
    let fewer = length-tally_without port ports in
    let room = c.retain.ensures.capacity in
    let most : most_ports ≤ c.self.inside.ports.cap = c.self.invariant.1 in
    (record { rising = rw left (rising-tally_without port ports c.self.invariant.0.rising); few = rw left (omega arith) }, rw room most)

pub returns : goal.returns
returns c =
    let port = c.args.port.0 in
    rw (← c.self.view_is) (filter_same _ (λ t. not (is_port port t)) _ (λ x b q k. search rules) _ _ c.retain.ensures.filtered)
