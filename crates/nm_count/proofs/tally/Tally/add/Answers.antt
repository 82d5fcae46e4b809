use Rattle.std.proofs.Common.{◌≡◌, ◌≤◌, length, arith}
use Rattle.nm_types.specs.Limits.{most_ports}
use Rattle.nm_count.specs.Tallies.{tally_after_add}
use Rattle.nm_count.proofs.TallyLemmas.{length-tally_after_add, rising-tally_after_add}
use Rattle.nm_count.proofs.tally.Tally.add.Goals as goal

pub invariant_of-self : goal.invariant_of-self
invariant_of-self c =
    let ports = c.self.inside.ports.items in
    let port = c.args.port.0 in
    let more = c.args.more.now in
    let sums = c.add_at.ensures.sums in
    let room = c.add_at.ensures.capacity in
    let few = c.self.invariant.0.few in
    let same : length (tally_after_add port more ports) ≡ length ports = length-tally_after_add port more ports in
    let most : most_ports ≤ c.self.inside.ports.cap = c.self.invariant.1 in
    (record { rising = rw sums (rising-tally_after_add port more ports c.self.invariant.0.rising); few = rw sums (omega arith) }, rw room most)
