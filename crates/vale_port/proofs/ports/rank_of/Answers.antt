use Rattle.std.proofs.Common.{rules}
use Rattle.std.proofs.lemmas.List.Sorted.{IsPartitionPoint-from_clause}
use Rattle.vale_port.specs.Ports.{is_state_before}
use Rattle.vale_port.proofs.ByRisingIds.{parted, rank-found, blank}
use Rattle.vale_port.proofs.ports.rank_of.Goals as goal

pub returns-clause-rank : goal.returns-clause-rank
returns-clause-rank c =
    let ports = c.args.ports.now in
    let id = c.args.id.0 in
    let cut = parted id ports c.requires in
    let point = IsPartitionPoint-from_clause (is_state_before id) ports c.partition_point.result c.partition_point.ensures.partitioned cut (λ a r q k. search rules) in
    rank-found id ports blank c.partition_point.result c.partition_point.ensures.bound point
