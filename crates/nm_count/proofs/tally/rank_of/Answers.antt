use Rattle.std.proofs.Common.{rules}
use Rattle.std.proofs.lemmas.List.Sorted.{IsPartitionPoint-from_clause}
use Rattle.nm_count.specs.Tallies.{is_before}
use Rattle.nm_count.proofs.TallyLemmas.{partitioned, rank_found}
use Rattle.nm_count.proofs.tally.rank_of.Goals as goal

pub returns-clause-rank : goal.returns-clause-rank
returns-clause-rank c =
    let ports = c.args.ports.now in
    let port = c.args.port.0 in
    let parted = partitioned port ports c.requires in
    let point = IsPartitionPoint-from_clause (is_before port) ports c.partition_point.result c.partition_point.ensures.partitioned parted (λ a r q k. search rules) in
    rank_found port ports c.partition_point.result c.partition_point.ensures.bound point
