use Rattle.std.proofs.Common.{◌≡◌, List, true, false, sym, subst, rules}
use Rattle.std.specs.List.Sorted.{IsPartitionedBy, IsPartitionPoint}
use Rattle.std.proofs.lemmas.List.Sorted.{IsPartitionPoint-from_clause}
use Rattle.vale_batch.specs.declared.alone.Own.{Own}
use Rattle.vale_batch.specs.Wants.{is_before}
use Rattle.vale_batch.proofs.Ranks.{partitioned}
use Rattle.vale_batch.proofs.alone.rank_of.Goals as goal

pub returns-clause-point : goal.returns-clause-point
returns-clause-point c =
    let to = c.args.to.0 in
    let parted = subst (λ (ws : List Own). IsPartitionedBy (is_before to) ws) (sym c.deref.ensures.value) (partitioned to c.args.all.now.items c.requires) in
    let point = IsPartitionPoint-from_clause (is_before to) c.deref.result.now c.partition_point.result c.partition_point.ensures.partitioned parted (λ a r q k. search rules) in
    subst (λ (ws : List Own). IsPartitionPoint (λ (own : Own). is_before to own ≡ true) (λ (own : Own). is_before to own ≡ false) ws c.partition_point.result) c.deref.ensures.value point
