use Rattle.std.proofs.Common.{ltb, arith, rules}
use Rattle.std.proofs.lemmas.Bool.{ltb-true}
use Rattle.std.proofs.lemmas.List.Sorted.{IsPartitionPoint-from_clause, IsPartitionedBy-ltb}
use Rattle.walk_table.specs.declared.near.Standing.{Standing}
use Rattle.walk_table.proofs.near.first_north.Goals as goal

pub returns : goal.returns
returns c = λ place d less.
    let point = IsPartitionPoint-from_clause (λ (s : Standing). ltb s.north c.args.low) c.args.standings.now c.partition_point.result c.partition_point.ensures.partitioned
    (IsPartitionedBy-ltb (λ (s : Standing). s.north) c.args.standings.now c.args.low c.requires) (search rules) in
    ltb-true _ _ (point.0 place d (omega arith) less)
