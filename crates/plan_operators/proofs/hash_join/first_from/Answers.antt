use Rattle.std.proofs.Common.{rules}
use Rattle.std.proofs.lemmas.List.Sorted.{IsPartitionPoint-from_clause}
use Rattle.plan_operators.specs.BuildSides.{is_below}
use Rattle.plan_operators.proofs.KeyPoints.{point_from_guess}
use Rattle.plan_operators.proofs.hash_join.first_from.Goals as goal

pub returns-then-follows_below-clause-first : goal.returns-then-follows_below-clause-first
returns-then-follows_below-clause-first c =
    let stops = c.stops_at.ensures c.if-stops_at.true in
    point_from_guess (is_below c.args.key) c.args.keys.now c.args.guess stops.0 stops.1
    (c.follows_below.ensures c.if-follows_below.true)

pub returns-clause-first : goal.returns-clause-first
returns-clause-first c =
    λ parted. IsPartitionPoint-from_clause (is_below c.args.key) c.args.keys.now c.partition_point.result
    c.partition_point.ensures.partitioned parted (λ a r f k. (search rules, search rules))
