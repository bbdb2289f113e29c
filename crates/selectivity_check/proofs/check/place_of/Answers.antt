-- The anchor stands where the executions reach this one, or nowhere.
use Rattle.std.proofs.Common.{◌≡◌, ◌≤◌, ◌<◌, length, nat_lt, rules, ap, sym, ◌∙◌, true, false, arith}
use Rattle.std.specs.List.Sorted.{IsPartitionPoint}
use Rattle.std.proofs.lemmas.Bool.{ltb-false, ltb-true}
use Rattle.std.proofs.lemmas.List.{get_or_default}
use Rattle.std.proofs.lemmas.List.Sorted.{IsPartitionPoint-from_clause, IsPartitionedBy-ltb}
use Rattle.anchor_cache.specs.declared.anchors.Anchor.{Anchor}
use Rattle.selectivity_check.proofs.Places.{never_falls, none_cut, some_cut}
use Rattle.selectivity_check.proofs.check.place_of.Goals as goal

pub returns-in_err-anchor : goal.returns-in_err-anchor
returns-in_err-anchor c =
    let cut = IsPartitionPoint-from_clause (λ (anchor : Anchor). nat_lt anchor.execution c.args.execution)
    c.args.anchors.now c.partition_point-place.result c.partition_point-place.ensures.partitioned
    (IsPartitionedBy-ltb (λ anchor. anchor.execution) c.args.anchors.now c.args.execution
    (never_falls c.args.anchors.now c.requires)) (λ a r f k. (search rules, search rules)) in
    let past = ltb-false c.partition_point-place.result (length c.args.anchors.now)
    (sym c.in_err-anchor.ensures.lookup.0) in
    c.from_residual.ensures
    ∙ sym (none_cut c.args.anchors.now c.args.execution c.partition_point-place.result
    c.partition_point-place.ensures.bound c.requires cut
    (λ d less e. absurd (omega arith)))

pub returns-then-anchor-execution : goal.returns-then-anchor-execution
returns-then-anchor-execution c =
    let inside = ltb-true c.partition_point-place.result (length c.args.anchors.now)
    (sym c.in_ok-anchor.ensures.lookup.0) in
    sym (some_cut c.args.anchors.now c.args.execution c.partition_point-place.result c.in_ok-anchor.anchor.now
    c.requires c.in_ok-anchor.ensures.lookup.1 inside c.if-anchor-execution.true)

pub returns-else-anchor-execution : goal.returns-else-anchor-execution
returns-else-anchor-execution c =
    let cut = IsPartitionPoint-from_clause (λ (anchor : Anchor). nat_lt anchor.execution c.args.execution)
    c.args.anchors.now c.partition_point-place.result c.partition_point-place.ensures.partitioned
    (IsPartitionedBy-ltb (λ anchor. anchor.execution) c.args.anchors.now c.args.execution
    (never_falls c.args.anchors.now c.requires)) (λ a r f k. (search rules, search rules)) in
    sym (none_cut c.args.anchors.now c.args.execution c.partition_point-place.result
    c.partition_point-place.ensures.bound c.requires cut
    (λ d less e. c.if-anchor-execution.false
    (ap (λ (a : Anchor). a.execution) (c.in_ok-anchor.ensures.lookup.1
    ∙ get_or_default c.args.anchors.now c.partition_point-place.result c.in_ok-anchor.anchor.now d less) ∙ e)))
