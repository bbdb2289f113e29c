use Rattle.std.proofs.Common.{sym, ◌∙◌}
use Rattle.plan_trees.specs.PlaceSets.{has}
use Rattle.statement_meaning.specs.PartialCombinations.{is_between}
use Rattle.plan_operators.specs.Sources.{world_read}
use Rattle.plan_operators.proofs.EdgeTests.{edge_passed, edge_taken}
use Rattle.plan_operators.proofs.edges.edges_between.Goals as goal
use Rattle.plan_operators.proofs.edges.edges_between.Goals.{then-is_between_sets+in_ok-push, else-is_between_sets}

pub loop-edge-preserved : goal.loop-edge-preserved
loop-edge-preserved c = elim c.if-is_between_sets.branch [
  | then-is_between_sets+in_ok-push w ↦
      rw (w.ready-is, w.in_ok-push.ensures.items)
      (edge_taken (world_read c.args.source.now) (is_between (has c.args.outer) (has c.args.inner))
      c.args.source.now.q.now.edges c.edges-edge-items.result.now c.loop-edge.edge-index _ c.loop-edge.ready.items
      w.ready_edge.result c.edges-edge-items.ensures.value c.loop-edge-test.true
      (sym c.is_between_sets.ensures ∙ w.if-is_between_sets.true) w.ready_edge.ensures c.loop-edge.invariant)
  | else-is_between_sets w ↦
      rw w.ready-is
      (edge_passed (world_read c.args.source.now) (is_between (has c.args.outer) (has c.args.inner))
      c.args.source.now.q.now.edges c.edges-edge-items.result.now c.loop-edge.edge-index _ c.loop-edge.ready.items
      c.edges-edge-items.ensures.value c.loop-edge-test.true
      (sym c.is_between_sets.ensures ∙ w.if-is_between_sets.false) c.loop-edge.invariant)
]
