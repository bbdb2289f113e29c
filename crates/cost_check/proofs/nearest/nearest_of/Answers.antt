use Rattle.cost_check.proofs.Walking.{front_stays, walked}
use Rattle.std.proofs.Common.{◌∙◌, ap}
use Rattle.cache_model.specs.Choices.{greater_product, lesser_product}
use Rattle.cost_check.proofs.nearest.nearest_of.Goals as goal

pub loop-before-preserved : goal.loop-before-preserved
loop-before-preserved c =
    record {
      front = front_stays c.loop-before.before.now c.args.anchors.now c.loop-before.invariant.front;
      kept = c.put.ensures ∙ walked c.args.q.now c.args.limit c.args.anchors.now c.loop-before.before.now
          c.anchor-item.result c.how_near-new.result c.loop-before.nearest.items c.in-len1-up.len_at_least
          c.loop-before.invariant.front c.anchor-item.is c.how_near-new.ensures.position
          (c.how_near-new.ensures.greater ∙ ap (greater_product c.args.q.now) c.as_slice.ensures)
          (c.how_near-new.ensures.lesser ∙ ap (lesser_product c.args.q.now) c.as_slice.ensures)
          c.loop-before.invariant.kept;
    }
