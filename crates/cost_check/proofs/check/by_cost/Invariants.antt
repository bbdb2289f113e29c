use Rattle.std.proofs.Common.{◌≡◌, drop}
use Rattle.cache_model.specs.Choices.{candidates_of, choice_among}
use Rattle.cost_check.specs.Answers.{passes_by_cost}
use Rattle.cost_check.proofs.check.by_cost.Given as goal

-- none of the candidates so far passes
abbrev pub invariant-loop-near : goal.invariant-loop-near
invariant-loop-near l =
    record {
      counted : l.tried ≡ l.near-index;
      choice : choice_among (passes_by_cost l.cache.plans l.lambda l.q) 0 (candidates_of l.q l.recosts l.cache.anchors)
          ≡ choice_among (passes_by_cost l.cache.plans l.lambda l.q) l.tried
          (drop l.near-index (candidates_of l.q l.recosts l.cache.anchors));
    }
