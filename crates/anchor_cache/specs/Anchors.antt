-- The program's anchors, as those of the model.
use Rattle.cache_model.specs.Caches as model
use Rattle.anchor_cache.specs.declared.anchors.Anchor.{Anchor}

abbrev pub held : Anchor → model.Anchor
held anchor = record {
  execution = anchor.execution;
  at = anchor.at;
  plan = anchor.plan;
  plan_cost = anchor.plan_cost;
  least = anchor.least;
  uses = anchor.uses;
}
