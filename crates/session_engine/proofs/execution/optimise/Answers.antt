use Rattle.std.proofs.Common.{ℕ, ◌≤◌, ◌+◌, ◌∙◌, List, All, ap, map, subst, sym, refl}
use Rattle.std.specs.declared.alloc.Global.{Global}
use Rattle.std.specs.declared.rc.Rc.{Rc}
use Rattle.plan_trees.specs.Spelling.{top_text}
use Rattle.plan_trees.specs.Trees.{top_tree}
use Rattle.plan_trees.specs.declared.plans.Top.{Top}
use Rattle.plan_costs.specs.BestPlans.{IsBest}
use Rattle.cost_model.specs.Costs.{top_cost}
use Rattle.cache_model.specs.Caches.{CacheState}
use Rattle.cache_model.specs.Keeping.{kept_after}
use Rattle.cache_model.proofs.Counts.{counts_some}
use Rattle.csv_tables.specs.StatementTables.{rows_in, tables_in}
use Rattle.anchor_cache.specs.Contents.{state_of}
use Rattle.anchor_cache.specs.Instances.{cost_at}
use Rattle.anchor_cache.specs.declared.kept_plans.Kept.{Kept}
use Rattle.statement_meaning.specs.Spelling.{row_line}
use Rattle.session_model.specs.Executions.{optimum_of}
use Rattle.session_engine.specs.Executed.{AreFewRows}
use Rattle.session_engine.specs.Keeping.{CostsAt, IsKept}
use Rattle.session_engine.specs.Serving.{IsCosted}
use Rattle.session_engine.proofs.Serving.{costed_anew, costs_are, no_less_served, same_state}
use Rattle.session_engine.proofs.Staying.{has_after}
use Rattle.session_engine.proofs.execution.optimise.Goals as goal

pub keep-keeping-requires-clause-numbers : goal.keep-keeping-requires-clause-numbers
keep-keeping-requires-clause-numbers g c =
    counts_some c.args.source.now.q.now c.args.instance.now.stats c.args.instance.now.at c.requires.ready.vector

pub keep-keeping-requires-clause-no_less : goal.keep-keeping-requires-clause-no_less
keep-keeping-requires-clause-no_less g c =
    let best = subst (λ (v : List ℕ). IsBest c.args.source.now.q.now c.args.instance.now.stats v c.in_ok-plan.field-0)
    c.as_slice.ensures c.in_ok-plan.ensures.best in
    subst (λ (ps : List Kept). All (λ kept. c.in_ok-plan.field-0.cost ≤ cost_at c.args.instance.now.at kept) ps)
    (sym c.in_ok-reserve_one.ensures.plans)
    (no_less_served c.args.source.now.q.now c.args.instance.now.stats c.args.executions c.args.settings.budget
    c.args.cache.now c.args.instance.now.at c.in_ok-plan.field-0.cost c.requires.serving c.requires.ready.vector
    best.least)

pub returns-clause-executed : goal.returns-clause-executed
returns-clause-executed g c =
    let best = subst (λ (v : List ℕ). IsBest c.args.source.now.q.now c.args.instance.now.stats v c.in_ok-plan.field-0)
    c.as_slice.ensures c.in_ok-plan.ensures.best in
    let found = subst (AreFewRows c.args.source.now.q.now (rows_in (tables_in c.args.source.now.tables.now))
    c.args.source.now.args.now) c.in-Some.is c.in_ok-rows.ensures in
    let costs = subst
    (λ (ps : List Kept). All (CostsAt (top_cost c.args.source.now.q.now c.args.instance.now.stats
    c.args.instance.now.at)
    c.args.instance.now.at) ps) (sym c.in_ok-reserve_one.ensures.plans)
    (costs_are c.args.source.now.q.now c.args.instance.now.stats c.args.executions c.args.settings.budget
    c.args.cache.now c.args.instance.now.at c.requires.serving c.requires.ready.vector) in
    let own = ap (λ (p : Rc Top Global). top_cost c.args.source.now.q.now c.args.instance.now.stats
    c.args.instance.now.at (top_tree p.value)) c.in_ok-costed.ensures.plan in
    let kept = c.keep-keeping.ensures.kept c.args.source.now.q.now c.args.instance.now.stats costs (own ∙ best.costs) in
    let before = same_state c.reserve_one.new.self c.args.cache.now c.in_ok-reserve_one.ensures.plans
    c.in_ok-reserve_one.ensures.anchors c.in_ok-reserve_one.ensures.next_plan in
    let keeping = subst (λ (state : CacheState). IsKept
    (kept_after state c.args.source.now.q.now c.args.instance.now.stats
    (optimum_of (c.args.executions + 1) c.args.instance.now.at (top_tree c.in_ok-plan.field-0.plan.value)
    c.in_ok-plan.field-0.cost) c.args.settings.keep c.args.settings.budget) c.keep-keeping.new.cache
    c.keep-keeping.result) before
    (subst (λ (p : Rc Top Global). IsKept
    (kept_after (state_of c.reserve_one.new.self) c.args.source.now.q.now c.args.instance.now.stats
    (optimum_of (c.args.executions + 1) c.args.instance.now.at (top_tree p.value) c.in_ok-plan.field-0.cost)
    c.args.settings.keep c.args.settings.budget) c.keep-keeping.new.cache c.keep-keeping.result)
    c.in_ok-costed.ensures.plan kept) in
    record {
      few = found.1;
      named = c.in_ok-name.ensures;
      numbered = refl;
      plan = top_tree c.in_ok-plan.field-0.plan.value;
      spelled = c.in_ok-spelled.ensures.value
          ∙ ap (λ (p : Top). top_text c.args.source.now.q.now.places (top_tree p)) c.deref-2.ensures;
      costs = sym best.costs;
      at = refl;
      chosen = record {
        bounds = c.in_ok-plan.field-0.potentials;
        optimum = record {
          valid = best.valid;
          costs = best.costs;
          least = best.least;
          one_each = best.one_each;
          tight = best.tight;
          same = best.same;
        };
        certified = refl;
        by = refl;
        keeps = record { evicted = keeping.evicted; kept = keeping.kept; cache = sym keeping.cache };
      };
      rows = c.in_ok-answer.ensures ∙ ap (map row_line) found.0;
    }

pub returns-clause-costed : goal.returns-clause-costed
returns-clause-costed g c =
    has_after (IsCosted c.args.source.now.q.now c.args.instance.now.stats) c.reserve_one.new.self.plans
    c.keep-keeping.new.cache.plans c.in_ok-costed.costed
    (subst (λ (ps : List Kept). All (IsCosted c.args.source.now.q.now c.args.instance.now.stats) ps)
    (sym c.in_ok-reserve_one.ensures.plans) c.requires.serving.costed)
    (costed_anew c.args.source.now.q.now c.args.instance.now.stats c.in_ok-plan.field-0.plan c.in_ok-costed.costed
    c.in_ok-costed.ensures.plan c.in_ok-costed.ensures.value c.in_ok-costed.ensures.fits)
    c.keep-keeping.ensures.plans
