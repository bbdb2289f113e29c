use Rattle.std.proofs.Common.{ℕ, ◌<◌, ◌+◌, ◌^◌, ◌∙◌, List, ap, map, subst, sym, refl}
use Rattle.cost_polynomials.specs.Polynomial.{IsVectorFor, value_of}
use Rattle.plan_trees.specs.PlanSpace.{IsValidTop}
use Rattle.plan_trees.specs.Spelling.{top_text}
use Rattle.plan_trees.specs.Trees.{TopTree, top_tree}
use Rattle.plan_trees.specs.declared.plans.Top.{Top}
use Rattle.cost_model.specs.Costs.{top_cost}
use Rattle.cache_model.specs.Caches.{Anchor}
use Rattle.csv_tables.specs.StatementTables.{rows_in, tables_in}
use Rattle.anchor_cache.specs.Contents.{state_of}
use Rattle.statement_meaning.specs.Spelling.{row_line}
use Rattle.session_engine.specs.Executed.{AreFewRows, certificate_of, way_of}
use Rattle.session_engine.proofs.Serving.{chosen_by, never_missing, reused_plan, use_fits, within_anchors}
use Rattle.session_engine.proofs.execution.reuse.Goals as goal

pub unreachable-requires : goal.unreachable-requires
unreachable-requires g c =
    never_missing c.args.source.now.q.now c.args.instance.now.stats c.args.cache.now c.args.instance.now.at
    c.args.settings.lambda c.args.place c.anchors.result.now c.index-anchors-place.result c.plans.result.now
    c.requires.bound c.anchors.ensures.value c.index-anchors-place.is c.plans.ensures.value c.in_default.ensures

pub few_rows-requires-clause-valid : goal.few_rows-requires-clause-valid
few_rows-requires-clause-valid g c =
    let reused = reused_plan c.args.source.now.q.now c.args.instance.now.stats c.args.executions c.args.settings.budget
    c.args.cache.now c.args.instance.now.at c.args.settings.lambda c.args.place c.anchors.result.now
    c.index-anchors-place.result c.plans.result.now c.in-Some.kept.now c.requires.serving c.requires.bound
    c.anchors.ensures.value c.index-anchors-place.is c.plans.ensures.value c.in-Some.ensures in
    subst (λ (t : TopTree). IsValidTop c.args.source.now.q.now c.args.instance.now.stats.indexed t)
    (sym (ap (λ (p : Top). top_tree p) c.deref.ensures ∙ reused.plan.same)) c.requires.bound.valid

pub cost_at-requires-clause-vector : goal.cost_at-requires-clause-vector
cost_at-requires-clause-vector g c =
    let reused = reused_plan c.args.source.now.q.now c.args.instance.now.stats c.args.executions c.args.settings.budget
    c.args.cache.now c.args.instance.now.at c.args.settings.lambda c.args.place c.anchors.result.now
    c.index-anchors-place.result c.plans.result.now c.in-Some.kept.now c.requires.serving c.requires.bound
    c.anchors.ensures.value c.index-anchors-place.is c.plans.ensures.value c.in-Some.ensures in
    subst (λ (v : List ℕ). IsVectorFor c.in-Some.kept.now.costed.poly v) (sym c.as_slice.ensures)
    (reused.plan.costed.fits c.args.instance.now.at c.requires.ready.vector).vector

pub cost_at-requires-clause-fits : goal.cost_at-requires-clause-fits
cost_at-requires-clause-fits g c =
    let reused = reused_plan c.args.source.now.q.now c.args.instance.now.stats c.args.executions c.args.settings.budget
    c.args.cache.now c.args.instance.now.at c.args.settings.lambda c.args.place c.anchors.result.now
    c.index-anchors-place.result c.plans.result.now c.in-Some.kept.now c.requires.serving c.requires.bound
    c.anchors.ensures.value c.index-anchors-place.is c.plans.ensures.value c.in-Some.ensures in
    subst (λ (v : List ℕ). value_of c.in-Some.kept.now.costed.poly v < 2 ^ 128) (sym c.as_slice.ensures)
    (reused.plan.costed.fits c.args.instance.now.at c.requires.ready.vector).fits

pub used-requires-clause-there : goal.used-requires-clause-there
used-requires-clause-there g c =
    within_anchors c.args.cache.now.anchors c.args.place c.requires.bound.anchor c.requires.bound.there

pub used-requires-clause-fits : goal.used-requires-clause-fits
used-requires-clause-fits g c =
    use_fits c.args.source.now.q.now c.args.instance.now.stats c.args.executions c.args.settings.budget c.args.cache.now
    c.args.place c.requires.bound.anchor c.requires.serving c.requires.few c.requires.bound.there

pub returns-clause-executed : goal.returns-clause-executed
returns-clause-executed g c =
    let reused = reused_plan c.args.source.now.q.now c.args.instance.now.stats c.args.executions c.args.settings.budget
    c.args.cache.now c.args.instance.now.at c.args.settings.lambda c.args.place c.anchors.result.now
    c.index-anchors-place.result c.plans.result.now c.in-Some.kept.now c.requires.serving c.requires.bound
    c.anchors.ensures.value c.index-anchors-place.is c.plans.ensures.value c.in-Some.ensures in
    let found = subst (AreFewRows c.args.source.now.q.now (rows_in (tables_in c.args.source.now.tables.now))
    c.args.source.now.args.now) c.in-Some-2.is c.in_ok-rows.ensures in
    record {
      few = found.1;
      named = c.in_ok-copy.ensures;
      numbered = refl;
      plan = c.requires.bound.top;
      spelled = c.in_ok-print_plan.ensures.value
          ∙ ap (λ (t : TopTree). top_text c.args.source.now.q.now.places t)
          (ap (λ (p : Top). top_tree p) c.deref-2.ensures ∙ reused.plan.same);
      costs = c.cost_at.ensures.value
          ∙ ap (λ (v : List ℕ). value_of c.in-Some.kept.now.costed.poly v) c.as_slice.ensures
          ∙ reused.plan.costed.costs c.args.instance.now.at c.requires.ready.vector
          ∙ ap (λ (t : TopTree). top_cost c.args.source.now.q.now c.args.instance.now.stats c.args.instance.now.at t)
          reused.plan.same;
      at = refl;
      chosen = chosen_by c.args.check c.args.settings (c.args.executions + 1) c.args.source.now.q.now
          c.args.instance.now.stats c.args.instance.now.at (state_of c.args.cache.now) c.args.place c.requires.bound.top
          _ (state_of c.used.new.self)
          (record {
            anchor = c.requires.bound.anchor;
            there = c.requires.bound.there;
            its_plan = c.requires.bound.plan;
            by = c.way.ensures ∙ ap (way_of c.args.check) reused.anchor_is;
            certified = c.certificate.ensures
                ∙ ap (λ (a : Anchor). certificate_of c.args.check a.execution) reused.anchor_is;
            not_evicted = refl;
            not_kept = refl;
            uses = c.used.ensures.state;
          });
      rows = c.in_ok-answer.ensures ∙ ap (map row_line) found.0;
    }
