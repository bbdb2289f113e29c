use Rattle.std.proofs.Common.{◌≡◌, ◌≤◌, ◌*◌, ap, ◌∙◌, sym, subst, map}
use Rattle.std.specs.Int.{div_ceil}
use Rattle.cost_model.specs.Cardinalities.{is_inside, marked_product}
use Rattle.plan_trees.specs.declared.scale.TheConstants.{COST_SCALE}
use Rattle.cost_model.proofs.SoundNumbers.{preds_there}
use Rattle.plan_costs.proofs.Cards.{are_parts, kappa_made}
use Rattle.plan_costs.proofs.Factors.{rows_divisor, divisor_some}
use Rattle.plan_costs.proofs.Ones.{all_rows_fit, fixed_fits, ones, ones_sound}
use Rattle.plan_costs.proofs.cardinalities.constant_part.Goals as goal

pub fixed_product-fixed-requires-clause-small : goal.fixed_product-fixed-requires-clause-small
fixed_product-fixed-requires-clause-small c =
    fixed_fits c.args.q.now c.args.stats.now c.args.set c.places.ensures.sound c.requires

pub rows_product-requires-clause-there : goal.rows_product-requires-clause-there
rows_product-requires-clause-there c =
    rw (c.preds.ensures.value) (preds_there c.args.q.now c.args.stats.now c.places.ensures.sound c.requires)

pub rows_product-requires-clause-small : goal.rows_product-requires-clause-small
rows_product-requires-clause-small c =
    rw (c.preds.ensures.value) (all_rows_fit c.args.q.now c.args.stats.now c.args.set c.places.ensures.sound c.requires)

pub divided-over_rows-requires : goal.divided-over_rows-requires
divided-over_rows-requires c =
    let query = c.places.ensures.sound in
    let parts = are_parts c.args.q.now c.args.stats.now (ones c.args.q.now) c.args.set query c.requires
    (ones_sound c.args.q.now c.args.stats.now query c.requires) in
    let some = divisor_some c.args.set c.args.stats.now.rows c.args.q.now.preds parts.rows parts.there in
    subst (λ n. 1 ≤ n)
    (sym (c.rows_product.ensures ∙ ap (rows_divisor c.args.set c.args.stats.now.rows) c.preds.ensures.value)) some

pub returns : goal.returns
returns c =
    let query = c.places.ensures.sound in
    kappa_made c.args.q.now c.args.stats.now (ones c.args.q.now) c.args.set (COST_SCALE * c.from-start.result)
    c.divided-over_rows.result c.by_distinct.result
    (are_parts c.args.q.now c.args.stats.now (ones c.args.q.now) c.args.set query c.requires
    (ones_sound c.args.q.now c.args.stats.now query c.requires))
    (ap (λ n. COST_SCALE * n) (c.from-start.ensures ∙ c.fixed_product-fixed.ensures))
    (c.divided-over_rows.ensures ∙ ap (div_ceil (COST_SCALE * c.from-start.result))
    (c.rows_product.ensures ∙ ap (rows_divisor c.args.set c.args.stats.now.rows) c.preds.ensures.value))
    (subst (λ es. c.by_distinct.result
    ≡ div_ceil c.divided-over_rows.result (marked_product (map (is_inside c.args.set) es) c.args.stats.now.distinct))
    c.edges.ensures.value c.by_distinct.ensures)
