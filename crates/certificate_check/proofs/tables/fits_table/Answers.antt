use Rattle.std.proofs.Common.{◌≡◌, ◌<◌, length, ap, ◌∙◌, subst, sym, Bool}
use Rattle.plan_trees.specs.PlaceSets.{all_below}
use Rattle.cost_model.specs.LeastCost.{whole_set}
use Rattle.plan_costs.specs.BestPlans.{table_of_cells}
use Rattle.certificate_check.specs.Bounds.{costs_of}
use Rattle.certificate_check.proofs.Feasible.{groups_told, whole_some}
use Rattle.certificate_check.proofs.tables.fits_table.Goals as goal

pub cell_at-whole-requires-clause-some : goal.cell_at-whole-requires-clause-some
cell_at-whole-requires-clause-some c =
    let whole : c.all_places.result ≡ whole_set c.args.q.now =
    c.all_places.ensures.value ∙ ap (λ xs. all_below (length xs)) c.places.ensures.value in
    subst (λ n. 0 < n) (sym whole) (whole_some c.args.q.now c.requires.query)

pub returns-then-groups_rows : goal.returns-then-groups_rows
returns-then-groups_rows c =
    let whole : c.all_places.result ≡ whole_set c.args.q.now =
    c.all_places.ensures.value ∙ ap (λ xs. all_below (length xs)) c.places.ensures.value in
    groups_told c.args.q.now c.args.stats.now c.args.s.now (table_of_cells c.args.cells.now) c.args.least
    (costs_of c.cell_at-whole.result) c.fits_groups.result (cc)
    (λ (sorted : Bool). subst (λ n. table_of_cells c.args.cells.now sorted n
    ≡ costs_of c.cell_at-whole.result sorted) whole (c.cell_at-whole.ensures sorted)) c.fits_groups.ensures
