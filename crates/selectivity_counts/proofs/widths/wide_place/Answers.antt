use Rattle.std.proofs.Common.{ℕ, List, arith, lit≤, ap, sym, ◌≡◌, ◌+◌, ◌*◌, ◌^◌, max, drop, ◌∙◌}
use Rattle.plan_trees.specs.Statistics.{selectivities_on}
use Rattle.statement_statistics.specs.Statistics.{first_above, row_count}
use Rattle.selectivity_counts.specs.declared.widths.TheConstants.{SIZE_LIMIT}
use Rattle.selectivity_counts.proofs.WidePlaces.{counts_are, counts_left, counts_of, goes_on, product_some}
use Rattle.selectivity_counts.proofs.widths.wide_place.Goals as goal

pub loop-place-init : goal.loop-place-init
loop-place-init c = record {
  some = lit≤ tt;
  within = lit≤ tt;
  left =
      ap (λ (rows : List ℕ). first_above SIZE_LIMIT c.args.q.now.preds 0 1 rows)
      (counts_are c.args.q.now c.args.tables.now c.requires);
}

pub loop-place-preserved : goal.loop-place-preserved
loop-place-preserved c =
    let rows : c.max-rows.result ≡ row_count c.index-tables-place.result.value.rows =
    rw (c.max-rows.ensures, c.len.ensures.value, c.deref.ensures) (omega arith) in
    let times : c.max-times.result ≡ max 1 (selectivities_on c.loop-place.place c.args.q.now.preds) =
    rw (c.max-times.ensures, c.selectivities_on.ensures, c.preds-preds.ensures.value) (omega arith) in
    let is : c.in-Some.product ≡ c.loop-place.size * row_count c.index-tables-place.result.value.rows
    ^ max 1 (selectivities_on c.loop-place.place c.args.q.now.preds) =
    rw (← rows, ← times) c.in-Some.ensures.value in
    record {
      some = product_some c.loop-place.size c.max-rows.result c.max-times.result c.in-Some.product
          c.loop-place.invariant.some (omega (arith, c.max-rows.ensures)) c.in-Some.ensures.value;
      within = c.in-Some.ensures.within;
      left =
          sym (goes_on SIZE_LIMIT c.args.q.now.preds c.loop-place.place c.loop-place.size
          (row_count c.index-tables-place.result.value.rows) c.in-Some.product
          (counts_of (drop (c.loop-place.place + 1) c.args.tables.now)) is c.in-Some.ensures.within)
          ∙ (ap (λ (rows : List ℕ). first_above SIZE_LIMIT c.args.q.now.preds c.loop-place.place c.loop-place.size rows)
          (sym (counts_left c.args.tables.now c.loop-place.place c.index-tables-place.result c.loop-place-test.true
          c.index-tables-place.is))
          ∙ c.loop-place.invariant.left);
    }
