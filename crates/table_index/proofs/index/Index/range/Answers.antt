use Rattle.std.proofs.Common.{◌≡◌, ℕ, arith, max}
use Rattle.table_index.specs.Bounds.{lies_below, lies_up_to, meets_high, meets_low}
use Rattle.table_index.specs.Cuts.{Cut}
use Rattle.csv_tables.specs.Tables.{cell_at}
use Rattle.table_index.proofs.Cuts.{between_cuts, cut_counts}
use Rattle.table_index.proofs.index.Index.range.Goals as goal

swapped : (a b n : ℕ) → a ≡ n → max a b ≡ max b n
swapped a b n e = omega (arith, e)

low_cut : (c : goal.After-max)
    → Cut (lies_below c.args.t.now c.from-column.result c.args.lo) c.as_slice-rows.result.now c.count_below-first.result
low_cut c = c.count_below-first.ensures.cut

high_cut : (c : goal.After-max)
    → Cut (lies_up_to c.args.t.now c.from-column.result c.args.hi) c.as_slice-rows.result.now c.count_up_to-end.result
high_cut c = c.count_up_to-end.ensures.cut

pub count_below-first-requires-clause-ordered : goal.count_below-first-requires-clause-ordered
count_below-first-requires-clause-ordered c =
    rw (c.from-column.ensures, c.as_slice-rows.ensures.value) (rw (← c.self.view_is) at c.requires.built.rows_are)

pub count_up_to-end-requires-clause-ordered : goal.count_up_to-end-requires-clause-ordered
count_up_to-end-requires-clause-ordered c =
    rw (c.from-column.ensures, c.as_slice-rows.ensures.value) (rw (← c.self.view_is) at c.requires.built.rows_are)

pub returns-clause-low : goal.returns-clause-low
returns-clause-low c =
    rw (← c.self.view_is)
    (rw (c.from-column.ensures, c.as_slice-rows.ensures.value) at (cut_counts _ _ _ (low_cut c)))

pub returns-clause-high : goal.returns-clause-high
returns-clause-high c =
    let count = rw (c.from-column.ensures, c.as_slice-rows.ensures.value) at
    (cut_counts _ _ _ (high_cut c)) in
    rw (← c.self.view_is, c.max.ensures) (swapped c.count_up_to-end.result c.count_below-first.result _ count)

pub returns-clause-rows : goal.returns-clause-rows
returns-clause-rows c =
    let between = between_cuts (λ row. meets_low c.args.lo (cell_at c.args.t.now row c.from-column.result))
    (λ row. meets_high c.args.hi (cell_at c.args.t.now row c.from-column.result)) _ _ _
    (low_cut c) (high_cut c) in
    rw (← c.self.view_is, c.max.ensures) (rw (c.from-column.ensures, c.as_slice-rows.ensures.value) at between)
