use Rattle.std.proofs.Common.{◌<◌, ◌≤◌, ℕ, sym, ◌∙◌, subst}
use Rattle.csv_tables.specs.StatementTables.{rows_in, tables_in}
use Rattle.result_shape.proofs.Shapes.{plain_length, plain_shaped}
use Rattle.result_shape.proofs.shaper.plain_rows.Goals as goal

pub returns-then-len-gt-ROW_LIMIT : goal.returns-then-len-gt-ROW_LIMIT
returns-then-len-gt-ROW_LIMIT c =
    subst (λ (n : ℕ). 1000000 < n)
    (c.len.ensures
    ∙ (c.args.combos.ok.0
    ∙ sym (plain_length c.args.q.now (rows_in (tables_in c.args.tables.now)) c.args.combos.items c.requires)))
    c.if-len-gt-ROW_LIMIT.true

pub returns : goal.returns
returns c =
    plain_shaped c.args.q.now (tables_in c.args.tables.now) (tables_in c.in_ok-tables.tables.items) c.args.combos.items
    c.in_ok-sorted.sorted.items c.requires c.in_ok-tables.ensures c.in_ok-sorted.ensures.permutation
    c.in_ok-sorted.ensures.in_order
    (subst (λ (n : ℕ). n ≤ 1000000) (c.len.ensures ∙ c.args.combos.ok.0) c.if-len-gt-ROW_LIMIT.false)
