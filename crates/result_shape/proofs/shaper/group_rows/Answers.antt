use Rattle.std.proofs.Common.{◌<◌, ◌≤◌, ℕ, sym, ◌∙◌, subst}
use Rattle.std.proofs.lemmas.List.{length-map}
use Rattle.csv_tables.specs.StatementTables.{rows_in, tables_in}
use Rattle.result_shape.specs.Groups.{firsts}
use Rattle.result_shape.specs.declared.groups.Group.{Group}
use Rattle.result_shape.proofs.Shapes.{grouped_length, grouped_shaped}
use Rattle.result_shape.proofs.shaper.group_rows.Goals as goal

pub returns-then-len-gt-ROW_LIMIT : goal.returns-then-len-gt-ROW_LIMIT
returns-then-len-gt-ROW_LIMIT c =
    λ h groups.
    subst (λ (n : ℕ). 1000000 < n)
    (c.len.ensures
    ∙ (c.args.groups.ok.0
    ∙ (sym (length-map c.args.groups.items (λ (group : Group). group.first))
    ∙ sym (grouped_length c.args.q.now (rows_in (tables_in c.args.tables.now)) h (firsts c.args.groups.items)
    c.requires.sound c.requires.some groups.heads_are))))
    c.if-len-gt-ROW_LIMIT.true

pub returns : goal.returns
returns c =
    λ h groups.
    grouped_shaped (λ (group : Group). group.first) (λ (group : Group). group.tallies.items) c.args.q.now
    (tables_in c.args.tables.now) (tables_in c.in_ok-tables.tables.items) h c.args.groups.items
    c.in_ok-sorted.sorted.items c.requires.sound c.requires.some groups.heads_are groups.tallies c.in_ok-tables.ensures
    c.in_ok-sorted.ensures.permutation c.in_ok-sorted.ensures.in_order
    (subst (λ (n : ℕ). n ≤ 1000000) (c.len.ensures ∙ c.args.groups.ok.0) c.if-len-gt-ROW_LIMIT.false)
