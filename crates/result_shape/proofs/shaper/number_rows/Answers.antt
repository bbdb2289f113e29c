use Rattle.std.proofs.Common.{◌<◌, ◌≤◌, ℕ, length, map, sym, ◌∙◌, subst}
use Rattle.std.proofs.lemmas.List.{length-map}
use Rattle.std.proofs.lemmas.List.Sorted.{IsPermutation-trans}
use Rattle.csv_tables.specs.StatementTables.{rows_in, tables_in}
use Rattle.result_shape.specs.Numbered.{tallies_from}
use Rattle.result_shape.specs.declared.numbered.Placed.{Placed}
use Rattle.result_shape.proofs.Numbering.{placed_show}
use Rattle.result_shape.proofs.Shapes.{grouped_length, grouped_shaped}
use Rattle.result_shape.proofs.shaper.number_rows.Goals as goal

pub returns-then-len-gt-ROW_LIMIT : goal.returns-then-len-gt-ROW_LIMIT
returns-then-len-gt-ROW_LIMIT c =
    λ h numbered.
    let heads_are = rw (sym c.in_ok-placed.ensures.firsts) at numbered.heads_are in
    subst (λ (n : ℕ). 1000000 < n)
    (c.len.ensures
    ∙ (c.in_ok-placed.placed.ok.0
    ∙ (sym (length-map c.in_ok-placed.placed.items (λ (one : Placed). one.first))
    ∙ sym (grouped_length c.args.q.now (rows_in (tables_in c.args.tables.now)) h
    (map (λ (one : Placed). one.first) c.in_ok-placed.placed.items) c.requires.sound c.requires.some heads_are))))
    c.if-len-gt-ROW_LIMIT.true

pub returns : goal.returns
returns c =
    λ h numbered.
    let heads_are = rw (sym c.in_ok-placed.ensures.firsts) at numbered.heads_are in
    let starts = rw c.items.ensures.value at c.in_ok-placed.ensures.starts in
    grouped_shaped (λ (one : Placed). one.first) (tallies_from c.args.groups.tallies.items (length c.args.q.now.items))
    c.args.q.now (tables_in c.args.tables.now) (tables_in c.in_ok-tables.tables.items) h c.in_ok-placed.placed.items
    c.in_ok-places.places.items c.requires.sound c.requires.some heads_are
    (placed_show c.args.q.now (rows_in (tables_in c.args.tables.now)) h c.args.groups.firsts.items
    c.args.groups.tallies.items c.in_ok-placed.placed.items numbered c.in_ok-placed.ensures.firsts starts)
    c.in_ok-tables.ensures
    (IsPermutation-trans c.in_ok-placed.placed.items c.sort_by_number-by_number.result.items
    c.in_ok-places.places.items c.sort_by_number-by_number.ensures c.in_ok-places.ensures.permutation)
    c.in_ok-places.ensures.in_order
    (subst (λ (n : ℕ). n ≤ 1000000) (c.len.ensures ∙ c.in_ok-placed.placed.ok.0) c.if-len-gt-ROW_LIMIT.false)
