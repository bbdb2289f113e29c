use Rattle.std.proofs.Common.{ap, rules, ◌∙◌}
use Rattle.plan_trees.specs.PlaceSets.{has}
use Rattle.plan_trees.specs.PlanSpace.{wanted_order}
use Rattle.statement_meaning.specs.Meaning.{cell_of}
use Rattle.plan_operators.specs.Columns.{cell_seen}
use Rattle.plan_operators.specs.Sources.{rows_read, world_read}
use Rattle.plan_operators.specs.declared.columns.PlaceColumn.{PlaceColumn}
use Rattle.plan_operators.proofs.Joins.{IsLookedUp, apart_is, hashed_once, hashed_rises, same_length}
use Rattle.plan_operators.proofs.hash_join.hash_join.Goals as goal

pub look_up-requires-clause-long : goal.look_up-requires-clause-long
look_up-requires-clause-long c =
    same_length (world_read c.args.source.now) (has c.args.outer.now.places) (has c.args.inner.places)
    c.args.outer.now.combos.items c.args.inner.combos.items c.in_ok-side.side.combos.items c.requires.each_once
    c.requires.inner_once c.in_ok-side.ensures.combos c.deref-2.result.now c.deref-2.ensures.value

pub returns : goal.returns
returns c =
    let looked : IsLookedUp c.args.source.now.q.now (rows_read c.args.source.now) c.args.outer.now.places
    c.args.inner.places c.edge_of-key.result c.args.outer.now.combos.items c.in_ok-side.side.combos.items
    c.in_ok-edges.edges.items (cell_seen c.column_of-outer_column.result) (cell_seen c.in_ok-side.side.column)
    c.in_ok-combos.combos.items = record {
      first_is =
          λ x. c.column_of-outer_column.ensures.value x ∙ ap (cell_of (rows_read c.args.source.now) x) c.end_of-2.ensures;
      second_is =
          λ x. ap (λ (column : PlaceColumn). cell_seen column x) c.in_ok-side.ensures.column
          ∙ (c.column_of-inner_column.ensures.value x ∙ ap (cell_of (rows_read c.args.source.now) x) c.end_of.ensures);
      made = rw (c.deref.ensures.value, c.deref-2.ensures.value) at c.in_ok-combos.ensures;
    } in
    let apart = apart_is c.args.outer.now.places c.args.inner.places c.requires.valid.0 in
    let between = rw c.edge_of-key.ensures at c.requires.valid.1 in
    record {
      places = search rules;
      small = search rules;
      each_once =
          rw c.with_places.ensures.value
          (hashed_once c.args.source.now.q.now (rows_read c.args.source.now) c.args.source.now.args.now
          c.args.outer.now.places c.args.inner.places c.args.edge c.edge_of-key.result apart c.edge_of-key.ensures
          between c.args.outer.now.combos.items c.args.inner.combos.items c.in_ok-side.side.combos.items
          c.requires.each_once c.requires.inner_once c.in_ok-side.ensures.combos c.in_ok-edges.edges.items
          c.in_ok-edges.ensures (cell_seen c.column_of-outer_column.result) (cell_seen c.in_ok-side.side.column)
          c.in_ok-combos.combos.items looked);
      in_order =
          λ wanted rises. hashed_rises c.args.source.now.q.now (rows_read c.args.source.now)
          c.args.source.now.args.now c.args.outer.now.places c.args.inner.places c.args.edge c.edge_of-key.result apart
          c.edge_of-key.ensures between (wanted_order c.args.source.now.q.now) wanted c.args.outer.now.combos.items
          c.args.inner.combos.items c.in_ok-side.side.combos.items c.requires.each_once c.requires.inner_once
          c.in_ok-side.ensures.combos rises c.in_ok-edges.edges.items c.in_ok-edges.ensures
          (cell_seen c.column_of-outer_column.result) (cell_seen c.in_ok-side.side.column) c.in_ok-combos.combos.items
          looked;
    }
