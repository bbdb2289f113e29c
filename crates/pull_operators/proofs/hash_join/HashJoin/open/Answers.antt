use Rattle.std.proofs.Common.{◌≡◌, ◌∙◌, ℕ, List, ap, length, refl, rules, replicate}
use Rattle.std.proofs.lemmas.List.{length-replicate}
use Rattle.plan_trees.specs.PlanSpace.{wanted_order}
use Rattle.statement_meaning.specs.Meaning.{cell_of}
use Rattle.plan_operators.specs.Columns.{cell_seen}
use Rattle.plan_operators.specs.Sources.{rows_read}
use Rattle.plan_operators.specs.declared.columns.PlaceColumn.{PlaceColumn}
use Rattle.plan_operators.proofs.Joins.{IsLookedUp, apart_is, hashed_once, hashed_rises}
use Rattle.pull_operators.proofs.Chained.{all_long, all_merge}
use Rattle.pull_operators.proofs.hash_join.HashJoin.open.Goals as goal

pub returns-clause-long : goal.returns-clause-long
returns-clause-long c =
    all_long c.args.source.now c.args.inner_places c.args.inner.items c.in_ok-side.side.combos.items
    c.requires.inner_once c.in_ok-side.ensures.combos

pub returns-clause-ready : goal.returns-clause-ready
returns-clause-ready c =
    let empty : c.zeros.result ≡ replicate (length c.args.source.now.q.now.places) 0 = search rules in
    record {
      built = c.in_ok-side.ensures.built;
      long =
          all_merge c.args.source.now c.zeros.result c.in_ok-side.side.combos.items
          (ap length empty ∙ length-replicate (length c.args.source.now.q.now.places) 0)
          (all_long c.args.source.now c.args.inner_places c.args.inner.items c.in_ok-side.side.combos.items
          c.requires.inner_once c.in_ok-side.ensures.combos);
      inside = search rules;
    }

pub returns-clause-joins : goal.returns-clause-joins
returns-clause-joins c =
    let looked : (cs : List (List ℕ)) → IsLookedUp c.args.source.now.q.now (rows_read c.args.source.now) c.args.places
    c.args.inner_places c.edge_of-key.result cs c.in_ok-side.side.combos.items c.in_ok-edges.edges.items
    (cell_seen c.column_of-column.result) (cell_seen c.in_ok-side.side.column) _ =
    λ cs. record {
      first_is =
          λ x. c.column_of-column.ensures.value x ∙ ap (cell_of (rows_read c.args.source.now) x) c.end_of-2.ensures;
      second_is =
          λ x. ap (λ (column : PlaceColumn). cell_seen column x) c.in_ok-side.ensures.column
          ∙ (c.column_of-inner_column.ensures.value x ∙ ap (cell_of (rows_read c.args.source.now) x) c.end_of.ensures);
      made = refl;
    } in
    let apart = apart_is c.args.places c.args.inner_places c.requires.valid.0 in
    let between = rw c.edge_of-key.ensures at c.requires.valid.1 in
    record {
      each_once =
          λ cs o. hashed_once c.args.source.now.q.now (rows_read c.args.source.now) c.args.source.now.args.now
          c.args.places c.args.inner_places c.args.edge c.edge_of-key.result apart c.edge_of-key.ensures
          between cs c.args.inner.items c.in_ok-side.side.combos.items o c.requires.inner_once
          c.in_ok-side.ensures.combos c.in_ok-edges.edges.items
          c.in_ok-edges.ensures (cell_seen c.column_of-column.result) (cell_seen c.in_ok-side.side.column) _ (looked cs);
      in_order =
          λ wanted cs o rises. hashed_rises c.args.source.now.q.now (rows_read c.args.source.now)
          c.args.source.now.args.now c.args.places c.args.inner_places c.args.edge c.edge_of-key.result apart
          c.edge_of-key.ensures between (wanted_order c.args.source.now.q.now) wanted cs
          c.args.inner.items c.in_ok-side.side.combos.items o c.requires.inner_once
          c.in_ok-side.ensures.combos rises c.in_ok-edges.edges.items c.in_ok-edges.ensures
          (cell_seen c.column_of-column.result) (cell_seen c.in_ok-side.side.column) _ (looked cs);
    }
