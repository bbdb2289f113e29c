use Rattle.std.proofs.Common.{ℕ, ◌≡◌, ◌∙◌, List, None, Option, ap, ap₂, sym, subst}
use Rattle.std.specs.declared.alloc.Global.{Global}
use Rattle.std.specs.declared.rc.Rc.{Rc}
use Rattle.row_values.specs.declared.values.Value.{Value}
use Rattle.csv_tables.specs.StatementTables.{rows_in, tables_in}
use Rattle.csv_tables.specs.Tables.{TableValue}
use Rattle.statement_statistics.specs.Statistics.{first_wide, stats_of}
use Rattle.table_index.specs.Indexes.{IndexValue}
use Rattle.table_index.specs.StatementIndexes.{indexes_in, masks_of}
use Rattle.selectivity_counts.specs.Built.{AreBuilt}
use Rattle.session_store.specs.Kept.{contents_of, entries_of, masks_in}
use Rattle.session_store.specs.Measures.{measure_by}
use Rattle.session_store.specs.declared.measures.Measure.TheVariants.{Narrow}
use Rattle.session_store.proofs.HeldIndexes.{held_are_indexes, held_masks}
use Rattle.session_store.proofs.measures.measure_held.Goals as goal

pub stats_with-requires-clause-built : goal.stats_with-requires-clause-built
stats_with-requires-clause-built c =
    let tables : tables_in c.as_slice.result.now ≡ contents_of c.args.held.now =
    ap (λ (ts : List (Rc TableValue Global)). tables_in ts) c.as_slice.ensures.value ∙ c.in_ok-tables.ensures in
    let entries : indexes_in c.as_slice-3.result.now ≡ entries_of c.args.held.now =
    ap (λ (es : List (Option (Rc IndexValue Global))). indexes_in es) c.as_slice-3.ensures.value
    ∙ c.in_ok-indexes.ensures in
    subst (λ (ts : List TableValue). AreBuilt c.args.q.now ts (indexes_in c.as_slice-3.result.now)) (sym tables)
    (subst (AreBuilt c.args.q.now (contents_of c.args.held.now)) (sym entries)
    (held_are_indexes c.args.q.now c.args.held.now c.requires.tables c.requires.indexed).built)

pub returns-in-Ok : goal.returns-in-Ok
returns-in-Ok c =
    let tables : tables_in c.as_slice.result.now ≡ contents_of c.args.held.now =
    ap (λ (ts : List (Rc TableValue Global)). tables_in ts) c.as_slice.ensures.value ∙ c.in_ok-tables.ensures in
    let entries : indexes_in c.as_slice-3.result.now ≡ entries_of c.args.held.now =
    ap (λ (es : List (Option (Rc IndexValue Global))). indexes_in es) c.as_slice-3.ensures.value
    ∙ c.in_ok-indexes.ensures in
    let masks : masks_of c.args.q.now.places c.as_slice-3.result.now ≡ masks_in c.args.held.now =
    held_masks c.args.q.now c.args.held.now c.as_slice-3.result.now c.requires.tables c.requires.indexed entries in
    let rows = ap (λ (ts : List TableValue). rows_in ts) tables in
    let narrow : first_wide c.args.q.now (rows_in (contents_of c.args.held.now)) ≡ None =
    sym (ap (first_wide c.args.q.now) rows) ∙ c.in-Ok.ensures.narrow in
    let stats : c.in-Ok.stats
    ≡ stats_of c.args.q.now (rows_in (contents_of c.args.held.now)) (masks_in c.args.held.now) c.args.weights =
    c.in-Ok.ensures.value ∙ ap₂ (λ (rs : List (List (List Value))) (ms : List ℕ).
    stats_of c.args.q.now rs ms c.args.weights) rows masks in
    ap Narrow stats ∙ ap (λ (place : Option ℕ). measure_by place
    (stats_of c.args.q.now (rows_in (contents_of c.args.held.now)) (masks_in c.args.held.now) c.args.weights))
    (sym narrow)
