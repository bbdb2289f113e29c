use Rattle.std.proofs.Common.{ℕ, ap₂, ◌≡◌, ◌+◌, ◌∙◌, List, Option, ap, set, slice_index_or, sym, subst}
use Rattle.std.specs.declared.rc.Rc.{Rc}
use Rattle.std.specs.declared.alloc.Global.{Global}
use Rattle.row_values.specs.Statements.{Statement}
use Rattle.row_values.specs.declared.refusals.Refusal.{Refusal}
use Rattle.csv_tables.specs.StatementTables.{AreTablesOf, rows_in, tables_in}
use Rattle.csv_tables.specs.Tables.{TableValue}
use Rattle.table_index.specs.Indexes.{IndexValue}
use Rattle.table_index.specs.StatementIndexes.{AreIndexesOf, indexes_in, masks_of}
use Rattle.statement_statistics.specs.Statistics.{row_counts}
use Rattle.anchor_cache.specs.Contents.{Contents, state_of}
use Rattle.session_model.specs.State.{CursorState}
use Rattle.session_engine.specs.Executed.{Executed, shown_by}
use Rattle.session_engine.specs.Running.{IsUnchanged}
use Rattle.session_engine.specs.Serving.{IsSessionKept}
use Rattle.session_engine.proofs.KeptRuns.{IsToldOf, many_kept, on_err, ran_kept, serving_told, told_less, unchanged}
use Rattle.session_engine.proofs.Ready.{is_told, masks_told, rows_told}
use Rattle.session_engine.proofs.running.run.Goals as goal

pub execute-requires-clause-ready : goal.execute-requires-clause-ready
execute-requires-clause-ready g c =
    let q : Statement = c.query.result.now in
    let told = is_told _ _ c.args.store.now.catalog _ c.in-Ok.instance q c.in-Ok.ensures c.query.ensures.value in
    let tables = sym c.deref.ensures.value in
    let indexes = sym c.deref-2.ensures.value in
    record {
      tables = subst (λ (ts : List (Rc TableValue Global)). AreTablesOf q (tables_in ts)) tables
          (c.in_ok-tables.ensures.columns q c.query.ensures.value);
      indexes = subst (λ (ts : List (Rc TableValue Global)). AreIndexesOf q (tables_in ts)
          (indexes_in c.deref-2.result.now)) tables
          (subst (λ (is : List (Option (Rc IndexValue Global))). AreIndexesOf q (tables_in c.in_ok-tables.tables.items)
          (indexes_in is)) indexes
          (c.in_ok-indexes.ensures.built q (tables_in c.in_ok-tables.tables.items) c.query.ensures.value
          (c.in_ok-tables.ensures.present q c.query.ensures.value)));
      stats = told.stats;
      rows = subst (λ (ts : List (Rc TableValue Global)). c.in-Ok.instance.stats.rows ≡ row_counts q
          (rows_in (tables_in ts))) tables
          (rows_told c.args.store.now.catalog c.in-Ok.instance q (rows_in (tables_in c.in_ok-tables.tables.items))
          told.stats_are (c.in_ok-tables.ensures.rows q c.query.ensures.value));
      masks = subst (λ (is : List (Option (Rc IndexValue Global))). c.in-Ok.instance.stats.indexed
          ≡ masks_of q.places is) indexes
          (masks_told c.args.store.now.catalog c.in-Ok.instance q (masks_of q.places c.in_ok-indexes.indexes.items)
          told.stats_are (c.in_ok-indexes.ensures.masks q c.query.ensures.value));
      vector = told.vector;
    }

pub bounds-caches-instance : goal.bounds-caches-instance
bounds-caches-instance g c =
    (told_less c.args.store.now.catalog c.args.caches.now c.requires.kept.0 c.args.executions c.args.settings
    c.args.name.now c.args.args.now c.in-Ok.instance c.requires.kept.1 c.in-Ok.ensures)

pub execute-requires-clause-serving : goal.execute-requires-clause-serving
execute-requires-clause-serving g c =
    let q : Statement = c.query.result.now in
    let was : Contents = slice_index_or c.args.caches.now c.in-Ok.instance.statement c.index-caches-instance.result in
    let read : was ≡ slice_index_or c.args.caches.now c.in-Ok.instance.statement was =
    ap (slice_index_or c.args.caches.now c.in-Ok.instance.statement) c.index-caches-instance.is in
    let rows = ap (λ (ts : List (Rc TableValue Global)). rows_in (tables_in ts)) c.deref.ensures.value
    ∙ c.in_ok-tables.ensures.rows q c.query.ensures.value in
    let told : IsToldOf c.args.store.now.catalog c.args.name.now c.args.args.now c.in-Ok.instance q
    (rows_in (tables_in c.deref.result.now)) =
    record { instance = c.in-Ok.ensures; there = c.query.ensures.value; rows_are = rows } in
    serving_told c.args.store.now.catalog c.args.caches.now c.requires.kept.0 c.args.executions c.args.settings
    c.args.name.now c.args.args.now c.in-Ok.instance q (rows_in (tables_in c.deref.result.now)) was
    c.requires.kept.1 told read

pub returns-in_err-ran-clause-err : goal.returns-in_err-ran-clause-err
returns-in_err-ran-clause-err g c =
    let q : Statement = c.query.result.now in
    let was : Contents = slice_index_or c.args.caches.now c.in-Ok.instance.statement c.index-caches-instance.result in
    let read : was ≡ slice_index_or c.args.caches.now c.in-Ok.instance.statement was =
    ap (slice_index_or c.args.caches.now c.in-Ok.instance.statement) c.index-caches-instance.is in
    let rows = ap (λ (ts : List (Rc TableValue Global)). rows_in (tables_in ts)) c.deref.ensures.value
    ∙ c.in_ok-tables.ensures.rows q c.query.ensures.value in
    let kept : (cursors : List CursorState)
    → IsSessionKept c.args.store.now.catalog c.args.caches.now cursors c.args.executions c.args.settings
    → IsUnchanged c.args.store.now.catalog c.args.caches.now
    (set c.args.caches.now c.in-Ok.instance.statement c.execute.new.cache) c.args.executions c.args.settings cursors =
    λ cursors h. unchanged c.args.store.now.catalog c.args.caches.now cursors c.args.executions c.args.settings
    c.args.name.now c.args.args.now c.in-Ok.instance q (rows_in (tables_in c.deref.result.now)) was c.execute.new.cache
    (record {
      told_of = record { instance = c.in-Ok.ensures; there = c.query.ensures.value; rows_are = rows };
      read = read;
      same = c.in_err-ran.ensures.failed;
      costed = c.in_err-ran.ensures.costed;
    }) h in
    on_err _ _ kept

pub returns-in-None-clause-ok : goal.returns-in-None-clause-ok
returns-in-None-clause-ok g c =
    let q : Statement = c.query.result.now in
    let was : Contents = slice_index_or c.args.caches.now c.in-Ok.instance.statement c.index-caches-instance.result in
    let read : was ≡ slice_index_or c.args.caches.now c.in-Ok.instance.statement was =
    ap (slice_index_or c.args.caches.now c.in-Ok.instance.statement) c.index-caches-instance.is in
    let rows = ap (λ (ts : List (Rc TableValue Global)). rows_in (tables_in ts)) c.deref.ensures.value
    ∙ c.in_ok-tables.ensures.rows q c.query.ensures.value in
    let none = subst (λ ran. Executed c.args.settings (c.args.executions + 1) c.args.name.now q
    (rows_in (tables_in c.deref.result.now)) c.args.args.now c.in-Ok.instance.stats c.in-Ok.instance.at
    (state_of was) (state_of c.execute.new.cache) (shown_by (g.A.Answer.lines q) ran)) c.in-None.is
    c.in_ok-ran.ensures.executed in
    λ cursors h. many_kept g.A.Answer.lines c.args.store.now.catalog c.args.caches.now cursors c.args.executions
    c.args.settings
    c.args.name.now c.args.args.now c.in-Ok.instance q (rows_in (tables_in c.deref.result.now)) was
    c.execute.new.cache c.bare.result (ap₂ (λ (code : ℕ) (shown : List ℕ). let why : Refusal = record
    { code = code; shown = shown } in why)
    c.bare.ensures.code c.bare.ensures.shown)
    (record {
      told_of = record { instance = c.in-Ok.ensures; there = c.query.ensures.value; rows_are = rows };
      read = read;
      same = none.1;
      costed = c.in_ok-ran.ensures.costed;
    }) none.0 h

pub returns-clause-ok : goal.returns-clause-ok
returns-clause-ok g c =
    let q : Statement = c.query.result.now in
    let was : Contents = slice_index_or c.args.caches.now c.in-Ok.instance.statement c.index-caches-instance.result in
    let read : was ≡ slice_index_or c.args.caches.now c.in-Ok.instance.statement was =
    ap (slice_index_or c.args.caches.now c.in-Ok.instance.statement) c.index-caches-instance.is in
    let rows = ap (λ (ts : List (Rc TableValue Global)). rows_in (tables_in ts)) c.deref.ensures.value
    ∙ c.in_ok-tables.ensures.rows q c.query.ensures.value in
    let ran = subst (λ ran. Executed c.args.settings (c.args.executions + 1) c.args.name.now q
    (rows_in (tables_in c.deref.result.now)) c.args.args.now c.in-Ok.instance.stats c.in-Ok.instance.at
    (state_of was) (state_of c.execute.new.cache) (shown_by (g.A.Answer.lines q) ran)) c.in-Some.is
    c.in_ok-ran.ensures.executed in
    λ cursors h. ran_kept g.A.Answer.lines c.args.store.now.catalog c.args.caches.now cursors c.args.executions
    c.args.settings
    c.args.name.now c.args.args.now c.in-Ok.instance q (rows_in (tables_in c.deref.result.now))
    c.in-Some.answered.0 c.in-Some.answered.1 was c.execute.new.cache
    (record { instance = c.in-Ok.ensures; there = c.query.ensures.value; rows_are = rows }) read ran
    c.in_ok-ran.ensures.costed h
