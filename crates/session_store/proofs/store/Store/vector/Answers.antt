use Rattle.std.proofs.Common.{◌≡◌, ◌∙◌, List, Option, ap, sym, subst}
use Rattle.std.specs.declared.alloc.Global.{Global}
use Rattle.std.specs.declared.rc.Rc.{Rc}
use Rattle.row_values.specs.declared.statement.Place.{Place}
use Rattle.row_values.specs.declared.values.Value.{Value}
use Rattle.csv_tables.specs.StatementTables.{rows_in, tables_in}
use Rattle.csv_tables.specs.Tables.{TableValue}
use Rattle.statement_meaning.specs.Vectors.{vector_of}
use Rattle.table_index.specs.Indexes.{IndexValue}
use Rattle.table_index.specs.StatementIndexes.{indexes_in}
use Rattle.selectivity_counts.specs.Built.{AreBuilt}
use Rattle.session_store.specs.Kept.{AreHeld, contents_of, entries_of}
use Rattle.session_store.proofs.HeldIndexes.{held_are_indexes}
use Rattle.session_store.proofs.PresentTables.{columns_told, held_present, rows_told}
use Rattle.session_store.proofs.store.Store.vector.Goals as goal

pub vector-requires-clause-built : goal.vector-requires-clause-built
vector-requires-clause-built c =
    let tables : tables_in c.as_slice-3.result.now ≡ contents_of c.in_ok-held.held.items =
    ap (λ (ts : List (Rc TableValue Global)). tables_in ts) c.as_slice-3.ensures.value
    ∙ (c.in_ok-tables.ensures ∙ ap contents_of c.as_slice.ensures.value) in
    let entries : indexes_in c.as_slice-4.result.now ≡ entries_of c.in_ok-held.held.items =
    ap (λ (es : List (Option (Rc IndexValue Global))). indexes_in es) c.as_slice-4.ensures.value
    ∙ (c.in_ok-indexes.ensures ∙ ap entries_of c.as_slice-2.ensures.value) in
    let held : AreHeld c.args.self.now.catalog.tables c.args.q.now.places c.in_ok-held.held.items =
    subst (λ (ps : List Place). AreHeld c.args.self.now.catalog.tables ps c.in_ok-held.held.items)
    c.places.ensures.value
    c.in_ok-held.ensures in
    let of = columns_told c.args.self.now.catalog.tables c.args.q.now (contents_of c.in_ok-held.held.items) c.requires
    (held_present c.args.self.now.catalog.tables c.args.q.now c.in_ok-held.held.items held) in
    subst (λ (ts : List TableValue). AreBuilt c.args.q.now ts (indexes_in c.as_slice-4.result.now)) (sym tables)
    (subst (AreBuilt c.args.q.now (contents_of c.in_ok-held.held.items)) (sym entries)
    (held_are_indexes c.args.q.now c.in_ok-held.held.items of held.indexed).built)

pub returns : goal.returns
returns c =
    let tables : tables_in c.as_slice-3.result.now ≡ contents_of c.in_ok-held.held.items =
    ap (λ (ts : List (Rc TableValue Global)). tables_in ts) c.as_slice-3.ensures.value
    ∙ (c.in_ok-tables.ensures ∙ ap contents_of c.as_slice.ensures.value) in
    let held : AreHeld c.args.self.now.catalog.tables c.args.q.now.places c.in_ok-held.held.items =
    subst (λ (ps : List Place). AreHeld c.args.self.now.catalog.tables ps c.in_ok-held.held.items)
    c.places.ensures.value
    c.in_ok-held.ensures in
    c.vector.ensures ∙ ap (λ (rows : List (List (List Value))). vector_of c.args.q.now rows c.args.args.now)
    (ap (λ (ts : List TableValue). rows_in ts) tables
    ∙ rows_told c.args.self.now.catalog.tables c.args.q.now (contents_of c.in_ok-held.held.items)
    (held_present c.args.self.now.catalog.tables c.args.q.now c.in_ok-held.held.items held))
