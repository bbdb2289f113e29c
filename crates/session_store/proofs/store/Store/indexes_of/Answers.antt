use Rattle.std.proofs.Common.{◌≡◌, ◌∙◌, List, All, ap, sym, subst}
use Rattle.row_values.specs.Statements.{Statement}
use Rattle.row_values.specs.declared.statement.Place.{Place}
use Rattle.csv_tables.specs.StatementTables.{AreTablesOf}
use Rattle.csv_tables.specs.Tables.{TableValue}
use Rattle.table_index.specs.StatementIndexes.{AreIndexesOf, indexes_in}
use Rattle.catalog_model.specs.Sound.{IsLoaded}
use Rattle.session_store.specs.Kept.{AreHeld, contents_of, entries_of}
use Rattle.session_store.proofs.HeldIndexes.{held_are_indexes, held_masks}
use Rattle.session_store.proofs.PresentTables.{columns_told, held_present, masks_told, present_once, same_statement}
use Rattle.session_store.proofs.store.Store.indexes_of.Goals as goal

pub held_of-requires : goal.held_of-requires
held_of-requires c =
    subst (λ (ps : List Place). All (IsLoaded c.args.self.now.catalog.tables) ps)
    (sym c.places.ensures.value) c.query.ensures.loaded

pub returns-clause-built : goal.returns-clause-built
returns-clause-built c = λ q tables is present.
    let same = same_statement c.query.result.now q (sym c.query.ensures.value ∙ is) in
    let held : AreHeld c.args.self.now.catalog.tables q.places c.in_ok-held.held.items =
    subst (λ (ps : List Place). AreHeld c.args.self.now.catalog.tables ps c.in_ok-held.held.items)
    (c.places.ensures.value ∙ ap (λ (s : Statement). s.places) same) c.in_ok-held.ensures in
    let here = held_present c.args.self.now.catalog.tables q c.in_ok-held.held.items held in
    let of : AreTablesOf q (contents_of c.in_ok-held.held.items) =
    columns_told c.args.self.now.catalog.tables q (contents_of c.in_ok-held.held.items)
    (subst (λ (s : Statement). All (IsLoaded c.args.self.now.catalog.tables) s.places) same c.query.ensures.loaded) here
    in
    let entries : indexes_in c.in_ok-indexes.indexes.items ≡ entries_of c.in_ok-held.held.items =
    c.in_ok-indexes.ensures ∙ ap entries_of c.as_slice.ensures.value in
    subst (λ (ts : List TableValue). AreIndexesOf q ts (indexes_in c.in_ok-indexes.indexes.items))
    (present_once c.args.self.now.catalog.tables q (contents_of c.in_ok-held.held.items) tables here present)
    (subst (AreIndexesOf q (contents_of c.in_ok-held.held.items)) (sym entries)
    (held_are_indexes q c.in_ok-held.held.items of held.indexed))

pub returns-clause-masks : goal.returns-clause-masks
returns-clause-masks c = λ q is.
    let same = same_statement c.query.result.now q (sym c.query.ensures.value ∙ is) in
    let held : AreHeld c.args.self.now.catalog.tables q.places c.in_ok-held.held.items =
    subst (λ (ps : List Place). AreHeld c.args.self.now.catalog.tables ps c.in_ok-held.held.items)
    (c.places.ensures.value ∙ ap (λ (s : Statement). s.places) same) c.in_ok-held.ensures in
    let here = held_present c.args.self.now.catalog.tables q c.in_ok-held.held.items held in
    let of : AreTablesOf q (contents_of c.in_ok-held.held.items) =
    columns_told c.args.self.now.catalog.tables q (contents_of c.in_ok-held.held.items)
    (subst (λ (s : Statement). All (IsLoaded c.args.self.now.catalog.tables) s.places) same c.query.ensures.loaded) here
    in
    held_masks q c.in_ok-held.held.items c.in_ok-indexes.indexes.items of held.indexed
    (c.in_ok-indexes.ensures ∙ ap entries_of c.as_slice.ensures.value)
    ∙ masks_told c.args.self.now.catalog.tables q c.in_ok-held.held.items held
