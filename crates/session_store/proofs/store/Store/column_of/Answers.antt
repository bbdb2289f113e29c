use Rattle.std.proofs.Common.{◌≡◌, ◌∙◌, ◌<◌, List, Some, None, Err, length, ap, subst, sym}
use Rattle.std.specs.Option.{option_map}
use Rattle.row_values.specs.Names.{canonical_name}
use Rattle.row_values.specs.declared.columns.Column.{Column}
use Rattle.csv_tables.specs.Tables.{TableValue}
use Rattle.catalog_model.specs.Catalogs.{find_table}
use Rattle.catalog_model.specs.Indexing.{column_named}
use Rattle.session_store.specs.Kept.{HeldTable, StoreState}
use Rattle.session_store.proofs.Columns.{has_column, no_column, no_table}
use Rattle.session_store.proofs.Entries.{found_table}
use Rattle.session_store.proofs.store.Store.column_of.Goals as goal

pub returns-in_default-clause-wanted : goal.returns-in_default-clause-wanted
returns-in_default-clause-wanted c =
    let none : None ≡ find_table c.args.self.now.catalog.tables c.args.table.now =
    ap (option_map (λ (h : HeldTable). h.version.content)) c.in_default.ensures.value
    ∙ (found_table c.self.inside.tables.entries c.args.table.now
    ∙ ap (λ (k : StoreState). find_table k.catalog.tables c.args.table.now) c.self.view_is) in
    no_table c.args.self.now.catalog c.args.table.now c.args.column.now _ (sym none)
    (c.in_ok-shown.ensures ∙ ap canonical_name c.as_str.ensures) ∙ ap Err (sym c.unknown_table.ensures)

pub returns-in-Some-column_named-clause-wanted : goal.returns-in-Some-column_named-clause-wanted
returns-in-Some-column_named-clause-wanted c =
    let some : Some c.in-Some.held.now.version.content ≡ find_table c.args.self.now.catalog.tables c.args.table.now =
    ap (option_map (λ (h : HeldTable). h.version.content)) c.in-Some.ensures.value
    ∙ (found_table c.self.inside.tables.entries c.args.table.now
    ∙ ap (λ (k : StoreState). find_table k.catalog.tables c.args.table.now) c.self.view_is) in
    let schema : c.columns.result.now ≡ c.in-Some.held.now.version.content.schema = c.columns.ensures.value
    ∙ (c.schema.ensures.value ∙ ap (λ (t : TableValue). t.schema) (c.deref.ensures ∙ c.table.ensures)) in
    has_column c.args.self.now.catalog c.args.table.now c.args.column.now c.in-Some.held.now.version.content
    c.in-Some-column_named.number (sym some)
    (sym (c.in-Some-column_named.ensures.value
    ∙ ap (λ (columns : List Column). column_named columns c.args.column.now) schema))

pub returns-in-Some-column_named-clause-there : goal.returns-in-Some-column_named-clause-there
returns-in-Some-column_named-clause-there c =
    let some : Some c.in-Some.held.now.version.content ≡ find_table c.args.self.now.catalog.tables c.args.table.now =
    ap (option_map (λ (h : HeldTable). h.version.content)) c.in-Some.ensures.value
    ∙ (found_table c.self.inside.tables.entries c.args.table.now
    ∙ ap (λ (k : StoreState). find_table k.catalog.tables c.args.table.now) c.self.view_is) in
    let schema : c.columns.result.now ≡ c.in-Some.held.now.version.content.schema = c.columns.ensures.value
    ∙ (c.schema.ensures.value ∙ ap (λ (t : TableValue). t.schema) (c.deref.ensures ∙ c.table.ensures)) in
    record {
      content = c.in-Some.held.now.version.content;
      found = sym some;
      in_range = subst (λ (columns : List Column). c.in-Some-column_named.number < length columns) schema
          c.in-Some-column_named.ensures.within;
    }

pub returns-in_ok-shown-in-None-clause-wanted : goal.returns-in_ok-shown-in-None-clause-wanted
returns-in_ok-shown-in-None-clause-wanted c =
    let some : Some c.in-Some.held.now.version.content ≡ find_table c.args.self.now.catalog.tables c.args.table.now =
    ap (option_map (λ (h : HeldTable). h.version.content)) c.in-Some.ensures.value
    ∙ (found_table c.self.inside.tables.entries c.args.table.now
    ∙ ap (λ (k : StoreState). find_table k.catalog.tables c.args.table.now) c.self.view_is) in
    let schema : c.columns.result.now ≡ c.in-Some.held.now.version.content.schema = c.columns.ensures.value
    ∙ (c.schema.ensures.value ∙ ap (λ (t : TableValue). t.schema) (c.deref.ensures ∙ c.table.ensures)) in
    no_column c.args.self.now.catalog c.args.table.now c.args.column.now _ c.in-Some.held.now.version.content (sym some)
    (sym (c.in-None.ensures.value ∙ ap (λ (columns : List Column). column_named columns c.args.column.now) schema))
    (c.in_ok-shown-in-None.ensures ∙ ap canonical_name c.as_str-in-None.ensures) ∙ ap Err (sym c.unknown_column.ensures)
