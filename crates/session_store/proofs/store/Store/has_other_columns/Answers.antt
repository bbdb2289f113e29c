use Rattle.std.proofs.Common.{◌≡◌, ◌∙◌, ap, Some, None, not, List, Option}
use Rattle.std.specs.Option.{option_map}
use Rattle.row_values.specs.declared.columns.Column.{Column}
use Rattle.csv_tables.specs.Tables.{TableValue}
use Rattle.catalog_model.specs.Loading.{are_same_columns, has_other_columns}
use Rattle.catalog_model.specs.Catalogs.{find_table}
use Rattle.session_store.specs.Kept.{HeldTable, StoreState}
use Rattle.session_store.proofs.Entries.{found_table}
use Rattle.session_store.proofs.store.Store.has_other_columns.Goals as goal

pub returns-in-None : goal.returns-in-None
returns-in-None c =
    let none : None ≡ find_table c.args.self.now.catalog.tables c.args.name.now =
    ap (option_map (λ (h : HeldTable). h.version.content)) c.in-None.ensures.value
    ∙ (found_table c.self.inside.tables.entries c.args.name.now
    ∙ ap (λ (k : StoreState). find_table k.catalog.tables c.args.name.now) c.self.view_is) in
    ap (λ (o : Option TableValue). has_other_columns o c.args.table.now) none

pub returns-in-Some : goal.returns-in-Some
returns-in-Some c =
    let some : Some c.in-Some.held.now.version.content ≡ find_table c.args.self.now.catalog.tables c.args.name.now =
    ap (option_map (λ (h : HeldTable). h.version.content)) c.in-Some.ensures.value
    ∙ (found_table c.self.inside.tables.entries c.args.name.now
    ∙ ap (λ (k : StoreState). find_table k.catalog.tables c.args.name.now) c.self.view_is) in
    let olds : c.columns.result.now ≡ c.in-Some.held.now.version.content.schema = c.columns.ensures.value
    ∙ (c.schema.ensures.value ∙ ap (λ (t : TableValue). t.schema) (c.deref.ensures ∙ c.table.ensures)) in
    let news : c.columns-in-Some.result.now ≡ c.args.table.now.schema = c.columns-in-Some.ensures.value
    ∙ c.schema-in-Some.ensures.value in
    ap not (c.are_same_columns.ensures
    ∙ (ap (λ (x : List Column). are_same_columns x c.columns-in-Some.result.now) olds
    ∙ ap (are_same_columns c.in-Some.held.now.version.content.schema) news))
    ∙ ap (λ (o : Option TableValue). has_other_columns o c.args.table.now) some
