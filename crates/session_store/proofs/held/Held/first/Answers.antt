use Rattle.std.proofs.Common.{◌≡◌, ◌∙◌, List, None, Option, map, ap, subst, sym}
use Rattle.row_values.specs.declared.columns.Column.{Column}
use Rattle.csv_tables.specs.Tables.{TableValue}
use Rattle.table_index.specs.Indexes.{IndexValue}
use Rattle.table_index.specs.StatementIndexes.{indexes_in}
use Rattle.catalog_model.specs.Catalogs.{Version}
use Rattle.session_store.specs.Kept.{IsIndexed, held_table}
use Rattle.session_store.proofs.HeldIndexes.{first_sound}
use Rattle.session_store.proofs.held.Held.first.Goals as goal

pub invariant_of-result : goal.invariant_of-result
invariant_of-result c =
    let none : indexes_in c.in_ok-indexes.indexes.items ≡ map (λ column. None) c.args.version.content.schema =
    c.in_ok-indexes.ensures ∙ ap (λ (columns : List Column). let es : List (Option IndexValue) =
    map (λ column. None) columns in es)
    (c.columns.ensures.value ∙ (c.schema.ensures.value
    ∙ ap (λ (t : TableValue). t.schema) (c.deref.ensures ∙ c.table.ensures))) in
    record {
      indexed = subst (λ (v : Version). IsIndexed (held_table v c.in_ok-new.field-0.value.items))
          (sym c.version.view_is)
          (first_sound c.args.version c.in_ok-new.field-0.value.items (rw c.in_ok-new.ensures.ok none));
      counted = tt;
    }
