use Rattle.std.proofs.Common.{◌≡◌, ◌∙◌, List, Option, length, ap, subst, sym}
use Rattle.csv_tables.specs.Tables.{TableValue}
use Rattle.table_index.specs.Indexes.{IndexValue}
use Rattle.table_index.specs.StatementIndexes.{indexes_in}
use Rattle.catalog_model.specs.Catalogs.{Version}
use Rattle.session_store.specs.Kept.{AreBuilt, HeldTable, IsHeldTable, IsIndexed, flags_of, held_table}
use Rattle.session_store.proofs.HeldIndexes.{counted_alike, next_sound}
use Rattle.session_store.proofs.held.Held.next.Goals as goal

pub invariant_of-result : goal.invariant_of-result
invariant_of-result c =
    let flags : flags_of (indexes_in c.in_ok-indexes.indexes.items) ≡ flags_of (indexes_in c.as_slice.result.now) =
    c.in_ok-indexes.ensures.flags in
    let old : indexes_in c.as_slice.result.now ≡ c.args.self.now.indexes =
    rw c.as_slice.ensures.value (rw c.deref-2.ensures (ap (λ (h : HeldTable). h.indexes) c.self.view_is)) in
    let sound : IsIndexed c.args.self.now = subst IsIndexed c.self.view_is c.self.invariant.indexed in
    let many : length (indexes_in c.as_slice.result.now) ≡ length c.args.version.content.schema =
    ap (λ (es : List (Option IndexValue)). length es) old ∙ (sound.one_each ∙ sym c.requires) in
    let built : AreBuilt c.args.version.content (indexes_in c.in_ok-indexes.indexes.items) =
    subst (λ (t : TableValue). AreBuilt t (indexes_in c.in_ok-indexes.indexes.items))
    (c.deref.ensures ∙ c.table.ensures) c.in_ok-indexes.ensures.built in
    subst (λ (v : Version). IsHeldTable (held_table v c.in_ok-new.field-0.value.items) c.in_ok-distincts.distincts)
    (sym c.version.view_is)
    (record {
      indexed = next_sound c.args.version c.in_ok-new.field-0.value.items (indexes_in c.as_slice.result.now)
          (rw c.in_ok-new.ensures.ok flags) many (rw c.in_ok-new.ensures.ok built);
      counted = counted_alike c.in_ok-distincts.distincts c.deref-3.result.now c.args.version.content
          (sym (c.deref-3.ensures ∙ c.table-2.ensures)) c.in_ok-distincts.ensures;
    })
