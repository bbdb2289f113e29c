use Rattle.std.proofs.Common.{◌≡◌, ◌∙◌, ◌++◌, List, Option, Some, set, ap, sym, subst, refl, rules}
use Rattle.std.specs.declared.alloc.Global.{Global}
use Rattle.std.specs.declared.rc.Rc.{Rc}
use Rattle.csv_tables.specs.Tables.{TableValue}
use Rattle.table_index.specs.Indexes.{IndexValue, IsBuilt}
use Rattle.table_index.specs.StatementIndexes.{indexes_in}
use Rattle.catalog_model.specs.Catalogs.{Version}
use Rattle.session_store.specs.Kept.{HeldTable, IsIndexed}
use Rattle.session_store.proofs.HeldIndexes.{counted_alike, set_flags, set_sound}
use Rattle.session_store.proofs.held.Held.with_index.Goals as goal

pub invariant_of-result : goal.invariant_of-result
invariant_of-result c =
    let slice : indexes_in c.as_slice.result.now ≡ c.args.self.now.indexes =
    rw c.as_slice.ensures.value (rw c.deref-3.ensures (ap (λ (h : HeldTable). h.indexes) c.self.view_is)) in
    let old : indexes_in c.push_entries.new.entries.items ≡ c.args.self.now.indexes =
    c.in_ok-push_entries.ensures ∙ (ap (λ (es : List (Option (Rc IndexValue Global))). indexes_in es
    ++ indexes_in c.as_slice.result.now) c.in_ok-indexes.ensures.items ∙ slice) in
    let made : c.in_ok-new-2.field-0.value.items
    ≡ set c.push_entries.new.entries.items c.args.column (Some c.in_ok-new.field-0) =
    rw (c.in_ok-new-2.ensures.ok, c.from.ensures) refl in
    let copied : c.in_ok-clone.field-0 ≡ c.self.inside.version = c.in_ok-clone.ensures.cases in
    let version : c.self.inside.version ≡ c.args.self.now.version = ap (λ (h : HeldTable). h.version) c.self.view_is in
    let built : IsBuilt c.args.self.now.version.content c.args.column c.in_ok-index.index =
    subst (λ (t : TableValue). IsBuilt t c.args.column c.in_ok-index.index)
    (c.deref.ensures ∙ (c.table.ensures ∙ ap (λ (v : Version). v.content) version)) c.in_ok-index.ensures.built in
    record {
      indexed = set_sound c.args.self.now c.in_ok-clone.field-0 c.args.column c.in_ok-new.field-0
          c.in_ok-new-2.field-0.value.items c.push_entries.new.entries.items
          (subst IsIndexed c.self.view_is c.self.invariant.indexed) (copied ∙ version) old made
          (subst (IsBuilt c.args.self.now.version.content c.args.column) (sym c.in_ok-new.ensures.ok) built);
      counted = counted_alike c.in_ok-clone-2.field-0 c.self.inside.version.content c.in_ok-clone.field-0.content
          (ap (λ (v : Version). v.content) copied) (search rules);
    }

pub returns-clause-flags : goal.returns-clause-flags
returns-clause-flags c =
    let slice : indexes_in c.as_slice.result.now ≡ c.args.self.now.indexes =
    rw c.as_slice.ensures.value (rw c.deref-3.ensures (ap (λ (h : HeldTable). h.indexes) c.self.view_is)) in
    let old : indexes_in c.push_entries.new.entries.items ≡ c.args.self.now.indexes =
    c.in_ok-push_entries.ensures ∙ (ap (λ (es : List (Option (Rc IndexValue Global))). indexes_in es
    ++ indexes_in c.as_slice.result.now) c.in_ok-indexes.ensures.items ∙ slice) in
    let made : c.in_ok-new-2.field-0.value.items
    ≡ set c.push_entries.new.entries.items c.args.column (Some c.in_ok-new.field-0) =
    rw (c.in_ok-new-2.ensures.ok, c.from.ensures) refl in
    set_flags c.args.self.now c.args.column c.in_ok-new.field-0 c.in_ok-new-2.field-0.value.items
    c.push_entries.new.entries.items old made
