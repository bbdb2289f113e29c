use Rattle.std.proofs.Common.{◌≡◌, ◌∙◌, ap, sym, subst, Some, None, rules}
use Rattle.std.specs.Option.{option_map}
use Rattle.csv_tables.specs.Tables.{TableValue}
use Rattle.catalog_model.specs.Catalogs.{find_table, flags_named}
use Rattle.catalog_model.specs.Sound.{IsLoaded}
use Rattle.session_store.specs.Kept.{HeldTable, IsIndexed, StoreState, flags_of}
use Rattle.session_store.proofs.Entries.{found_flags, found_table}
use Rattle.session_store.proofs.PresentTables.{more_held}
use Rattle.session_store.proofs.store.Store.held_of.Goals as goal

pub unreachable-requires : goal.unreachable-requires
unreachable-requires c =
    let none : None ≡ find_table c.args.self.now.catalog.tables c.place-item.result.table =
    ap (option_map (λ (h : HeldTable). h.version.content)) c.in-None.ensures.value
    ∙ (found_table c.self.inside.tables.entries c.place-item.result.table
    ∙ ap (λ (k : StoreState). find_table k.catalog.tables c.place-item.result.table) c.self.view_is) in
    let loaded : option_map (λ (t : TableValue). t.schema)
    (find_table c.args.self.now.catalog.tables c.place-item.result.table) ≡ Some c.place-item.result.schema =
    subst (IsLoaded c.args.self.now.catalog.tables) (sym c.place-item.is)
    (c.requires c.loop-place.place-index c.place-item.result c.loop-place-test.true) in
    let bad : None ≡ Some c.place-item.result.schema = ap (option_map (λ (t : TableValue). t.schema)) none ∙ loaded in
    absurd cc

pub loop-place-preserved : goal.loop-place-preserved
loop-place-preserved c =
    let some : Some c.in-Some.one.now.version.content
    ≡ find_table c.args.self.now.catalog.tables c.place-item.result.table =
    ap (option_map (λ (h : HeldTable). h.version.content)) c.in-Some.ensures.value
    ∙ (found_table c.self.inside.tables.entries c.place-item.result.table
    ∙ ap (λ (k : StoreState). find_table k.catalog.tables c.place-item.result.table) c.self.view_is) in
    let flags : flags_of c.in-Some.one.now.indexes
    ≡ flags_named c.args.self.now.catalog.tables c.place-item.result.table =
    sym (found_flags c.self.inside.tables.entries c.place-item.result.table c.in-Some.one.now
    (sym c.in-Some.ensures.value)) ∙ ap (λ (k : StoreState). flags_named k.catalog.tables c.place-item.result.table)
    c.self.view_is
    in
    let same : c.in_ok-clone-in-Some.field-0 ≡ c.in-Some.one.now = search rules in
    more_held c.args.self.now.catalog.tables c.args.places.now c.loop-place.held.items c.push.new.self.items
    c.in_ok-clone-in-Some.field-0 c.in-Some.one.now c.loop-place.place-index c.place-item.result
    c.in_ok-push-in-Some.ensures.items same some flags (subst IsIndexed (sym same) c.sound.ensures)
    c.place-item.is c.loop-place-test.true c.loop-place.invariant
