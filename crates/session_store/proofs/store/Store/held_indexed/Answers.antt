use Rattle.std.proofs.Common.{◌≡◌, ◌∙◌, ◌<◌, Some, None, length, ap, sym, subst}
use Rattle.std.specs.Option.{option_map}
use Rattle.csv_tables.specs.Tables.{TableValue}
use Rattle.catalog_model.specs.Catalogs.{find_table, put_index}
use Rattle.session_store.specs.Kept.{HeldTable, StoreState, put_held}
use Rattle.session_store.proofs.Changes.{index_put, ok_both}
use Rattle.session_store.proofs.Entries.{found_table}
use Rattle.session_store.proofs.store.Store.held_indexed.Goals as goal

pub with_index-requires : goal.with_index-requires
with_index-requires c =
    let some : Some c.in-Some.before.now.version.content ≡ find_table c.args.self.now.catalog.tables c.args.table.now =
    ap (option_map (λ (h : HeldTable). h.version.content)) c.in-Some.ensures.value
    ∙ (found_table c.self.inside.tables.entries c.args.table.now
    ∙ ap (λ (k : StoreState). find_table k.catalog.tables c.args.table.now) c.self.view_is) in
    let there : Some c.requires.content ≡ Some c.in-Some.before.now.version.content = sym c.requires.found ∙ sym some in
    let same : c.requires.content ≡ c.in-Some.before.now.version.content = cc in
    subst (λ (t : TableValue). c.args.column < length t.schema) same c.requires.in_range

pub unreachable-requires : goal.unreachable-requires
unreachable-requires c =
    let none : None ≡ find_table c.args.self.now.catalog.tables c.args.table.now =
    ap (option_map (λ (h : HeldTable). h.version.content)) c.in-None.ensures.value
    ∙ (found_table c.self.inside.tables.entries c.args.table.now
    ∙ ap (λ (k : StoreState). find_table k.catalog.tables c.args.table.now) c.self.view_is) in
    let bad : None ≡ Some c.requires.content = none ∙ c.requires.found in
    absurd cc

pub returns : goal.returns
returns c =
    ok_both c.with_index.result _ _
    (λ (held : HeldTable). put_held c.args.self.now.catalog.tables c.args.table.now held
    ≡ put_index c.args.self.now.catalog.tables c.args.table.now c.args.column)
    c.with_index.ensures.version c.with_index.ensures.flags
    (λ held version flags.
    subst (λ (k : StoreState). put_held k.catalog.tables c.args.table.now held
    ≡ put_index k.catalog.tables c.args.table.now c.args.column)
    c.self.view_is
    (index_put c.self.inside.tables.entries c.args.table.now c.args.column c.in-Some.before.now held
    (sym c.in-Some.ensures.value) version flags))
