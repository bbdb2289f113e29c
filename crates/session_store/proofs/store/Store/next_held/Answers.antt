use Rattle.std.proofs.Common.{◌≡◌, ◌∙◌, Option, Some, ap, sym, subst}
use Rattle.std.specs.Option.{option_map}
use Rattle.csv_tables.specs.Tables.{TableValue}
use Rattle.catalog_model.specs.Catalogs.{find_table, put_version}
use Rattle.catalog_model.specs.Loading.{has_other_columns}
use Rattle.session_store.specs.Kept.{HeldTable, StoreState, put_held, tables_in, unindexed}
use Rattle.session_store.proofs.Changes.{first_put, next_put, ok_both, ok_then, same_width}
use Rattle.session_store.proofs.Entries.{found_table}
use Rattle.session_store.proofs.store.Store.next_held.Goals as goal

pub next-requires : goal.next-requires
next-requires c =
    let some : Some c.in-Some.before.now.version.content ≡ find_table c.args.self.now.catalog.tables c.args.name.now =
    ap (option_map (λ (h : HeldTable). h.version.content)) c.in-Some.ensures.value
    ∙ (found_table c.self.inside.tables.entries c.args.name.now
    ∙ ap (λ (k : StoreState). find_table k.catalog.tables c.args.name.now) c.self.view_is) in
    same_width c.in-Some.before.now.version.content c.args.new.content
    (ap (λ (o : Option TableValue). has_other_columns o c.args.new.content) some ∙ c.requires)

pub returns-in-None-clause-put : goal.returns-in-None-clause-put
returns-in-None-clause-put c =
    let put : put_held c.args.self.now.catalog.tables c.args.name.now (unindexed c.args.new)
    ≡ put_version c.args.self.now.catalog.tables c.args.name.now c.args.new =
    subst (λ (k : StoreState). put_held k.catalog.tables c.args.name.now (unindexed c.args.new)
    ≡ put_version k.catalog.tables c.args.name.now c.args.new) c.self.view_is
    (first_put c.self.inside.tables.entries c.args.name.now c.args.new (sym c.in-None.ensures.value)) in
    ok_then c.first.result _
    (λ (held : HeldTable). put_held c.args.self.now.catalog.tables c.args.name.now held
    ≡ put_version c.args.self.now.catalog.tables c.args.name.now c.args.new)
    c.first.ensures
    (λ held e. ap (put_held c.args.self.now.catalog.tables c.args.name.now) e ∙ put)

pub returns-in-Some-clause-put : goal.returns-in-Some-clause-put
returns-in-Some-clause-put c =
    ok_both c.next.result _ _
    (λ (held : HeldTable). put_held c.args.self.now.catalog.tables c.args.name.now held
    ≡ put_version c.args.self.now.catalog.tables c.args.name.now c.args.new)
    c.next.ensures.version c.next.ensures.flags
    (λ held e flags.
    subst (λ (k : StoreState). put_held k.catalog.tables c.args.name.now held
    ≡ put_version k.catalog.tables c.args.name.now c.args.new)
    c.self.view_is
    (next_put c.self.inside.tables.entries c.args.name.now c.in-Some.before.now held (sym c.in-Some.ensures.value) flags
    ∙ ap (put_version (tables_in c.self.inside.tables.entries) c.args.name.now) e))
