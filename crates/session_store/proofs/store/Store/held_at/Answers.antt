use Rattle.std.proofs.Common.{◌≡◌, ◌∙◌, ap, sym, Some, None, true, false, rules}
use Rattle.std.specs.Str.{bytes_eq}
use Rattle.std.specs.Option.{option_map}
use Rattle.csv_tables.specs.Tables.{TableValue}
use Rattle.catalog_model.specs.Catalogs.{find_table, flags_named}
use Rattle.session_store.specs.Kept.{HeldTable, StoreState, flags_of}
use Rattle.session_store.proofs.Entries.{found_flags, found_table}
use Rattle.session_store.proofs.Changes.{held_here, held_there}
use Rattle.session_store.proofs.store.Store.held_at.Goals as goal

pub returns-then-eq : goal.returns-then-eq
returns-then-eq c =
    let here : bytes_eq c.args.place.now.table c.args.name.now ≡ true = search rules in
    held_here c.args.self.now.catalog.tables c.args.place.now c.args.name.now c.args.new.now c.in_ok-held.held
    c.in_ok-held.ensures.cases here c.sound.ensures

pub unreachable-requires : goal.unreachable-requires
unreachable-requires c =
    let none : None ≡ find_table c.args.self.now.catalog.tables c.args.place.now.table =
    ap (option_map (λ (h : HeldTable). h.version.content)) c.in-None.ensures.value
    ∙ (found_table c.self.inside.tables.entries c.args.place.now.table
    ∙ ap (λ (k : StoreState). find_table k.catalog.tables c.args.place.now.table) c.self.view_is) in
    let bad : None ≡ Some c.args.place.now.schema =
    ap (option_map (λ (t : TableValue). t.schema)) none ∙ c.requires in
    absurd cc

pub returns : goal.returns
returns c =
    let differ : bytes_eq c.args.place.now.table c.args.name.now ≡ false = search rules in
    let some : Some c.in-Some.held.now.version.content
    ≡ find_table c.args.self.now.catalog.tables c.args.place.now.table =
    ap (option_map (λ (h : HeldTable). h.version.content)) c.in-Some.ensures.value
    ∙ (found_table c.self.inside.tables.entries c.args.place.now.table
    ∙ ap (λ (k : StoreState). find_table k.catalog.tables c.args.place.now.table) c.self.view_is) in
    let flags : flags_of c.in-Some.held.now.indexes
    ≡ flags_named c.args.self.now.catalog.tables c.args.place.now.table =
    sym (found_flags c.self.inside.tables.entries c.args.place.now.table c.in-Some.held.now
    (sym c.in-Some.ensures.value)) ∙ ap (λ (k : StoreState). flags_named k.catalog.tables c.args.place.now.table)
    c.self.view_is
    in
    held_there c.args.self.now.catalog.tables c.args.place.now c.args.name.now c.args.new.now c.in-Some.held.now
    c.in_ok-held-in-Some.held c.in_ok-held-in-Some.ensures.cases differ some flags c.sound-in-Some.ensures
