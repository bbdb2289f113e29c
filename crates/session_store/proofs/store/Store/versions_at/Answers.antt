use Rattle.std.proofs.Common.{◌≡◌, ◌∙◌, Some, None, ap, sym}
use Rattle.std.specs.Option.{option_map}
use Rattle.row_values.specs.declared.statement.Place.{Place}
use Rattle.catalog_model.specs.Catalogs.{find_version}
use Rattle.session_store.specs.Kept.{HeldTable, StoreState}
use Rattle.session_store.proofs.OpenCursors.{found_version, none_found, one_found}
use Rattle.session_store.proofs.store.Store.versions_at.Goals as goal

pub loop-place-preserved-in_default : goal.loop-place-preserved-in_default
loop-place-preserved-in_default c =
    let none : None ≡ find_version c.args.self.now.catalog.tables c.place-item.result.table =
    ap (option_map (λ (h : HeldTable). h.version)) c.in_default.ensures.value
    ∙ (found_version c.self.inside.tables.entries c.place-item.result.table
    ∙ ap (λ (k : StoreState). find_version k.catalog.tables c.place-item.result.table) c.self.view_is) in
    none_found (λ (p : Place). find_version c.args.self.now.catalog.tables p.table) c.args.places.now
    c.loop-place.place-index c.place-item.result c.loop-place.versions.items _ c.place-item.is c.loop-place-test.true
    (sym none) c.loop-place.invariant

pub loop-place-preserved : goal.loop-place-preserved
loop-place-preserved c =
    let some : Some c.in-Some.held.now.version
    ≡ find_version c.args.self.now.catalog.tables c.place-item.result.table =
    ap (option_map (λ (h : HeldTable). h.version)) c.in-Some.ensures.value
    ∙ (found_version c.self.inside.tables.entries c.place-item.result.table
    ∙ ap (λ (k : StoreState). find_version k.catalog.tables c.place-item.result.table) c.self.view_is) in
    let copied : c.in_ok-clone.field-0 ≡ c.in-Some.held.now.version =
    c.in_ok-clone.ensures.cases ∙ c.version.ensures in
    one_found (λ (p : Place). find_version c.args.self.now.catalog.tables p.table) c.args.places.now
    c.loop-place.place-index c.place-item.result c.loop-place.versions.items c.push.new.self.items _
    c.in_ok-clone.field-0 c.place-item.is c.loop-place-test.true (sym some ∙ ap Some (sym copied))
    c.in_ok-push.ensures.items c.loop-place.invariant
