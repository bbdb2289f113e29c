use Rattle.std.proofs.Common.{◌≡◌, ◌∙◌, List, ap, ap₂, filter_map, subst, sym}
use Rattle.row_values.specs.declared.statement.Place.{Place}
use Rattle.catalog_model.specs.Catalogs.{find_version}
use Rattle.catalog_model.specs.Held.{HeldCursor, versions_of}
use Rattle.session_store.specs.Kept.{IsKept, StoreState, held_cursor}
use Rattle.session_store.proofs.Keeping.{kept_opened}
use Rattle.session_store.proofs.OpenCursors.{allowed, state_opened}
use Rattle.session_store.proofs.store.Store.hold_cursor.Goals as goal

pub invariant_of-self-2 : goal.invariant_of-self-2
invariant_of-self-2 c =
    let may = allowed c.args.self.now.cursors c.args.cursor.now c.requires.allowed in
    let held : c.in_ok-held.held.items ≡ versions_of c.args.self.now.catalog.tables c.query.result.now =
    c.in_ok-held.ensures ∙ ap (λ (ps : List Place).
    filter_map (λ (p : Place). find_version c.args.self.now.catalog.tables p.table) ps) c.places.ensures.value in
    let new : HeldCursor = record {
      name = c.args.cursor.now;
      held = versions_of c.args.self.now.catalog.tables c.query.result.now;
    } in
    let made : held_cursor c.in_ok-name.name c.in_ok-held.held.items ≡ new =
    ap₂ held_cursor c.in_ok-name.ensures held in
    subst (λ (k : StoreState). IsKept k c.self.inside.measures.items)
    (sym (state_opened c.args.self.now c.self.inside.tables.entries c.self.inside.statements.entries
    c.self.inside.versions c.self.inside.weights c.self.inside.cursors.items c.push.new.self.items
    (held_cursor c.in_ok-name.name c.in_ok-held.held.items) new c.self.view_is c.in_ok-push.ensures.items made))
    (kept_opened c.args.self.now c.self.inside.measures.items c.args.cursor.now c.query.result.now
    (subst (λ (k : StoreState). IsKept k c.self.inside.measures.items) c.self.view_is c.self.invariant) may.0 may.1)
