use Rattle.std.proofs.Common.{◌∙◌, All, List, ap, subst, sym}
use Rattle.catalog_model.specs.Catalogs.{Catalog, StatementState, TableState, put_index}
use Rattle.catalog_model.specs.Held.{held_by}
use Rattle.catalog_model.specs.Sound.{IsCatalog, IsLoaded}
use Rattle.catalog_model.proofs.Indexings.{indexed}
use Rattle.session_store.specs.Kept.{IsKept, StoreState}
use Rattle.session_store.specs.Measures.{measures_of}
use Rattle.session_store.proofs.Changes.{catalog_put}
use Rattle.session_store.proofs.Keeping.{kept_index, state_is}
use Rattle.session_store.proofs.store.Store.put_index.Goals as goal

pub invariant_of-self-2 : goal.invariant_of-self-2
invariant_of-self-2 c =
    let now = subst (λ (k : StoreState). IsKept k c.self.inside.measures.items) c.self.view_is c.self.invariant in
    let after = catalog_put c.args.self.now.catalog c.self.inside.tables.entries c.insert.new.self.entries
    c.self.inside.statements.entries c.self.inside.versions c.self.inside.versions c.self.inside.weights
    c.in_ok-copy.field-0 c.args.table.now c.in_ok-held.held _ (ap (λ (k : StoreState). k.catalog) c.self.view_is)
    c.in_ok-insert.ensures.entries c.in_ok-copy.ensures c.in_ok-held.ensures
    ∙ ap (λ (k : StoreState). let made : Catalog = record c.args.self.now.catalog {
      tables = put_index c.args.self.now.catalog.tables c.args.table.now c.args.column;
      versions = k.catalog.versions;
    } in made) c.self.view_is in
    subst (λ (k : StoreState). IsKept k c.in_ok-measures.measures.items)
    (sym (state_is c.args.self.now c.insert.new.self.entries c.self.inside.statements.entries
    c.self.inside.versions c.self.inside.weights c.self.inside.cursors.items _ after
    (ap (λ (k : StoreState). k.cursors) c.self.view_is)))
    (kept_index c.args.self.now c.self.inside.measures.items c.in_ok-measures.measures.items c.args.table.now
    c.args.column now
    (c.in_ok-measures.ensures ∙ ap (λ (ts : List TableState).
    measures_of ts c.args.self.now.catalog.weights c.args.self.now.catalog.statements) c.in_ok-held.ensures))

pub returns-clause-value : goal.returns-clause-value
returns-clause-value c =
    catalog_put c.args.self.now.catalog c.self.inside.tables.entries c.insert.new.self.entries
    c.self.inside.statements.entries c.self.inside.versions c.self.inside.versions c.self.inside.weights
    c.in_ok-copy.field-0 c.args.table.now c.in_ok-held.held _ (ap (λ (k : StoreState). k.catalog) c.self.view_is)
    c.in_ok-insert.ensures.entries c.in_ok-copy.ensures c.in_ok-held.ensures
    ∙ ap (λ (k : StoreState). let made : Catalog = record c.args.self.now.catalog {
      tables = put_index c.args.self.now.catalog.tables c.args.table.now c.args.column;
      versions = k.catalog.versions;
    } in made) c.self.view_is

pub measures_with-requires : goal.measures_with-requires
measures_with-requires c =
    let sound : IsCatalog (held_by c.args.self.now.cursors) c.args.self.now.catalog =
    subst (λ (k : StoreState). IsCatalog (held_by k.cursors) k.catalog) c.self.view_is c.self.invariant.sound in
    subst (λ (ts : List TableState). All (λ (s : StatementState). All (IsLoaded ts) s.statement.places)
    c.args.self.now.catalog.statements) (sym c.in_ok-held.ensures)
    (indexed (held_by c.args.self.now.cursors) c.args.self.now.catalog c.args.table.now c.args.column sound).loaded
