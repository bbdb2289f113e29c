use Rattle.std.proofs.Common.{◌+◌, ◌∙◌, All, List, ap, subst, sym}
use Rattle.catalog_model.specs.Catalogs.{Catalog, StatementState, TableState, put_version}
use Rattle.catalog_model.specs.Held.{held_by}
use Rattle.catalog_model.specs.Sound.{IsCatalog, IsLoaded}
use Rattle.catalog_model.proofs.Loads.{kept}
use Rattle.session_store.specs.Kept.{IsKept, StoreState}
use Rattle.session_store.specs.Measures.{measures_of}
use Rattle.session_store.proofs.Changes.{catalog_put}
use Rattle.session_store.proofs.Keeping.{kept_put, state_is}
use Rattle.session_store.proofs.store.Store.put.Goals as goal

pub invariant_of-self-2 : goal.invariant_of-self-2
invariant_of-self-2 c =
    let now = subst (λ (k : StoreState). IsKept k c.self.inside.measures.items) c.self.view_is c.self.invariant in
    let measured = c.in_ok-measures.ensures ∙ ap (λ (ts : List TableState).
    measures_of ts c.args.self.now.catalog.weights c.args.self.now.catalog.statements) c.in_ok-held.ensures.put in
    let after = catalog_put c.args.self.now.catalog c.self.inside.tables.entries c.insert.new.self.entries
    c.self.inside.statements.entries c.self.inside.versions (c.self.inside.versions + 1) c.self.inside.weights
    c.in_ok-copy.field-0 c.args.name.now c.in_ok-held.held _ (ap (λ (k : StoreState). k.catalog) c.self.view_is)
    c.in_ok-insert.ensures.entries c.in_ok-copy.ensures c.in_ok-held.ensures.put
    ∙ ap (λ (k : StoreState). let made : Catalog = record c.args.self.now.catalog {
      tables = put_version c.args.self.now.catalog.tables c.args.name.now c.args.new;
      versions = k.catalog.versions + 1;
    } in made) c.self.view_is in
    subst (λ (k : StoreState). IsKept k c.in_ok-measures.measures.items)
    (sym (state_is c.args.self.now c.insert.new.self.entries c.self.inside.statements.entries
    (c.self.inside.versions + 1) c.self.inside.weights c.self.inside.cursors.items _ after
    (ap (λ (k : StoreState). k.cursors) c.self.view_is)))
    (kept_put c.args.self.now c.self.inside.measures.items c.in_ok-measures.measures.items c.args.name.now c.args.new
    now c.requires.sound c.requires.columns c.requires.number c.requires.limits measured)

pub returns-clause-value : goal.returns-clause-value
returns-clause-value c =
    catalog_put c.args.self.now.catalog c.self.inside.tables.entries c.insert.new.self.entries
    c.self.inside.statements.entries c.self.inside.versions (c.self.inside.versions + 1) c.self.inside.weights
    c.in_ok-copy.field-0 c.args.name.now c.in_ok-held.held _ (ap (λ (k : StoreState). k.catalog) c.self.view_is)
    c.in_ok-insert.ensures.entries c.in_ok-copy.ensures c.in_ok-held.ensures.put
    ∙ ap (λ (k : StoreState). let made : Catalog = record c.args.self.now.catalog {
      tables = put_version c.args.self.now.catalog.tables c.args.name.now c.args.new;
      versions = k.catalog.versions + 1;
    } in made) c.self.view_is

pub measures_with-requires : goal.measures_with-requires
measures_with-requires c =
    let sound : IsCatalog (held_by c.args.self.now.cursors) c.args.self.now.catalog =
    subst (λ (k : StoreState). IsCatalog (held_by k.cursors) k.catalog) c.self.view_is c.self.invariant.sound in
    subst (λ (ts : List TableState). All (λ (s : StatementState). All (IsLoaded ts) s.statement.places)
    c.args.self.now.catalog.statements) (sym c.in_ok-held.ensures.put)
    (kept (held_by c.args.self.now.cursors) c.args.self.now.catalog c.args.name.now c.args.new sound c.requires.number
    c.requires.sound c.requires.columns c.requires.limits).loaded
