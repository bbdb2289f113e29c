use Rattle.std.proofs.Common.{◌∙◌, List, All, ap, sym, subst}
use Rattle.row_values.specs.Statements.{Statement}
use Rattle.row_values.specs.declared.statement.Place.{Place}
use Rattle.csv_tables.specs.StatementTables.{tables_in}
use Rattle.catalog_model.specs.Catalogs.{ArePresent}
use Rattle.catalog_model.specs.Sound.{IsLoaded}
use Rattle.session_store.specs.Kept.{AreHeld, contents_of}
use Rattle.session_store.proofs.PresentTables.{columns_told, held_present, rows_told, same_statement}
use Rattle.session_store.proofs.store.Store.tables_of.Goals as goal

pub held_of-requires : goal.held_of-requires
held_of-requires c =
    subst (λ (ps : List Place). All (IsLoaded c.args.self.now.catalog.tables) ps)
    (sym c.places.ensures.value) c.query.ensures.loaded

pub returns : goal.returns
returns c =
    let present : ArePresent c.args.self.now.catalog.tables c.query.result.now (tables_in c.in_ok-tables.tables.items) =
    subst (ArePresent c.args.self.now.catalog.tables c.query.result.now)
    (sym (c.in_ok-tables.ensures ∙ ap contents_of c.as_slice.ensures.value))
    (held_present c.args.self.now.catalog.tables c.query.result.now c.in_ok-held.held.items
    (subst (λ (ps : List Place). AreHeld c.args.self.now.catalog.tables ps c.in_ok-held.held.items)
    c.places.ensures.value
    c.in_ok-held.ensures)) in
    record {
      rows = λ q is.
          let same = same_statement c.query.result.now q (sym c.query.ensures.value ∙ is) in
          rows_told c.args.self.now.catalog.tables q (tables_in c.in_ok-tables.tables.items)
          (subst (λ (s : Statement). ArePresent c.args.self.now.catalog.tables s
          (tables_in c.in_ok-tables.tables.items)) same
          present);
      columns = λ q is.
          let same = same_statement c.query.result.now q (sym c.query.ensures.value ∙ is) in
          columns_told c.args.self.now.catalog.tables q (tables_in c.in_ok-tables.tables.items)
          (subst (λ (s : Statement). All (IsLoaded c.args.self.now.catalog.tables) s.places) same
          c.query.ensures.loaded)
          (subst (λ (s : Statement). ArePresent c.args.self.now.catalog.tables s
          (tables_in c.in_ok-tables.tables.items)) same
          present);
      present = λ q is.
          subst (λ (s : Statement). ArePresent c.args.self.now.catalog.tables s (tables_in c.in_ok-tables.tables.items))
          (same_statement c.query.result.now q (sym c.query.ensures.value ∙ is)) present;
    }
